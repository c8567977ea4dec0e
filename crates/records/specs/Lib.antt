pub mod Records
pub mod Readers
pub mod Requests
pub mod Refusals
pub mod Judges
pub mod JudgesLaw

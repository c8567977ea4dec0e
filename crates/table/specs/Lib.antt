pub mod Refusals
pub mod Checks
pub mod Lines
pub mod Calls

pub mod Faults
pub mod Readings
pub mod Books
pub mod Jobs
pub mod Replies
pub mod PlainJobs
pub mod Runs
pub mod Facts

pub mod Turns
pub mod Plain
pub mod Histories
pub mod Facts
pub mod Runs

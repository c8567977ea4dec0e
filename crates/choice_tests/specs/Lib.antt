pub mod Narrow
pub mod Law

pub mod Lines
mod Lowest
pub mod Numbers
pub mod Masks
pub mod Ranges
pub mod Parts
pub mod Under
pub mod Rows
pub mod Exact
pub mod Rising
pub mod Whole

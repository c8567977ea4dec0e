pub mod Cells
pub mod Changes
pub mod Plans
pub mod Raising
pub mod Sizes
mod Counts

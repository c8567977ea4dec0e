pub mod Inside
pub mod Faults
pub mod Frames
pub mod Bridge
pub mod Law

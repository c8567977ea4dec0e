pub mod Lines
pub mod Calls
pub mod Rooms
pub mod Books

pub mod Walks
pub mod Tiles
pub mod Requests

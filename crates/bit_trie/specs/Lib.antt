pub mod Tries
pub mod Ways
pub mod Walks

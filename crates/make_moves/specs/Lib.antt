pub mod Draws
pub mod Moves
pub mod Examples

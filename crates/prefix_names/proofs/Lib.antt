pub mod Corners
pub mod HeldPoints
pub mod Nearest
pub mod Middles
pub mod KeyBits

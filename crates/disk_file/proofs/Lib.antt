pub mod Progress
pub mod Untold

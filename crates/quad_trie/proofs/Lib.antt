pub mod Quarters
pub mod Steps
pub mod Across
pub mod Fours
pub mod Between
pub mod Downwards
pub mod Counted

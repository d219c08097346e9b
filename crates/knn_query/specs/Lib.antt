pub mod Candidates
pub mod Passes
pub mod Ahead
pub mod Waiting
pub mod Search

pub mod Seen
pub mod Visits
pub mod Gathered

pub mod Exact
pub mod Paired
pub mod Reported

mod Examples
pub mod Progress

pub mod SessionRows
pub mod LostSteps
pub mod Kept
pub mod Lanes
pub mod Settled

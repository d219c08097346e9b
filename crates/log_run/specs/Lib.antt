pub mod Making
pub mod Checking
pub mod Showing
pub mod Compacting
pub use Rattle.log_state.specs.Recovers
pub use Rattle.recovery.specs.Faults
pub use Rattle.run_ends.specs.Ends
pub use Rattle.run_ends.specs.LogFaults

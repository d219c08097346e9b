pub mod Streams
pub mod FailPlan
pub mod Views
pub mod Puts
pub mod Reads
pub use Rattle.causes.specs.Causes

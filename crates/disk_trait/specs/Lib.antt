pub mod Drive
pub mod Moments
pub use Rattle.causes.specs.Causes

pub mod Run
pub mod Chain
pub use Rattle.command_words.specs.Words
pub use Rattle.run_ends.specs.Ends
pub use Rattle.run_ends.specs.Taking

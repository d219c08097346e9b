pub mod DriveSteps
pub mod MakingEnds
pub mod CheckingFacts
pub mod AnewEnds
pub mod StatusFacts

pub mod WordsFacts
pub mod TrialFacts

pub mod WordsFacts
pub mod StatusFacts
pub mod ChainFacts

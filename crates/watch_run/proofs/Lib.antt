pub mod FenceRowsFacts
pub mod Crowds
pub mod Stops
pub mod Alongs
pub mod Texts
pub mod WatchingEnds
pub mod StatusFacts

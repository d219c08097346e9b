pub mod Folds
pub mod Objects
pub mod Standing
pub mod KeysUnder
pub mod Subtree
pub mod Sums
pub mod Examples

pub mod Orders
pub mod Rows
pub mod Fronts
pub mod Begins

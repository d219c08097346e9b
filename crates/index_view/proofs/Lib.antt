pub mod Gatherings
pub mod KeyOrder
pub mod Numbers

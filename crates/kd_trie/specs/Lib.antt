pub mod Nodes
pub mod Halves
pub mod Stems
pub mod Wholes

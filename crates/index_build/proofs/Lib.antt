pub mod RowsOfWorld
pub mod ChildNames
pub mod GrownNames
pub mod GrowingLeaves
pub mod GrownStates

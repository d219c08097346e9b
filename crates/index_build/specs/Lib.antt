pub mod Grown
pub mod Growing
pub mod WorldRows
pub mod Examples
pub use Rattle.index_layer.specs.Stands

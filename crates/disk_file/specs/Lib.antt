pub mod Served
pub mod Moves
pub mod Holds
pub mod Laws
pub mod System
pub mod Reasons
pub mod Folders
pub use Rattle.disk_trait.specs.Drive

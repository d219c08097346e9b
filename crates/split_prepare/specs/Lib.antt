pub mod Cut
pub mod Prepared
pub mod PreparedInside
pub use Rattle.zorder.specs.Tile
pub use Rattle.bucket_versions.specs.Rows
pub use Rattle.bucket_versions.specs.Under

pub mod SeenLeaves
pub mod SeenChanges

pub mod Found
pub mod Coming
pub mod Front

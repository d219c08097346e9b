pub mod Axes
pub mod BoxCounts
pub mod BoxLeaves
pub mod InOrder
pub mod Listings
pub mod Reaches
pub mod Rests
pub mod Wholes

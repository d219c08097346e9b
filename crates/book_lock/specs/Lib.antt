pub mod Origin
pub mod Own
pub mod Ends
pub mod Pass
pub mod Rule
pub mod Steps
pub mod Examples

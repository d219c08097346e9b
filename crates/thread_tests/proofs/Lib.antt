pub mod ValidRows

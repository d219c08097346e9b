-- What only proofs need: a watch in progress, and the lines of what it keeps.
pub mod Along
pub mod Lines

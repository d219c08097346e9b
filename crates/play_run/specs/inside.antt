-- What only proofs need: books on which rows are played, and lanes.
pub mod Dealt
pub mod Joined
pub mod Answered
pub mod Books
pub mod Ended

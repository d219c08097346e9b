mod EitherFacts
mod FileFacts
mod Latest
mod StoreFacts
mod Results
mod RotateFacts
mod KeptCells
mod RotatingFacts
mod WaitingFacts
mod EndedFacts
mod MovingFacts
pub mod Again
pub mod MovedAgain
pub mod Between
pub mod Fewest
pub mod RefusedFacts
pub mod Turned
mod EitherFinds
mod DurablePart
mod BookCells
pub mod AtReply
pub mod WhileMoved

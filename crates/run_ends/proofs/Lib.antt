pub mod Ends
pub mod LogFaults
pub mod AttachFacts
pub mod LinesFacts
pub mod ObjectFacts

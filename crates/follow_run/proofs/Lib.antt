pub mod TurnRowsFacts
pub mod Examples
pub mod LineFacts
pub mod PlayFacts
pub mod ReplicaFacts
pub mod LeaderFacts
pub mod FollowingEnds
pub mod StatusFacts

pub mod ReplicaStates
pub mod Kept
pub mod Named
pub mod Laws

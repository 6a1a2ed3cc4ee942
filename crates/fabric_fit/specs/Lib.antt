pub mod Records
pub mod Registers
pub mod Deeds
pub mod ReplicaStates
pub mod Managers
pub mod Failovers
pub mod Steps

pub mod Ballots
pub mod Keys
pub mod Registers
pub mod Tables

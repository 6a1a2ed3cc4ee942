pub mod Counted
pub mod Tallies
pub mod Votes
pub mod Kept
pub mod Laws

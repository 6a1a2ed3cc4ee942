mod Counts
mod Lists
mod PlannedSoFar
pub mod Positions
mod ToldArrivals
mod ToldLists

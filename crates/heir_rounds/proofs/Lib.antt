mod Verdicts
pub mod Counts
pub mod Splits
pub mod Telling
pub mod Heirs

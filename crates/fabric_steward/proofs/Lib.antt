pub mod Mapping
pub mod Advising
pub mod Given
pub mod Pausing
pub mod Naming
pub mod LeavingWords
pub mod Fitting

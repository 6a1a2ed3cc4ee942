pub mod Bests
pub mod Declareds
pub mod Floats

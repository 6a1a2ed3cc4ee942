pub mod Sizes
pub mod Texts
pub mod Stands
pub mod Readers
pub mod Writers

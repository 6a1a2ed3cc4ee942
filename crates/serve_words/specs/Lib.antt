pub mod Options
pub mod Forms
pub mod Splits

pub mod Appending
pub mod OwnLines

pub mod Lines
pub mod KeptTimes
pub mod OwnLines

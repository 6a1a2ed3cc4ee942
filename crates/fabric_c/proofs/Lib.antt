pub mod Auditing
pub mod Backs
pub mod BeforeBlanks
pub mod Frames

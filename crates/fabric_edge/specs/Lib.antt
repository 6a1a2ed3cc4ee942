pub mod RecordFile
pub mod Told

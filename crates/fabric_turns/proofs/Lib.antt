pub mod Doing
pub mod Acting
pub mod Starting
pub mod Through
mod Stepping
pub mod Coming
pub mod Places
mod Windows
pub mod Hearing
pub mod RecordKinds
pub mod Recalling
mod Opened
mod Unopened
mod Causes

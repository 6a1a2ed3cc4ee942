pub mod Keys
pub mod Changed
pub mod Listed
pub mod Window

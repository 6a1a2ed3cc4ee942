pub mod Services
pub mod Events
pub mod Lines
pub mod Served
pub mod Said
pub mod Lives
pub mod Laws

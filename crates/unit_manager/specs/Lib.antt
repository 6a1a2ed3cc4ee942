pub mod Managers
pub mod Laws

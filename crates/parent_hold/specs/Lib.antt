pub mod Had
pub mod Lines
pub mod Handing
pub mod Laws

pub mod Rooms
pub mod Goes

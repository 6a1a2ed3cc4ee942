pub mod Doors
pub mod Clients
pub mod Logs
pub mod Memory
pub mod Pages

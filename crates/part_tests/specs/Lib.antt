pub mod Listeners

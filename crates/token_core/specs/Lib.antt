pub mod Tokens
pub mod Calls
pub mod Laws

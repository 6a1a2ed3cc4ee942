pub mod Domains
pub mod DomainsUp
pub mod Order
pub mod InOrder
pub mod Placed
pub mod LeastNodes
pub mod CheapestChoice

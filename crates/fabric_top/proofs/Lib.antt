pub mod Safe
pub mod Audited
pub mod Clusters
pub mod NoMemory
pub mod Statuses
pub mod Splits
pub mod Values
pub mod CrewCauses
mod ClusterActors
mod ClusterOrders
pub mod ClusterPlans

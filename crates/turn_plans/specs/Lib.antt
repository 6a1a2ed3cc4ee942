pub mod Crews
pub mod Bids
pub mod PlanVerdicts
pub mod Plans
pub mod Reading

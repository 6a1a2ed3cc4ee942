pub mod Within
pub mod Wait
pub mod Extremes
pub mod Reach
pub mod Refusals
pub mod Laws

pub mod Laws
pub mod ClusterEvents
pub mod ClusterSteps
pub mod ClusterMoments
pub mod ClusterSchedule
pub mod StrangeFrames
pub mod Lives

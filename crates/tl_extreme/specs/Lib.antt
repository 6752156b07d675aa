pub mod Paths
pub mod CornerGraph
pub mod PlaceKinds
pub mod Sources
pub mod Verdicts
pub mod Distances
pub mod Undercuts

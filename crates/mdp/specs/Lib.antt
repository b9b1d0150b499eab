pub mod Sums
pub mod Mdp
pub mod Kinds
pub mod Graph
pub mod Demand

pub mod Edges
pub mod Tables
pub mod Weighted

pub mod SumLaws
pub mod SumLoop
pub mod Best
pub mod Cases
pub mod Bound
pub mod Figures
pub mod Demand

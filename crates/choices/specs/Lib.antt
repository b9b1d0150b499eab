pub mod Ranged
pub mod Next

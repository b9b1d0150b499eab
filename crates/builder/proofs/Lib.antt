pub mod Loop
pub mod Start
pub mod Recounting

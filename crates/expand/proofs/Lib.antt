pub mod Sizes
pub mod Readings
pub mod Ready
pub mod EnabledLaws
pub mod FollowLaws
pub mod Asking
pub mod Opening
pub mod Guards

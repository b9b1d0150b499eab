pub mod Tests
pub mod Node
pub mod Follow

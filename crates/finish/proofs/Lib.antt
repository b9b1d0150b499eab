pub mod LaidLaws
pub mod FinalLaws
pub mod EdgeLaws
pub mod OwnLaws
pub mod BodyLaws
pub mod DoneLaws

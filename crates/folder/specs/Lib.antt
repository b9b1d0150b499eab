pub mod Pick
pub mod Fields
pub mod Contents
pub mod Scan
pub mod Tab
pub mod Table

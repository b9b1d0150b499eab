pub mod ViewLaws
mod PartLaws

pub mod MultipleLemmas
pub mod ScaleLemmas

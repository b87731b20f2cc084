pub mod LengthLaws
pub mod SignalsLaws

pub mod DrawingLaws
pub mod LengthLaws

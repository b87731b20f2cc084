pub mod Claims
pub mod Drawing

pub mod LayoutLaws
pub mod KeepingLaws

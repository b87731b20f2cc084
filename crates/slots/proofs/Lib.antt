pub mod SlotLaws
pub mod FirstBit
pub mod Turns
pub mod Within
pub mod Computed

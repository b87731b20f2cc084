pub mod Packing
pub mod Exact

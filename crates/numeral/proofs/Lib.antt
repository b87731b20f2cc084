pub mod NumeralLaws
pub mod PartsLaws
pub mod LengthLaws

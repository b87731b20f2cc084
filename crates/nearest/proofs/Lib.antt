pub mod ValueLaws
pub mod FieldLaws
pub mod NearestLaws

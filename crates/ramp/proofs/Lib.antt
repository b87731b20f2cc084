pub mod CountLaws
pub mod TakenLaws
pub mod RampLaws

pub mod RangeLaws
pub mod FindingLaws
pub mod SoundLaws
pub mod WordLaws

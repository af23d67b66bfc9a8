pub mod FillLaws
pub mod UncompressedLaws
pub mod UnpackingLaws

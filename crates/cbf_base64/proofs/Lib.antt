pub mod Base64Laws
pub mod Base64TextLaws

pub mod Base64
pub mod Base64Text

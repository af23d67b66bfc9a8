pub mod TextLaws
pub mod LineLaws
pub mod FirstLineLaws
pub mod ClosingLaws

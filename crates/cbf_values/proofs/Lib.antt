pub mod ValueLaws
pub mod HeaderLaws
pub mod ContentTypeLaws
pub mod KnownValueLaws

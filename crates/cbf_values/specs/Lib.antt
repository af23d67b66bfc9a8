pub mod Value
pub mod Header
pub mod ContentType
pub mod KnownValue

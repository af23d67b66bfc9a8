-- The laws of the definitions in specs/.
pub mod TextWindowLaws
pub mod ByteOffsetTextLaws

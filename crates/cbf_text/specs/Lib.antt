-- The octets of a text, as the code that decodes it goes over them. What a text stands for is defined in cbf_format.
pub mod TextWindow
pub mod ByteOffsetText

-- What a reader must believe: parsers, reading step by step, bytes of a file exchanged.
pub mod Parsers
pub mod Reading
pub mod Exchange

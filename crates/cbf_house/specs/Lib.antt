-- The head of a section in house form, and a packed frame: for the contracts of functions that need something of their
-- callers.
pub mod Head
pub mod Span

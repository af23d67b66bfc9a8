-- The parts of a new file, and the new file: for the contracts of functions that need something of their callers.
pub mod Parts
pub mod Rewrite

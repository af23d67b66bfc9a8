-- The new file: for the contracts of the private functions.
pub mod NewFile

-- The laws that the proofs of the functions use.
pub mod NewFileLaws
pub mod ReplaceFrameLaws
pub mod EnoughRoom
pub mod Examples

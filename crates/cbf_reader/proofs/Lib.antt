-- The laws that the proofs of the functions use.
pub mod LoopLaws
pub mod DataLaws
pub mod StepLaws
pub mod SectionCounts
pub mod WalkLaws
pub mod WholeFileLaws

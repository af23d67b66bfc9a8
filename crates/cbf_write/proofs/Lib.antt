-- The laws of writing to lent memory.
pub mod PutLaws
pub mod DigitsLaws

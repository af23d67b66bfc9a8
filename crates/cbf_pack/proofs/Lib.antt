pub mod WriteLaws
pub mod PackingLaws
pub mod DenseLaws

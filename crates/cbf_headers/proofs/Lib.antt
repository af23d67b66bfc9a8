pub mod HeadersLaws
pub mod GroupingLaws
pub mod HeaderPartsLaws
pub mod DescribeLaws
pub mod JudgeLaws
pub mod SectionHeadersLaws

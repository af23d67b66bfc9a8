pub mod PartsLaws
pub mod RangeLaws
pub mod WindowLaws
pub mod MeasureLaws

pub mod OctetsLaws
pub mod DifferenceLaws
pub mod PlainLaws
pub mod RestLaws

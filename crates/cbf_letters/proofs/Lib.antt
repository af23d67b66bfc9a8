pub mod SixesLaws
pub mod OctetsLaws
pub mod LettersLaws
pub mod SectionTexts

pub mod MarksLaws
pub mod PassesLaws
pub mod ModuloLaws
pub mod LevelsLaws
pub mod MixedLaws

-- Demand 3, proved over the definitions.
pub mod Demand3
pub mod OrderLaws

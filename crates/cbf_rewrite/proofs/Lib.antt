-- The laws that the proofs of the functions use.
pub mod PartsLaws
pub mod ExchangesLaws
pub mod ChosenLaws
pub mod RewriteLaws

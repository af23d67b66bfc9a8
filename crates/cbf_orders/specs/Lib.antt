-- Demand 3, stated.
pub mod Orders

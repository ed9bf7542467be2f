-- Damage, as demand 3 lists it.
--
--   Damaged   Damage   what is left of a right symbol after one damage, as a relation
pub mod Damage

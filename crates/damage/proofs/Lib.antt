-- Theorem 6: a right GS1-128 symbol that was damaged once is refused.
--
--   DamageLaws    a symbol's widths, character by character; a store is seen in one character alone
--   RedrawnLaws   the characters drawn again after a damage
--   Damage        what is left is a symbol of no message, and the GS1-128 reader refuses it
--   DamageEnds    how many widths are left, and how they begin and end
--   Unnamed       the reader of an unnamed list refuses them too
pub mod DamageLaws
pub mod RedrawnLaws
pub mod Damage
pub mod DamageEnds
pub mod Unnamed

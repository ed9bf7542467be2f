-- Tests joined by "and": where the joint test holds, both do. And a test that can't hold fails.
use mathlib.Core.Path.{◌≡◌, refl}
use mathlib.Core.Bool.{Bool, true, false, ◌&&◌}

pub both_hold : (a b : Bool) → (a && b) ≡ true → (a ≡ true) × (b ≡ true)
both_hold true b e = (refl, e)
both_hold false true e = (e, refl)
both_hold false false e = (e, e)

pub fails_unless : (test : Bool) → (test ≡ true → ⊥) → test ≡ false
fails_unless true never = absurd (never refl)
fails_unless false never = refl

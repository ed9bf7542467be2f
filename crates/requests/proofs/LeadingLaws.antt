-- What the code finds of an identifier that is typed before other arguments is what the rule says of it.
use Rattle.std.specs.Prelude.{Some, None, Ok, Err}
use Prim.Native.Nat.{ℕ, ◌+◌, ◌-◌, min}
use mathlib.Core.Path.{◌≡◌, refl}
use mathlib.Core.Bool.{Bool, true, false, cond}
use mathlib.Core.List.{List}
use native.Mathlib.Omega.{arith}
use lib.ListN.{length, take}
use borrow.Author.Tests.{eq-eqb, ne_eqb}
use Rattle.text.specs.Numeral.{is_numeral, number_from, capped_in}
use Rattle.requests.specs.declared.Argument.{Argument}
use Rattle.requests.specs.declared.Argument.TheVariants.{Identifier as AnIdentifier}
use Rattle.requests.specs.declared.Fault.TheVariants.{Missing, Malformed}
use Rattle.requests.specs.Requests.{size_at, leading_of, capped}
use Rattle.requests.proofs.RequestLaws.{word_cut}

-- a numeral that was read, and one that was not
said : (bytes : List ℕ) (cap n : ℕ) → Some n ≡ capped_in bytes cap → (is_numeral bytes ≡ true) × (n ≡ min (number_from 0 bytes) cap)
unfolding capped_in
said bytes cap n e = go (is_numeral bytes) e
  where
    go : (b : Bool) → Some n ≡ cond b (Some (min (number_from 0 bytes) cap)) None → (b ≡ true) × (n ≡ min (number_from 0 bytes) cap)
    go true is = (refl, cc)
    go false is = absurd (let z : ◌≡◌ {A = ℕ} 0 1 = cc in omega arith)

unsaid : (bytes : List ℕ) (cap : ℕ) → None ≡ capped_in bytes cap → is_numeral bytes ≡ false
unfolding capped_in
unsaid bytes cap e = go (is_numeral bytes) e
  where
    go : (b : Bool) → None ≡ cond b (Some (min (number_from 0 bytes) cap)) None → b ≡ false
    go true is = absurd (let z : ◌≡◌ {A = ℕ} 0 1 = cc in omega arith)
    go false is = refl

module _ (typed : List ℕ) (end : ℕ) (ends : end ≡ 0 + size_at typed 0) (next : Argument) where
  pub none_leads : None ≡ capped_in (take (end - 0) typed) 10000 → Err (Malformed AnIdentifier) ≡ capped (leading_of typed next)
  unfolding leading_of
  none_leads reads = rw (word_cut typed 0 end ends, unsaid _ 10000 reads)

  module _ {identifier : ℕ} (reads : Some identifier ≡ capped_in (take (end - 0) typed) 10000) where
    pub leads_alone : end ≡ length typed → Err (Missing next) ≡ capped (leading_of typed next)
    unfolding leading_of
    leads_alone e = rw (word_cut typed 0 end ends, (said _ 10000 _ reads).0, ← ends, eq-eqb end (length typed) e)

    pub leads_on : (end ≡ length typed → ⊥) → Ok (identifier, (end + 1)) ≡ capped (leading_of typed next)
    unfolding leading_of
    leads_on h = rw (word_cut typed 0 end ends, (said _ 10000 _ reads).0, ← ends, ne_eqb end (length typed) h, (said _ 10000 _ reads).1)

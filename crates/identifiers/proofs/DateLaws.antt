-- A right date in its parts, one test of the definition after the other; from these, that DD 00 passes in every month; and the days of a year,
-- counted with 29 February and without.
use Prim.Native.Nat.{ℕ, ◌%◌, ◌≤◌}
use mathlib.Core.Path.{◌≡◌, refl}
use mathlib.Core.Bool.{Bool, true, false, cond, ◌&&◌}
use mathlib.Core.List.{List, [], ◌∷◌, map}
use native.Mathlib.Omega.{arith}
use lib.Dec.{eqb, leb}
use borrow.Author.Tests.{leb-true, le-leb}
use Rattle.laws.specs.First.{first_not}
use Rattle.laws.specs.Among.{place_in}
use Rattle.laws.specs.Run.{run}
use Rattle.laws.specs.Sum.{sum}
use Rattle.laws.proofs.Booleans.{both_hold}
use Rattle.digits.specs.Digit.{is_digit}
use Rattle.identifiers.specs.Data.{all_pass, pair_at, days_in, is_date}

-- what a right date is made of
pub record Dated (bytes : List ℕ) : Type 0 where
  pub digits : all_pass is_digit bytes ≡ true
  pub month_least : 1 ≤ pair_at bytes 2
  pub month_most : pair_at bytes 2 ≤ 12
  pub day : pair_at bytes 4 ≤ days_in (pair_at bytes 0) (pair_at bytes 2)

pub parts_of_date : (bytes : List ℕ) → is_date bytes ≡ true → Dated bytes
unfolding is_date
parts_of_date bytes e =
    let a = both_hold (all_pass is_digit bytes && leb 1 (pair_at bytes 2) && leb (pair_at bytes 2) 12) (leb (pair_at bytes 4) (days_in (pair_at bytes 0) (pair_at bytes 2))) e in
    let b = both_hold (all_pass is_digit bytes && leb 1 (pair_at bytes 2)) (leb (pair_at bytes 2) 12) a.0 in
    let c = both_hold (all_pass is_digit bytes) (leb 1 (pair_at bytes 2)) b.0 in
    record { digits = c.0; month_least = leb-true _ _ c.1; month_most = leb-true _ _ b.1; day = leb-true _ _ a.1 }

pub date_of_parts : (bytes : List ℕ) → Dated bytes → is_date bytes ≡ true
unfolding is_date
date_of_parts bytes d = rw (d.digits, le-leb _ _ d.month_least, le-leb _ _ d.month_most, le-leb _ _ d.day)

-- where no day is given, whatever the month and the year
pub no_day_passes : (bytes : List ℕ) → all_pass is_digit bytes ≡ true → 1 ≤ pair_at bytes 2 → pair_at bytes 2 ≤ 12 → pair_at bytes 4 ≡ 0 → is_date bytes ≡ true
no_day_passes bytes digits least most none =
    date_of_parts bytes (record { digits = digits; month_least = least; month_most = most; day = omega (arith, none) })

pub days_of_a_year : (year : ℕ) → sum (map (days_in year) (run 1 12)) ≡ cond (eqb (year % 4) 0) 366 365
unfolding days_in place_in first_not sum
days_of_a_year year = go (eqb (year % 4) 0)
  where
    go : (leap : Bool) → sum (31 ∷ cond leap 29 28 ∷ 31 ∷ 30 ∷ 31 ∷ 30 ∷ 31 ∷ 31 ∷ 30 ∷ 31 ∷ 30 ∷ 31 ∷ []) ≡ cond leap 366 365
    go true = refl
    go false = refl

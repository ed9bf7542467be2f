-- Two numbers that leave the same remainder still do with the same added to both, or both multiplied; with the same taken from both, or
-- a factor that can be undone, too. So a sum shows a change of its terms exactly where the old terms and the new leave different remainders.
use Prim.Native.Nat.{ℕ, zero, suc, ◌+◌, ◌*◌, ◌/◌, ◌%◌, ◌<◌}
use mathlib.Core.Path.{◌≡◌, sym, ap, ◌∙◌}
use mathlib.Core.Logic.{◌↔◌}
use native.Mathlib.Nat.{add_comm, mod-zero, mod-eq_of_lt, mod-add-mod, div-add-mod', add-mul-mod_self_right}
use native.Mathlib.Omega.{arith}

module _ (m : ℕ) where
  pub same_and_more : (a b c : ℕ) → a % m ≡ b % m → (a + c) % m ≡ (b + c) % m
  same_and_more a b c e = sym (mod-add-mod a m c) ∙ ap (λ (r : ℕ). (r + c) % m) e ∙ mod-add-mod b m c

  times_remainder : (w a : ℕ) → (w * a) % m ≡ (w * (a % m)) % m
  times_remainder w a =
      let parts : w * (a / m * m + a % m) ≡ w * a = ap (λ (n : ℕ). w * n) (div-add-mod' a m) in
      let apart : w * a ≡ w * (a % m) + w * (a / m) * m = omega arith in
      ap (λ (n : ℕ). n % m) apart ∙ add-mul-mod_self_right (w * (a % m)) (w * (a / m)) m

  pub same_and_times : (w a b : ℕ) → a % m ≡ b % m → (w * a) % m ≡ (w * b) % m
  same_and_times w a b e = times_remainder w a ∙ ap (λ (r : ℕ). (w * r) % m) e ∙ sym (times_remainder w b)

  -- below m a number is its own remainder
  pub same_below : (a b : ℕ) → a < m → b < m → a % m ≡ b % m → a ≡ b
  same_below a b ha hb e = sym (mod-eq_of_lt ha) ∙ e ∙ mod-eq_of_lt hb

-- what both have in common drops out
pub same_without : (m a b c : ℕ) → (a + c) % m ≡ (b + c) % m → a % m ≡ b % m
same_without zero a b c e =
    let sums : a + c ≡ b + c = sym (mod-zero (a + c)) ∙ e ∙ mod-zero (b + c) in
    ap (λ (n : ℕ). n % zero) (omega arith)
same_without (suc k) a b c e = sym (back a) ∙ same_and_more (suc k) (a + c) (b + c) (c * k) e ∙ back b
  where
    -- c and k times c make a multiple
    back : (n : ℕ) → (n + c + c * k) % suc k ≡ n % suc k
    back n =
        let sum : n + c + c * k ≡ n + c * suc k = omega arith in
        ap (λ (s : ℕ). s % suc k) sum ∙ add-mul-mod_self_right n c (suc k)

module _ (m : ℕ) where
  -- the two sides of an equation
  pub same_if_balanced : (s t a b : ℕ) → s + a ≡ t + b → (s % m ≡ t % m) ↔ (a % m ≡ b % m)
  same_if_balanced s t a b e = (
    λ (same : s % m ≡ t % m). same_without m a b s (rw (add_comm a s, e, add_comm b s) (sym (same_and_more m s t b same))),
    λ (same : a % m ≡ b % m). same_without m s t a (rw (e, add_comm t b, add_comm t a) (sym (same_and_more m a b t same))),
  )

  -- v undoes the factor w
  pub same_without_factor : (v w a b : ℕ) → (v * w) % m ≡ 1 % m → (w * a) % m ≡ (w * b) % m → a % m ≡ b % m
  same_without_factor v w a b inverse e = sym (undone a) ∙ same_and_times m v (w * a) (w * b) e ∙ undone b
    where
      undone : (n : ℕ) → (v * (w * n)) % m ≡ n % m
      undone n =
          let product : v * (w * n) ≡ n * (v * w) = omega arith in
          let once : n * 1 ≡ n = omega arith in
          ap (λ (p : ℕ). p % m) product ∙ same_and_times m n (v * w) 1 inverse ∙ ap (λ (p : ℕ). p % m) once

  -- two terms that exchange their weights, which differ by e
  pub same_if_exchanged : (w e a b : ℕ) → (((w + e) * a + w * b) % m ≡ ((w + e) * b + w * a) % m) ↔ ((e * a) % m ≡ (e * b) % m)
  same_if_exchanged w e a b =
      let first : (w + e) * a + w * b ≡ e * a + w * (a + b) = omega arith in
      let second : (w + e) * b + w * a ≡ e * b + w * (a + b) = omega arith in
      rw (first, second) (same_without m (e * a) (e * b) (w * (a + b)), same_and_more m (e * a) (e * b) (w * (a + b)))

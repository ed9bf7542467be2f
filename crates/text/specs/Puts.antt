-- What a function that writes text promises: its bytes stand at the front of what it was lent, and nothing else has changed.
use Rattle.std.specs.Prelude.{ℕ, ◌≡◌, List, ◌++◌, length, drop}

-- a function that was lent `before` writes `bytes`, answers r and leaves `after`
pub record Puts (bytes before : List ℕ) (r : ℕ) (after : List ℕ) : Type 0 where
  pub count : r ≡ length bytes
  pub lent : after ≡ bytes ++ drop (length bytes) before

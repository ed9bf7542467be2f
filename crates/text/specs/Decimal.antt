-- A number as a person writes it: the bytes `0` to `9`, the most significant first, with no zero before them, and `0` for nothing.
use Rattle.std.specs.Prelude.{ℕ, zero, suc, ◌+◌, ◌/◌, ◌%◌, cond, List, [], ◌∷◌, ◌++◌, ltb}

-- the byte of a number's last digit
abbrev pub last_of : ℕ → ℕ
last_of n = 48 + n % 10

-- in so many steps: of a number below ten its one digit; of any other the digits of its tenth part, and then its last one
unfoldable pub decimal_in : ℕ → ℕ → List ℕ
decimal_in zero n = []
decimal_in (suc steps) n =
    let front = decimal_in steps (n / 10) in
    cond (ltb n 10) (last_of n ∷ []) (front ++ (last_of n ∷ []))

-- n + 1 steps are always enough
unfoldable pub decimal_of : ℕ → List ℕ
decimal_of n = decimal_in (suc n) n

-- two numbers with a byte between them, and with a space
abbrev pub apart_by : ℕ → ℕ → ℕ → List ℕ
apart_by byte first second = decimal_of first ++ (byte ∷ []) ++ decimal_of second

abbrev pub apart : ℕ → ℕ → List ℕ
apart first second = apart_by 32 first second

-- what a line says of a record, after a space: three numbers with colons between them
abbrev pub record_text : ℕ → ℕ → ℕ → List ℕ
record_text identifier begin size = (32 ∷ []) ++ apart_by 58 identifier begin ++ (58 ∷ []) ++ decimal_of size

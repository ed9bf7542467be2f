-- Text, as the bytes that a person reads in it: how examples are written down.
use Rattle.std.specs.Prelude.{ℕ, List, [], ◌∷◌}
use Prim.Native.Char.{code}
use Prim.Native.String.{String, [] as end, ◌∷◌ as ◌then◌}

-- the bytes of a text, where each of its characters is one
abbrev pub as_bytes : String → List ℕ
as_bytes end = []
as_bytes (character then rest) = code character ∷ as_bytes rest

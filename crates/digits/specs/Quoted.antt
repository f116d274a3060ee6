-- A text in quotes, as worked cases write it.
use Rattle.std.specs.Prelude.{List, [], ◌∷◌, ℕ}
use Prim.Native.Char.{code}
use Prim.Native.String.{String, [] as ended, ◌∷◌ as ◌and◌}

-- its bytes
abbrev pub quoted : String → List ℕ
quoted ended = []
quoted (letter and text) = code letter ∷ quoted text

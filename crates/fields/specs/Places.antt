-- What stands at a place in bytes, and bytes put at a place (heading "The record on disk").
use Rattle.std.specs.Prelude.{List, [], ◌∷◌, ◌++◌, ℕ, zero, suc, ◌+◌, ◌*◌, ℤ, length, get_or, take, drop}
use Rattle.std.specs.Int.{w32}
use Rattle.std.proofs.Common.{to_z}

-- the 16-bit number whose low byte stands at a place
abbrev pub u16_at : List ℕ → ℕ → ℕ
u16_at bytes at = get_or bytes at 0 + 256 * get_or bytes (at + 1) 0

-- the 32-bit number whose lowest byte stands at a place
abbrev pub u32_at : List ℕ → ℕ → ℕ
u32_at bytes at =
    get_or bytes at 0 + 256 * get_or bytes (at + 1) 0 + 65536 * get_or bytes (at + 2) 0 + 16777216 * get_or bytes (at + 3) 0

-- the signed number whose 32 bits of two's complement begin at a place
abbrev pub i32_at : List ℕ → ℕ → ℤ
i32_at bytes at = to_z w32 (u32_at bytes at)

-- `count` entries from a place on, each `width` bytes after the one before
abbrev pub entries_at : {A : Type 0} → (ℕ → A) → ℕ → ℕ → ℕ → List A
entries_at read width at zero = []
entries_at read width at (suc count) = read at ∷ entries_at read width (at + width) count

-- knots from a place on
abbrev pub knots_at : List ℕ → ℕ → ℕ → List ℕ
knots_at bytes at count = entries_at (u16_at bytes) 2 at count

-- coordinates from a place on
abbrev pub coordinates_at : List ℕ → ℕ → ℕ → List ℤ
coordinates_at bytes at count = entries_at (i32_at bytes) 4 at count

-- a list with a part put over it from a place on
abbrev pub put_at : {A : Type 0} → List A → ℕ → List A → List A
put_at before at part = take at before ++ part ++ drop (at + length part) before

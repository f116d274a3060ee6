-- How numbers, lists of them and fields are bytes, low byte first (heading "The record on disk").
use Rattle.std.specs.Prelude.{List, [], ◌∷◌, ◌++◌, ℕ, ◌/◌, ◌%◌, ◌<◌, ℤ, length, get_or}
use Rattle.std.specs.Int.{w32}
use Rattle.std.proofs.Common.{of_z}

abbrev pub u16_bytes : ℕ → List ℕ  -- a 16-bit number: two bytes
u16_bytes v = v % 256 ∷ v / 256 % 256 ∷ []

abbrev pub u32_bytes : ℕ → List ℕ  -- a 32-bit number: four bytes
u32_bytes v = v % 256 ∷ v / 256 % 256 ∷ v / 65536 % 256 ∷ v / 16777216 % 256 ∷ []

abbrev pub twos_complement : ℤ → ℕ  -- two's complement in 32 bits: the number itself, and 2^32 more than it below zero
twos_complement z = of_z w32 z

abbrev pub i32_bytes : ℤ → List ℕ  -- a coordinate: four bytes, two's complement
i32_bytes z = u32_bytes (twos_complement z)

abbrev pub each : {A B : Type 0} → (A → List B) → List A → List B  -- the parts of each entry, as its bytes, one entry after the other
each parts_of [] = []
each parts_of (x ∷ xs) = parts_of x ++ each parts_of xs

abbrev pub knot_bytes : List ℕ → List ℕ  -- knots, two bytes each
knot_bytes ts = each u16_bytes ts

abbrev pub coordinate_bytes : List ℤ → List ℕ  -- coordinates, four bytes each
coordinate_bytes zs = each i32_bytes zs

abbrev pub field_head : ℕ → ℕ → List ℕ  -- a field's tag, and the length of its contents in two bytes
field_head tag len = tag ∷ u16_bytes len

abbrev pub field_bytes : ℕ → List ℕ → List ℕ  -- a field: its tag, the length of its contents in two bytes, its contents
field_bytes tag contents = field_head tag (length contents) ++ contents

abbrev pub Octets : List ℕ → Type 0  -- every number is a byte's
Octets bytes = (i : ℕ) → get_or bytes i 0 < 256

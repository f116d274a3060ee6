-- How long a record is.
use mathlib.Core.Path.{◌≡◌, refl}
use mathlib.Core.List.{List}
use Prim.Native.Nat.{ℕ, ◌*◌, ◌≤◌}
use native.Mathlib.Omega.{arith}
use lib.IntN.{ℤ}
use lib.ListN.{length, length-append}
use Rattle.fields.specs.Bytes.{u16_bytes, i32_bytes, knot_bytes, coordinate_bytes}
use Rattle.fields.proofs.PlaceLaws.{length-each}
use Rattle.grid.specs.Limits.{record_most}
use Rattle.curve.specs.Lists.{Lists}
use Rattle.format.specs.Format.{KnotsForm, form1, record_bytes, Storable}
use Rattle.format.specs.RecordPlaces.{record_end}

-- it ends where the lengths of its fields say
pub length-record : (form : KnotsForm) (m : ℕ) (c : Lists)
    → length (record_bytes form m c) ≡ record_end (length (form.bytes_of c.knots)) (length (coordinate_bytes c.xs)) (length (coordinate_bytes c.ys))
unfolding record_bytes
length-record form m c = simp length-append (omega arith)

pub length-knots : (ts : List ℕ) → length (knot_bytes ts) ≡ 2 * length ts
length-knots = length-each u16_bytes 2 (λ _. refl)

pub length-coordinates : (zs : List ℤ) → length (coordinate_bytes zs) ≡ 4 * length zs
length-coordinates = length-each i32_bytes 4 (λ _. refl)

-- no record of form 1 is longer than the longest
pub record-most : (m : ℕ) (c : Lists) → Storable form1 m c → length (record_bytes form1 m c) ≤ record_most
record-most m c s = omega (arith, length-record form1 m c, s.knot_room, s.x_room, s.y_room)

-- the length of a record of form 1, by its lists
pub record-size : (m : ℕ) (c : Lists) → length (record_bytes form1 m c) ≡ record_end (2 * length c.knots) (4 * length c.xs) (4 * length c.ys)
record-size m c = omega (arith, length-record form1 m c, length-knots c.knots, length-coordinates c.xs, length-coordinates c.ys)

-- The bytes that a curve's lists have (heading "The record on disk"), whether or not the lists pass the check, and with no
-- word of a reader. The knots' field is a parameter: its tag, its largest length, and its bytes from the knots.
use Rattle.std.specs.Prelude.{List, [], ◌∷◌, ◌++◌, ◌≡◌, ℕ, ◌<◌, ◌≤◌, pos, length, get_or}
use Rattle.std.specs.Int.{w32}
use Rattle.std.proofs.Common.{SFits}
use Rattle.fields.specs.Bytes.{field_bytes, knot_bytes, coordinate_bytes}
use Rattle.grid.specs.Limits.{knot_bytes_most, coordinate_bytes_most}
use Rattle.curve.specs.Lists.{Lists}

abbrev pub degree_tag : ℕ  -- tags of the fields
degree_tag = 1

abbrev pub knots_tag : ℕ
knots_tag = 2

abbrev pub x_tag : ℕ
x_tag = 3

abbrev pub y_tag : ℕ
y_tag = 4

pub record KnotsForm : Type 0 where  -- a form of the knots' field
  pub tag : ℕ
  pub most : ℕ
  pub bytes_of : List ℕ → List ℕ

abbrev pub form1 : KnotsForm  -- the form of a record: tag 2, two bytes a knot
form1 = record { tag = knots_tag; most = knot_bytes_most; bytes_of = knot_bytes }

-- a record: degree, knots, x and y, each a field, in this order
unfoldable pub record_bytes : KnotsForm → ℕ → Lists → List ℕ
record_bytes form m c =
    field_bytes degree_tag (m ∷ [])
    ++ (field_bytes form.tag (form.bytes_of c.knots)
    ++ (field_bytes x_tag (coordinate_bytes c.xs) ++ field_bytes y_tag (coordinate_bytes c.ys)))

-- lists that fit into fields: a degree of one byte, 16-bit knots and 32-bit coordinates, no field longer than its most
pub record Storable (form : KnotsForm) (m : ℕ) (c : Lists) : Type 0 where
  pub degree : m < 256
  pub knots : (i : ℕ) → get_or c.knots i 0 < 65536
  pub on_x : (i : ℕ) → SFits w32 (get_or c.xs i (pos 0))
  pub on_y : (i : ℕ) → SFits w32 (get_or c.ys i (pos 0))
  pub knot_room : length (form.bytes_of c.knots) ≤ form.most
  pub x_room : length (coordinate_bytes c.xs) ≤ coordinate_bytes_most
  pub y_room : length (coordinate_bytes c.ys) ≤ coordinate_bytes_most

pub record IsRecord (form : KnotsForm) (bytes : List ℕ) : Type 0 where  -- bytes that some degree and lists have
  pub m : ℕ
  pub c : Lists
  pub storable : Storable form m c
  pub same : bytes ≡ record_bytes form m c

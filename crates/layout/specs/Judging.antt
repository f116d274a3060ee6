-- How bytes are judged (heading "The record on disk"): fields from the left, the leftmost fault told with its place. That this finds exactly the
-- records of Format stands in proofs/.
use Rattle.std.specs.Prelude.{cond, Result, Ok, Err, List, ℕ, leb, length}
use Rattle.grid.specs.Limits.{knot_bytes_most, coordinate_bytes_most}
use Rattle.format.specs.Format.{degree_tag, knots_tag, x_tag, y_tag}
use Rattle.format.specs.RecordPlaces.{knots_field, x_field, y_field, record_end}
use Rattle.taken_field.specs.Taking.{left_over_at, field_at}
use Rattle.taken_field.specs.declared.Rule.{Rule}
use Rattle.taken_field.specs.declared.Break.{Break}
use Rattle.layout.specs.declared.Layout.{Layout}

-- the degree: one byte
abbrev pub degree_rule : Rule
degree_rule = record { tag = degree_tag; least = 1; most = 1; width = 1 }

-- knots: two bytes each
abbrev pub knots_rule : Rule
knots_rule = record { tag = knots_tag; least = 0; most = knot_bytes_most; width = 2 }

-- x and y: four bytes each
abbrev pub x_rule : Rule
x_rule = record { tag = x_tag; least = 0; most = coordinate_bytes_most; width = 4 }

abbrev pub y_rule : Rule
y_rule = record { tag = y_tag; least = 0; most = coordinate_bytes_most; width = 4 }

-- what follows a field that was taken; a fault stops the reading
abbrev pub then_field : Result ℕ Break → (ℕ → Result Layout Break) → Result Layout Break
then_field (Ok len) next = next len
then_field (Err fault) next = Err fault

-- fields of k, x and y bytes are taken
abbrev pub sound : ℕ → ℕ → ℕ → Result Layout Break
sound k x y = Ok (record { knots = k; xs = x; ys = y })

-- from the y field on, behind knots of k bytes and x of x bytes
abbrev pub from_y : List ℕ → ℕ → ℕ → Result Layout Break
from_y bytes k x = then_field (field_at y_rule bytes (y_field k x)) (λ y. sound k x y)

-- from the x field on, behind knots of k bytes
abbrev pub from_x : List ℕ → ℕ → Result Layout Break
from_x bytes k = then_field (field_at x_rule bytes (x_field k)) (λ x. from_y bytes k x)

-- from the knots' field on
abbrev pub from_knots : List ℕ → Result Layout Break
from_knots bytes = then_field (field_at knots_rule bytes knots_field) (λ k. from_x bytes k)

-- the record at the front of bytes, whatever follows it
unfoldable pub record_layout : List ℕ → Result Layout Break
record_layout bytes = then_field (field_at degree_rule bytes 0) (λ d. from_knots bytes)

-- nothing may follow a lone record
abbrev pub alone : List ℕ → Result Layout Break → Result Layout Break
alone bytes (Ok l) = cond (leb (length bytes) (record_end l.knots l.xs l.ys)) (Ok l) (Err (left_over_at (record_end l.knots l.xs l.ys)))
alone bytes (Err fault) = Err fault

-- bytes that are to be one record and nothing else
unfoldable pub whole_record : List ℕ → Result Layout Break
whole_record bytes = alone bytes (record_layout bytes)

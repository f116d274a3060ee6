-- Closed cases of judging: the leftmost fault and its place, in short bytes and in the record of curve A; and the lists that stand in bytes.
use mathlib.Core.Path.{◌≡◌, refl}
use mathlib.Core.List.{[], ◌∷◌, ◌++◌}
use lib.ListN.{take}
use Rattle.format.proofs.Controls.{bytes_a, line, line_bytes}
use Rattle.taken_field.specs.Taking.{ended_at, tag_at, length_at, left_over_at, length_ok, field_at}
use Rattle.layout.specs.Judging.{sound, record_layout, whole_record}
use Rattle.layout.specs.StoredCurve.{degree_in, curve_in}
use Rattle.std.specs.Prelude.{Err}

-- the record of curve A
whole-A : whole_record bytes_a ≡ sound 16 16 16
unfolding whole_record record_layout field_at length_ok bytes_a
whole-A = refl

-- one byte more, and one byte fewer
left_over : whole_record (bytes_a ++ (0 ∷ [])) ≡ Err (left_over_at 61)
unfolding whole_record record_layout field_at length_ok bytes_a
left_over = refl

ended : whole_record (take 60 bytes_a) ≡ Err (ended_at 60)
unfolding whole_record record_layout field_at length_ok bytes_a
ended = refl

-- nothing at all
nothing : whole_record [] ≡ Err (ended_at 0)
unfolding whole_record record_layout field_at length_ok
nothing = refl

-- a tag that does not belong there, a degree of two bytes
wrong-tag : whole_record (1 ∷ 1 ∷ 0 ∷ 3 ∷ 9 ∷ []) ≡ Err (tag_at 4)
unfolding whole_record record_layout field_at length_ok
wrong-tag = refl

wrong-length : whole_record (1 ∷ 2 ∷ 0 ∷ []) ≡ Err (length_at 1)
unfolding whole_record record_layout field_at length_ok
wrong-length = refl

-- the end between two bytes of a length, though no length that begins so is right
between : whole_record (1 ∷ 2 ∷ []) ≡ Err (ended_at 2)
unfolding whole_record record_layout field_at length_ok
between = refl

-- the degree and the lists that stand in the bytes of a line of degree 1
degree-of-line : degree_in line_bytes ≡ 1
unfolding line_bytes
degree-of-line = refl

lists-of-line : curve_in line_bytes 10 12 12 ≡ line
unfolding line_bytes line
lists-of-line = refl

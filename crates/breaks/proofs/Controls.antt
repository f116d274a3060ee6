-- Closed cases of the leftmost fault of a lone record, worked by hand, and each with the number and the place that reading tells.
use mathlib.Core.List.{[], ◌∷◌, ◌++◌}
use mathlib.Core.Path.{◌≡◌, refl}
use Rattle.format.proofs.Controls.{bytes_a}
use Rattle.fault.specs.Fault.{Fault}
use Rattle.fault.specs.Kinds.{lone_records}
use Rattle.fault.specs.Verdict.{judged, broken, number_of, place_or}
use Rattle.fault.proofs.FirstFieldLaws.{octets-by}
use Rattle.taken_field.specs.Taking.{ended_at, tag_at, length_at, left_over_at, length_ok, field_at}
use Rattle.layout.specs.Judging.{record_layout, whole_record}
use Rattle.breaks.proofs.LoneLaws.{record-fault}

-- nothing at all
empty : Fault lone_records [] 16 0
unfolding whole_record record_layout field_at length_ok
empty = record-fault [] (octets-by [] refl) (ended_at 0) refl

-- the knots begin with tag 2, and here stands 7
wrong-tag : Fault lone_records (1 ∷ 1 ∷ 0 ∷ 3 ∷ 7 ∷ []) 19 4
unfolding whole_record record_layout field_at length_ok
wrong-tag = record-fault (1 ∷ 1 ∷ 0 ∷ 3 ∷ 7 ∷ []) (octets-by (1 ∷ 1 ∷ 0 ∷ 3 ∷ 7 ∷ []) refl) (tag_at 4) refl

-- a degree of two bytes, and of five where one is left
wrong-length : Fault lone_records (1 ∷ 2 ∷ 0 ∷ 3 ∷ []) 20 1
unfolding whole_record record_layout field_at length_ok
wrong-length = record-fault (1 ∷ 2 ∷ 0 ∷ 3 ∷ []) (octets-by (1 ∷ 2 ∷ 0 ∷ 3 ∷ []) refl) (length_at 1) refl

cut-too : Fault lone_records (1 ∷ 5 ∷ 0 ∷ 3 ∷ []) 20 1
unfolding whole_record record_layout field_at length_ok
cut-too = record-fault (1 ∷ 5 ∷ 0 ∷ 3 ∷ []) (octets-by (1 ∷ 5 ∷ 0 ∷ 3 ∷ []) refl) (length_at 1) refl

-- the end between the two bytes of a length, though no right one begins with 2
between : Fault lone_records (1 ∷ 2 ∷ []) 16 2
unfolding whole_record record_layout field_at length_ok
between = record-fault (1 ∷ 2 ∷ []) (octets-by (1 ∷ 2 ∷ []) refl) (ended_at 2) refl

-- a byte behind the record of curve A, which has 61
left_over : Fault lone_records (bytes_a ++ (7 ∷ [])) 21 61
unfolding whole_record record_layout field_at length_ok bytes_a
left_over = record-fault (bytes_a ++ (7 ∷ [])) (octets-by (bytes_a ++ (7 ∷ [])) refl) (left_over_at 61) refl

-- what a verdict tells: a refused file its number and no place, broken bytes both
numbers-told : number_of (judged 7) ∷ number_of (broken 19 4) ∷ place_or (judged 7) 99 ∷ place_or (judged 0) 99 ∷ place_or (broken 19 4) 99 ∷ [] ≡ 7 ∷ 19 ∷ 99 ∷ 99 ∷ 4 ∷ []
numbers-told = refl

-- Closed cases, worked by hand (heading "The record on disk"): the field of a radius, judged and read, and fields that are none.
use mathlib.Core.Path.{◌≡◌, refl}
use mathlib.Core.List.{[], ◌∷◌}
use Rattle.taken_field.specs.Taking.{ended_at, tag_at, length_at, length_ok, field_at}
use Rattle.std.specs.Prelude.{Ok, Err}
use Rattle.cutter.specs.Radius.{radius_field, radius_field_bytes}
use Rattle.cutter.specs.Standing.{radius_rule, radius_at}

-- a bit of 3 mm has a radius of 150 steps, the widest cutter one of 4,096
field-150 : radius_field 150 ≡ 6 ∷ 2 ∷ 0 ∷ 150 ∷ 0 ∷ []
field-150 = refl

field-4096 : radius_field 4096 ≡ 6 ∷ 2 ∷ 0 ∷ 0 ∷ 16 ∷ []
field-4096 = refl

five-bytes : radius_field_bytes ≡ 5
five-bytes = refl

-- behind a byte that is not its own
read-4096 : radius_at (9 ∷ 6 ∷ 2 ∷ 0 ∷ 0 ∷ 16 ∷ []) 1 ≡ 4096
read-4096 = refl

taken-4096 : field_at radius_rule (9 ∷ 6 ∷ 2 ∷ 0 ∷ 0 ∷ 16 ∷ []) 1 ≡ Ok 2
unfolding field_at length_ok
taken-4096 = refl

-- a clamp's tag, the end, a length of one byte, and contents that are cut off
clamp-there : field_at radius_rule (5 ∷ 16 ∷ 0 ∷ []) 0 ≡ Err (tag_at 0)
unfolding field_at length_ok
clamp-there = refl

end-there : field_at radius_rule (9 ∷ []) 1 ≡ Err (ended_at 1)
unfolding field_at length_ok
end-there = refl

one_byte : field_at radius_rule (6 ∷ 1 ∷ 0 ∷ 150 ∷ []) 0 ≡ Err (length_at 1)
unfolding field_at length_ok
one_byte = refl

cut_off : field_at radius_rule (6 ∷ 2 ∷ 0 ∷ 150 ∷ []) 0 ≡ Err (ended_at 4)
unfolding field_at length_ok
cut_off = refl

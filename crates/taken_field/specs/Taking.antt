-- How one field is judged (heading "Where bytes break"): its tag, then its length, then its contents; the first fault is told, with its place.
use Rattle.std.specs.Prelude.{Bool, cond, not, Result, Ok, Err, ◌&&◌, List, ℕ, ◌+◌, ◌%◌, leb, ltb, eqb, length, get_or}
use Rattle.fields.specs.Places.{u16_at}
use Rattle.refusal.specs.declared.Refusal.TheVariants.{Ended, Tag, Length, LeftOver}
use Rattle.grid.specs.Limits.{head_bytes}
use Rattle.taken_field.specs.declared.Rule.{Rule}
use Rattle.taken_field.specs.declared.Break.{Break}

-- a whole number of entries of some width above zero
abbrev pub whole_entries : ℕ → ℕ → Bool
whole_entries width len = not (eqb width 0) && eqb (len % width) 0

-- a length that a rule allows
unfoldable pub length_ok : Rule → ℕ → Bool
length_ok rule len = leb rule.least len && leb len rule.most && whole_entries rule.width len

-- where bytes break: at their end, at a tag, at a length's first byte, at a byte left over
abbrev pub ended_at : ℕ → Break
ended_at place = record { refusal = Ended; place = place }

abbrev pub tag_at : ℕ → Break
tag_at place = record { refusal = Tag; place = place }

abbrev pub length_at : ℕ → Break
length_at place = record { refusal = Length; place = place }

abbrev pub left_over_at : ℕ → Break
left_over_at place = record { refusal = LeftOver; place = place }

-- the field that begins at a place, as far as the input goes
unfoldable pub field_at : Rule → List ℕ → ℕ → Result ℕ Break
field_at rule bytes at =
    cond (leb (length bytes) at) (Err (ended_at (length bytes)))
    (cond (not (eqb (get_or bytes at 0) rule.tag)) (Err (tag_at at))
    (cond (ltb (length bytes) (at + head_bytes)) (Err (ended_at (length bytes)))
    (cond (not (length_ok rule (u16_at bytes (at + 1)))) (Err (length_at (at + 1)))
    (cond (ltb (length bytes) (at + head_bytes + u16_at bytes (at + 1))) (Err (ended_at (length bytes)))
    (Ok (u16_at bytes (at + 1)))))))

-- How the fields behind a record are judged (heading "The record on disk"): clamps until the bytes end, no more than a job has.
use Rattle.std.specs.Prelude.{cond, Result, Ok, Err, List, ℕ, zero, suc, ◌+◌, leb, length}
use Rattle.grid.specs.Limits.{clamp_bytes, clamps_most}
use Rattle.taken_field.specs.Taking.{left_over_at, field_at}
use Rattle.taken_field.specs.declared.Rule.{Rule}
use Rattle.taken_field.specs.declared.Break.{Break}
use Rattle.clamps.specs.Clamp.{clamp_tag, clamp_field_bytes}

-- a clamp's field
abbrev pub clamp_rule : Rule
clamp_rule = record { tag = clamp_tag; least = clamp_bytes; most = clamp_bytes; width = clamp_bytes }

-- what follows a clamp's field that was taken
abbrev pub then_clamps : Result ℕ Break → Result ℕ Break → Result ℕ Break
then_clamps (Ok len) next = next
then_clamps (Err fault) next = Err fault

-- from a place on, with `count` clamps before it and room for `left` more: the number of all clamps, or the leftmost fault
unfoldable pub clamps_from : ℕ → List ℕ → ℕ → ℕ → Result ℕ Break
clamps_from zero bytes at count = cond (leb (length bytes) at) (Ok count) (Err (left_over_at at))
clamps_from (suc left) bytes at count =
    cond (leb (length bytes) at) (Ok count) (then_clamps (field_at clamp_rule bytes at) (clamps_from left bytes (at + clamp_field_bytes) (count + 1)))

-- behind a record that ends at a place
abbrev pub clamps_behind : List ℕ → ℕ → Result ℕ Break
clamps_behind bytes start = clamps_from clamps_most bytes start 0

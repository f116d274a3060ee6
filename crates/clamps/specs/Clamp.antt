-- A job's clamps and the bytes that they have (heading "The record on disk"): rectangles, a field of tag 5 each.
use Rattle.std.specs.Prelude.{Bool, true, ◌&&◌, List, [], ◌∷◌, ℕ, ◌+◌, ℤ, pos}
use Rattle.std.specs.Int.{w32}
use Rattle.std.proofs.Common.{SFits}
use Rattle.grid.specs.Limits.{head_bytes, clamp_bytes}
use Rattle.grid.specs.Rows.{rectangle_ok}
use Rattle.fields.specs.Bytes.{coordinate_bytes, each, field_bytes}
use Rattle.fields.specs.Places.{i32_at, entries_at}

abbrev pub clamp_sides : ℕ  -- a clamp has four sides, each a coordinate of four bytes; its field is a head and these
clamp_sides = 4

abbrev pub side_bytes : ℕ
side_bytes = 4

abbrev pub clamp_field_bytes : ℕ
clamp_field_bytes = head_bytes + clamp_bytes

pub record Clamp : Type 0 where  -- a clamp
  pub low_x : ℤ
  pub high_x : ℤ
  pub low_y : ℤ
  pub high_y : ℤ

abbrev pub no_clamp : Clamp  -- no clamp: where a list of clamps has no entry
no_clamp = record { low_x = pos 0; high_x = pos 0; low_y = pos 0; high_y = pos 0 }

pub record ClampFits (c : Clamp) : Type 0 where  -- four 32-bit sides
  pub low_x : SFits w32 c.low_x
  pub high_x : SFits w32 c.high_x
  pub low_y : SFits w32 c.low_y
  pub high_y : SFits w32 c.high_y

abbrev pub sides : Clamp → List ℤ  -- the sides in a job's order
sides c = c.low_x ∷ c.high_x ∷ c.low_y ∷ c.high_y ∷ []

abbrev pub all_sides : List Clamp → List ℤ  -- four numbers a clamp, as a lent list holds them
all_sides cs = each sides cs

abbrev pub clamp_tag : ℕ  -- the tag of a clamp's field
clamp_tag = 5

abbrev pub clamp_field : Clamp → List ℕ  -- a clamp's field
clamp_field c = field_bytes clamp_tag (coordinate_bytes (sides c))

abbrev pub clamp_fields : List Clamp → List ℕ  -- the fields of all clamps, in their order
clamp_fields cs = each clamp_field cs

-- the clamp whose field begins at a place: its sides stand behind tag and length, one behind the other
abbrev pub clamp_at : List ℕ → ℕ → Clamp
clamp_at bytes at =
    record {
      low_x = i32_at bytes (at + head_bytes);
      high_x = i32_at bytes (at + head_bytes + side_bytes);
      low_y = i32_at bytes (at + head_bytes + side_bytes + side_bytes);
      high_y = i32_at bytes (at + head_bytes + side_bytes + side_bytes + side_bytes);
    }

abbrev pub clamps_at : List ℕ → ℕ → ℕ → List Clamp  -- clamps whose fields begin at a place, one behind the other
clamps_at bytes at count = entries_at (clamp_at bytes) clamp_field_bytes at count

unfoldable pub clamps_ok : List Clamp → Bool  -- row 14 for every clamp
clamps_ok [] = true
clamps_ok (c ∷ cs) = rectangle_ok c.low_x c.high_x c.low_y c.high_y && clamps_ok cs

-- How the radius' field is judged, and which radius stands in it.
use Rattle.std.specs.Prelude.{List, ℕ, ◌+◌}
use Rattle.grid.specs.Limits.{head_bytes, radius_bytes}
use Rattle.fields.specs.Places.{u16_at}
use Rattle.taken_field.specs.declared.Rule.{Rule}
use Rattle.cutter.specs.Radius.{radius_tag}

abbrev pub radius_rule : Rule  -- the field: its tag, and a length of two bytes
radius_rule = record { tag = radius_tag; least = radius_bytes; most = radius_bytes; width = radius_bytes }

abbrev pub radius_at : List ℕ → ℕ → ℕ  -- the radius whose field begins at a place, behind tag and length
radius_at bytes at = u16_at bytes (at + head_bytes)

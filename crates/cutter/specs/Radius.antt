-- A job's radius and the bytes that it has (heading "The record on disk"): a field of tag 6, two bytes of contents.
use Rattle.std.specs.Prelude.{List, ℕ, ◌+◌}
use Rattle.grid.specs.Limits.{head_bytes, radius_bytes}
use Rattle.fields.specs.Bytes.{u16_bytes, field_bytes}

abbrev pub radius_tag : ℕ  -- the tag of the radius' field
radius_tag = 6

abbrev pub radius_field : ℕ → List ℕ  -- the field of a radius
radius_field radius = field_bytes radius_tag (u16_bytes radius)

abbrev pub radius_field_bytes : ℕ  -- its bytes: a head and the radius
radius_field_bytes = head_bytes + radius_bytes

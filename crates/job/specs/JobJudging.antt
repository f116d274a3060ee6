-- How a job's bytes are judged (heading "The record on disk"): the record's fields, then the radius', then the clamps', up to the end.
use Rattle.std.specs.Prelude.{Result, Ok, Err, List, ℕ, ◌+◌}
use Rattle.format.specs.RecordPlaces.{record_end}
use Rattle.layout.specs.Judging.{record_layout}
use Rattle.layout.specs.declared.Layout.{Layout}
use Rattle.taken_field.specs.Taking.{field_at}
use Rattle.taken_field.specs.declared.Break.{Break}
use Rattle.cutter.specs.Radius.{radius_field_bytes}
use Rattle.cutter.specs.Standing.{radius_rule}
use Rattle.clamps.specs.Tail.{clamps_behind}
use Rattle.job.specs.declared.JobLayout.{JobLayout}

-- fields of k, x and y bytes and n clamps are taken
abbrev pub sound : ℕ → ℕ → ℕ → ℕ → Result JobLayout Break
sound k x y n = Ok (record { curve = record { knots = k; xs = x; ys = y }; clamps = n })

-- a record's fields, and the clamps behind them
abbrev pub with_clamps : ℕ → ℕ → ℕ → Result ℕ Break → Result JobLayout Break
with_clamps k x y (Ok n) = sound k x y n
with_clamps k x y (Err fault) = Err fault

-- where the clamps begin, behind a record that ends there and a radius
abbrev pub clamps_start : ℕ → ℕ → ℕ → ℕ
clamps_start k x y = record_end k x y + radius_field_bytes

-- from the radius on
abbrev pub from_radius : List ℕ → ℕ → ℕ → ℕ → Result ℕ Break → Result JobLayout Break
from_radius bytes k x y (Ok len) = with_clamps k x y (clamps_behind bytes (clamps_start k x y))
from_radius bytes k x y (Err fault) = Err fault

-- what stands behind a record with fields of k, x and y bytes
unfoldable pub behind_record : List ℕ → ℕ → ℕ → ℕ → Result JobLayout Break
behind_record bytes k x y = from_radius bytes k x y (field_at radius_rule bytes (record_end k x y))

-- from the record on
abbrev pub from_record : List ℕ → Result Layout Break → Result JobLayout Break
from_record bytes (Ok l) = behind_record bytes l.knots l.xs l.ys
from_record bytes (Err fault) = Err fault

-- the whole job
unfoldable pub job_layout : List ℕ → Result JobLayout Break
job_layout bytes = from_record bytes (record_layout bytes)

-- The radius and the clamps that stand in bytes with a sound layout, by the lengths of its fields.
use Rattle.std.specs.Prelude.{List, ℕ}
use Rattle.format.specs.RecordPlaces.{record_end}
use Rattle.cutter.specs.Standing.{radius_at}
use Rattle.clamps.specs.Clamp.{Clamp, clamps_at}
use Rattle.job.specs.JobJudging.{clamps_start}

-- the radius behind a record with fields of k, x and y bytes, and n clamps behind that
abbrev pub radius_in : List ℕ → ℕ → ℕ → ℕ → ℕ
radius_in bytes k x y = radius_at bytes (record_end k x y)

abbrev pub clamps_in : List ℕ → ℕ → ℕ → ℕ → ℕ → List Clamp
clamps_in bytes k x y n = clamps_at bytes (clamps_start k x y) n

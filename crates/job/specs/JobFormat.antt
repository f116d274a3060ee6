-- The bytes of a job (heading "The record on disk"): a record, then the cutter's radius, then 0 to 64 clamps' fields. No word
-- of a reader.
use Rattle.std.specs.Prelude.{List, ◌++◌, ◌≡◌, ℕ, ◌<◌, ◌≤◌, length, get_or}
use Rattle.grid.specs.Limits.{clamps_most}
use Rattle.curve.specs.Lists.{Lists}
use Rattle.format.specs.Format.{KnotsForm, form1, record_bytes, Storable}
use Rattle.fault.specs.Fault.{FileKind}
use Rattle.cutter.specs.Radius.{radius_field}
use Rattle.clamps.specs.Clamp.{Clamp, ClampFits, no_clamp, clamp_fields}

unfoldable pub job_bytes : KnotsForm → ℕ → Lists → ℕ → List Clamp → List ℕ  -- a record, and behind it the radius and the clamps
job_bytes form m c radius cs = record_bytes form m c ++ (radius_field radius ++ clamp_fields cs)

-- lists and a radius that fit into a job's fields
pub record StorableJob (form : KnotsForm) (m : ℕ) (c : Lists) (radius : ℕ) (cs : List Clamp) : Type 0 where
  pub curve : Storable form m c
  pub short : radius < 65536
  pub clamps : (i : ℕ) → ClampFits (get_or cs i no_clamp)
  pub few : length cs ≤ clamps_most

pub record IsJob (form : KnotsForm) (bytes : List ℕ) : Type 0 where  -- bytes that some degree, lists, radius and clamps have
  pub m : ℕ
  pub c : Lists
  pub radius : ℕ
  pub cs : List Clamp
  pub storable : StorableJob form m c radius cs
  pub same : bytes ≡ job_bytes form m c radius cs

pub record FullJob (form : KnotsForm) (bytes : List ℕ) : Type 0 where  -- a job with as many clamps as a job may have
  pub job : IsJob form bytes
  pub many : length job.cs ≡ clamps_most

abbrev pub jobs : FileKind  -- no field follows the last clamp that a job may have
jobs = record { Is = IsJob form1; Full = FullJob form1 }

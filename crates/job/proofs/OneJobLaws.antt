-- Bytes are the job of one degree, one curve, one radius and one row of clamps.
use mathlib.Core.List.{List, ◌++◌}
use mathlib.Core.Path.{◌≡◌, sym, ◌∙◌}
use Prim.Native.Nat.{ℕ}
use Rattle.format.specs.Format.{form1}
use Rattle.format.proofs.InjectiveLaws.{form1-injective}
use Rattle.cutter.specs.Radius.{radius_field}
use Rattle.cutter.proofs.FieldLaws.{radius-injective}
use Rattle.clamps.specs.Clamp.{clamp_fields}
use Rattle.clamps.proofs.ClampLaws.{clamps-injective}
use Rattle.job.specs.JobFormat.{job_bytes, IsJob}

pub record OneJob {bytes : List ℕ} (w v : IsJob form1 bytes) : Type 0 where
  pub degree : w.m ≡ v.m
  pub curve : w.c ≡ v.c
  pub radius : w.radius ≡ v.radius
  pub clamps : w.cs ≡ v.cs

pub one-job : {bytes : List ℕ} (w v : IsJob form1 bytes) → OneJob w v
unfolding job_bytes
one-job w v =
    let same = form1-injective w.m w.c (radius_field w.radius ++ clamp_fields w.cs) v.m v.c (radius_field v.radius ++ clamp_fields v.cs) w.storable.curve v.storable.curve (sym w.same ∙ v.same) in
    let behind = radius-injective w.radius v.radius (clamp_fields w.cs) (clamp_fields v.cs) w.storable.short v.storable.short same.behind in
    record {
      degree = same.degree;
      curve = same.curve;
      radius = behind.0;
      clamps = clamps-injective w.cs v.cs w.storable.clamps v.storable.clamps behind.1;
    }

-- Bytes that are judged sound are the job of the lists that stand in them.
use Rattle.std.specs.Prelude.{Result, Ok, Err}
use mathlib.Core.Path.{◌≡◌, refl, ap, ◌∙◌}
use mathlib.Core.List.{List, ◌++◌}
use Prim.Native.Nat.{ℕ, ◌+◌, ◌≤◌}
use native.Mathlib.Omega.{arith}
use lib.ListN.{length}
use Rattle.grid.specs.Limits.{head_bytes, clamps_most}
use Rattle.fields.specs.Bytes.{Octets}
use Rattle.fields.proofs.PlaceLaws.{length-entries_at}
use Rattle.format.specs.Format.{form1, record_bytes}
use Rattle.format.specs.RecordPlaces.{record_end}
use Rattle.format.proofs.EntryLaws.{knot-small}
use Rattle.layout.specs.Judging.{sound as laid, record_layout}
use Rattle.layout.specs.StoredCurve.{degree_in, curve_in}
use Rattle.taken_field.specs.Taking.{field_at}
use Rattle.taken_field.specs.declared.Break.{Break}
use Rattle.layout.specs.declared.Layout.{Layout}
use Rattle.layout.proofs.RecordLaws.{layout-storable, layout-record}
use Rattle.cutter.specs.Radius.{radius_field}
use Rattle.cutter.specs.Standing.{radius_rule}
use Rattle.cutter.proofs.FieldLaws.{RadiusThere, radius-known}
use Rattle.clamps.specs.Clamp.{clamp_field_bytes, clamp_at}
use Rattle.clamps.specs.Tail.{clamps_behind}
use Rattle.clamps.proofs.ClampLaws.{Run, clamps-known, clamps-fit}
use Rattle.job.specs.JobFormat.{job_bytes, StorableJob, IsJob}
use Rattle.job.specs.JobJudging.{sound, with_clamps, clamps_start, from_radius, behind_record, from_record, job_layout}
use Rattle.job.specs.StoredJob.{radius_in, clamps_in}
use Rattle.job.specs.declared.JobLayout.{JobLayout}

-- a sound layout tells its lengths
layout_one : (l k : JobLayout) → ◌≡◌ {A = Result JobLayout Break} (Ok l) (Ok k) → l ≡ k
layout_one l k e = cc e

module _ (k x y n : ℕ) where
  pub unsound : (fault : Break) → Err fault ≡ sound k x y n → ⊥
  unsound fault e = let z : ◌≡◌ {A = ℕ} 0 1 = cc in omega arith

  -- what a sound layout of a job says
  pub record Joined (bytes : List ℕ) : Type 0 where
    pub curve : record_layout bytes ≡ laid k x y
    pub len : ℕ
    pub radius : field_at radius_rule bytes (record_end k x y) ≡ Ok len
    pub tail : clamps_behind bytes (clamps_start k x y) ≡ Ok n

  joined-tail : (bytes : List ℕ) (p q r len : ℕ) → record_layout bytes ≡ laid p q r → field_at radius_rule bytes (record_end p q r) ≡ Ok len
      → (t : Result ℕ Break) → clamps_behind bytes (clamps_start p q r) ≡ t → with_clamps p q r t ≡ sound k x y n → Joined bytes
  joined-tail bytes p q r len e g (Err fault) f a = absurd (unsound fault a)
  joined-tail bytes p q r len e g (Ok c) f a =
      let same = layout_one (record { curve = record { knots = p; xs = q; ys = r }; clamps = c }) (record { curve = record { knots = k; xs = x; ys = y }; clamps = n }) a in
      let is_k : p ≡ k = ap (λ (l : JobLayout). l.curve.knots) same in
      let is_x : q ≡ x = ap (λ (l : JobLayout). l.curve.xs) same in
      let is_y : r ≡ y = ap (λ (l : JobLayout). l.curve.ys) same in
      let is_n : c ≡ n = ap (λ (l : JobLayout). l.clamps) same in
      record { curve = rw (← is_k, ← is_x, ← is_y) e; len = len; radius = rw (← is_k, ← is_x, ← is_y) g; tail = rw (← is_k, ← is_x, ← is_y, ← is_n) f }

  joined-radius : (bytes : List ℕ) (p q r : ℕ) → record_layout bytes ≡ laid p q r → (t : Result ℕ Break) → field_at radius_rule bytes (record_end p q r) ≡ t
      → from_radius bytes p q r t ≡ sound k x y n → Joined bytes
  joined-radius bytes p q r e (Err fault) g a = absurd (unsound fault a)
  joined-radius bytes p q r e (Ok len) g a = joined-tail bytes p q r len e g (clamps_behind bytes (clamps_start p q r)) refl a

  joined_by : (bytes : List ℕ) (l : Result Layout Break) → record_layout bytes ≡ l → from_record bytes l ≡ sound k x y n → Joined bytes
  unfolding behind_record
  joined_by bytes (Err fault) e a = absurd (unsound fault a)
  joined_by bytes (Ok l) e a = joined-radius bytes l.knots l.xs l.ys e (field_at radius_rule bytes (record_end l.knots l.xs l.ys)) refl a

  pub job-joined : (bytes : List ℕ) → job_layout bytes ≡ sound k x y n → Joined bytes
  unfolding job_layout
  job-joined bytes e = joined_by bytes (record_layout bytes) refl e

module _ (bytes : List ℕ) (octets : Octets bytes) (k x y n : ℕ) (e : job_layout bytes ≡ sound k x y n) where
  joined : Joined k x y n bytes
  joined = job-joined k x y n bytes e

  there : RadiusThere bytes (record_end k x y)
  there = radius-known bytes octets (record_end k x y) joined.len joined.radius

  counted : (c : ℕ) × (n ≡ 0 + c) × (c ≤ clamps_most) × Run bytes (clamps_start k x y) c
  counted = clamps-known bytes octets clamps_most (clamps_start k x y) 0 n there.inside joined.tail

  pub job-few : n ≤ clamps_most
  job-few = omega (arith, counted.1, counted.2)

  pub job-run : Run bytes (clamps_start k x y) n
  job-run = let same : counted.0 ≡ n = omega (arith, counted.1) in rw same at counted.3

  pub job-storable : StorableJob form1 (degree_in bytes) (curve_in bytes k x y) (radius_in bytes k x y) (clamps_in bytes k x y n)
  job-storable =
      let many : length (clamps_in bytes k x y n) ≡ n = length-entries_at (clamp_at bytes) clamp_field_bytes (clamps_start k x y) n in
      record {
        curve = layout-storable bytes octets k x y joined.curve;
        short = knot-small bytes octets (record_end k x y + head_bytes);
        clamps = clamps-fit bytes octets (clamps_start k x y) n;
        few = omega (arith, many, job-few);
      }

  pub job-same : bytes ≡ job_bytes form1 (degree_in bytes) (curve_in bytes k x y) (radius_in bytes k x y) (clamps_in bytes k x y n)
  unfolding job_bytes
  job-same =
      layout-record bytes octets k x y joined.curve
      ∙ ap (λ (l : List ℕ). record_bytes form1 (degree_in bytes) (curve_in bytes k x y) ++ l)
      (there.same ∙ ap (λ (l : List ℕ). radius_field (radius_in bytes k x y) ++ l) job-run.same)

  -- bytes that are judged sound are the job of the lists that stand in them
  abbrev pub job-of-sound : IsJob form1 bytes
  job-of-sound =
      record {
        m = degree_in bytes;
        c = curve_in bytes k x y;
        radius = radius_in bytes k x y;
        cs = clamps_in bytes k x y n;
        storable = job-storable;
        same = job-same;
      }

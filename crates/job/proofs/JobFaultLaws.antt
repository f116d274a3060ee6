-- A job has its leftmost fault where judging finds its break, and none exactly where it is judged sound.
use Rattle.std.specs.Prelude.{Result, Ok, Err}
use mathlib.Core.Logic.{◌⊎◌, inl, inr}
use mathlib.Core.Path.{◌≡◌, refl, sym, ap, ◌∙◌, subst}
use mathlib.Core.List.{List, ◌∷◌, ◌++◌, append_assoc}
use Prim.Native.Nat.{ℕ, ◌+◌, ◌*◌, ◌≤◌}
use native.Mathlib.Omega.{arith}
use lib.Dec.{lit<}
use lib.ListN.{length, take, length-append}
use lib.Seq.{take-append_seam, take_at}
use Rattle.refusal.specs.Answers.{number_of}
use Rattle.refusal.specs.Numbers.{left_over_refused}
use Rattle.grid.specs.Limits.{radius_bytes, clamps_most, job_most}
use Rattle.fields.specs.Bytes.{u16_bytes, field_bytes, Octets}
use Rattle.fields.specs.Places.{u16_at}
use Rattle.fields.proofs.PlaceLaws.{length-each}
use Rattle.format.specs.Format.{form1, record_bytes}
use Rattle.format.specs.RecordPlaces.{record_end}
use Rattle.format.proofs.EntryLaws.{knot-small}
use Rattle.format.proofs.InjectiveLaws.{form1-injective}
use Rattle.fault.specs.Fault.{FileKind, WholeFields, Fault}
use Rattle.fault.specs.Told.{FaultsTold}
use Rattle.format.proofs.SizeLaws.{record-most}
use Rattle.fault.proofs.WithinLaws.{fault-most, fault-kept}
use Rattle.fault.proofs.OneFaultLaws.{one-fault, file-no-fault}
use Rattle.fault.proofs.LeftOverLaws.{left-over-there}
use Rattle.fault.proofs.FirstFieldLaws.{FieldThen, FirstField}
use Rattle.fault.proofs.ChainLaws.{Some, SameKind, fault-same, then-with, then-fields, Row, up_to-some, needed-some, needed-first, needed-none, row-fields}
use Rattle.taken_field.specs.Taking.{length_ok, field_at}
use Rattle.layout.specs.Judging.{record_layout}
use Rattle.taken_field.specs.declared.Break.{Break}
use Rattle.layout.specs.declared.Layout.{Layout}
use Rattle.layout.proofs.SplitLaws.{Whole, field-known, length-least, length_most, layout-inside}
use Rattle.breaks.proofs.ChainLaws.{ruled, record_then, RecordAhead, octets-pair, InFields, record-fields, fields-record}
use Rattle.breaks.proofs.FaultLaws.{BreaksFrom, field-breaks, break-behind, record-breaks, break-behind-record, breaks-fault}
use Rattle.breaks.proofs.LoneLaws.{fields-whole}
use Rattle.cutter.specs.Radius.{radius_tag, radius_field, radius_field_bytes}
use Rattle.cutter.specs.Standing.{radius_rule}
use Rattle.cutter.proofs.FieldLaws.{radius-right, contents-radius, radius-known, radius-injective}
use Rattle.clamps.specs.Clamp.{clamp_tag, clamp_field_bytes, clamp_field, clamp_fields}
use Rattle.clamps.specs.Tail.{clamp_rule, clamps_behind}
use Rattle.clamps.proofs.RowLaws.{clamps_up_to, clamps-row, Clamped, row-clamps, clamps-break}
use Rattle.job.specs.JobFormat.{job_bytes, IsJob, FullJob, jobs}
use Rattle.job.specs.Sentences.{JobFaultKept}
use Rattle.job.specs.JobReading.{JobJudged, faulty}
use Rattle.job.specs.JobJudging.{with_clamps, clamps_start, from_radius, behind_record, from_record, job_layout}
use Rattle.job.specs.declared.JobLayout.{JobLayout}
use Rattle.job.proofs.JobLayoutLaws.{unsound, job-of-sound}

-- a radius' field, and then so many clamps' fields
abbrev Tailed : ℕ → List ℕ → Type 0
Tailed k = FieldThen radius_tag (length_ok radius_rule) (Row clamp_tag (length_ok clamp_rule) k)

-- what stands behind a job's record
abbrev behind : FileKind
behind = ruled radius_rule (clamps_up_to clamps_most)

-- a record, a radius' field and a row of clamps' fields behind it are a job with so many clamps
row-job : (k : ℕ) → k ≤ clamps_most → (bytes : List ℕ) → RecordAhead (Tailed k) bytes → (w : IsJob form1 bytes) × (length w.cs ≡ k)
unfolding job_bytes
row-job k few bytes r =
    let f = r.behind in
    let clamped : Clamped k f.rest = row-clamps k f.rest f.next in (
      record {
        m = r.m;
        c = r.c;
        radius = u16_at f.contents 0;
        cs = clamped.cs;
        storable = record { curve = r.storable; short = knot-small f.contents f.octets 0; clamps = clamped.fit; few = omega (arith, clamped.many) };
        same =
            r.same
            ∙ ap (λ (l : List ℕ). record_bytes form1 r.m r.c ++ l)
            (f.same
            ∙ ap (λ (l : List ℕ). field_bytes radius_tag l ++ f.rest) (sym (contents-radius f.contents f.octets f.right))
            ∙ ap (λ (l : List ℕ). radius_field (u16_at f.contents 0) ++ l) clamped.same);
      },
      clamped.many,
    )

-- and a job is such
job-fields : (P : List ℕ → Type 0) (bytes : List ℕ) (w : IsJob form1 bytes) → P (clamp_fields w.cs) → InFields (FieldThen radius_tag (length_ok radius_rule) P) bytes
unfolding job_bytes
job-fields P bytes w next =
    record-fields (FieldThen radius_tag (length_ok radius_rule) P) bytes
    (record {
      m = w.m;
      c = w.c;
      rest = radius_field w.radius ++ clamp_fields w.cs;
      storable = w.storable.curve;
      same = w.same;
      behind =
          record {
            contents = u16_bytes w.radius;
            rest = clamp_fields w.cs;
            same = refl;
            short = lit< tt;
            right = radius-right;
            octets = octets-pair w.radius;
            next = next;
          };
    })

-- a row of some clamps, counted by their number
row_of : (bytes : List ℕ) (w : IsJob form1 bytes) (k : ℕ) → length w.cs ≡ k → Row clamp_tag (length_ok clamp_rule) k (clamp_fields w.cs)
row_of bytes w k e = subst (λ (n : ℕ). Row clamp_tag (length_ok clamp_rule) n (clamp_fields w.cs)) e (clamps-row w.cs)

job-kind : SameKind (record_then behind) jobs
job-kind =
    record {
      into = λ bytes f.
          let r = fields-record behind.Is bytes f in
          let t = r.behind in
          (row-job t.next.0 t.next.1 bytes (record { m = r.m; c = r.c; rest = r.rest; storable = r.storable; same = r.same; behind = then-with t t.next.2 })).0;
      from = λ bytes w. job-fields (clamps_up_to clamps_most).Is bytes w (length w.cs, w.storable.few, clamps-row w.cs);
      full_into = λ bytes f. let w = row-job clamps_most (omega arith) bytes (fields-record behind.Full bytes f) in record { job = w.0; many = w.1 };
      full_from = λ bytes w. job-fields (clamps_up_to clamps_most).Full bytes w.job (row_of bytes w.job clamps_most w.many);
    }

-- clamps can stand behind a radius, and these behind a record
some-clamps : Some (clamps_up_to clamps_most)
some-clamps = up_to-some clamp_tag (length_ok clamp_rule) clamps_most

some-behind : Some behind
some-behind = needed-some radius_tag (length_ok radius_rule) radius_bytes (lit< tt) radius-right (clamps_up_to clamps_most) some-clamps

first-radius : FirstField radius_tag (length_ok radius_rule) behind (clamps_up_to clamps_most)
first-radius = needed-first radius_tag (length_ok radius_rule) radius_bytes (lit< tt) radius-right (clamps_up_to clamps_most) some-clamps

module _ (bytes : List ℕ) (octets : Octets bytes) (found : Break) where
  by-tail : (k x y : ℕ) → (t : Result ℕ Break) → clamps_start k x y ≤ length bytes → clamps_behind bytes (clamps_start k x y) ≡ t → with_clamps k x y t ≡ Err found
      → BreaksFrom (clamps_up_to clamps_most) bytes (clamps_start k x y) found
  by-tail k x y (Ok n) inside f a = absurd (unsound k x y n found (sym a))
  by-tail k x y (Err fault) inside f a =
      let same : fault ≡ found = cc in clamps-break bytes octets found clamps_most (clamps_start k x y) 0 inside (f ∙ ap Err same)

  by-radius : (k x y : ℕ) → record_end k x y ≤ length bytes → (t : Result ℕ Break) → field_at radius_rule bytes (record_end k x y) ≡ t → from_radius bytes k x y t ≡ Err found
      → BreaksFrom behind bytes (record_end k x y) found
  by-radius k x y inside (Err fault) f a =
      let same : fault ≡ found = cc in
      field-breaks radius_rule behind (clamps_up_to clamps_most) first-radius bytes octets (record_end k x y) found inside
      (λ _. needed-none radius_tag (length_ok radius_rule) radius_bytes (lit< tt) radius-right (clamps_up_to clamps_most) some-clamps) (f ∙ ap Err same)
  by-radius k x y inside (Ok len) f a =
      let whole : Whole radius_rule bytes (record_end k x y) len = field-known radius_rule bytes (record_end k x y) len f in
      let there = radius-known bytes octets (record_end k x y) len f in
      let size : len ≡ radius_bytes = omega (arith, length-least radius_rule len whole.right, length_most radius_rule len whole.right) in
      break-behind radius_rule behind (clamps_up_to clamps_most) first-radius bytes octets (record_end k x y) found len (clamps_start k x y) whole (omega arith)
      (by-tail k x y (clamps_behind bytes (clamps_start k x y)) there.inside refl a)

  by-record : (l : Result Layout Break) → record_layout bytes ≡ l → from_record bytes l ≡ Err found → BreaksFrom (record_then behind) bytes 0 found
  unfolding behind_record
  by-record (Ok l) e a =
      break-behind-record behind some-behind bytes octets found l.knots l.xs l.ys e
      (by-radius l.knots l.xs l.ys (layout-inside bytes l.knots l.xs l.ys e) (field_at radius_rule bytes (record_end l.knots l.xs l.ys)) refl a)
  by-record (Err fault) e a =
      let same : fault ≡ found = cc in
      record-breaks behind some-behind bytes octets found (e ∙ ap Err same)

  -- bytes that are judged broken have their fault there
  pub job-fault : job_layout bytes ≡ Err found → Fault jobs bytes (number_of found.refusal) found.place
  unfolding job_layout
  job-fault e = fault-same job-kind bytes (breaks-fault (by-record (record_layout bytes) refl e))

  pub judged_broken : job_layout bytes ≡ Err found → (answer : Result (Unit {0}) Break) → answer ≡ Err found → JobJudged bytes answer
  judged_broken e answer is = rw is (faulty found (job-fault e))

-- nothing can stand behind the last clamp
longer : (front : List ℕ) → FullJob form1 front → (b : ℕ) (rest : List ℕ) → IsJob form1 (front ++ b ∷ rest) → ⊥
unfolding job_bytes
longer front full b rest v =
    let w = full.job in
    let record-w : List ℕ = record_bytes form1 w.m w.c in
    let joined : record-w ++ (radius_field w.radius ++ (clamp_fields w.cs ++ b ∷ rest)) ≡ record_bytes form1 v.m v.c ++ (radius_field v.radius ++ clamp_fields v.cs) =
    ap (λ (l : List ℕ). record-w ++ l) (sym (append_assoc (radius_field w.radius) (clamp_fields w.cs) (b ∷ rest)))
    ∙ sym (append_assoc record-w (radius_field w.radius ++ clamp_fields w.cs) (b ∷ rest))
    ∙ ap (λ (l : List ℕ). l ++ b ∷ rest) (sym w.same)
    ∙ v.same in
    let same = form1-injective w.m w.c (radius_field w.radius ++ (clamp_fields w.cs ++ b ∷ rest)) v.m v.c (radius_field v.radius ++ clamp_fields v.cs) w.storable.curve v.storable.curve joined in
    let clamps = radius-injective w.radius v.radius (clamp_fields w.cs ++ b ∷ rest) (clamp_fields v.cs) w.storable.short v.storable.short same.behind in
    omega (
      arith,
      ap length clamps.1,
      length-append (clamp_fields w.cs) (b ∷ rest),
      length-each clamp_field clamp_field_bytes (λ _. refl) w.cs,
      length-each clamp_field clamp_field_bytes (λ _. refl) v.cs,
      full.many,
      v.storable.few,
    )

-- a job is whole fields
job-whole : (bytes : List ℕ) → IsJob form1 bytes → WholeFields bytes
job-whole bytes w =
    let row = Row clamp_tag (length_ok clamp_rule) (length w.cs) in
    fields-whole (FieldThen radius_tag (length_ok radius_rule) row) (λ rest f. then-fields f (row-fields clamp_tag (length_ok clamp_rule) (length w.cs) f.rest f.next)) bytes
    (job-fields row bytes w (clamps-row w.cs))

-- a record, a radius, and a field for each clamp: no job is longer than the longest
job-size : (bytes : List ℕ) (w : IsJob form1 bytes) → length bytes ≡ length (record_bytes form1 w.m w.c) + radius_field_bytes + clamp_field_bytes * length w.cs
unfolding job_bytes
job-size bytes w =
    let front = record_bytes form1 w.m w.c in
    let tail = radius_field w.radius ++ clamp_fields w.cs in
    omega (
      arith,
      ap length w.same,
      length-append front tail,
      length-append (radius_field w.radius) (clamp_fields w.cs),
      length-each clamp_field clamp_field_bytes (λ _. refl) w.cs,
    )

pub job-most : (bytes : List ℕ) → IsJob form1 bytes → length bytes ≤ job_most
job-most bytes w = omega (arith, job-size bytes w, record-most w.m w.c w.storable.curve, w.storable.few)

-- and one as long as the longest has all the clamps that a job may have
job-full : (bytes : List ℕ) → IsJob form1 bytes → job_most ≤ length bytes → FullJob form1 bytes
job-full bytes w long = record { job = w; many = omega (arith, job-size bytes w, record-most w.m w.c w.storable.curve, w.storable.few) }

-- nor does its fault lie further on
pub job-fault-most : (bytes : List ℕ) {n p : ℕ} → Fault jobs bytes n p → p ≤ job_most
job-fault-most bytes fault = fault-most jobs job_most job-most job-whole bytes fault

-- so one byte more than the longest job has is enough to tell it
pub job-fault-kept : JobFaultKept
job-fault-kept bytes number place more fault = fault-kept jobs job_most job-most job-whole bytes (job_most + 1) (omega arith) (omega arith) fault

-- what stands behind a front as long as the longest job does not move the fault of that front
pub job-fault-behind : (front rest : List ℕ) {n p : ℕ} → job_most ≤ length front → Fault jobs front n p → Fault jobs (front ++ rest) n p
job-fault-behind front rest {n} {p} long fault =
    fault-kept jobs job_most job-most job-whole (front ++ rest) (length front) long (omega (arith, length-append front rest))
    (subst (λ (l : List ℕ). Fault jobs l n p) (sym (take-append_seam front rest)) fault)

pub jobs-told : FaultsTold jobs
jobs-told =
    record {
      told = λ bytes octets. by bytes octets (job_layout bytes) refl;
      never = λ bytes number place fault. file-no-fault jobs bytes fault;
      one = λ bytes number place n p fault found. one-fault jobs bytes fault found;
      over = λ bytes at inside full.
          left-over-there jobs bytes at inside full full.job (job-whole (take at bytes) full.job) (longer (take at bytes) full);
    }
  where
    by : (bytes : List ℕ) → Octets bytes → (l : Result JobLayout Break) → job_layout bytes ≡ l → IsJob form1 bytes ⊎ ((number : ℕ) × (place : ℕ) × Fault jobs bytes number place)
    by bytes octets (Ok l) e = inl (job-of-sound bytes octets l.curve.knots l.curve.xs l.curve.ys l.clamps e)
    by bytes octets (Err found) e = inr (number_of found.refusal, found.place, job-fault bytes octets found e)

-- and where that front is a job itself, it is the byte behind it that is left over
pub job-left-over : (front : List ℕ) (b : ℕ) (rest : List ℕ) → job_most ≤ length front → IsJob form1 front → Fault jobs (front ++ b ∷ rest) left_over_refused job_most
job-left-over front b rest long w =
    let size : length front ≡ job_most = omega (arith, job-most front w) in
    let all : List ℕ = front ++ b ∷ rest in
    let cut : take job_most all ≡ front = take_at front (b ∷ rest) job_most size in
    jobs-told.over all job_most (omega (arith, length-append front (b ∷ rest))) (subst (FullJob form1) (sym cut) (job-full front w long))

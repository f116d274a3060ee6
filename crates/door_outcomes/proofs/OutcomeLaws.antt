-- Each export by cases has one outcome, because what it comes to is one.
use mathlib.Core.Path.{◌≡◌, refl, sym, ap, ap₂, ◌∙◌}
use mathlib.Core.List.{List}
use Prim.Native.Nat.{ℕ, zero, suc}
use lib.Dec.{eqb-suc-zero}
use lib.IntN.{ℤ}
use lib.ListN.{length}
use borrow.Author.Tests.{ne_eqb}
use Rattle.lent.specs.Lent.{after}
use Rattle.curve.specs.Lists.{Lists}
use Rattle.curve.specs.HandingOver.{handed_over}
use Rattle.curve.proofs.HandingLaws.{Determined}
use Rattle.clamps.specs.Clamp.{Clamp, all_sides}
use Rattle.removal.proofs.OutcomeLaws as removal
use Rattle.compaction.proofs.OutcomeLaws as compaction
use Rattle.fault.specs.Kinds.{lone_records}
use Rattle.fault.specs.Verdict.{Verdict, broken, number_of, place_or}
use Rattle.fault.proofs.OneFaultLaws.{one-fault, file-no-fault, fault-refuses}
use Rattle.breaks.proofs.LoneLaws.{one-record}
use Rattle.record.specs.Reading as reading
use Rattle.record.specs.Reading.{RecordComesTo}
use Rattle.job.specs.JobFormat.{jobs}
use Rattle.job.specs.JobReading as job_reading
use Rattle.job.specs.JobReading.{JobComesTo}
use Rattle.job.proofs.OneJobLaws.{one-job}
use Rattle.tsaghnobir.specs.Places.{placed}
use Rattle.tsaghnobir.specs.Outcomes.{HandsBack}
use Rattle.door_outcomes.specs.Exports.{OneOutcome, RemovalDetermined, CompactionDetermined, RecordDetermined, JobDetermined}

-- an export that hands a curve back: its number is one, and where that is 0 its curve
module _ {P : Type 0} {ComesTo : ℕ → Lists → Type 0} (s : Determined ComesTo) (counts : Lists → P) (before : Lists) (held : P) where
  by_number : (n : ℕ) (c d : Lists) → ComesTo n c → ComesTo n d
      → (handed_over n c before ≡ handed_over n d before) × (placed n (counts c) held ≡ placed n (counts d) held)
  by_number zero c d p q = let e = s.one-curve c d p q in (rw e, rw e)
  by_number (suc n) c d p q = (rw (eqb-suc-zero n), rw (eqb-suc-zero n))

  pub hands-back-once : OneOutcome (HandsBack ComesTo counts before held)
  hands-back-once n k now then holds instead p q =
      let e = s.one_number _ _ _ _ p.comes_to q.comes_to in
      let same = by_number n p.result q.result p.comes_to (rw e q.comes_to) in
      (e, p.hands ∙ same.0 ∙ rw e (sym q.hands), p.places ∙ same.1 ∙ rw e (sym q.places))

pub removal-determined : RemovalDetermined
removal-determined m c v before held =
    hands-back-once (record { one_number = removal.same_number m c v before; one-curve = removal.same-curve m c v before }) (λ d. length d.xs) before held

pub compaction-determined : CompactionDetermined
compaction-determined m c before held =
    hands-back-once (record { one_number = compaction.same_number m c before; one-curve = compaction.same-curve m c before }) _ before held

-- after a number that is not 0 a place and the lists are as they were, whatever was not handed out
abbrev Unplaced : ℕ → Type 0
Unplaced n = n ≡ 0 → ⊥

unplaced : (n k v w held : ℕ) → Unplaced n → Unplaced k → placed n v held ≡ placed k w held
unplaced n k v w held p q = rw (ne_eqb n 0 p, ne_eqb k 0 q)

untouched : (n k : ℕ) (c d before : Lists) → Unplaced n → Unplaced k → handed_over n c before ≡ handed_over k d before
untouched n k c d before p q = rw (ne_eqb n 0 p, ne_eqb k 0 q)

unwritten : {A : Type 0} (n k : ℕ) (c d before : List A) → Unplaced n → Unplaced k → after n c before ≡ after k d before
unwritten n k c d before p q = rw (ne_eqb n 0 p, ne_eqb k 0 q)

-- what bytes come to as a record is one, in all that is handed out
record-one : {bytes : List ℕ} {before : Lists} {s t : Verdict} {m d : ℕ} {c e : Lists} → RecordComesTo bytes before s m c → RecordComesTo bytes before t d e
    → (s ≡ t) × (handed_over (number_of s) c before ≡ handed_over (number_of t) e before) × ((held : ℕ) → placed (number_of s) m held ≡ placed (number_of t) d held)
    × ((held : ℕ) → placed (number_of s) (length c.xs) held ≡ placed (number_of t) (length e.xs) held)
record-one (reading.is_record w) (reading.is_record v) =
    let same = one-record w v in
    (rw (same.degree, same.curve), rw (same.degree, same.curve), λ held. rw (same.degree, same.curve), λ held. rw (same.degree, same.curve))
record-one {bytes = bytes} (reading.is_record w) (reading.is_broken g d e) = absurd (file-no-fault lone_records bytes g w)
record-one {bytes = bytes} (reading.is_broken f m c) (reading.is_record v) = absurd (file-no-fault lone_records bytes f v)
record-one {bytes = bytes} {before = before} (reading.is_broken {number = n} f m c) (reading.is_broken {number = k} g d e) =
    let same = one-fault lone_records bytes f g in
    let left = fault-refuses lone_records bytes f in
    let right = fault-refuses lone_records bytes g in
    (ap₂ broken same.0 same.1, untouched n k c e before left right, λ held. unplaced n k m d held left right, λ held. unplaced n k (length c.xs) (length e.xs) held left right)

pub record-determined : RecordDetermined
record-determined bytes before held n k now then holds instead p q =
    let same = record-one p.comes_to q.comes_to in
    let lists : handed_over n p.c before ≡ handed_over k q.c before = rw (p.answers, q.answers) same.1 in
    let degrees : placed n p.m held.0 ≡ placed k q.m held.0 = rw (p.answers, q.answers) (same.2 held.0) in
    let points : placed n (length p.c.xs) held.1 ≡ placed k (length q.c.xs) held.1 = rw (p.answers, q.answers) (same.3 held.1) in
    let place : place_or p.verdict held.2 ≡ place_or q.verdict held.2 = ap (λ (v : Verdict). place_or v held.2) same.0 in
    (p.answers ∙ ap number_of same.0 ∙ sym q.answers, p.hands ∙ lists ∙ sym q.hands, p.places ∙ (rw (degrees, points, place)) ∙ sym q.places)

both-same : {A B : Type 0} (v w : A × B) → v.0 ≡ w.0 → v.1 ≡ w.1 → v ≡ w
both-same (a, b) (c, d) p q = rw (p, q)

-- what bytes come to as a job
job-one : (sides : List ℤ) {bytes : List ℕ} {before : Lists} {s t : Verdict} {m d : ℕ} {c e : Lists} {radius reach : ℕ} {cs es : List Clamp}
    → JobComesTo bytes before (length sides) s m c radius cs → JobComesTo bytes before (length sides) t d e reach es
    → (s ≡ t) × (handed_over (number_of s) c before ≡ handed_over (number_of t) e before) × (after (number_of s) (all_sides cs) sides ≡ after (number_of t) (all_sides es) sides)
    × ((held : ℕ) → placed (number_of s) m held ≡ placed (number_of t) d held) × ((held : ℕ) → placed (number_of s) (length c.xs) held ≡ placed (number_of t) (length e.xs) held)
    × ((held : ℕ) → placed (number_of s) radius held ≡ placed (number_of t) reach held) × ((held : ℕ) → placed (number_of s) (length cs) held ≡ placed (number_of t) (length es) held)
job-one sides (job_reading.is_job w) (job_reading.is_job v) =
    let same = one-job w v in (
      rw (same.degree, same.curve, same.radius, same.clamps),
      rw (same.degree, same.curve, same.radius, same.clamps),
      rw (same.degree, same.curve, same.radius, same.clamps),
      λ held. rw (same.degree, same.curve, same.radius, same.clamps),
      λ held. rw (same.degree, same.curve, same.radius, same.clamps),
      λ held. rw (same.degree, same.curve, same.radius, same.clamps),
      λ held. rw (same.degree, same.curve, same.radius, same.clamps),
    )
job-one sides {bytes = bytes} (job_reading.is_job w) (job_reading.is_broken g d e reach es) = absurd (file-no-fault jobs bytes g w)
job-one sides {bytes = bytes} (job_reading.is_broken f m c radius cs) (job_reading.is_job v) = absurd (file-no-fault jobs bytes f v)
job-one sides {bytes = bytes} {before = before} (job_reading.is_broken {number = n} f m c radius cs) (job_reading.is_broken {number = k} g d e reach es) =
    let same = one-fault jobs bytes f g in
    let left = fault-refuses jobs bytes f in
    let right = fault-refuses jobs bytes g in (
      ap₂ broken same.0 same.1,
      untouched n k c e before left right,
      unwritten n k (all_sides cs) (all_sides es) sides left right,
      λ held. unplaced n k m d held left right,
      λ held. unplaced n k (length c.xs) (length e.xs) held left right,
      λ held. unplaced n k radius reach held left right,
      λ held. unplaced n k (length cs) (length es) held left right,
    )

pub job-determined : JobDetermined
job-determined bytes before sides held n k now then holds instead p q =
    let same = job-one sides p.comes_to q.comes_to in
    let lists : handed_over n p.c before ≡ handed_over k q.c before = rw (p.answers, q.answers) same.1 in
    let clamps : after n (all_sides p.cs) sides ≡ after k (all_sides q.cs) sides = rw (p.answers, q.answers) same.2 in
    let degrees : placed n p.m held.0 ≡ placed k q.m held.0 = rw (p.answers, q.answers) (same.3 held.0) in
    let points : placed n (length p.c.xs) held.1 ≡ placed k (length q.c.xs) held.1 = rw (p.answers, q.answers) (same.4 held.1) in
    let radii : placed n p.radius held.2 ≡ placed k q.radius held.2 = rw (p.answers, q.answers) (same.5 held.2) in
    let counts : placed n (length p.cs) held.3 ≡ placed k (length q.cs) held.3 = rw (p.answers, q.answers) (same.6 held.3) in
    let place : place_or p.verdict held.4 ≡ place_or q.verdict held.4 = ap (λ (v : Verdict). place_or v held.4) same.0 in (
      p.answers ∙ ap number_of same.0 ∙ sym q.answers,
      both-same now then (p.hands ∙ lists ∙ sym q.hands) (p.clamps_now ∙ clamps ∙ sym q.clamps_now),
      p.places ∙ (rw (degrees, points, radii, counts, place)) ∙ sym q.places,
    )

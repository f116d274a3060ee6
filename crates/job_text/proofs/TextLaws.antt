-- What the program puts is the text of its input: for any bytes, whatever the reader answers and leaves in the lists.
use mathlib.Core.Bool.{Bool, true, false, false≢true}
use mathlib.Core.List.{List}
use mathlib.Core.Path.{◌≡◌, refl, sym, ◌∙◌, ap}
use Prim.Native.Nat.{ℕ}
use lib.Dec.{eqb}
use lib.IntN.{ℤ}
use lib.ListN.{length}
use borrow.Author.Tests.{le-leb, eqb-true, eq-eqb}
use Rattle.refusal.specs.Numbers.{accepted}
use Rattle.lent.specs.Lent.{after}
use Rattle.curve.specs.Lists.{Lists}
use Rattle.curve.specs.HandingOver.{handed_over}
use Rattle.format.specs.Format.{form1}
use Rattle.fault.specs.Verdict.{Verdict, judged, broken, number_of}
use Rattle.clamps.specs.Clamp.{Clamp, all_sides}
use Rattle.job.specs.JobFormat.{StorableJob}
use Rattle.job.specs.JobReading as reading
use Rattle.job.specs.JobReading.{job_number, JobAnswers, JobComesTo}
use Rattle.job.specs.declared.Job.{Job}
use Rattle.stored_check.specs.Told.{Tells}
use Rattle.stored_check.proofs.ToldLaws.{judged_apart, judged_number, broken_number, tells_value}
use Rattle.taken_field.specs.declared.Failure.{Failure}
use Rattle.taken_field.specs.declared.Failure.TheVariants.{Broken, Refused}
use Rattle.std.specs.Prelude.{Result, Ok, Err}
use Rattle.refusal.specs.Answers.{number_of as refusal_number}
use Rattle.clamp_lines.specs.Places.{text_most}
use Rattle.report.specs.Part.{told, refused_part, broken_part, answer_part, part_put}
use Rattle.job_text.specs.Text as text
use Rattle.job_text.specs.Text.{text_number, part_of, PartOf}
use Rattle.job_text.specs.Program.{Places, PartsAreTheText, WrittenIsText}
use Rattle.job_text.proofs.ReadLaws.{job_read}
use Rattle.job_text.proofs.RoomLaws.{number_same}

-- the part of an answer that refuses, and of one that tells where bytes break
refused-answer : (number k : ℕ) (job : Job) (answer : Result Job Failure) (now : Lists) (sides : List ℤ) → eqb number accepted ≡ false → Tells (judged number) job answer
    → answer_part (told answer) now sides k ≡ refused_part number k
refused-answer number k job (Ok x) now sides e h = absurd (false≢true (sym e ∙ eq-eqb number accepted (sym (judged_number accepted number h.0))))
refused-answer number k job (Err (Refused r)) now sides e h = rw (judged_number (refusal_number r) number h.0)
refused-answer number k job (Err (Broken b)) now sides e h = absurd (judged_apart number (refusal_number b.refusal) b.place (sym h.0))

broken-answer : (number place k : ℕ) (job : Job) (answer : Result Job Failure) (now : Lists) (sides : List ℤ) → Tells (broken number place) job answer
    → answer_part (told answer) now sides k ≡ broken_part number place k
broken-answer number place k job (Ok x) now sides h = absurd (judged_apart accepted number place h.0)
broken-answer number place k job (Err (Refused r)) now sides h = absurd (judged_apart (refusal_number r) number place h.0)
broken-answer number place k job (Err (Broken b)) now sides h = let same = broken_number (refusal_number b.refusal) number b.place place h.0 in rw (same.0, same.1)

-- the part of a job, by its number
module _ (m : ℕ) (c : Lists) (radius : ℕ) (cs : List Clamp) (before : Lists) (sides_before : List ℤ) (k : ℕ) (few : StorableJob form1 m c radius cs) where
  job-part : (number : ℕ) → number ≡ text_number m c radius cs → (answer : Result Job Failure) → JobAnswers (judged number) m (length c.xs) radius (length cs) answer
      → answer_part (told answer) (handed_over number c before) (after number (all_sides cs) sides_before) k ≡ part_of m c radius cs k
  unfolding part_of
  job-part number e answer says = by (eqb number accepted) refl
    where
      by : (t : Bool) → eqb number accepted ≡ t → answer_part (told answer) (handed_over number c before) (after number (all_sides cs) sides_before) k ≡ part_of m c radius cs k
      by true z =
          let none : number ≡ 0 = eqb-true number accepted z in
          let text-none : text_number m c radius cs ≡ 0 = sym e ∙ none in
          rw (tells_value (judged number) _ answer says (ap judged none), none, text-none) (job_read m c radius cs before sides_before few.few text-none k)
      by false z = refused-answer number k _ answer _ _ z says ∙ rw (sym e, z)

from-cases : (bytes : List ℕ) (before : Lists) (sides_before : List ℤ) (k : ℕ) → Places before sides_before
    → (verdict : Verdict) (m : ℕ) (c : Lists) (radius : ℕ) (cs : List Clamp) (answer : Result Job Failure) → JobComesTo bytes before (length sides_before) verdict m c radius cs
    → JobAnswers verdict m (length c.xs) radius (length cs) answer
    → PartOf bytes k (answer_part (told answer) (handed_over (number_of verdict) c before) (after (number_of verdict) (all_sides cs) sides_before) k)
from-cases bytes before sides_before k p verdict m c radius cs answer (reading.is_job w) says =
    text.is_job w (job-part w.m w.c w.radius w.cs before sides_before k w.storable (job_number w.m w.c w.radius w.cs before (length sides_before)) (number_same w.m w.c w.radius w.cs before sides_before w.storable p) answer says)
from-cases bytes before sides_before k p verdict m c radius cs answer (reading.is_broken fault n d reach ds) says = text.is_broken fault (broken-answer _ _ k _ answer _ _ says)

pub parts-are-the-text : PartsAreTheText
parts-are-the-text bytes answer now sides k places r room =
    let h = r.read in
    rw (le-leb text_most places room, h.hands, h.clamps_now)
    (from-cases bytes r.before r.sides_before k r.places h.verdict h.m h.c h.radius h.cs answer h.comes_to h.answers)

pub written-is-text : WrittenIsText
written-is-text bytes answer now sides places r room =
    record { part = λ k. part_put (told answer) now sides k places; each = λ k. parts-are-the-text bytes answer now sides k places r room; whole = refl }

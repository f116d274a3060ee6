-- Jobs: reading gives the lists back, has one outcome, and no job is long.
use Rattle.std.specs.Prelude.{Result}
use mathlib.Core.List.{List}
use mathlib.Core.Logic.{◌↔◌}
use mathlib.Core.Path.{◌≡◌, refl, sym, ap₂, ◌∙◌, subst₂}
use Prim.Native.Nat.{ℕ, ◌≤◌}
use native.Mathlib.Omega.{arith}
use lib.Dec.{lit≤}
use lib.IntN.{ℤ}
use lib.ListN.{length}
use Rattle.lent.specs.Lent.{after}
use Rattle.refusal.specs.Numbers.{radius_refused, rectangle_refused, room_refused}
use Rattle.refusal.proofs.JudgingLaws.{unless-all}
use Rattle.curve.specs.HandingOver.{handed_over}
use Rattle.curve.specs.Lists.{Lists}
use Rattle.grid.specs.Rows.{radius_ok}
use Rattle.format.specs.Format.{form1}
use Rattle.lent.proofs.SentenceLaws.{refusal-leaves-list}
use Rattle.curve.proofs.HandingLaws.{handed_over-refused}
use Rattle.fault.specs.Fault.{Fault}
use Rattle.fault.specs.Verdict.{Verdict, broken, number_of}
use Rattle.taken_field.specs.declared.Failure.{Failure}
use Rattle.stored_check.proofs.ToldLaws.{judged_apart, broken_number, tells_one, tells_other}
use Rattle.fault.proofs.OneFaultLaws.{one-fault, file-no-fault, fault-above, fault-refuses}
use Rattle.job.proofs.JobFaultLaws.{job-most}
use Rattle.job.proofs.OneJobLaws.{one-job}
use Rattle.clamps.specs.Clamp.{Clamp, clamps_ok, all_sides}
use Rattle.job.specs.JobFormat.{job_bytes, IsJob, jobs}
use Rattle.job.specs.JobReading.{job_room_for, job_number, JobAnswers, JobComesTo, is_job, is_broken}
use Rattle.job.specs.declared.Job.{Job}
use Rattle.round_trip.specs.RoundTrip.{JobsShort, JobReadsBack, JobFaultsExactly, JobReadingDetermined}
use Rattle.round_trip.proofs.AnswerLaws.{checked_then-all}

-- whatever bytes come to, the answer and the lists are one
one-outcome : (sides : List ℤ) {bytes : List ℕ} {before : Lists} {s t : Verdict} {m d : ℕ} {c e : Lists} {radius reach : ℕ} {cs es : List Clamp}
    → JobComesTo bytes before (length sides) s m c radius cs → JobComesTo bytes before (length sides) t d e reach es
    → ((a : Result Job Failure) → JobAnswers s m (length c.xs) radius (length cs) a → JobAnswers t d (length e.xs) reach (length es) a)
    × (handed_over (number_of s) c before ≡ handed_over (number_of t) e before)
    × (after (number_of s) (all_sides cs) sides ≡ after (number_of t) (all_sides es) sides)
one-outcome sides (is_job w) (is_job v) = let same = one-job w v in
    (rw (same.degree, same.curve, same.radius, same.clamps) (λ a h. h), rw (same.degree, same.curve, same.radius, same.clamps), rw (same.degree, same.curve, same.radius, same.clamps))
one-outcome sides {bytes = bytes} (is_job w) (is_broken g d e reach es) = absurd (file-no-fault jobs bytes g w)
one-outcome sides {bytes = bytes} (is_broken f m c radius cs) (is_job v) = absurd (file-no-fault jobs bytes f v)
one-outcome sides {bytes = bytes} {before = before} (is_broken {number = n} {place = p} f m c radius cs) (is_broken {number = k} {place = q} g d e reach es) =
    let same = one-fault jobs bytes f g in
    let left = fault-refuses jobs bytes f in
    let right = fault-refuses jobs bytes g in (
      λ a h. tells_other (broken k q) _ a (λ z. judged_apart 0 k q (sym z)) (h.0 ∙ ap₂ broken same.0 same.1),
      handed_over-refused n c before left ∙ sym (handed_over-refused k e before right),
      refusal-leaves-list ℤ n (all_sides cs) sides (fault-above jobs bytes f) ∙ sym (refusal-leaves-list ℤ k (all_sides es) sides (fault-above jobs bytes g)),
    )

pub job-reading-determined : JobReadingDetermined
job-reading-determined bytes before sides_before answer other now then sides_now sides_then p q =
    let same = one-outcome sides_before p.comes_to q.comes_to in
    (tells_one q.verdict _ answer other (same.0 answer p.answers) q.answers, p.hands ∙ same.1 ∙ sym q.hands, p.clamps_now ∙ same.2 ∙ sym q.clamps_now)

pub job-reads-back : JobReadsBack
job-reads-back m c radius cs s before sides_before answer now sides_now read =
    let w : IsJob form1 (job_bytes form1 m c radius cs) = record { m = m; c = c; radius = radius; cs = cs; storable = s; same = refl } in
    let same = one-outcome sides_before read.comes_to (is_job w) in
    let told = same.0 answer read.answers in
    (told, λ other says. tells_one _ _ other answer says told, read.hands ∙ same.1, read.clamps_now ∙ same.2)

-- what holds of 0 to 15 and of 22 holds of a job's number
pub number-all : (P : ℕ → Type 0) → ((n : ℕ) → n ≤ room_refused → P n) → P radius_refused → (m : ℕ) (c : Lists) (radius : ℕ) (cs : List Clamp) (before : Lists) (places : ℕ)
    → P (job_number m c radius cs before places)
unfolding job_number
number-all P low wide m c radius cs before places =
    checked_then-all m c.knots c.xs c.ys _ P (λ n h. low n (omega arith))
    (unless-all P (radius_ok radius) radius_refused _ wide
    (unless-all P (clamps_ok cs) rectangle_refused _ (low rectangle_refused (lit≤ tt))
    (unless-all P (job_room_for c cs before places) room_refused 0 (low room_refused (lit≤ tt)) (low 0 (lit≤ tt)))))

faults-by : {bytes : List ℕ} {before : Lists} {places : ℕ} {verdict : Verdict} {m : ℕ} {c : Lists} {radius : ℕ} {cs : List Clamp} (number place : ℕ)
    → JobComesTo bytes before places verdict m c radius cs → (verdict ≡ broken number place) ↔ Fault jobs bytes number place
faults-by {bytes = bytes} number place (is_broken {number = n} {place = p} f m c radius cs) = (
  λ e. let same = broken_number n number p place e in subst₂ (Fault jobs bytes) same.0 same.1 f,
  λ g. let same = one-fault jobs bytes f g in ap₂ broken same.0 same.1,
)
faults-by {bytes = bytes} {before = before} {places = places} number place (is_job w) = (
  λ e. absurd (judged_apart (job_number w.m w.c w.radius w.cs before places) number place e),
  λ g. absurd (file-no-fault jobs bytes g w),
)

pub job-faults-exactly : JobFaultsExactly
job-faults-exactly bytes before sides_before answer now sides_now number place read =
    let by = faults-by number place read.comes_to in
    (λ e. by.0 (sym read.answers.0 ∙ e), λ g. read.answers.0 ∙ by.1 g)

pub jobs-short : JobsShort
jobs-short = job-most

-- Bytes have one text.
use mathlib.Core.List.{List, ◌++◌, append-nil}
use mathlib.Core.Path.{◌≡◌, refl, sym, ◌∙◌, ap₂}
use Prim.Native.Nat.{ℕ, zero, suc, ◌+◌, ◌≤◌}
use borrow.Author.Tests.{le-leb}
use Rattle.grid.specs.Limits.{clamps_most, job_most}
use Rattle.lines.specs.Lines.{broken_line}
use Rattle.report.specs.Part.{broken_part}
use Rattle.job.proofs.JobFaultLaws.{job-fault-most}
use Rattle.job.proofs.OneJobLaws.{one-job}
use Rattle.format.specs.Format.{form1}
use Rattle.fault.proofs.OneFaultLaws.{one-fault, file-no-fault}
use Rattle.job.specs.JobFormat.{IsJob, jobs}
use Rattle.job_text.specs.Text.{part_of, PartOf, is_job, is_broken, joined, TextOf}
use Rattle.job_text.specs.Program.{BrokenIsOneLine, OneText}

-- a job has one part k
same-part : (bytes : List ℕ) (k : ℕ) (w v : IsJob form1 bytes) → part_of w.m w.c w.radius w.cs k ≡ part_of v.m v.c v.radius v.cs k
same-part bytes k w v = let same = one-job w v in rw (same.degree, same.curve, same.radius, same.clamps)

part-unique : (bytes : List ℕ) (k : ℕ) (a b : List ℕ) → PartOf bytes k a → PartOf bytes k b → a ≡ b
part-unique bytes k a b (is_job w e) (is_job v f) = e ∙ same-part bytes k w v ∙ sym f
part-unique bytes k a b (is_job w e) (is_broken fault f) = absurd (file-no-fault jobs bytes fault w)
part-unique bytes k a b (is_broken fault e) (is_job v f) = absurd (file-no-fault jobs bytes fault v)
part-unique bytes k a b (is_broken fault e) (is_broken other f) = let same = one-fault jobs bytes fault other in e ∙ rw (same.0, same.1) (sym f)

-- equal parts, equal rows of parts
joined_same : (a b : ℕ → List ℕ) → ((k : ℕ) → a k ≡ b k) → (n : ℕ) → joined a n ≡ joined b n
unfolding joined
joined_same a b h zero = refl
joined_same a b h (suc n) = ap₂ (λ (l r : List ℕ). l ++ r) (joined_same a b h n) (h n)

text-unique : (bytes a b : List ℕ) → TextOf bytes a → TextOf bytes b → a ≡ b
text-unique bytes a b s t =
    s.whole
    ∙ joined_same s.part t.part (λ k. part-unique bytes k (s.part k) (t.part k) (s.each k) (t.each k)) (clamps_most + 1)
    ∙ sym t.whole

pub one-text : OneText
one-text = (part-unique, text-unique)

-- the first part of broken bytes is their line, and the others are empty
broken-joined : (number place : ℕ) → place ≤ job_most → (n : ℕ) → joined (broken_part number place) (suc n) ≡ broken_line number place
unfolding joined broken_part
broken-joined number place near zero = rw (le-leb place job_most near)
broken-joined number place near (suc n) = append-nil (joined (broken_part number place) (suc n)) ∙ broken-joined number place near n

pub broken-is-one-line : BrokenIsOneLine
broken-is-one-line bytes text number place fault t =
    text-unique bytes text (broken_line number place) t
    (record {
      part = broken_part number place;
      each = λ k. is_broken fault refl;
      whole = sym (broken-joined number place (job-fault-most bytes fault) clamps_most);
    })

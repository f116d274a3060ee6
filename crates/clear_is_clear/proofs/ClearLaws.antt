-- "Clear" is clear, and a clamp that is not told to be clear has its spans listed.
use mathlib.Core.Bool.{Bool, true, false}
use mathlib.Core.List.{List, [], ◌++◌}
use mathlib.Core.Path.{◌≡◌, refl, sym, ◌∙◌, ap}
use Prim.Native.Nat.{ℕ, zero, suc, ◌+◌, ◌<◌}
use native.Mathlib.Omega.{arith}
use lib.Dec.{ltb}
use lib.ListN.{length, get_or}
use borrow.Author.Tests.{ltb-true, ltb-false}
use Rattle.curve.specs.Lists.{Lists}
use Rattle.grid.specs.Limits.{clamps_most}
use Rattle.grid.proofs.SizeLaws.{sizes-of-passes}
use Rattle.span_walk.specs.SpanLists.{span_lists}
use Rattle.spans_met.proofs.AnswerLaws.{number-none}
use Rattle.spans_met_exact.proofs.CrossingLaws.{every-cut-reported}
use Rattle.lines.specs.Lines.{clear_line}
use Rattle.clamp_lines.proofs.CountLaws.{span_count-most}
use Rattle.format.specs.Format.{form1}
use Rattle.clamps.specs.Clamp.{Clamp, no_clamp}
use Rattle.job.specs.JobFormat.{IsJob}
use Rattle.job_text.specs.Text.{rectangle_of, part_of, PartOf, is_job, joined, TextOf}
use Rattle.job_text.proofs.ClampLaws.{clamp-passes}
use Rattle.job_text.proofs.ReadLaws.{all_pass}
use Rattle.job_text.proofs.UniqueLaws.{one-text}
use Rattle.clear_is_clear.specs.Clear.{lines_of, Among, first, Avoids, clamp_of, ClearIsClear, ListsSpans, Tells, clear, met, EveryClampTold, ElseListed}
use Rattle.clear_is_clear.proofs.SplitLaws.{Whole, whole-none, whole-both, Either, in_first, in_second, among-either, among_first, among_second}
use Rattle.clear_is_clear.proofs.LineLaws.{line-lines, clear-is-line}
use Rattle.clear_is_clear.proofs.PartLaws.{among_none, ToldClear, part-there, part-whole, part-clear, lines-tell}

-- parts of whole lines in a row: a line of them is a line of one, and back
module _ (part : ℕ → List ℕ) (whole : (k : ℕ) → Whole (part k)) where
  row-whole : (n : ℕ) → Whole (joined part n)
  unfolding joined
  row-whole zero = whole-none
  row-whole (suc n) = whole-both (joined part n) (part n) (row-whole n) (whole n)

  pub record InPart (line : List ℕ) : Type 0 where
    pub number : ℕ
    pub stands : Among line (lines_of (part number))

  in-part : (n : ℕ) (line : List ℕ) → Among line (lines_of (joined part n)) → InPart line
  unfolding joined
  in-part zero line h = absurd (among_none line h)
  in-part (suc n) line h = by (in-part n line) (among-either line (lines_of (joined part n)) (lines_of (part n)) (rw (row-whole n (part n)) at h))
    where
      by : (Among line (lines_of (joined part n)) → InPart line) → Either (Among line (lines_of (joined part n))) (Among line (lines_of (part n))) → InPart line
      by before (in_first g) = before g
      by before (in_second g) = record { number = n; stands = g }

  in_row : (n k : ℕ) (line : List ℕ) → k < n → Among line (lines_of (part k)) → Among line (lines_of (joined part n))
  unfolding joined
  in_row zero k line h g = absurd (omega arith)
  in_row (suc n) k line h g =
      rw (row-whole n (part n)) (by (λ (earlier : k < n). in_row n k line earlier g) (ltb k n) refl)
    where
      by : (k < n → Among line (lines_of (joined part n))) → (t : Bool) → ltb k n ≡ t → Among line (lines_of (joined part n) ++ lines_of (part n))
      by before true e = among_first line (lines_of (joined part n)) (lines_of (part n)) (before (ltb-true k n e))
      by before false e =
          let same : k ≡ n = omega (arith, ltb-false k n e, h) in
          among_second line (lines_of (joined part n)) (lines_of (part n)) (rw same at g)

-- a clamp that the cutter may meet on no span is avoided on the exact curve
avoided : (m : ℕ) (c : Lists) (radius : ℕ) (cs : List Clamp) (k : ℕ) → ToldClear m c radius cs k → Avoids m c radius (rectangle_of (get_or cs k no_clamp))
avoided m c radius cs k t p q positive inside reached =
    let passed = all_pass m c radius cs t.none in
    let size = sizes-of-passes m c.knots c.xs c.ys passed.curve in
    let clamp = rectangle_of (get_or cs k no_clamp) in
    let few = span_count-most m c.knots (length c.xs) in
    let none =
    number-none m c.knots c.xs c.ys clamp radius (length c.knots) (length c.knots) passed.curve passed.short (clamp-passes cs k passed.upright t.there) (omega (arith, few, size.knots)) (omega (arith, few, size.knots)) in
    let reported = every-cut-reported m c.knots c.xs c.ys clamp radius (span_lists c.knots c.knots) p q none positive inside reached in
    omega (arith, reported.1.listed, ap length t.free)

-- the parts of the text of a job
module _ (bytes : List ℕ) (w : IsJob form1 bytes) where
  part_same : (k : ℕ) (part : List ℕ) → PartOf bytes k part → part ≡ part_of w.m w.c w.radius w.cs k
  part_same k part h = one-text.0 bytes k part (part_of w.m w.c w.radius w.cs k) h (is_job w refl)

  text_same : (text : List ℕ) → TextOf bytes text → text ≡ joined (part_of w.m w.c w.radius w.cs) (clamps_most + 1)
  text_same text s =
      one-text.1 bytes text (joined (part_of w.m w.c w.radius w.cs) (clamps_most + 1)) s
      (record { part = part_of w.m w.c w.radius w.cs; each = λ k. is_job w refl; whole = refl })

pub clear-is-clear : ClearIsClear
clear-is-clear bytes text w k s h =
    let part = part_of w.m w.c w.radius w.cs in
    let found = in-part part (part-whole w.m w.c w.radius w.cs) (clamps_most + 1) (clear_line (suc k)) (rw (text_same bytes w text s) at h) in
    let told = (part-clear w.m w.c w.radius w.cs found.number k found.stands).1 in
    (told.there, avoided w.m w.c w.radius w.cs k told)

pub every-clamp-told : EveryClampTold
every-clamp-told bytes w k part none there h =
    rw (part_same bytes w (suc k) part h, part-there w.m w.c w.radius w.cs k none there) (lines-tell w.m w.c w.radius (suc k) (clamp_of w k))

pub else-listed : ElseListed
else-listed bytes text w k part none there s h not = by (every-clamp-told bytes w k part none there h)
  where
    by : Tells w.m w.c w.radius (suc k) (clamp_of w k) part → ListsSpans w.m w.c w.radius (suc k) (clamp_of w k) part
    by (clear e f) =
        let stands : Among (clear_line (suc k)) (lines_of (part_of w.m w.c w.radius w.cs (suc k))) =
        rw (sym (part_same bytes w (suc k) part h) ∙ f, line-lines (clear-is-line (suc k))) (first []) in
        absurd (not (rw (text_same bytes w text s) (in_row (part_of w.m w.c w.radius w.cs) (part-whole w.m w.c w.radius w.cs) (clamps_most + 1) (suc k) (clear_line (suc k)) (omega (arith, there, w.storable.few)) stands)))
    by (met listed) = listed

-- The lines of each part of the text of a job: "clamp K clear" stands in part K alone, and there only where no span may meet the clamp.
use Rattle.clear_is_clear.specs.Clear.{later}
use mathlib.Core.Bool.{Bool, true, false, cond}
use mathlib.Core.List.{List, [], ◌∷◌, append-nil}
use mathlib.Core.Path.{◌≡◌, refl, sym, ◌∙◌, ap}
use Prim.Native.Nat.{ℕ, zero, suc, ◌<◌}
use native.Mathlib.Omega.{arith}
use lib.Dec.{eqb, ltb}
use lib.ListN.{length, get_or, length-map}
use borrow.Author.Tests.{eqb-true, ltb-true, lt-ltb}
use Rattle.refusal.specs.Numbers.{accepted}
use Rattle.curve.specs.Lists.{Lists}
use Rattle.boxes.specs.Widening.{widened}
use Rattle.boxes.specs.declared.Rectangle.{Rectangle}
use Rattle.span_walk.specs.SpansMet.{spans_met, low_knots}
use Rattle.lines.specs.Lines.{meet_line, clear_line, meet_lines}
use Rattle.lines.proofs.LinesLaws.{clamp_text-clear, clamp_text-lines}
use Rattle.clamp_lines.specs.ClampPart.{clamp_lines}
use Rattle.report.specs.Part.{refused_part}
use Rattle.clamps.specs.Clamp.{Clamp, no_clamp}
use Rattle.job_text.specs.Text.{rectangle_of, accepted_part, text_number, part_of}
use Rattle.clear_is_clear.specs.Clear.{lines_of, Among, first, Tells, clear, met}
use Rattle.clear_is_clear.proofs.SplitLaws.{Whole, whole-none, whole-both, Either, in_first, in_second, among-either}
use Rattle.clear_is_clear.proofs.LineLaws.{IsLine, line-whole, line-lines, curve-is-line, meet-is-line, refused-is-line, clear-is-line, clear-once, meet-not-clear, curve-not-clear, refused-not-clear}

-- the only one of one line
among_one : (line other : List ℕ) → Among line (other ∷ []) → other ≡ line
among_one line other (first rest) = refl
among_one line other (later _ _ x3) = elim x3 [ ]

-- the one line of a text that is a line
among-line : {text line : List ℕ} → IsLine text → Among line (lines_of text) → text ≡ line
among-line {text} {line} w h = among_one line text (rw (line-lines w) at h)

-- no line of no text
pub among_none : (line : List ℕ) → Among line (lines_of []) → ⊥
unfolding lines_of
among_none line h = none [] refl h
  where
    none : (ls : List (List ℕ)) → ls ≡ [] → Among line ls → ⊥
    none (x ∷ ls) e g = let z : ◌≡◌ {A = ℕ} (length (x ∷ ls)) 0 = ap length e in omega (arith, z)
    none [] e g = elim g [ ]

-- the lines on spans are whole, and none of them says that a clamp is clear
meet_lines-whole : (k : ℕ) (lows highs : List ℕ) → Whole (meet_lines k lows highs)
unfolding meet_lines
meet_lines-whole k [] highs = whole-none
meet_lines-whole k (low ∷ lows) [] = whole-none
meet_lines-whole k (low ∷ lows) (high ∷ highs) =
    whole-both (meet_line k low high) (meet_lines k lows highs) (line-whole (meet-is-line k low high)) (meet_lines-whole k lows highs)

meet_lines-not-clear : (k j : ℕ) (lows highs : List ℕ) → Among (clear_line k) (lines_of (meet_lines j lows highs)) → ⊥
unfolding meet_lines
meet_lines-not-clear k j [] highs h = among_none (clear_line k) h
meet_lines-not-clear k j (low ∷ lows) [] h = among_none (clear_line k) h
meet_lines-not-clear k j (low ∷ lows) (high ∷ highs) h =
    by (meet_lines-not-clear k j lows highs) (among-either (clear_line k) (lines_of (meet_line j low high)) (lines_of (meet_lines j lows highs)) (rw (line-whole (meet-is-line j low high) (meet_lines j lows highs)) at h))
  where
    by : (Among (clear_line k) (lines_of (meet_lines j lows highs)) → ⊥) → Either (Among (clear_line k) (lines_of (meet_line j low high))) (Among (clear_line k) (lines_of (meet_lines j lows highs))) → ⊥
    by not (in_first g) = meet-not-clear j low high [] k (append-nil (meet_line j low high) ∙ among-line (meet-is-line j low high) g)
    by not (in_second g) = not g

-- as many low knots as spans
low_knots-many : (ts spans : List ℕ) → length (low_knots ts spans) ≡ length spans
unfolding low_knots
low_knots-many ts spans = length-map spans _

-- all lines on a clamp
pub lines-tell : (m : ℕ) (c : Lists) (radius number : ℕ) (clamp : Rectangle) → Tells m c radius number clamp (clamp_lines m c radius number clamp)
lines-tell m c radius number clamp = by (spans_met (widened radius clamp) m c.knots c.xs c.ys) refl
  where
    lows-many : length (low_knots c.knots (spans_met (widened radius clamp) m c.knots c.xs c.ys)) ≡ length (spans_met (widened radius clamp) m c.knots c.xs c.ys)
    lows-many = low_knots-many c.knots (spans_met (widened radius clamp) m c.knots c.xs c.ys)

    by : (spans : List ℕ) → spans_met (widened radius clamp) m c.knots c.xs c.ys ≡ spans → Tells m c radius number clamp (clamp_lines m c radius number clamp)
    by [] e = clear e (clamp_text-clear number _ _ (lows-many ∙ ap length e))
    by (i ∷ spans) e = met (record { some = omega (arith, ap length e); lines = clamp_text-lines number _ _ (omega (arith, lows-many, ap length e)) })

tells-whole : {m : ℕ} {c : Lists} {radius number : ℕ} {clamp : Rectangle} {part : List ℕ} → Tells m c radius number clamp part → Whole part
tells-whole {m} {c} {radius} {number} {clamp} {part} (clear e f) = rw f (line-whole (clear-is-line number))
tells-whole {m} {c} {radius} {number} {clamp} {part} (met s) = rw s.lines (meet_lines-whole number _ _)

tells-clear : {m : ℕ} {c : Lists} {radius number : ℕ} {clamp : Rectangle} {part : List ℕ} (k : ℕ) → Tells m c radius number clamp part → Among (clear_line k) (lines_of part)
    → (number ≡ k) × (spans_met (widened radius clamp) m c.knots c.xs c.ys ≡ [])
tells-clear {m} {c} {radius} {number} {clamp} {part} k (clear e f) h = (clear-once number k (among-line (clear-is-line number) (rw f at h)), e)
tells-clear {m} {c} {radius} {number} {clamp} {part} k (met s) h = absurd (meet_lines-not-clear k number _ _ (rw s.lines at h))

module _ (m : ℕ) (c : Lists) (radius : ℕ) (cs : List Clamp) where
  -- clamp k of the job is told to be clear: nothing is refused, it is there, and no span may meet it
  pub record ToldClear (k : ℕ) : Type 0 where
    pub none : text_number m c radius cs ≡ 0
    pub there : k < length cs
    pub free : spans_met (widened radius (rectangle_of (get_or cs k no_clamp))) m c.knots c.xs c.ys ≡ []

  -- the part of a clamp that is there
  pub part-there : (k : ℕ) → text_number m c radius cs ≡ 0 → k < length cs → part_of m c radius cs (suc k) ≡ clamp_lines m c radius (suc k) (rectangle_of (get_or cs k no_clamp))
  unfolding part_of accepted_part
  part-there k none h = rw (none, lt-ltb k (length cs) h)

  accepted-whole : (n : ℕ) → Whole (accepted_part m c radius cs n)
  unfolding accepted_part
  accepted-whole zero = line-whole (curve-is-line m (length c.xs) _)
  accepted-whole (suc k) = by (ltb k (length cs))
    where
      by : (t : Bool) → Whole (cond t (clamp_lines m c radius (suc k) (rectangle_of (get_or cs k no_clamp))) [])
      by true = tells-whole (lines-tell m c radius (suc k) (rectangle_of (get_or cs k no_clamp)))
      by false = whole-none

  refused-whole : (number n : ℕ) → Whole (refused_part number n)
  unfolding refused_part
  refused-whole number zero = line-whole (refused-is-line number)
  refused-whole number (suc k) = whole-none

  -- every part is whole lines
  pub part-whole : (n : ℕ) → Whole (part_of m c radius cs n)
  unfolding part_of
  part-whole n = by (eqb (text_number m c radius cs) accepted)
    where
      by : (t : Bool) → Whole (cond t (accepted_part m c radius cs n) (refused_part (text_number m c radius cs) n))
      by true = accepted-whole n
      by false = refused-whole (text_number m c radius cs) n

  refused-clear : (number n k : ℕ) → Among (clear_line k) (lines_of (refused_part number n)) → ⊥
  unfolding refused_part
  refused-clear number zero k h = refused-not-clear number k (among-line (refused-is-line number) h)
  refused-clear number (suc n) k h = among_none (clear_line k) h

  accepted-clear : (n k : ℕ) → text_number m c radius cs ≡ 0 → Among (clear_line (suc k)) (lines_of (accepted_part m c radius cs n)) → (n ≡ suc k) × ToldClear k
  unfolding accepted_part
  accepted-clear zero k none h = absurd (curve-not-clear m (length c.xs) _ (suc k) (among-line (curve-is-line m (length c.xs) _) h))
  accepted-clear (suc j) k none h = by (ltb j (length cs)) refl h
    where
      by : (t : Bool) → ltb j (length cs) ≡ t → Among (clear_line (suc k)) (lines_of (cond t (clamp_lines m c radius (suc j) (rectangle_of (get_or cs j no_clamp))) []))
          → (suc j ≡ suc k) × ToldClear k
      by true e g =
          let told = tells-clear (suc k) (lines-tell m c radius (suc j) (rectangle_of (get_or cs j no_clamp))) g in
          let same : j ≡ k = omega (arith, told.0) in
          (told.0, rw (sym same) (record { none = none; there = ltb-true j (length cs) e; free = told.1 }))
      by false e g = absurd (among_none (clear_line (suc k)) g)

  -- "clamp K clear" in a part
  pub part-clear : (n k : ℕ) → Among (clear_line (suc k)) (lines_of (part_of m c radius cs n)) → (n ≡ suc k) × ToldClear k
  unfolding part_of
  part-clear n k h = by (eqb (text_number m c radius cs) accepted) refl h
    where
      by : (t : Bool) → eqb (text_number m c radius cs) accepted ≡ t → Among (clear_line (suc k)) (lines_of (cond t (accepted_part m c radius cs n) (refused_part (text_number m c radius cs) n)))
          → (n ≡ suc k) × ToldClear k
      by true e g = accepted-clear n k (eqb-true (text_number m c radius cs) accepted e) g
      by false e g = absurd (refused-clear (text_number m c radius cs) n (suc k) g)

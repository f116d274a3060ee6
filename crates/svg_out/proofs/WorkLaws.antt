-- The work lists after clamping a curve into them: they have room for any copy, so the answer goes by row 11 alone, and the copy stands at their fronts.
use mathlib.Core.Bool.{Bool, true, false}
use mathlib.Core.List.{List}
use mathlib.Core.Path.{◌≡◌, refl, sym, ap, subst, ◌∙◌}
use Prim.Native.Nat.{ℕ, ◌+◌, ◌≤◌}
use native.Mathlib.Omega.{arith}
use lib.ListN.{length, take}
use Rattle.refusal.specs.Judging.{unless}
use Rattle.std.specs.Prelude.{Result, Ok, Err}
use Rattle.refusal.specs.Numbers.{accepted, not_whole_refused}
use Rattle.refusal.specs.declared.Refusal.{Refusal}
use Rattle.refusal.proofs.AnswerLaws.{refused-above_zero}
use Rattle.lent.specs.Lent.{over}
use Rattle.lent.proofs.OverLaws.{over-length, over-result}
use Rattle.curve.specs.Lists.{Lists, lists}
use Rattle.curve.specs.HandingOver.{room_number, handed_over}
use Rattle.curve.proofs.RoomLaws.{enough-all}
use Rattle.grid.specs.Check.{Passes}
use Rattle.grid.specs.Limits.{knots_most}
use Rattle.grid.specs.Sizes.{Sizes}
use Rattle.grid.proofs.SizeLaws.{sizes-of-passes}
use Rattle.grid.proofs.ThenLaws.{checked_then-passed}
use Rattle.checked.specs.Checked.{Clamped}
use Rattle.clamping.specs.Clamping.{clamped, clamps_whole, clamp_then, clamp_number}
use Rattle.clamping.specs.Sentences.{ClampedWell}
use Rattle.clamping.proofs.ClampedLaws.{clamped-passes}
use Rattle.clamp_ends.specs.Answer.{ClampOutcome}
use Rattle.svg_out.specs.Svg.{SvgOutcome}
use Rattle.svg_out.specs.Measure.{PiecesOutcome, Longest}
use Rattle.svg_out.proofs.CopyLaws.{clamping-refuses, copy-answers}

-- the first entries of a list that a result was written over
front-is : {A : Type 0} (n : ℕ) (result before now : List A) → n ≡ length result → now ≡ over result before → take n now ≡ result
front-is n result before now count e = rw (count, e) (over-result result before)

module _ (m : ℕ) (c before : Lists) (passes : Passes m c.knots c.xs c.ys) (long : Longest before) where
  abbrev copy : Lists
  copy = clamped m c

  abbrev well : ClampedWell m c (clamped m c)
  well = clamped-passes m c passes

  abbrev sizes : Sizes m (clamped m c).knots (clamped m c).xs (clamped m c).ys
  sizes = sizes-of-passes m copy.knots copy.xs copy.ys well.passes

  knots-fit : length copy.knots ≤ length before.knots
  knots-fit = omega (arith, sizes.knots, sizes.most, sizes.degree-most, long.0)

  xs-fit : length copy.xs ≤ length before.xs
  xs-fit = omega (arith, sizes.most, long.1)

  ys-fit : length copy.ys ≤ length before.ys
  ys-fit = omega (arith, sizes.most, sizes.as_many, long.2)

  room-there : room_number copy before ≡ accepted
  room-there = rw (enough-all (length copy.knots) (length copy.xs) (length copy.ys) (length before.knots) (length before.xs) (length before.ys) knots-fit xs-fit ys-fit)

  number_is : clamp_number m c before ≡ unless (clamps_whole m c) not_whole_refused accepted
  unfolding clamp_number clamp_then
  number_is = checked_then-passed m c.knots c.xs c.ys _ passes ∙ ap (unless (clamps_whole m c) not_whole_refused) room-there

  -- row 11 refuses
  module _ (refusal : Refusal) (now : Lists) (so : ClampOutcome m c before (Err refusal) now) where
    pub copy-refused : (out : List ℕ) → SvgOutcome m c out (Err refusal) out
    copy-refused out = by (clamps_whole m c) refl
      where
        by : (b : Bool) → clamps_whole m c ≡ b → SvgOutcome m c out (Err refusal) out
        by true whole =
            let zero : clamp_number m c before ≡ 0 = number_is ∙ rw whole in
            absurd (omega (arith, refused-above_zero refusal, so.answers.0 ∙ zero))
        by false broken =
            let eleven : clamp_number m c before ≡ not_whole_refused = number_is ∙ rw broken in
            clamping-refuses m c out passes refusal (so.answers.0 ∙ eleven) broken

  -- the copy is there
  module _ (points : ℕ) (now : Lists) (so : ClampOutcome m c before (Ok points) now) where
    copied : (clamps_whole m c ≡ true) × (points ≡ length copy.xs) × (now ≡ handed_over 0 copy before)
    copied = by (clamps_whole m c) refl
      where
        by : (b : Bool) → clamps_whole m c ≡ b → (clamps_whole m c ≡ true) × (points ≡ length copy.xs) × (now ≡ handed_over 0 copy before)
        by true whole =
            let zero : clamp_number m c before ≡ 0 = number_is ∙ rw whole in
            (whole, so.answers.1, so.hands ∙ rw zero)
        by false broken =
            let eleven : clamp_number m c before ≡ not_whole_refused = number_is ∙ rw broken in
            absurd (omega (arith, so.answers.0 ∙ eleven))

    abbrev front : Lists
    front = lists (take (points + m + 1) now.knots) (take points now.xs) (take points now.ys)

    front-copy : front ≡ copy
    front-copy =
        let count = copied.1 in
        let holds = copied.2 in
        rw (
          front-is (points + m + 1) copy.knots before.knots now.knots (omega (arith, count, sizes.knots)) (ap (λ (l : Lists). l.knots) holds),
          front-is points copy.xs before.xs now.xs count (ap (λ (l : Lists). l.xs) holds),
          front-is points copy.ys before.ys now.ys (omega (arith, count, sizes.as_many)) (ap (λ (l : Lists). l.ys) holds),
        )

    pub front-short : points + m + 1 ≤ knots_most
    front-short = omega (arith, copied.1, sizes.most, sizes.degree-most)

    -- it lies within the lists
    pub front-within : (points + m + 1 ≤ length now.knots) × (points ≤ length now.xs) × (points ≤ length now.ys)
    front-within =
        let count = copied.1 in
        let holds = copied.2 in (
          omega (arith, count, sizes.knots, knots-fit, over-length copy.knots before.knots knots-fit, ap (λ (l : Lists). length l.knots) holds),
          omega (arith, count, xs-fit, over-length copy.xs before.xs xs-fit, ap (λ (l : Lists). length l.xs) holds),
          omega (arith, count, sizes.as_many, ys-fit, over-length copy.ys before.ys ys-fit, ap (λ (l : Lists). length l.ys) holds),
        )

    -- it passes the check with clamped ends, and what is answered of it is the answer
    pub front-ready : Passes m front.knots front.xs front.ys × Clamped m front.knots (length front.xs)
    front-ready =
        subst (λ (l : Lists). Passes m l.knots l.xs l.ys × Clamped m l.knots (length l.xs)) (sym front-copy) (well.passes, well.clamped-ends)

    pub front-answers : (out : List ℕ) (answer : Result ℕ Refusal) (end : List ℕ) → PiecesOutcome m front out answer end → SvgOutcome m c out answer end
    front-answers out answer end said =
        copy-answers m c out passes answer end copied.0 (subst (λ (l : Lists). PiecesOutcome m l out answer end) front-copy said)

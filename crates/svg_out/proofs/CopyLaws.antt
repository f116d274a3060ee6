-- Writing path data over a clamped copy: what the call answers is what is answered of the copy, unless the check or row 11 refuses the curve.
use mathlib.Core.Bool.{true, false}
use mathlib.Core.List.{List}
use mathlib.Core.Path.{◌≡◌, sym, subst, ◌∙◌}
use Prim.Native.Nat.{ℕ}
use native.Mathlib.Omega.{arith}
use lib.ListN.{length}
use Rattle.refusal.specs.Judging.{unless}
use Rattle.std.specs.Prelude.{Result, Err}
use Rattle.refusal.specs.Numbers.{not_whole_refused}
use Rattle.refusal.specs.Answers.{number_of}
use Rattle.refusal.specs.declared.Refusal.{Refusal}
use Rattle.refusal.proofs.AnswerLaws.{refused-above_zero}
use Rattle.curve.specs.Lists.{Lists}
use Rattle.grid.specs.Check.{Passes, check_number}
use Rattle.grid.proofs.ThenLaws.{checked_then-refused, checked_then-passed}
use Rattle.checked.specs.Checked.{Clamped}
use Rattle.clamping.specs.Clamping.{clamped, clamps_whole, clamp_then}
use Rattle.clamping.proofs.StayLaws.{clamped-comes-back}
use Rattle.svg_out.specs.Svg.{svg_text, draw_then, svg_number, TextOutcome, SvgOutcome}
use Rattle.svg_out.specs.Measure.{pieces_number, PiecesOutcome}
use Rattle.svg_out.proofs.OutcomeLaws.{refused-by}

module _ (m : ℕ) (c : Lists) (out : List ℕ) where
  -- the check refuses
  pub check-refuses : (refusal : Refusal) → number_of refusal ≡ check_number m c.knots c.xs c.ys → SvgOutcome m c out (Err refusal) out
  unfolding svg_number draw_then clamp_then
  check-refuses refusal e =
      let above = refused-above_zero refusal in
      refused-by _ (svg_text m c) out refusal (checked_then-refused m c.knots c.xs c.ys _ (λ z. omega (arith, above, e, z)) ∙ sym e)

  module _ (passes : Passes m c.knots c.xs c.ys) where
    -- what is judged of a curve that passes: row 11, then the copy
    judged-copy : svg_number m c out ≡ unless (clamps_whole m c) not_whole_refused (pieces_number m (clamped m c) out)
    unfolding svg_number draw_then clamp_then
    judged-copy = checked_then-passed m c.knots c.xs c.ys _ passes

    -- a point of the clamped polygon is not whole
    pub clamping-refuses : (refusal : Refusal) → number_of refusal ≡ not_whole_refused → clamps_whole m c ≡ false → SvgOutcome m c out (Err refusal) out
    clamping-refuses refusal e broken = refused-by _ (svg_text m c) out refusal (judged-copy ∙ rw broken (sym e))

    -- what is answered of the copy
    module _ (answer : Result ℕ Refusal) (now : List ℕ) where
      pub copy-answers : clamps_whole m c ≡ true → PiecesOutcome m (clamped m c) out answer now → SvgOutcome m c out answer now
      copy-answers whole so =
          let same : svg_number m c out ≡ pieces_number m (clamped m c) out = judged-copy ∙ rw whole in
          subst (λ (n : ℕ). TextOutcome n (svg_text m c) out answer now) (sym same) so

      -- a curve with clamped ends is its own copy
      pub own-answers : Clamped m c.knots (length c.xs) → PiecesOutcome m c out answer now → SvgOutcome m c out answer now
      own-answers ends so =
          let back = clamped-comes-back m c passes ends in
          copy-answers back.0 (subst (λ (d : Lists). PiecesOutcome m d out answer now) (sym back.1) so)

-- Writing path data answers the first row of its order whose sentence holds, and leaves what its sentences say: `svg-answers-first`, `success-writes-text`,
-- `refusal-writes-nothing`.
use mathlib.Core.Bool.{Bool, true, false}
use mathlib.Core.List.{List, [], ◌∷◌}
use mathlib.Core.Logic.{◌⊎◌, inl, inr, ⊎_elim}
use mathlib.Core.Path.{◌≡◌, refl, sym, subst, ◌∙◌}
use Prim.Native.Nat.{ℕ, suc, ◌≤◌, ◌<◌}
use native.Mathlib.Omega.{arith}
use lib.Dec.{eqb-suc-zero}
use lib.ListN.{length}
use Rattle.refusal.proofs.AnswerLaws.{answers-value}
use Rattle.refusal.specs.Chain.{row}
use Rattle.refusal.specs.Judging.{unless}
use Rattle.refusal.specs.Numbers.{accepted, full_refused, not_whole_refused}
use Rattle.refusal.proofs.ChainLaws.{Judges, accepts, refuses, passes, judged, answers-first}
use Rattle.lent.specs.Sentences.{ResultThenRest}
use Rattle.lent.proofs.SentenceLaws.{success-puts-result}
use Rattle.curve.specs.Lists.{Lists}
use Rattle.grid.specs.Check.{Passes}
use Rattle.checked.proofs.TestLaws.{fails-iff, leb-judged}
use Rattle.checked.proofs.SentenceLaws.{curve-judged}
use Rattle.clamping.specs.Clamping.{clamped, clamps_whole, clamp_then}
use Rattle.clamping.specs.Sentences.{ClampNotWhole}
use Rattle.clamping.proofs.ClampedLaws.{clamped-passes}
use Rattle.clamping.proofs.SentenceLaws.{whole-judged}
use Rattle.cutting.specs.Cutting.{cuts, cut_then, cut_number}
use Rattle.cutting.proofs.EachLaws.{each-passed, each-refused}
use Rattle.cut_whole.specs.Sentences.{NumberOfCut}
use Rattle.cut_whole.proofs.SentenceLaws.{cut-number-is}
use Rattle.svg_out.specs.Svg.{svg_text, draw_then, fitting, svg_number}
use Rattle.svg_whole.specs.Outcome.{FullFirst, NotWholeFirst, SvgAnswersFirst, SuccessWritesText, RefusalWritesNothing}
use Rattle.svg_whole.proofs.DrawLaws.{copy-cut}

module _ (m : ℕ) (c : Lists) (out : List ℕ) (passing : Passes m c.knots c.xs c.ys) where
  abbrev copy : Lists
  copy = clamped m c

  abbrev room : ℕ
  room = fitting (svg_text m c) out

  abbrev says : NumberOfCut m (clamped m c)
  says = let well = clamped-passes m c passing in (cut-number-is m (clamped m c)).0 well.passes well.clamped-ends

  -- a number of the insertions is the answer, whatever is judged next
  refused-by : (n : ℕ) → cut_number m copy ≡ suc n → cut_then m copy room ≡ suc n
  refused-by n e =
      let refused = sym (copy-cut m c passing accepted) ∙ e in
      copy-cut m c passing room ∙ each-refused m (cuts m copy) copy room (λ z. omega (arith, refused, z)) ∙ refused

  -- 11, 10 and 15 where the clamped polygon is whole: nothing is refused, the first insertion that fails is full, or it is not whole
  by_number : (ClampNotWhole m c → ⊥) → (cut_number m copy ≡ accepted) ⊎ (cut_number m copy ≡ full_refused) ⊎ (cut_number m copy ≡ not_whole_refused)
      → Judges (cut_then m copy room) (row 11 (ClampNotWhole m c ⊎ NotWholeFirst m c) ∷ row 10 (FullFirst m c) ∷ row 15 (length out < length (svg_text m c)) ∷ [])
  by_number whole (inl e) =
      rw (copy-cut m c passing room ∙ each-passed m (cuts m copy) copy room (sym (copy-cut m c passing accepted) ∙ e))
      (passes (⊎_elim whole (λ (f : NotWholeFirst m c). omega (arith, e, says.not-whole.1 f)))
      (passes (λ (f : FullFirst m c). omega (arith, e, says.full.1 f)) (judged (fails-iff (leb-judged (length (svg_text m c)) (length out))) λ enough. accepts)))
  by_number whole (inr (inl e)) =
      rw (refused-by 9 e) (passes (⊎_elim whole (λ (f : NotWholeFirst m c). omega (arith, e, says.not-whole.1 f))) (refuses (says.full.0 e)))
  by_number whole (inr (inr e)) = rw (refused-by 10 e) (refuses (inr (says.not-whole.0 e)))

  by_whole : (b : Bool) → clamps_whole m c ≡ b
      → Judges (unless b not_whole_refused (cut_then m copy room)) (row 11 (ClampNotWhole m c ⊎ NotWholeFirst m c) ∷ row 10 (FullFirst m c) ∷ row 15 (length out < length (svg_text m c)) ∷ [])
  by_whole false broken = refuses (inl ((whole-judged m c).failing broken))
  by_whole true whole = by_number ((whole-judged m c).clash ((whole-judged m c).passing whole)) says.no_other

pub svg-answers-first : SvgAnswersFirst
unfolding svg_number draw_then clamp_then
svg-answers-first m c out =
    answers-first _ _ refl (curve-judged m c.knots c.xs c.ys _ _ λ passing. by_whole m c out passing (clamps_whole m c) refl)

-- nothing is refused: there is room for the text
room-of-accepted : (m : ℕ) (c : Lists) (out : List ℕ) → svg_number m c out ≡ 0 → length (svg_text m c) ≤ length out
room-of-accepted m c out e =
    let fine : length out < length (svg_text m c) → ⊥ = (svg-answers-first m c out).none.0 e 9 in
    omega (arith, fine)

pub success-writes-text : SuccessWritesText
success-writes-text m c before answer now so e =
    let text = svg_text m c in (
      answers-value _ _ answer so.answers e,
      subst (λ (l : List ℕ). ResultThenRest text before l) (sym (so.hands ∙ rw e)) (success-puts-result ℕ text before (room-of-accepted m c before e)),
    )

pub refusal-writes-nothing : RefusalWritesNothing
refusal-writes-nothing m c before answer now n so e = (so.answers.0 ∙ e, so.hands ∙ rw (e, eqb-suc-zero n))

-- What is judged of a curve before its text: the check, row 11 for the clamped copy, then the insertions into the copy, which passes the check itself.
use mathlib.Core.Bool.{Bool, true, false}
use mathlib.Core.Path.{◌≡◌, refl, sym, ap, ◌∙◌}
use Prim.Native.Nat.{ℕ}
use native.Mathlib.Decide.{ℕ_discrete}
use lib.ListN.{length}
use Rattle.refusal.specs.Judging.{unless}
use Rattle.refusal.specs.Numbers.{accepted, not_whole_refused}
use Rattle.refusal.proofs.JudgingLaws.{unless-accepted}
use Rattle.curve.specs.Lists.{Lists}
use Rattle.grid.specs.Check.{Passes, check_number}
use Rattle.grid.proofs.ThenLaws.{checked_then-refused, checked_then-passed}
use Rattle.checked.specs.Checked.{Clamped}
use Rattle.clamping.specs.Clamping.{clamped, clamps_whole, clamp_then}
use Rattle.clamping.proofs.ClampedLaws.{clamped-passes}
use Rattle.clamping.proofs.StayLaws.{clamped-comes-back}
use Rattle.cutting.specs.Cutting.{cuts, insertable_each_then, cut_then, cut_number}
use Rattle.cutting.proofs.EachLaws.{each-refused}
use Rattle.svg_out.specs.Svg.{draw_then, draw_number}

module _ (m : ℕ) (c : Lists) where
  abbrev copy : Lists
  copy = clamped m c

  -- a curve that the check refuses, by its number
  pub draw-unchecked : (next : ℕ) → (check_number m c.knots c.xs c.ys ≡ accepted → ⊥) → draw_then m c next ≡ check_number m c.knots c.xs c.ys
  unfolding draw_then clamp_then
  draw-unchecked next fails = checked_then-refused m c.knots c.xs c.ys _ fails

  module _ (passes : Passes m c.knots c.xs c.ys) where
    -- cutting the copy is a matter of the insertions alone
    pub copy-cut : (next : ℕ) → cut_then m copy next ≡ insertable_each_then m (cuts m copy) copy next
    unfolding cut_then
    copy-cut next = checked_then-passed m copy.knots copy.xs copy.ys _ (clamped-passes m c passes).passes

    draw-checked : (next : ℕ) → draw_then m c next ≡ unless (clamps_whole m c) not_whole_refused (cut_then m copy next)
    unfolding draw_then clamp_then
    draw-checked next = checked_then-passed m c.knots c.xs c.ys _ passes

    -- a curve with clamped ends is its own copy
    pub draw-own : Clamped m c.knots (length c.xs) → (next : ℕ) → draw_then m c next ≡ cut_then m c next
    draw-own ends next =
        let back = clamped-comes-back m c passes ends in
        draw-checked next ∙ rw back.0 (ap (λ (d : Lists). cut_then m d next) back.1)

    -- where something is refused, what is judged next does not matter
    refused-copy : (b : Bool) (next : ℕ) → (unless b not_whole_refused (cut_number m copy) ≡ accepted → ⊥)
        → unless b not_whole_refused (cut_then m copy next) ≡ unless b not_whole_refused (cut_number m copy)
    refused-copy false next refused = refl
    refused-copy true next refused =
        copy-cut next ∙ each-refused m (cuts m copy) copy next (λ none. refused (copy-cut accepted ∙ none)) ∙ sym (copy-cut accepted)

  pub draw-refused : (next : ℕ) → (draw_number m c ≡ accepted → ⊥) → draw_then m c next ≡ draw_number m c
  draw-refused next refused =
      elim (ℕ_discrete (check_number m c.knots c.xs c.ys) 0) [
        | no fails ↦ draw-unchecked next fails ∙ sym (draw-unchecked accepted fails)
        | yes passes ↦
            draw-checked passes next
            ∙ refused-copy passes (clamps_whole m c) next (λ none. refused (draw-checked passes accepted ∙ none))
            ∙ sym (draw-checked passes accepted)
      ]

  -- nothing is refused: the curve passes, the clamped polygon is whole, and the copy is cut
  module _ (none : draw_number m c ≡ accepted) where
    pub draw-passes : Passes m c.knots c.xs c.ys
    draw-passes =
        elim (ℕ_discrete (check_number m c.knots c.xs c.ys) 0) [
          | no fails ↦ absurd (fails (sym (draw-unchecked accepted fails) ∙ none))
          | yes passes ↦ passes
        ]

    pub draw-whole : (clamps_whole m c ≡ true) × (cut_number m (clamped m c) ≡ accepted)
    draw-whole = unless-accepted _ _ _ (sym (draw-checked draw-passes accepted) ∙ none)

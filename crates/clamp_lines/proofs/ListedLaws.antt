-- What the list call's answer says of a clamp's lines, where its two lists have a place for each span that a curve can have.
use mathlib.Core.Bool.{Bool, true, false, cond, ◌&&◌}
use mathlib.Core.List.{List, []}
use mathlib.Core.Path.{◌≡◌, refl, sym, ◌∙◌, ap}
use Prim.Native.Nat.{ℕ, ◌≤◌}
use native.Mathlib.Omega.{arith}
use lib.IntN.{ℤ}
use lib.ListN.{length, take, drop, length-map, length-append}
use Rattle.std.specs.Prelude.{Result, Ok, Err}
use Rattle.refusal.specs.Answers.{Answers}
use Rattle.refusal.specs.declared.Refusal.{Refusal}
use Rattle.refusal.proofs.AnswerLaws.{refused-above_zero}
use Rattle.lent.specs.Lent.{over, after}
use Rattle.lent.proofs.OverLaws.{over-result}
use Rattle.curve.specs.Lists.{lists}
use Rattle.grid.specs.Check.{check_number}
use Rattle.grid.specs.Rows.{radius_ok}
use Rattle.grid.proofs.SizeLaws.{sizes-of-passes}
use Rattle.boxes.specs.Widening.{widened}
use Rattle.boxes.specs.declared.Rectangle.{Rectangle}
use Rattle.span_walk.specs.SpansMet.{span_count, spans_met, low_knots, high_knots}
use Rattle.spans_met.specs.Answer.{number_with_places}
use Rattle.spans_met.proofs.AnswerLaws.{sides_ok, number-radius, number-sides, number-none}
use Rattle.clamp_lines.specs.Places.{spans_most}
use Rattle.clamp_lines.specs.ClampPart.{where_sound, clamp_lines}
use Rattle.clamp_lines.proofs.CountLaws.{span_count-most, met-most}

module _ (m : ℕ) (ts : List ℕ) (xs ys : List ℤ) (clamp : Rectangle) (radius lows highs : ℕ) where
  abbrev number : ℕ
  number = number_with_places m (lists ts xs ys) clamp radius lows highs

  abbrev met : List ℕ
  met = spans_met (widened radius clamp) m ts xs ys

  -- spans were counted: the curve passes the check, row 22 passes the radius and row 14 the clamp, and the count is that of the spans met
  pub record Counted (count : ℕ) : Type 0 where
    pub none : number ≡ 0
    pub short : radius_ok radius ≡ true
    pub sound : sides_ok clamp ≡ true
    pub counts : count ≡ length met
    pub few : count ≤ spans_most

  -- the number is 0 only where radius and clamp pass
  radius-passes : check_number m ts xs ys ≡ 0 → number ≡ 0 → radius_ok radius ≡ true
  radius-passes passes h = by (radius_ok radius) refl
    where
      by : (t : Bool) → radius_ok radius ≡ t → radius_ok radius ≡ true
      by true e = e
      by false e = absurd (omega (arith, number-radius m ts xs ys clamp radius lows highs passes e, h))

  clamp-passes : check_number m ts xs ys ≡ 0 → radius_ok radius ≡ true → number ≡ 0 → sides_ok clamp ≡ true
  clamp-passes passes short h = by (sides_ok clamp) refl
    where
      by : (t : Bool) → sides_ok clamp ≡ t → sides_ok clamp ≡ true
      by true e = e
      by false e = absurd (omega (arith, number-sides m ts xs ys clamp radius lows highs passes short e, h))

  pub counted : check_number m ts xs ys ≡ 0 → (count : ℕ) (answer : Result ℕ Refusal) → answer ≡ Ok count → Answers number (length met) answer → Counted count
  counted passes count answer is says =
      let said : Answers number (length met) (Ok count) = rw is at says in
      let none : number ≡ 0 = sym said.0 in
      let short = radius-passes passes none in
      let size = sizes-of-passes m ts xs ys passes in
      record {
        none = none;
        short = short;
        sound = clamp-passes passes short none;
        counts = said.1;
        few = omega (arith, said.1, met-most (widened radius clamp) m ts xs ys, size.most, size.degree-least);
      }

  -- what is then told of the clamp
  pub counted-lines : (count k : ℕ) → Counted count → where_sound radius clamp (clamp_lines m (lists ts xs ys) radius k clamp) ≡ clamp_lines m (lists ts xs ys) radius k clamp
  counted-lines count k h = rw (h.short, h.sound)

  -- a list afterwards: as many knots as were counted stand at its front, and they are those of the spans met
  pub record Front (count : ℕ) (list result : List ℕ) : Type 0 where
    pub fits : count ≤ length list
    pub holds : take count list ≡ result

  front : (count : ℕ) (result before list : List ℕ) → Counted count → length result ≡ length met → list ≡ after number result before → Front count list result
  front count result before list h size e =
      let whole : list ≡ over result before = rw h.none at e in
      let same : count ≡ length result = h.counts ∙ sym size in
      record {
        fits = omega (arith, ap length whole, length-append result (drop (length result) before), same);
        holds = rw (whole, same) (over-result result before);
      }

  pub lows-front : (count : ℕ) (before list : List ℕ) → Counted count → list ≡ after number (low_knots ts met) before → Front count list (low_knots ts met)
  unfolding low_knots
  lows-front count before list h e = front count (low_knots ts met) before list h (length-map met _) e

  pub highs-front : (count : ℕ) (before list : List ℕ) → Counted count → list ≡ after number (high_knots ts met) before → Front count list (high_knots ts met)
  unfolding high_knots
  highs-front count before list h e = front count (high_knots ts met) before list h (length-map met _) e

  -- the call refused, with places for all spans: nothing is told of the clamp
  pub refused-lines : check_number m ts xs ys ≡ 0 → (e : Refusal) (answer : Result ℕ Refusal) (k : ℕ) → answer ≡ Err e → Answers number (length met) answer → spans_most ≤ lows → spans_most ≤ highs
      → where_sound radius clamp (clamp_lines m (lists ts xs ys) radius k clamp) ≡ []
  refused-lines passes e answer k is says a b = by (radius_ok radius) (sides_ok clamp) refl refl
    where
      by : (v u : Bool) → radius_ok radius ≡ v → sides_ok clamp ≡ u → cond (v && u) (clamp_lines m (lists ts xs ys) radius k clamp) [] ≡ []
      by false u s q = refl
      by true false s q = refl
      by true true s q =
          let size = sizes-of-passes m ts xs ys passes in
          let few : span_count m ts (length xs) ≤ spans_most = omega (arith, span_count-most m ts (length xs), size.most, size.degree-least) in
          let none : number ≡ 0 = number-none m ts xs ys clamp radius lows highs passes s q (omega (arith, few, a)) (omega (arith, few, b)) in
          let said : Answers number (length met) (Err e) = rw is at says in
          let above = refused-above_zero e in
          absurd (omega (arith, above, said.0, none))

-- The list call's number, test by test, and what each outcome makes of answer and lists.
use mathlib.Core.Bool.{Bool, true, false, ◌&&◌}
use mathlib.Core.List.{List}
use mathlib.Core.Path.{◌≡◌, sym, ◌∙◌}
use Prim.Native.Nat.{ℕ, ◌≤◌, ◌<◌}
use lib.IntN.{ℤ}
use lib.ListN.{length}
use Rattle.std.proofs.lemmas.Grind.{common_steps}
use borrow.Author.Tests.{le-leb, ne_eqb}
use native.Mathlib.Omega.{arith}
use Rattle.std.specs.Prelude.{Result, Ok, Err, leb, min}
use Rattle.refusal.specs.Answers.{number_of}
use Rattle.refusal.specs.declared.Refusal.{Refusal}
use Rattle.refusal.proofs.AnswerLaws.{refused-above_zero}
use Rattle.refusal.specs.Numbers.{accepted, radius_refused, rectangle_refused, room_refused}
use Rattle.curve.specs.Lists.{lists}
use Rattle.grid.specs.Check.{check_number}
use Rattle.grid.specs.Rows.{radius_ok, rectangle_ok}
use Rattle.grid.proofs.ThenLaws.{checked_then-refused, checked_then-passed}
use Rattle.boxes.specs.Widening.{widened}
use Rattle.boxes.specs.declared.Rectangle.{Rectangle}
use Rattle.span_walk.specs.SpansMet.{span_count, spans_met}
use Rattle.span_walk.specs.SpanLists.{SpanLists, span_lists, knots_met, spans_handed_over}
use Rattle.spans_met.specs.Answer.{number_with_places, list_number, ListAnswer, listed}

-- where the shorter of two lists has too few places, one of the two has
one_short : (n a b : ℕ) → min a b < n → (leb n a && leb n b) ≡ false
one_short n a b h = grind (arith, common_steps)

-- the four sides of a clamp pass row 14
abbrev pub sides_ok : Rectangle → Bool
sides_ok clamp = rectangle_ok clamp.low_x clamp.high_x clamp.low_y clamp.high_y

module _ (m : ℕ) (ts : List ℕ) (xs ys : List ℤ) (clamp : Rectangle) (radius : ℕ) where
  -- the number with so many places for low knots and for high ones
  abbrev pub number : ℕ → ℕ → ℕ
  number lows highs = number_with_places m (lists ts xs ys) clamp radius lows highs

  pub number-curve : (lows highs : ℕ) → (check_number m ts xs ys ≡ 0 → ⊥) → number lows highs ≡ check_number m ts xs ys
  unfolding number_with_places
  number-curve lows highs h = checked_then-refused m ts xs ys _ h

  -- what the check refuses has the check's number
  pub number-unchecked : (lows highs : ℕ) (e : Refusal) → number_of e ≡ check_number m ts xs ys → number lows highs ≡ number_of e
  number-unchecked lows highs e h = let above = refused-above_zero e in number-curve lows highs (λ z. omega (arith, above)) ∙ sym h

  pub number-radius : (lows highs : ℕ) → check_number m ts xs ys ≡ 0 → radius_ok radius ≡ false → number lows highs ≡ radius_refused
  unfolding number_with_places
  number-radius lows highs h r = checked_then-passed m ts xs ys _ h ∙ rw r

  pub number-sides : (lows highs : ℕ) → check_number m ts xs ys ≡ 0 → radius_ok radius ≡ true → sides_ok clamp ≡ false → number lows highs ≡ rectangle_refused
  unfolding number_with_places
  number-sides lows highs h r s = checked_then-passed m ts xs ys _ h ∙ rw (r, s)

  pub number-room : (lows highs : ℕ) → check_number m ts xs ys ≡ 0 → radius_ok radius ≡ true → sides_ok clamp ≡ true → min lows highs < span_count m ts (length xs) → number lows highs ≡ room_refused
  unfolding number_with_places
  number-room lows highs h r s short = checked_then-passed m ts xs ys _ h ∙ rw (r, s, one_short (span_count m ts (length xs)) lows highs short)

  pub number-none : (lows highs : ℕ) → check_number m ts xs ys ≡ 0 → radius_ok radius ≡ true → sides_ok clamp ≡ true → span_count m ts (length xs) ≤ lows → span_count m ts (length xs) ≤ highs → number lows highs ≡ accepted
  unfolding number_with_places
  number-none lows highs h r s a b = checked_then-passed m ts xs ys _ h ∙ rw (r, s, le-leb _ _ a, le-leb _ _ b)

  -- answer and lists as the contract has them
  abbrev pub Ends : Result ℕ Refusal → SpanLists → SpanLists → Type 0
  Ends answer before now = ListAnswer m (lists ts xs ys) clamp radius before answer × (now ≡ listed m (lists ts xs ys) clamp radius before)

  -- a refusal has the number and leaves the lists
  pub ends-refused : (lows highs : List ℕ) (e : Refusal) (answer : Result ℕ Refusal) → answer ≡ Err e → number (length lows) (length highs) ≡ number_of e → Ends answer (span_lists lows highs) (span_lists lows highs)
  ends-refused lows highs e answer is h = let above = refused-above_zero e in (rw is (sym h, tt), rw (h, ne_eqb (number_of e) 0 (λ z. omega (arith, above))))

  -- success counts the spans and puts their knots over the lists
  pub ends-listed : (before now : SpanLists) (count : ℕ) → list_number m (lists ts xs ys) clamp radius before ≡ accepted → count ≡ length (spans_met (widened radius clamp) m ts xs ys)
      → now ≡ spans_handed_over accepted (knots_met (widened radius clamp) m ts xs ys) before → Ends (Ok count) before now
  ends-listed before now count e n h = ((sym e, n), rw e h)

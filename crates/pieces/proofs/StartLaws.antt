-- A walk at the first span: nothing is inserted yet.
use mathlib.Core.List.{List}
use mathlib.Core.Path.{◌≡◌, sym, ap, subst, ◌∙◌}
use Prim.Native.Nat.{ℕ, ◌+◌, ◌-◌, ◌*◌}
use native.Mathlib.Nat.{zero-mul}
use native.Mathlib.Omega.{arith}
use lib.IntN.{ℤ}
use lib.ListN.{length, get_or}
use Rattle.curve.specs.Lists.{Lists}
use Rattle.grid.specs.Check.{Passes}
use Rattle.checked.specs.Checked.{Clamped}
use Rattle.checked.proofs.CheckedLaws.{checked-of-passes}
use Rattle.insertion.specs.Insertion.{point_at}
use Rattle.span_walk.specs.SpansMet.{up_from, keep, non_empty, high_knots}
use Rattle.cutting.specs.Cutting.{ends_from, lacking, inserted_each, insertable_each_then}
use Rattle.cut_window.specs.Window.{Window, Carried}
use Rattle.pieces.specs.Loaded.{Loaded}
use Rattle.pieces.specs.Walk.{cuts_up_to, cut_up_to, AtSpan}
use Rattle.pieces.proofs.ValueLaws.{first-wide}

module _ (m : ℕ) (c : Lists) where
  -- no span lies behind the first
  none-behind : ends_from c.knots m (m - m) ≡ ends_from c.knots m 0
  none-behind = let none : m - m ≡ 0 = omega arith in ap (ends_from c.knots m) none

  nothing-cut : cut_up_to m c m ≡ c
  unfolding ends_from high_knots lacking inserted_each up_from keep
  nothing-cut = ap (λ l. inserted_each m (lacking m c.knots l) c) none-behind

  nothing-judged : (next : ℕ) → insertable_each_then m (cuts_up_to m c m) c next ≡ next
  unfolding ends_from high_knots lacking insertable_each_then up_from keep
  nothing-judged next = ap (λ l. insertable_each_then m (lacking m c.knots l) c next) none-behind

  none-counted : length (keep (non_empty c.knots) (up_from m (m - m))) ≡ 0
  unfolding up_from keep
  none-counted = let none : m - m ≡ 0 = omega arith in ap (λ n. length (keep (non_empty c.knots) (up_from m n))) none

  module _ (passes : Passes m c.knots c.xs c.ys) (clamped : Clamped m c.knots (length c.xs)) where
    first-window : Window m c c m 0 0
    first-window =
        let f = checked-of-passes m c.knots c.xs c.ys passes in
        record {
          passes = passes;
          original = passes;
          clamped = clamped;
          points = omega (arith, zero-mul m);
          least = omega arith;
          inside = omega (arith, f.sizes.enough);
          wide = first-wide m c.knots c.xs c.ys passes clamped;
          low = λ a least most. (let here : 0 * m + a ≡ a = omega (arith, zero-mul m) in
              ap (λ j. get_or c.knots j 0) here ∙ clamped.firsts a most);
          again = λ a least most. absurd (omega arith);
          far = λ x least. (let here : 0 * m + m + 0 + x ≡ m + x = omega (arith, zero-mul m) in ap (λ j. get_or c.knots j 0) here);
        }

    first-row : (ps row : List ℤ) → Loaded ps 0 (m + 1) row → Carried m ps ps m 0 0 row
    first-row ps row l =
        record {
          places = l.places;
          unused = λ a from to. l.unused a (omega arith) to;
          holds = λ a to. (let here : 0 * m + a ≡ 0 + a = omega (arith, zero-mul m) in ap (point_at ps) here ∙ sym (l.holds a (omega arith)));
          far = λ x least. (let here : 0 * m + m + 0 + x ≡ m + x = omega (arith, zero-mul m) in ap (point_at ps) here);
        }

    pub starts : (rx ry : List ℤ) → Loaded c.xs 0 (m + 1) rx → Loaded c.ys 0 (m + 1) ry
        → AtSpan m c (record { index = 0; span = m; points = length c.xs; xs = rx; ys = ry })
    starts rx ry x y =
        record {
          window = subst (λ d. Window m c d m 0 0) (sym nothing-cut) first-window;
          row_x = subst (λ d. Carried m c.xs d.xs m 0 0 rx) (sym nothing-cut) (first-row c.xs rx x);
          row_y = subst (λ d. Carried m c.ys d.ys m 0 0 ry) (sym nothing-cut) (first-row c.ys ry y);
          count = ap (λ d. length d.xs) (sym nothing-cut);
          passed = nothing-judged;
          counted = sym none-counted;
        }

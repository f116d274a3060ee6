-- Inserting a value v that stands twice among the knots of a cubic that passes the check: where the mean for Q_k is whole on both axes, v is not
-- refused, and the new lists are the old ones with v and the two means among them.
use mathlib.Core.Bool.{true}
use mathlib.Core.List.{List, ◌∷◌, ◌++◌}
use mathlib.Core.Path.{◌≡◌, ap, ◌∙◌}
use Prim.Native.Nat.{ℕ, ◌+◌, ◌≤◌, ◌<◌}
use native.Mathlib.Numerals.{add-one}
use native.Mathlib.Decide.{dec_le}
use native.Mathlib.Omega.{arith}
use lib.IntN.{ℤ}
use lib.ListN.{length, get_or}
use borrow.Author.Tests.{lt-ltb}
use Rattle.refusal.specs.Numbers.{accepted}
use Rattle.curve.specs.Lists.{Lists, lists, NeverFall}
use Rattle.curve.specs.HandingOver.{room_for}
use Rattle.curve.proofs.SentenceLaws.{room-exactly}
use Rattle.grid.specs.Limits.{points_most}
use Rattle.grid.specs.Rows.{knot_order_ok, occurrences}
use Rattle.grid.specs.Check.{Passes}
use Rattle.grid.proofs.CheckLaws.{passes-tests}
use Rattle.grid.proofs.RepeatLaws.{occurrences-most}
use Rattle.grid.proofs.SizeLaws.{sizes-of-passes}
use Rattle.insertion.specs.Insertion.{inserted_knots, inserted_points, inserted}
use Rattle.insertion.specs.Standing.{Insertable}
use Rattle.insertion.specs.Judged.{value_ok, place_ok, whole_ok, insertion_number}
use Rattle.insertion.specs.Sentences.{Quotient, NewKnots}
use Rattle.insertion.proofs.CheckedLaws.{rises-of-test, inside-of-ends, insertable-xs, insertable-ys}
use Rattle.insertion.proofs.JudgedLaws.{number-of-accepted}
use Rattle.insertion.proofs.SentenceLaws.{inserted-by-index}
use Rattle.meeting_points.proofs.ListLaws.{one-put-in}
use Rattle.meeting_points.proofs.AxisLaws.{Twice, twice-between, axis-whole, axis-points}

twice-seldom : (ts : List ℕ) (v k : ℕ) → knot_order_ok ts ≡ true → Twice ts v k → k + 3 < length ts → occurrences v ts ≤ 2
unfolding knot_order_ok
twice-seldom ts v k order t inside = occurrences-most v 2 0 ts order far
  where
    rising : NeverFall ts
    rising = rises-of-test ts order

    far : (j l : ℕ) → l ≡ j + 2 → l < length ts → get_or ts j 0 ≡ v → get_or ts l 0 ≡ v → ⊥
    far j l e last here there =
        elim (dec_le j k) [
          | yes h ↦ omega (arith, rising j k h (omega arith), t.low)
          | no h ↦ omega (arith, rising (k + 3) l (omega arith) last, t.high)
        ]

knots-put-in : (ts : List ℕ) (v k : ℕ) (front back us : List ℕ) → ts ≡ front ++ back → length front ≡ k + 3 → NewKnots ts v (k + 2) us → us ≡ front ++ (v ∷ back)
knots-put-in ts v k front back us parted place new =
    let next : k + 2 + 1 ≡ k + 3 = omega arith in
    one-put-in 0 v front back us (new.count ∙ ap (λ (l : List ℕ). length l + 1) parted)
    (λ j below. new.left j (omega arith) ∙ same j)
    (rw (place, ← next) new.here)
    (λ j from to. rw (← (add-one j)) (new.right j (omega arith)) ∙ same j)
  where
    same : (j : ℕ) → get_or ts j 0 ≡ get_or (front ++ back) j 0
    same j = ap (λ (l : List ℕ). get_or l j 0) parted

-- lists of just the places that a curve needs
room-just : (c : Lists) → room_for c c ≡ true
room-just c = (room-exactly c c).0.1 (record { knots = omega arith; xs = omega arith; ys = omega arith })

module _ (c : Lists) (v k : ℕ) (x y : ℤ) (passes : Passes 3 c.knots c.xs c.ys) (t : Twice c.knots v k)
    (from : 3 ≤ k) (to : k + 3 ≤ length c.xs) (place : length c.xs < points_most)
    (mean-x : Quotient 3 c.knots c.xs v k x) (mean-y : Quotient 3 c.knots c.ys v k y) where
  order : knot_order_ok c.knots ≡ true
  order = (passes-tests 3 c.knots c.xs c.ys passes).order

  count : length c.knots ≡ length c.xs + 3 + 1
  count = (sizes-of-passes 3 c.knots c.xs c.ys passes).knots

  inside : k + 3 < length c.knots
  inside = omega (arith, count)

  low_end : get_or c.knots 3 0 < v
  low_end = omega (arith, rises-of-test c.knots order 3 k from (omega (arith, count)), t.low)

  high_end : v < get_or c.knots (length c.xs) 0
  high_end = omega (arith, rises-of-test c.knots order (k + 3) (length c.xs) to (omega (arith, count)), t.high)

  on-x : Insertable 3 c.knots c.xs v
  on-x = insertable-xs 3 c.knots c.xs c.ys v passes (omega (arith, low_end)) high_end

  on-y : Insertable 3 c.knots c.ys v
  on-y = insertable-ys 3 c.knots c.xs c.ys v passes (omega (arith, low_end)) high_end

  twice-accepted : insertion_number 3 c v (inserted 3 c v) ≡ accepted
  unfolding value_ok place_ok whole_ok
  twice-accepted =
      let seldom = twice-seldom c.knots v k order t inside in
      number-of-accepted 3 c v (inserted 3 c v)
      (record {
        passes = passes;
        value = rw (inside-of-ends c.knots 3 (length c.xs) v low_end high_end, lt-ltb (occurrences v c.knots) 3 (omega arith));
        place = lt-ltb (length c.xs) points_most place;
        whole = rw (axis-whole c.knots c.xs v k x t on-x inside mean-x, axis-whole c.knots c.ys v k y t on-y inside mean-y);
        room = room-just (inserted 3 c v);
      })

  -- where the old lists are parted, the new entries stand between the parts
  pub twice-inserts : (ks ls : List ℕ) (fx rx fy ry : List ℤ) → c.knots ≡ ks ++ ls → c.xs ≡ fx ++ rx → c.ys ≡ fy ++ ry
      → length ks ≡ k + 3 → length fx ≡ k → length fy ≡ k
      → (insertion_number 3 c v (inserted 3 c v) ≡ accepted) × (inserted 3 c v ≡ lists (ks ++ (v ∷ ls)) (fx ++ (x ∷ rx)) (fy ++ (y ∷ ry)))
  twice-inserts ks ls fx rx fy ry parted-knots parted-x parted-y many many-x many-y =
      let (knots, xs, ys) = inserted-by-index 3 c v (inserted 3 c v) (k + 2) twice-accepted (twice-between c.knots v k t inside) in (
        twice-accepted,
        rw (
          knots-put-in c.knots v k ks ls (inserted_knots c.knots v) parted-knots many knots,
          axis-points c.knots c.xs v k x t on-x inside mean-x fx rx (inserted_points 3 c.knots c.xs v) parted-x many-x xs,
          axis-points c.knots c.ys v k y t on-y inside mean-y fy ry (inserted_points 3 c.knots c.ys v) parted-y many-y ys,
        ),
      )

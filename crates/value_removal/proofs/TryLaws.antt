-- One try at the front's end: the window comes back into the lists as it was, or with the newest knot gone.
use Rattle.std.specs.Prelude.{Result, Ok, Err}
use Rattle.refusal.specs.declared.Refusal.{Refusal}
use mathlib.Core.List.{List, ◌++◌}
use mathlib.Core.Path.{◌≡◌, sym, ap, ◌∙◌}
use Prim.Native.Nat.{ℕ, ◌+◌, ◌-◌, ◌≤◌, ◌<◌}
use native.Mathlib.Omega.{arith}
use lib.IntN.{ℤ, pos, nat_abs}
use lib.ListN.{length, get_or, take, drop, length-append, length-drop, take-append-drop}
use lib.Seq.{length-take-le}
use Rattle.lent.specs.Lent.{over}
use Rattle.lent.proofs.OverLaws.{over-entry, over-length}
use Rattle.insertion.specs.Insertion.{point_at}
use Rattle.insertion.proofs.OrderLaws.{either}
use Rattle.window.specs.Window.{closed, Closed, WindowOutcome}
use Rattle.window.proofs.ClosedLaws.{closed-length, closed-before, closed-behind}
use Rattle.grid.specs.Limits.{coordinate_most}
use Rattle.value_removal.specs.Work.{newest, OnGridTo, Growing, TryOutcome}
use Rattle.value_removal.proofs.PartLaws.{put-before, put-inside}
use Rattle.value_removal.proofs.TailLaws.{window_at, window_knots, window_points, knot-in, window-knots, window-count, tail-stays, tail-removes}

-- a list with `w` in the place of the k entries from a on
abbrev pub put_back : {A : Type 0} → ℕ → ℕ → List A → List A → List A
put_back a k l w = take a l ++ (w ++ drop k (drop a l))

put_same : {A : Type 0} (a k : ℕ) (l w : List A) → w ≡ take k (drop a l) → put_back a k l w ≡ l
put_same {A} a k l w e =
    ap (λ (x : List A). take a l ++ (x ++ drop k (drop a l))) e
    ∙ ap (λ (x : List A). take a l ++ x) (take-append-drop k (drop a l)) ∙ take-append-drop a l

put-length : {A : Type 0} (a k : ℕ) (l w : List A) → a + k ≤ length l → length w ≡ k → length (put_back a k l w) ≡ length l
put-length a k l w fits e =
    length-append (take a l) (w ++ drop k (drop a l))
    ∙ omega (arith, length-take-le a l (omega arith), length-append w (drop k (drop a l)), length-drop k (drop a l), length-drop a l)

module _ (m n : ℕ) (ks : List ℕ) (xs ys : List ℤ) (g : Growing m n ks xs ys) (last : newest n ks < get_or ks n 0) (wk : List ℕ) (wx wy : List ℤ) where
  abbrev knots_after : List ℕ
  knots_after = put_back (n - m - 2) (n + m + 1 - (n - m - 2)) ks wk

  abbrev points_after : List ℤ → List ℤ → List ℤ
  points_after ps w = put_back (n - m - 2) (n - (n - m - 2)) ps w

  fits : window_at m n ≤ length ks
  fits = omega (arith, g.holding.room_knots)

  module _ (solved : Closed m (window_knots m n ks) (window_points m n xs) (window_points m n ys) wk wx wy) where
    long : length wk ≡ m + m + 3
    long =
        ap length solved.new_knots
        ∙ over-length (closed m (window_knots m n ks)) (window_knots m n ks) (omega (arith, closed-length m (window_knots m n ks) (window-knots m n ks xs ys g last), window-knots m n ks xs ys g last))
        ∙ window-knots m n ks xs ys g last

    new-knot : (j : ℕ) → j < m + m + 2 → get_or knots_after (window_at m n + j) 0 ≡ get_or (closed m (window_knots m n ks)) j 0
    new-knot j h =
        put-inside 0 (window_at m n) ks wk (drop (n + m + 1 - (n - m - 2)) (drop (n - m - 2) ks)) j fits (omega (arith, long))
        ∙ ap (λ (l : List ℕ). get_or l j 0) solved.new_knots
        ∙ over-entry (closed m (window_knots m n ks)) (window_knots m n ks) j 0 (omega (arith, closed-length m (window_knots m n ks) (window-knots m n ks xs ys g last)))

    -- the points of one axis
    module _ (ps w q : List ℤ) (room : n ≤ length ps) (count : length q + 1 ≡ length (window_points m n ps)) (e : w ≡ over q (window_points m n ps)) where
      wide : length w ≡ m + 2
      wide = ap length e ∙ over-length q (window_points m n ps) (omega arith) ∙ window-count m n ks xs ys g last ps room

      after-size : length (points_after ps w) ≡ length ps
      after-size = put-length (n - m - 2) (n - (n - m - 2)) ps w (omega (arith, g.enough)) (omega (arith, wide, g.enough))

      after-before : (j : ℕ) → j < window_at m n → point_at (points_after ps w) j ≡ point_at ps j
      after-before j h = put-before (pos 0) (window_at m n) ps w (drop (n - (n - m - 2)) (drop (n - m - 2) ps)) j (omega arith) h

      after-new : (j : ℕ) → j < m + 1 → point_at (points_after ps w) (window_at m n + j) ≡ point_at q j
      after-new j h =
          put-inside (pos 0) (window_at m n) ps w (drop (n - (n - m - 2)) (drop (n - m - 2) ps)) j (omega arith) (omega (arith, wide))
          ∙ ap (λ (l : List ℤ). point_at l j) e
          ∙ over-entry q (window_points m n ps) j (pos 0) (omega (arith, window-count m n ks xs ys g last ps room))

      after-range : OnGridTo n ps → ((j : ℕ) → nat_abs (point_at q j) ≤ coordinate_most) → OnGridTo (n - 1) (points_after ps w)
      after-range old new j h =
          either j (window_at m n)
          (λ left. rw (after-before j left) (old j (omega arith)))
          (λ right.
          let at : window_at m n + (j - window_at m n) ≡ j = omega arith in
          let e = rw at at (after-new (j - window_at m n) (omega (arith, g.enough))) in
          rw e (new (j - window_at m n)))

  pub try-outcome : (r : Result (Unit {0}) Refusal) → WindowOutcome m (window_knots m n ks) (window_points m n xs) (window_points m n ys) wk wx wy r
      → TryOutcome m n ks xs ys knots_after (points_after xs wx) (points_after ys wy) r
  try-outcome (Ok removed) s =
      let room_x = g.holding.room_xs in
      let room_y = g.holding.room_ys in
      record {
        removes = λ rk rx ry p.
            tail-removes m n ks xs ys g last rk rx ry p knots_after (points_after xs wx) (points_after ys wy) wk wx wy s
            (put-length (n - m - 2) (n + m + 1 - (n - m - 2)) ks wk (omega (arith, g.enough, g.holding.room_knots)) (omega (arith, long s, g.enough)))
            (after-size s xs wx s.px room_x s.on_x.count s.new_xs) (after-size s ys wy s.py room_y s.on_y.count s.new_ys)
            (λ j h. put-before 0 (window_at m n) ks wk (drop (n + m + 1 - (n - m - 2)) (drop (n - m - 2) ks)) j fits h)
            (after-before s xs wx s.px room_x s.on_x.count s.new_xs) (after-before s ys wy s.py room_y s.on_y.count s.new_ys)
            (new-knot s)
            (after-new s xs wx s.px room_x s.on_x.count s.new_xs) (after-new s ys wy s.py room_y s.on_y.count s.new_ys);
        before = λ j h. either j (window_at m n)
            (λ left. put-before 0 (window_at m n) ks wk (drop (n + m + 1 - (n - m - 2)) (drop (n - m - 2) ks)) j fits left)
            (λ right.
            let at : window_at m n + (j - window_at m n) ≡ j = omega arith in
            rw at at (new-knot s (j - window_at m n) (omega (arith, g.enough))
            ∙ closed-before m (window_knots m n ks) (window-knots m n ks xs ys g last) (j - window_at m n) (omega (arith, g.enough))
            ∙ knot-in m n ks xs ys g last (j - window_at m n) (omega (arith, g.enough))));
        behind = λ j h i.
            let at : window_at m n + (j - window_at m n) ≡ j = omega (arith, g.enough) in
            let to : window_at m n + (j - window_at m n + 1) ≡ j + 1 = omega (arith, g.enough) in
            ap (λ (k : ℕ). get_or knots_after k 0) (sym at)
            ∙ new-knot s (j - window_at m n) (omega (arith, g.enough))
            ∙ closed-behind m (window_knots m n ks) (window-knots m n ks xs ys g last) (j - window_at m n) (omega (arith, g.enough))
            ∙ knot-in m n ks xs ys g last (j - window_at m n + 1) (omega (arith, g.enough))
            ∙ ap (λ (k : ℕ). get_or ks k 0) to;
        range_xs = after-range s xs wx s.px room_x s.on_x.count s.new_xs g.range_xs s.on_x.range;
        range_ys = after-range s ys wy s.py room_y s.on_y.count s.new_ys g.range_ys s.on_y.range;
      }
  try-outcome (Err refusal) (e, s) = (
    e,
    record {
      stays = λ rk rx ry p. tail-stays m n ks xs ys g last rk rx ry p wk wx wy s;
      same_knots = put_same (n - m - 2) (n + m + 1 - (n - m - 2)) ks wk s.same_knots;
      same_xs = put_same (n - m - 2) (n - (n - m - 2)) xs wx s.same_xs;
      same_ys = put_same (n - m - 2) (n - (n - m - 2)) ys wy s.same_ys;
    },
  )

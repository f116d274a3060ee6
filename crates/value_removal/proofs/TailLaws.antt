-- A try in the window at the front's end is a try on every curve that the front begins.
use mathlib.Core.List.{List, ◌++◌}
use mathlib.Core.Path.{◌≡◌, refl, sym, ap, ◌∙◌}
use Prim.Native.Nat.{ℕ, suc, ◌+◌, ◌-◌, ◌≤◌, ◌<◌}
use native.Mathlib.Omega.{arith}
use lib.IntN.{ℤ, pos, nat_abs}
use lib.ListN.{length, get_or, take, drop, length-drop, get_or-eq_default}
use lib.Seq.{length-take-le, ext_get_or}
use Rattle.grid.specs.Limits.{coordinate_most}
use Rattle.grid.specs.Rows.{range_ok, all_on_grid}
use Rattle.refusal.proofs.JudgingLaws.{both}
use Rattle.grid.proofs.CheckLaws.{passes-tests}
use Rattle.grid.proofs.SizeLaws.{sizes-of-passes}
use Rattle.insertion.specs.Insertion.{knots_up_to, insertion_span, point_at}
use Rattle.insertion.proofs.OrderLaws.{either}
use Rattle.insertion.proofs.SpanLaws.{knots_up_to-above, span-of-up_to}
use Rattle.insertion.proofs.CheckedLaws.{rises-of-test, sizes-of-grid}
use Rattle.removal.specs.Removal.{without_one}
use Rattle.removal.specs.Axis.{Ranged, AxisReinserts}
use Rattle.removal.specs.Polygon.{Inner}
use Rattle.removal.proofs.PolygonLaws.{fewer-length, fewer-right, fewer-reduced, knot-before, knot-here, knot-behind, polygon-removes, reinserts-xs, reinserts-ys}
use Rattle.window.specs.Window.{middle, closed, Window, Closed, Stuck}
use Rattle.window.proofs.ClosedLaws.{closed-before, closed-behind, closed-span, closed-reduced}
use Rattle.window.proofs.LocalLaws.{narrow, widen}
use Rattle.removal.specs.Removal.{Removes}
use Rattle.compaction.specs.Compaction.{Stays}
use Rattle.value_removal.specs.Work.{front_then, CurvePasses, newest, OnGridTo, Growing}
use Rattle.value_removal.proofs.PartLaws.{part-entry, glue-front, glue-rest, glue-length}
use Rattle.checked.proofs.OccurrenceLaws.{occurs-at}

-- where the window begins, and its lists
abbrev pub window_at : ℕ → ℕ → ℕ
window_at m n = n - m - 2

abbrev pub window_knots : ℕ → ℕ → List ℕ → List ℕ
window_knots m n ks = take (n + m + 1 - (n - m - 2)) (drop (n - m - 2) ks)

abbrev pub window_points : ℕ → ℕ → List ℤ → List ℤ
window_points m n ps = take (n - (n - m - 2)) (drop (n - m - 2) ps)

module _ (m n : ℕ) (ks : List ℕ) (xs ys : List ℤ) (g : Growing m n ks xs ys) (last : newest n ks < get_or ks n 0) where
  pub knot-in : (j : ℕ) → j < m + m + 3 → get_or (window_knots m n ks) j 0 ≡ get_or ks (window_at m n + j) 0
  knot-in j h = part-entry 0 (window_at m n) (n + m + 1 - (n - m - 2)) ks j (omega (arith, g.enough))

  pub point-in : (ps : List ℤ) (j : ℕ) → j < m + 2 → point_at (window_points m n ps) j ≡ point_at ps (window_at m n + j)
  point-in ps j h = part-entry (pos 0) (window_at m n) (n - (n - m - 2)) ps j (omega (arith, g.enough))

  pub window-count : (ps : List ℤ) → n ≤ length ps → length (window_points m n ps) ≡ m + 2
  window-count ps room =
      length-take-le (n - (n - m - 2)) (drop (n - m - 2) ps) (omega (arith, length-drop (n - m - 2) ps)) ∙ omega (arith, g.enough)

  pub window-knots : length (window_knots m n ks) ≡ m + m + 3
  window-knots =
      length-take-le (n + m + 1 - (n - m - 2)) (drop (n - m - 2) ks) (omega (arith, length-drop (n - m - 2) ks, g.holding.room_knots)) ∙ omega (arith, g.enough)

  middle-is : middle m (window_knots m n ks) ≡ newest n ks
  middle-is =
      let at : window_at m n + (m + 1) ≡ n - 1 = omega (arith, g.enough) in
      knot-in (m + 1) (omega arith) ∙ ap (λ (k : ℕ). get_or ks k 0) at

  ranged : (ps : List ℤ) → n ≤ length ps → OnGridTo n ps → Ranged (window_points m n ps)
  ranged ps room range j =
      either j (m + 2)
      (λ l. rw (point-in ps j l) (range (window_at m n + j) (omega (arith, g.enough))))
      (λ l. rw (get_or-eq_default (window_points m n ps) (pos 0) {n = j} (omega (arith, window-count ps room))) (omega arith))

  pub window-is : Window m (window_knots m n ks) (window_points m n xs) (window_points m n ys)
  window-is =
      let at : window_at m n + (m + 2) ≡ n = omega (arith, g.enough) in
      let next = knot-in (m + 2) (omega arith) ∙ ap (λ (k : ℕ). get_or ks k 0) at in
      record {
        least = g.least;
        most = g.most;
        knots = window-knots;
        across = window-count xs g.holding.room_xs;
        up = window-count ys g.holding.room_ys;
        rises = λ a b h inside.
            omega (arith, knot-in a (omega (arith, window-knots)), knot-in b (omega (arith, window-knots)), g.rises (window_at m n + a) (window_at m n + b) (omega arith) (omega (arith, window-knots, g.enough)));
        last = omega (arith, middle-is, next);
        ranged_xs = ranged xs g.holding.room_xs g.range_xs;
        ranged_ys = ranged ys g.holding.room_ys g.range_ys;
      }

  -- a curve that the front begins
  module _ (rk : List ℕ) (rx ry : List ℤ) (passes : CurvePasses m (front_then m n ks xs ys rk rx ry)) where
    front-knot : (j : ℕ) → j < n + m + 1 → get_or (take (n + m + 1) ks ++ rk) j 0 ≡ get_or ks j 0
    front-knot j h = glue-front 0 (n + m + 1) ks rk j g.holding.room_knots h

    count-knots : length (take (n + m + 1) ks ++ rk) ≡ n + m + 1 + length rk
    count-knots = glue-length (n + m + 1) ks rk g.holding.room_knots

    count-xs : length (take n xs ++ rx) ≡ n + length rx
    count-xs = glue-length n xs rx g.holding.room_xs

    rises : (a b : ℕ) → a ≤ b → b < length (take (n + m + 1) ks ++ rk) → get_or (take (n + m + 1) ks ++ rk) a 0 ≤ get_or (take (n + m + 1) ks ++ rk) b 0
    rises = rises-of-test (take (n + m + 1) ks ++ rk) (passes-tests m (take (n + m + 1) ks ++ rk) (take n xs ++ rx) (take n ys ++ ry) passes).order

    here : get_or (take (n + m + 1) ks ++ rk) (n - 1) 0 ≡ newest n ks
    here = front-knot (n - 1) (omega arith)

    above : newest n ks < get_or (take (n + m + 1) ks ++ rk) n 0
    above = omega (arith, front-knot n (omega arith))

    pub inner-newest : Inner m (take (n + m + 1) ks ++ rk) (take n xs ++ rx) (take n ys ++ ry) (newest n ks)
    inner-newest =
        let s = sizes-of-passes m (take (n + m + 1) ks ++ rk) (take n xs ++ rx) (take n ys ++ ry) passes in
        record {
          passes = passes;
          low = omega (arith, front-knot m (omega arith), g.inner);
          high = omega (arith, above, rises n (length (take n xs ++ rx)) (omega (arith, count-xs)) (omega (arith, s.knots)));
          present = occurs-at (newest n ks) (take (n + m + 1) ks ++ rk) (n - 1) (omega (arith, count-knots)) here;
        }

    abbrev fewer : List ℕ
    fewer = without_one (newest n ks) (take (n + m + 1) ks ++ rk)

    up_to : knots_up_to (newest n ks) fewer ≡ n - 1
    up_to =
        let ts = take (n + m + 1) ks ++ rk in
        let at = knot-here m ts (take n xs ++ rx) (take n ys ++ ry) (newest n ks) inner-newest in
        let right = fewer-right m ts (take n xs ++ rx) (take n ys ++ ry) (newest n ks) inner-newest in
        let size = fewer-length m ts (take n xs ++ rx) (take n ys ++ ry) (newest n ks) inner-newest in
        let s = sizes-of-passes m (take (n + m + 1) ks ++ rk) (take n xs ++ rx) (take n ys ++ ry) passes in
        either (knots_up_to (newest n ks) fewer) (n - 1)
        (λ less.
        let next = knot-behind m ts (take n xs ++ rx) (take n ys ++ ry) (newest n ks) inner-newest (knots_up_to (newest n ks) fewer) (omega arith) in
        let more = knots_up_to-above (newest n ks) fewer (omega (arith, s.knots)) in
        absurd (omega (arith, rises (suc (knots_up_to (newest n ks) fewer)) (n - 1) (omega arith) (omega (arith, count-knots)), here)))
        (λ more. either (n - 1) (knots_up_to (newest n ks) fewer)
        (λ past. absurd (omega (arith, rises n (knots_up_to (newest n ks) fewer) (omega arith) (omega (arith, s.knots)), above)))
        (λ h. omega arith))

    span-is : insertion_span fewer (newest n ks) ≡ window_at m n + m
    span-is = sym (span-of-up_to fewer (newest n ks) (n - 1) (sym up_to)) ∙ omega (arith, g.enough)

    fewer-before : (j : ℕ) → j < n - 1 → get_or fewer j 0 ≡ get_or (take (n + m + 1) ks ++ rk) j 0
    fewer-before j h = sym (knot-before m (take (n + m + 1) ks ++ rk) (take n xs ++ rx) (take n ys ++ ry) (newest n ks) inner-newest j (omega (arith, up_to)))

    fewer-behind : (j : ℕ) → n ≤ j + 1 → get_or fewer j 0 ≡ get_or (take (n + m + 1) ks ++ rk) (suc j) 0
    fewer-behind j h = sym (knot-behind m (take (n + m + 1) ks ++ rk) (take n xs ++ rx) (take n ys ++ ry) (newest n ks) inner-newest j (omega (arith, up_to)))

    -- the window's fewer knots stand among the curve's fewer knots
    knots-agree : (j : ℕ) → j < m + m + 2 → get_or (closed m (window_knots m n ks)) j 0 ≡ get_or fewer (window_at m n + j) 0
    knots-agree j h =
        either j (m + 1)
        (λ left.
        closed-before m (window_knots m n ks) window-knots j left ∙ knot-in j (omega arith)
        ∙ sym (fewer-before (window_at m n + j) (omega (arith, g.enough)) ∙ front-knot (window_at m n + j) (omega (arith, g.enough))))
        (λ right.
        let at : window_at m n + (j + 1) ≡ suc (window_at m n + j) = omega arith in
        closed-behind m (window_knots m n ks) window-knots j right ∙ knot-in (j + 1) (omega arith)
        ∙ ap (λ (k : ℕ). get_or ks k 0) at
        ∙ sym (fewer-behind (window_at m n + j) (omega (arith, g.enough)) ∙ front-knot (suc (window_at m n + j)) (omega (arith, g.enough))))

    -- one axis: its list, and its rest
    module _ (ps : List ℤ) (rest : List ℤ) (room : n ≤ length ps) (same : length (take n ps ++ rest) ≡ length (take n xs ++ rx))
        (range : (j : ℕ) → nat_abs (point_at (take n ps ++ rest) j) ≤ coordinate_most) where
      front-point : (j : ℕ) → j < n → point_at (take n ps ++ rest) j ≡ point_at ps j
      front-point j h = glue-front (pos 0) n ps rest j room h

      points-agree : (j : ℕ) → j < m + 2 → point_at (window_points m n ps) j ≡ point_at (take n ps ++ rest) (window_at m n + j)
      points-agree j h = point-in ps j h ∙ sym (front-point (window_at m n + j) (omega (arith, g.enough)))

      inside : window_at m n + m + 2 ≤ length (take n ps ++ rest)
      inside = omega (arith, glue-length n ps rest room, g.enough)

      -- a polygon of the whole curve on this axis is one of the window
      axis-narrow : (q : List ℤ) → AxisReinserts m fewer q (newest n ks) (take n ps ++ rest)
          → AxisReinserts m (closed m (window_knots m n ks)) (take (m + 1) (drop (window_at m n) q)) (middle m (window_knots m n ks)) (window_points m n ps)
      axis-narrow q h =
          rw middle-is
          (narrow m (window_at m n) (newest n ks) (closed m (window_knots m n ks)) fewer (window_points m n ps) (take n ps ++ rest) knots-agree points-agree
          (rw middle-is at (closed-span m (window_knots m n ks) (window_points m n xs) (window_points m n ys) window-is)) span-is
          (rw middle-is at (closed-reduced m (window_knots m n ks) (window_points m n xs) (window_points m n ys) window-is (window_points m n ps) (window-count ps room)))
          (fewer-reduced m (take (n + m + 1) ks ++ rk) (take n xs ++ rx) (take n ys ++ ry) (newest n ks) inner-newest (take n ps ++ rest) same)
          (window-count ps room) inside q h)

      -- and back, put in the window's place
      axis-widen : (w ps' : List ℤ) → length ps' ≡ length ps
          → AxisReinserts m (closed m (window_knots m n ks)) w (middle m (window_knots m n ks)) (window_points m n ps)
          → ((j : ℕ) → j < window_at m n → point_at ps' j ≡ point_at ps j)
          → ((j : ℕ) → j < m + 1 → point_at ps' (window_at m n + j) ≡ point_at w j)
          → AxisReinserts m fewer (take (n - 1) ps' ++ rest) (newest n ks) (take n ps ++ rest)
      axis-widen w ps' size h before new =
          let room' : n - 1 ≤ length ps' = omega arith in
          let count = glue-length (n - 1) ps' rest room' in
          widen m (window_at m n) (newest n ks) (closed m (window_knots m n ks)) fewer (window_points m n ps) (take n ps ++ rest) knots-agree points-agree
          (rw middle-is at (closed-span m (window_knots m n ks) (window_points m n xs) (window_points m n ys) window-is)) span-is
          (rw middle-is at (closed-reduced m (window_knots m n ks) (window_points m n xs) (window_points m n ys) window-is (window_points m n ps) (window-count ps room)))
          (fewer-reduced m (take (n + m + 1) ks ++ rk) (take n xs ++ rx) (take n ys ++ ry) (newest n ks) inner-newest (take n ps ++ rest) same)
          (window-count ps room) inside w (take (n - 1) ps' ++ rest) (rw middle-is at h)
          (omega (arith, glue-length n ps rest room, g.enough))
          range
          (λ j l. glue-front (pos 0) (n - 1) ps' rest j room' (omega (arith, g.enough)) ∙ before j l ∙ sym (front-point j (omega arith)))
          (λ j l. sym (glue-front (pos 0) (n - 1) ps' rest (window_at m n + j) room' (omega (arith, g.enough)) ∙ new j l))
          (λ j l i.
          let at : n - 1 + (j - (n - 1)) ≡ j = omega (arith, g.enough) in
          let to : n + (j - (n - 1)) ≡ j + 1 = omega (arith, g.enough) in
          ap (λ (k : ℕ). point_at (take (n - 1) ps' ++ rest) k) (sym at) ∙ glue-rest (pos 0) (n - 1) ps' rest (j - (n - 1)) room'
          ∙ sym (ap (λ (k : ℕ). point_at (take n ps ++ rest) k) (sym to) ∙ glue-rest (pos 0) n ps rest (j - (n - 1)) room))

    range-xs : (j : ℕ) → nat_abs (point_at (take n xs ++ rx) j) ≤ coordinate_most
    unfolding range_ok
    range-xs = sizes-of-grid (take n xs ++ rx) (both (all_on_grid (take n xs ++ rx)) (all_on_grid (take n ys ++ ry)) (passes-tests m (take (n + m + 1) ks ++ rk) (take n xs ++ rx) (take n ys ++ ry) passes).range).0

    range-ys : (j : ℕ) → nat_abs (point_at (take n ys ++ ry) j) ≤ coordinate_most
    unfolding range_ok
    range-ys = sizes-of-grid (take n ys ++ ry) (both (all_on_grid (take n xs ++ rx)) (all_on_grid (take n ys ++ ry)) (passes-tests m (take (n + m + 1) ks ++ rk) (take n xs ++ rx) (take n ys ++ ry) passes).range).1

    as_many : length (take n ys ++ ry) ≡ length (take n xs ++ rx)
    as_many = (sizes-of-passes m (take (n + m + 1) ks ++ rk) (take n xs ++ rx) (take n ys ++ ry) passes).as_many

    -- nothing in the window: nothing at all
    pub tail-stays : (ts' : List ℕ) (xs' ys' : List ℤ) → Stuck m (window_knots m n ks) (window_points m n xs) (window_points m n ys) ts' xs' ys'
        → Stays m (newest n ks) (front_then m n ks xs ys rk rx ry)
    tail-stays ts' xs' ys' stuck r =
        let d = r.without in
        let x = rw r.removes.fewer at (reinserts-xs m (newest n ks) d.knots d.xs d.ys (take (n + m + 1) ks ++ rk) (take n xs ++ rx) (take n ys ++ ry) r.removes) in
        let y = rw r.removes.fewer at (reinserts-ys m (newest n ks) d.knots d.xs d.ys (take (n + m + 1) ks ++ rk) (take n xs ++ rx) (take n ys ++ ry) r.removes) in
        stuck.none (take (m + 1) (drop (window_at m n) d.xs)) (take (m + 1) (drop (window_at m n) d.ys))
        (axis-narrow xs rx g.holding.room_xs refl range-xs d.xs x)
        (axis-narrow ys ry g.holding.room_ys as_many range-ys d.ys y)

    -- the window closed: the knot gone from the curve
    module _ (ks' : List ℕ) (xs' ys' : List ℤ) (wk : List ℕ) (wx wy : List ℤ)
        (solved : Closed m (window_knots m n ks) (window_points m n xs) (window_points m n ys) wk wx wy)
        (size_knots : length ks' ≡ length ks) (size_xs : length xs' ≡ length xs) (size_ys : length ys' ≡ length ys)
        (before_knots : (j : ℕ) → j < window_at m n → get_or ks' j 0 ≡ get_or ks j 0)
        (before_xs : (j : ℕ) → j < window_at m n → point_at xs' j ≡ point_at xs j)
        (before_ys : (j : ℕ) → j < window_at m n → point_at ys' j ≡ point_at ys j)
        (new_knots : (j : ℕ) → j < m + m + 2 → get_or ks' (window_at m n + j) 0 ≡ get_or (closed m (window_knots m n ks)) j 0)
        (new_xs : (j : ℕ) → j < m + 1 → point_at xs' (window_at m n + j) ≡ point_at solved.px j)
        (new_ys : (j : ℕ) → j < m + 1 → point_at ys' (window_at m n + j) ≡ point_at solved.py j) where
      knots-left : take (n - 1 + m + 1) ks' ++ rk ≡ fewer
      knots-left =
          let room : n - 1 + m + 1 ≤ length ks' = omega (arith, g.holding.room_knots, g.enough) in
          let size = fewer-length m (take (n + m + 1) ks ++ rk) (take n xs ++ rx) (take n ys ++ ry) (newest n ks) inner-newest in
          ext_get_or 0 (take (n - 1 + m + 1) ks' ++ rk) fewer (omega (arith, glue-length (n - 1 + m + 1) ks' rk room, count-knots, g.enough))
          (λ j i. either j (n - 1 + m + 1)
          (λ front. glue-front 0 (n - 1 + m + 1) ks' rk j room front ∙ either j (window_at m n)
          (λ left. before_knots j left ∙ sym (fewer-before j (omega arith) ∙ front-knot j (omega arith)))
          (λ right.
          let at : window_at m n + (j - window_at m n) ≡ j = omega arith in
          rw at at (new_knots (j - window_at m n) (omega (arith, g.enough)) ∙ knots-agree (j - window_at m n) (omega (arith, g.enough)))))
          (λ behind.
          let at : n - 1 + m + 1 + (j - (n - 1 + m + 1)) ≡ j = omega arith in
          let to : n + m + 1 + (j - (n - 1 + m + 1)) ≡ suc j = omega (arith, g.enough) in
          ap (λ (k : ℕ). get_or (take (n - 1 + m + 1) ks' ++ rk) k 0) (sym at) ∙ glue-rest 0 (n - 1 + m + 1) ks' rk (j - (n - 1 + m + 1)) room
          ∙ sym (fewer-behind j (omega arith) ∙ ap (λ (k : ℕ). get_or (take (n + m + 1) ks ++ rk) k 0) (sym to) ∙ glue-rest 0 (n + m + 1) ks rk (j - (n - 1 + m + 1)) g.holding.room_knots)))

      pub tail-removes : Removes m (newest n ks) (front_then m n ks xs ys rk rx ry) (front_then m (n - 1) ks' xs' ys' rk rx ry)
      tail-removes =
          rw knots-left
          (polygon-removes m (take (n + m + 1) ks ++ rk) (take n xs ++ rx) (take n ys ++ ry) (newest n ks) inner-newest (take (n - 1) xs' ++ rx) (take (n - 1) ys' ++ ry)
          (axis-widen xs rx g.holding.room_xs refl range-xs solved.px xs' size_xs solved.on_x before_xs new_xs)
          (axis-widen ys ry g.holding.room_ys as_many range-ys solved.py ys' size_ys solved.on_y before_ys new_ys))

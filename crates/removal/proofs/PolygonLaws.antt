-- A polygon on the fewer knots is one of coordinates on each axis, and back; and there is at most one.
use mathlib.Core.List.{List}
use mathlib.Core.Path.{◌≡◌, refl, sym, ap, ◌∙◌}
use Prim.Native.Nat.{ℕ, zero, suc, ◌+◌, ◌-◌, ◌≤◌, ◌<◌}
use native.Mathlib.Omega.{arith}
use lib.IntN.{ℤ, pos, ◌-ℤ◌, ◌*ℤ◌}
use lib.ListN.{length, get_or}
use lib.Seq.{ext_get_or}
use lib.Signed.{quot_z}
use borrow.Author.Tests.{le-leb, eq-eqb, lt-ltb}
use Rattle.curve.specs.Lists.{Lists, lists, NeverFall}
use Rattle.curve.proofs.ListLaws.{lists-same, same-xs, same-ys}
use Rattle.curve.proofs.RoomLaws.{enough-all}
use Rattle.grid.specs.Limits.{points_most}
use Rattle.grid.specs.Rows.{domain_end, degree_ok, point_count_ok, knot_count_ok, knot_order_ok, range_ok, all_on_grid, occurrences}
use Rattle.grid.specs.Check.{Passes}
use Rattle.refusal.proofs.JudgingLaws.{both}
use Rattle.grid.proofs.CheckLaws.{passes-tests, check-accepts}
use Rattle.grid.proofs.SizeLaws.{sizes-of-passes}
use Rattle.grid.proofs.InnerLaws.{most-inside}
use Rattle.insertion.specs.Insertion.{knots_up_to, insertion_span, inserted_knots, point_at, whole_points}
use Rattle.insertion.specs.Judged.{value_ok, place_ok, whole_ok}
use Rattle.insertion.proofs.OrderLaws.{either}
use Rattle.insertion.proofs.SpanLaws.{knots_up_to-below}
use Rattle.insertion.proofs.KnotLaws.{inserted_knots-length, inserted_knots-before, inserted_knots-here, inserted_knots-behind}
use Rattle.insertion.proofs.PointLaws.{inserted_points-length}
use Rattle.insertion.proofs.CheckedLaws.{rises-of-test, sizes-of-grid, grid-of-sizes, value-of-test, inside-of-ends}
use Rattle.insertion.proofs.JudgedLaws.{Accepted, accepted-of-number, number-of-accepted}
use Rattle.insertion.proofs.PassLaws.{order-back, ends_same, repeats-back, repeats-of-test, occurrences-inserted}
use Rattle.removal.specs.Removal.{without_one, Removes}
use Rattle.removal.specs.Axis.{Reduced, Ranged, AxisReinserts}
use Rattle.removal.specs.Polygon.{Inner}
use Rattle.removal.proofs.EquationLaws.{reinserts-left, reinserts-forward, reduced-least}
use Rattle.removal.proofs.SideLaws.{known-right, next-left}
use Rattle.removal.proofs.WithoutLaws.{without-inserted}

-- coordinates that give the same old ones back are the same, entry by entry from the left
module _ (m : ℕ) (ks : List ℕ) (v : ℕ) (ps : List ℤ) (s : Reduced m ks (length ps - 1) v) (q p : List ℤ) (hq : AxisReinserts m ks q v ps) (hp : AxisReinserts m ks p v ps) where
  entry : (j : ℕ) → j + 1 < length ps → (1 ≤ j → point_at q (j - 1) ≡ point_at p (j - 1)) → point_at q j ≡ point_at p j
  entry j inside before =
      either (insertion_span ks v) (j + m)
      (λ a. either (get_or ks (j + 1) 0) v
      (λ low.
      let near = next-left m ks v ps s j inside low in
      let first : 1 ≤ j = omega (arith, reduced-least m ks v (length ps - 1) s) in
      let below : get_or ks j 0 < v = omega (arith, s.rises j (j + 1) (omega arith) (omega (arith, s.knots))) in
      reinserts-forward m ks v (length ps - 1) s q ps (omega arith) hq j a (omega arith) below
      ∙ ap (λ (z : ℤ). quot_z (pos (get_or ks (j + m) 0 - get_or ks j 0) *ℤ point_at ps j -ℤ pos (get_or ks (j + m) 0 - v) *ℤ z) (pos (v - get_or ks j 0))) (before first)
      ∙ sym (reinserts-forward m ks v (length ps - 1) s p ps (omega arith) hp j a (omega arith) below))
      (λ high. known-right m ks v ps s j inside q hq a high ∙ sym (known-right m ks v ps s j inside p hp a high)))
      (λ left.
      reinserts-left m ks v (length ps - 1) s q ps (omega arith) hq j left
      ∙ sym (reinserts-left m ks v (length ps - 1) s p ps (omega arith) hp j left))

  entries : (j : ℕ) → j + 1 < length ps → point_at q j ≡ point_at p j
  entries zero inside = entry zero inside (λ one. absurd (omega arith))
  entries (suc j) inside =
      let back : suc j - 1 ≡ j = omega arith in
      let e = entries j (omega arith) in
      entry (suc j) inside (λ one. rw back e)

  pub axis-unique : q ≡ p
  axis-unique = ext_get_or (pos 0) q p (omega (arith, hq.count, hp.count)) (λ j l. entries j (omega (arith, hq.count)))

-- a polygon that gives the old curve back does so on each axis
module _ (m v : ℕ) (ks : List ℕ) (px py : List ℤ) (ts : List ℕ) (xs ys : List ℤ) (h : Removes m v (lists ts xs ys) (lists ks px py)) where
  tests : Accepted m (lists ks px py) v (lists ts xs ys)
  tests = accepted-of-number m (lists ks px py) v (lists ts xs ys) h.accepts

  pub reinserts-xs : AxisReinserts m ks px v xs
  unfolding range_ok whole_ok
  reinserts-xs =
      record {
        count = sym (inserted_points-length m ks px v) ∙ ap length (same-xs h.gives);
        range = sizes-of-grid px (both (all_on_grid px) (all_on_grid py) (passes-tests m ks px py tests.passes).range).0;
        whole = (both (whole_points m ks px v) (whole_points m ks py v) tests.whole).0;
        points = same-xs h.gives;
      }

  pub reinserts-ys : AxisReinserts m ks py v ys
  unfolding range_ok whole_ok
  reinserts-ys =
      record {
        count = sym (inserted_points-length m ks py v) ∙ ap length (same-ys h.gives);
        range = sizes-of-grid py (both (all_on_grid px) (all_on_grid py) (passes-tests m ks px py tests.passes).range).1;
        whole = (both (whole_points m ks px v) (whole_points m ks py v) tests.whole).1;
        points = same-ys h.gives;
      }

  -- the fewer knots carry it
  pub reinserts-reduced : (ps : List ℤ) → length ps ≡ length xs → Reduced m ks (length ps - 1) v
  reinserts-reduced ps e =
      let s = sizes-of-passes m ks px py tests.passes in
      let p = value-of-test m ks px v tests.value in
      let size : length ps - 1 ≡ length px = omega (arith, reinserts-xs.count) in
      record {
        rises = rises-of-test ks (passes-tests m ks px py tests.passes).order;
        degree = s.degree-least;
        knots = rw size s.knots;
        low = omega (arith, p.0);
        high = rw size p.1;
      }

-- two polygons that give the same curve back are equal
pub removes-unique : (m v : ℕ) (c d e : Lists) → Removes m v c d → Removes m v c e → d ≡ e
removes-unique m v c d e p q = lists-same same (axis c.xs refl d.xs e.xs x u.0) (axis c.ys as_many d.ys e.ys y u.1)
  where
    same : d.knots ≡ e.knots
    same = p.fewer ∙ sym q.fewer

    x : AxisReinserts m d.knots d.xs v c.xs
    x = reinserts-xs m v d.knots d.xs d.ys c.knots c.xs c.ys p

    y : AxisReinserts m d.knots d.ys v c.ys
    y = reinserts-ys m v d.knots d.xs d.ys c.knots c.xs c.ys p

    u : AxisReinserts m d.knots e.xs v c.xs × AxisReinserts m d.knots e.ys v c.ys
    u =
        rw same (
          reinserts-xs m v e.knots e.xs e.ys c.knots c.xs c.ys q,
          reinserts-ys m v e.knots e.xs e.ys c.knots c.xs c.ys q,
        )

    as_many : length c.ys ≡ length c.xs
    as_many =
        let s = sizes-of-passes m d.knots d.xs d.ys (tests m v d.knots d.xs d.ys c.knots c.xs c.ys p).passes in
        omega (arith, x.count, y.count, s.as_many)

    axis : (ps : List ℤ) → length ps ≡ length c.xs → (a b : List ℤ) → AxisReinserts m d.knots a v ps → AxisReinserts m d.knots b v ps → a ≡ b
    axis ps long a b f g =
        axis-unique m d.knots v ps (reinserts-reduced m v d.knots d.xs d.ys c.knots c.xs c.ys p ps long) a b f g

-- the fewer knots of a curve that passes the check, at an inner knot v
module _ (m : ℕ) (ts : List ℕ) (xs ys : List ℤ) (v : ℕ) (inner : Inner m ts xs ys v) where
  pub fewer-inserted : inserted_knots (without_one v ts) v ≡ ts
  unfolding knot_order_ok
  fewer-inserted = without-inserted 0 v ts (passes-tests m ts xs ys inner.passes).order inner.present

  -- its coordinates are on the grid
  pub inner-ranged : Ranged xs × Ranged ys
  unfolding range_ok
  inner-ranged =
      let tests = both (all_on_grid xs) (all_on_grid ys) (passes-tests m ts xs ys inner.passes).range in
      (sizes-of-grid xs tests.0, sizes-of-grid ys tests.1)

  pub fewer-length : length (without_one v ts) + 1 ≡ length ts
  fewer-length = sym (inserted_knots-length (without_one v ts) v) ∙ ap length fewer-inserted

  -- a knot of the curve, from the fewer ones
  pub knot-before : (j : ℕ) → j < knots_up_to v (without_one v ts) → get_or ts j 0 ≡ get_or (without_one v ts) j 0
  knot-before j h = ap (λ (l : List ℕ). get_or l j 0) (sym fewer-inserted) ∙ inserted_knots-before (without_one v ts) v j h

  pub knot-here : get_or ts (knots_up_to v (without_one v ts)) 0 ≡ v
  knot-here = ap (λ (l : List ℕ). get_or l (knots_up_to v (without_one v ts)) 0) (sym fewer-inserted) ∙ inserted_knots-here (without_one v ts) v

  pub knot-behind : (j : ℕ) → knots_up_to v (without_one v ts) ≤ j → get_or ts (suc j) 0 ≡ get_or (without_one v ts) j 0
  knot-behind j h = ap (λ (l : List ℕ). get_or l (suc j) 0) (sym fewer-inserted) ∙ inserted_knots-behind (without_one v ts) v j h

  rises : NeverFall ts
  rises = rises-of-test ts (passes-tests m ts xs ys inner.passes).order

  pub fewer-left : m < knots_up_to v (without_one v ts)
  fewer-left =
      let s = sizes-of-passes m ts xs ys inner.passes in
      either m (knots_up_to v (without_one v ts)) (λ h. h)
      (λ h. absurd (omega (arith, rises (knots_up_to v (without_one v ts)) m h (omega (arith, s.knots)), knot-here, inner.low)))

  pub fewer-right : knots_up_to v (without_one v ts) < length xs
  fewer-right =
      either (knots_up_to v (without_one v ts)) (length xs) (λ h. h)
      (λ h. absurd (either (length xs) (knots_up_to v (without_one v ts))
      (λ less. omega (arith, knot-before (length xs) less, knots_up_to-below v (without_one v ts) (length xs) less, inner.high))
      (λ more.
      let same : length xs ≡ knots_up_to v (without_one v ts) = omega arith in
      omega (arith, rw (← same) at knot-here, inner.high))))

  pub fewer-reduced : (ps : List ℤ) → length ps ≡ length xs → Reduced m (without_one v ts) (length ps - 1) v
  unfolding knot_order_ok
  fewer-reduced ps e =
      let s = sizes-of-passes m ts xs ys inner.passes in
      let last : suc (length xs - 1) ≡ length xs = omega (arith, fewer-right) in
      record {
        rises = rises-of-test (without_one v ts) (order-back 0 (without_one v ts) v (rw fewer-inserted (passes-tests m ts xs ys inner.passes).order));
        degree = s.degree-least;
        knots = omega (arith, s.knots, fewer-length, fewer-right);
        low = omega (arith, knot-before m fewer-left, inner.low);
        high = rw e (omega (arith, rw last at (knot-behind (length xs - 1) (omega (arith, fewer-right))), inner.high));
      }

  -- v lies strictly inside the domain, so it stands at most m times, and one time fewer here
  fewer-count : occurrences v (without_one v ts) < m
  unfolding occurrences
  fewer-count =
      let t = passes-tests m ts xs ys inner.passes in
      let s = sizes-of-passes m ts xs ys inner.passes in
      let most = repeats-of-test m ts t.repeats v in
      let end : domain_end m ts ≡ get_or ts (length xs) 0 = ap (λ (i : ℕ). get_or ts i 0) (omega (arith, s.knots)) in
      let bound = rw (most-inside m ts v inner.low (omega (arith, inner.high, end))) at most in
      let count = occurrences-inserted v (without_one v ts) v in
      let more = rw (fewer-inserted, eq-eqb v v refl) at count in
      omega arith

  -- both axes together are a polygon that gives the old curve back
  module _ (px py : List ℤ) (x : AxisReinserts m (without_one v ts) px v xs) (y : AxisReinserts m (without_one v ts) py v ys) where
    polygon-passes : Passes m (without_one v ts) px py
    unfolding degree_ok point_count_ok knot_count_ok knot_order_ok range_ok
    polygon-passes =
        let t = passes-tests m ts xs ys inner.passes in
        let s = sizes-of-passes m ts xs ys inner.passes in
        let right : knots_up_to v (without_one v ts) + m + 1 ≤ length (without_one v ts) = omega (arith, fewer-right, fewer-length, s.knots) in
        sym (check-accepts m (without_one v ts) px py
        t.degree
        (rw (
          eq-eqb (length px) (length py) (omega (arith, s.as_many, x.count, y.count)),
          le-leb (m + 1) (length px) (omega (arith, fewer-left, fewer-right, x.count)),
          le-leb (length px) points_most (omega (arith, s.most, x.count)),
        ))
        (eq-eqb (length (without_one v ts)) (length px + m + 1) (omega (arith, s.knots, fewer-length, x.count)))
        (order-back 0 (without_one v ts) v (rw fewer-inserted t.order))
        (sym (ends_same m (without_one v ts) v fewer-left right) ∙ rw fewer-inserted t.ends)
        (repeats-back m (without_one v ts) v fewer-left right (rw fewer-inserted t.repeats))
        (rw (grid-of-sizes px x.range, grid-of-sizes py y.range)))

    pub polygon-removes : Removes m v (lists ts xs ys) (lists (without_one v ts) px py)
    unfolding value_ok place_ok whole_ok
    polygon-removes =
        let s = sizes-of-passes m ts xs ys inner.passes in
        let size : length px ≡ length xs - 1 = omega (arith, x.count) in
        let high = (fewer-reduced xs refl).high in
        let gives = lists-same fewer-inserted x.points y.points in
        record {
          fewer = refl;
          accepts =
              number-of-accepted m (lists (without_one v ts) px py) v (lists ts xs ys)
              (record {
                passes = polygon-passes;
                value = rw (
                  inside-of-ends (without_one v ts) m (length px) v (omega (arith, knot-before m fewer-left, inner.low)) (rw size high),
                  lt-ltb (occurrences v (without_one v ts)) m fewer-count,
                );
                place = lt-ltb (length px) points_most (omega (arith, s.most, x.count));
                whole = rw (x.whole, y.whole);
                room =
                    enough-all _ _ _ _ _ _ (omega (arith, ap length fewer-inserted)) (omega (arith, ap length x.points)) (omega (arith, ap length y.points));
              });
          gives = gives;
        }

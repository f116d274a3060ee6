-- Both axes on the fewer knots: what the answers of the two say of a polygon.
use Rattle.std.specs.Prelude.{Result, Ok, Err}
use mathlib.Core.List.{List, ◌++◌}
use mathlib.Core.Path.{◌≡◌, sym, ap, ◌∙◌}
use Prim.Native.Nat.{ℕ, suc, ◌+◌, ◌-◌}
use native.Mathlib.Numerals.{add-one}
use lib.IntN.{ℤ}
use lib.ListN.{length, take, drop}
use Rattle.curve.specs.Lists.{lists}
use Rattle.insertion.specs.Insertion.{knots_up_to}
use Rattle.refusal.specs.declared.Refusal.{Refusal}
use Rattle.removal.specs.Removal.{without_one}
use Rattle.removal.specs.Axis.{Reduced, AxisReinserts}
use Rattle.removal_walk.specs.Walk.{AxisOutcome}
use Rattle.removal.specs.Polygon.{Inner}
use Rattle.removal_polygon.specs.Outcome.{PolygonOutcome}
use Rattle.removal.proofs.WithoutLaws.{inserted-up_to, inserted-parts}
use Rattle.removal.proofs.PolygonLaws.{fewer-inserted, fewer-reduced, reinserts-xs, reinserts-ys, polygon-removes}

-- the knots without the last v, which stands behind all other knots up to it
module _ (m : ℕ) (ts : List ℕ) (xs ys : List ℤ) (v : ℕ) (inner : Inner m ts xs ys v) where
  pub up_to-fewer : knots_up_to v ts ≡ suc (knots_up_to v (without_one v ts))
  up_to-fewer = ap (knots_up_to v) (sym (fewer-inserted m ts xs ys v inner)) ∙ inserted-up_to v (without_one v ts)

  pub last-gone : (at : ℕ) → at ≡ knots_up_to v (without_one v ts) → take at ts ++ drop (at + 1) ts ≡ without_one v ts
  last-gone at e =
      rw (add-one at, e)
      (ap (λ (l : List ℕ). take (knots_up_to v (without_one v ts)) l ++ drop (suc (knots_up_to v (without_one v ts))) l) (sym (fewer-inserted m ts xs ys v inner))
      ∙ inserted-parts v (without_one v ts))

module _ (m : ℕ) (ts : List ℕ) (xs ys : List ℤ) (v : ℕ) (inner : Inner m ts xs ys v) (ks : List ℕ) (e_ks : ks ≡ without_one v ts) where
  pub outcome-reduced : (ps : List ℤ) → length ps ≡ length xs → Reduced m ks (length ps - 1) v
  outcome-reduced ps size = rw e_ks (fewer-reduced m ts xs ys v inner ps size)

  -- no coordinates for x
  pub outcome-no-x : (px py : List ℤ) (answer : Result (Unit {0}) Refusal) (e : Refusal) → answer ≡ Err e → AxisOutcome m ks v xs px (Err e)
      → PolygonOutcome m (lists ts xs ys) v (lists ks px py) answer
  outcome-no-x px py answer e is axis =
      rw is (axis.0, λ p. let d = p.without in axis.1 d.xs (rw (e_ks ∙ sym p.removes.fewer) (reinserts-xs m v d.knots d.xs d.ys ts xs ys p.removes)))

  -- coordinates for x: y decides
  pub outcome-by-y : (px py : List ℤ) (r : Result (Unit {0}) Refusal) → AxisReinserts m ks px v xs → AxisOutcome m ks v ys py r
      → PolygonOutcome m (lists ts xs ys) v (lists ks px py) r
  outcome-by-y px py (Ok done) x y = rw e_ks (polygon-removes m ts xs ys v inner px py (rw e_ks at x) (rw e_ks at y))
  outcome-by-y px py (Err e) x y = (y.0, λ p. let d = p.without in y.1 d.ys (rw (e_ks ∙ sym p.removes.fewer) (reinserts-ys m v d.knots d.xs d.ys ts xs ys p.removes)))

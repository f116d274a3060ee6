-- The parts of the lists that carry: where they lie, that both axes can be clamped, and that what is answered for them is answered for the curve.
use mathlib.Core.List.{List}
use mathlib.Core.Path.{◌≡◌, ap}
use Prim.Native.Nat.{ℕ, ◌+◌, ◌-◌, ◌≤◌, ◌<◌}
use native.Mathlib.Omega.{arith}
use lib.IntN.{ℤ, pos}
use lib.ListN.{length, get_or, take, drop, get_or-eq_default}
use Rattle.curve.specs.Lists.{Lists, lists, NeverFall}
use Rattle.grid.specs.Limits.{points_most, knot_most}
use Rattle.grid.specs.Check.{Passes}
use Rattle.grid.proofs.SizeLaws.{sizes-of-passes}
use Rattle.checked.specs.Checked.{OnGrid}
use Rattle.checked.proofs.CheckedLaws.{checked-of-passes}
use Rattle.insertion.proofs.OrderLaws.{either}
use Rattle.clamping.specs.Clamping.{first_span, last_span, carriers_from, carriers, carrying_part}
use Rattle.clamping.proofs.EndSpanLaws.{end-spans}
use Rattle.clamping.proofs.PartLaws.{PartFacts, part-of-passes}
use Rattle.clamping.proofs.ClampedLaws.{range-of-grid}
use Rattle.clamp_rows.specs.Near.{Carries}

-- the first and the last span of a curve with so many points, knots and y
pub record Found (m i j points knots ys : ℕ) : Type 0 where
  pub from : m ≤ i
  pub order : i ≤ j
  pub to : j < points
  pub degree : m ≤ 3
  pub most : points ≤ points_most
  pub count : knots ≡ points + m + 1
  pub as_many : ys ≡ points

-- a knot is no larger than the largest, past the end of the list too
knot-most : (ts : List ℕ) → ((a : ℕ) → a < length ts → get_or ts a 0 ≤ knot_most) → (a : ℕ) → get_or ts a 0 ≤ knot_most
knot-most ts each a = either a (length ts) (each a) (λ l. rw (get_or-eq_default ts 0 l) (omega arith))

-- an axis of a part that carries
axis-carries : (m : ℕ) (ts : List ℕ) (ps : List ℤ) (count : ℕ) → length ps ≡ count → m ≤ 3 → m + 1 ≤ count → length ts ≡ count + m + 1 → NeverFall ts
    → ((a : ℕ) → a < length ts → get_or ts a 0 ≤ knot_most) → get_or ts m 0 < get_or ts (m + 1) 0 → get_or ts (count - 1) 0 < get_or ts count 0
    → ((a : ℕ) → a < length ps → OnGrid (get_or ps a (pos 0))) → Carries m ts ps
axis-carries m ts ps count long degree enough knots rising largest opens closes grid =
    record {
      degree = degree;
      enough = rw long enough;
      count = rw long knots;
      rising = rising;
      largest = knot-most ts largest;
      opens = opens;
      closes = rw long closes;
      range = range-of-grid ps grid;
    }

module _ (m : ℕ) (c d : Lists) (first count : ℕ) (p : PartFacts m c d first count) where
  carries-x : Carries m d.knots d.xs
  carries-x =
      axis-carries m d.knots d.xs count p.count-xs p.checked.sizes.degree-most p.enough p.count-knots p.checked.rising p.checked.largest
      p.first-wide p.last-wide p.checked.grid_x

  carries-y : Carries m d.knots d.ys
  carries-y =
      axis-carries m d.knots d.ys count p.count-ys p.checked.sizes.degree-most p.enough p.count-knots p.checked.rising p.checked.largest
      p.first-wide p.last-wide p.checked.grid_y

module _ (m : ℕ) (c : Lists) (h : Passes m c.knots c.xs c.ys) (i j : ℕ) (is-first : i ≡ first_span m c) (is_last : j ≡ last_span m c) where
  pub found : Found m i j (length c.xs) (length c.knots) (length c.ys)
  found =
      let e = end-spans m c (checked-of-passes m c.knots c.xs c.ys h) in
      let z = sizes-of-passes m c.knots c.xs c.ys h in
      rw (is-first, is_last)
      (record { from = e.from; order = e.order; to = e.to; degree = z.degree-most; most = z.most; count = z.knots; as_many = z.as_many })

  abbrev cut : {A : Type 0} → ℕ → List A → List A
  cut past l = take (past - (i - m)) (drop (i - m) l)

  pub same-part : lists (cut (j + 1 + m + 1) c.knots) (cut (j + 1) c.xs) (cut (j + 1) c.ys) ≡ carrying_part m c
  same-part =
      let f = found in
      let long : j + 1 + m + 1 - (i - m) ≡ j + 1 - (i - m) + m + 1 = omega (arith, f.from, f.order) in
      rw (long, is-first, is_last)

  pub cut-carries : Carries m (take (j + 1 + m + 1 - (i - m)) (drop (i - m) c.knots)) (take (j + 1 - (i - m)) (drop (i - m) c.xs))
      × Carries m (take (j + 1 + m + 1 - (i - m)) (drop (i - m) c.knots)) (take (j + 1 - (i - m)) (drop (i - m) c.ys))
  cut-carries =
      let p = part-of-passes m c h in
      rw (ap (λ (d : Lists). d.knots) same-part, ap (λ (d : Lists). d.xs) same-part, ap (λ (d : Lists). d.ys) same-part)
      (carries-x m c (carrying_part m c) (carriers_from m c) (carriers m c) p, carries-y m c (carrying_part m c) (carriers_from m c) (carriers m c) p)

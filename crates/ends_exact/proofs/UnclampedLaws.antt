-- Unclamping keeps the exact curve, and a polygon that does is the unclamped one.
use mathlib.Core.Bool.{true}
use mathlib.Core.List.{List}
use mathlib.Core.Path.{◌≡◌, refl, ap, subst, ◌∙◌}
use Prim.Native.Nat.{ℕ, ◌+◌, ◌-◌, ◌≤◌, ◌<◌}
use native.Mathlib.Omega.{arith}
use lib.IntN.{ℤ}
use lib.ListN.{length, get_or}
use borrow.Author.Tests.{eq-eqb, le-leb}
use Rattle.curve.specs.Lists.{Lists}
use Rattle.curve.proofs.ListLaws.{lists-same}
use Rattle.grid.specs.Limits.{knot_most}
use Rattle.grid.specs.Check.{Passes}
use Rattle.checked.specs.Checked.{Checked}
use Rattle.checked.proofs.CheckedLaws.{checked-of-passes}
use Rattle.insertion.specs.Insertion.{entries, point_at}
use Rattle.insertion.proofs.EntryLaws.{entries-length, entries_at}
use Rattle.unclamping.specs.Unclamping.{end_clamped, open_knot, knots_fit, open_points, unclamped, opens}
use Rattle.clamping.specs.Clamping.{whole_of}
use Rattle.unclamping.proofs.EntryLaws.{knot-old, whole_is, open_points-length, open_points-at, point-old, unclamped-knot-at, unclamped-xs, unclamped-ys}
use Rattle.unclamping.proofs.ResultLaws.{unclamped-passes}
use Rattle.unclamping.proofs.JudgedLaws.{opens-parts, accepted-of-number}
use Rattle.knots_exact.specs.SameCurve.{SameOnAxis, SameCurve}
use Rattle.ends_exact.specs.Unclamping.{UnclampKeepsCurve, UnclampedPolygon, UnclampExactly, UnclampedClampsBack}
use Rattle.ends_exact.proofs.BackLaws.{clamps-back}
use Rattle.ends_exact.proofs.UnclampLaws.{opened-same, axis-open, points-these}

pub opens-keeps : (m : ℕ) (c : Lists) → Passes m c.knots c.xs c.ys → opens m c ≡ true → SameCurve m c (unclamped m c)
unfolding unclamped
opens-keeps m c passes h =
    let parts = opens-parts m c h in
    let z = (checked-of-passes m c.knots c.xs c.ys passes).sizes in
    record {
      x = opened-same m c passes parts.end c.xs refl parts.x;
      y = opened-same m c passes parts.end c.ys z.as_many parts.y;
    }

pub unclamp-keeps-curve : UnclampKeepsCurve
unclamp-keeps-curve m c lent h = let a = accepted-of-number m c lent h in opens-keeps m c a.0 a.1

module _ (m : ℕ) (c d : Lists) (passes : Passes m c.knots c.xs c.ys) (p : UnclampedPolygon m c d) where
  old : Checked m c.knots c.xs c.ys
  old = checked-of-passes m c.knots c.xs c.ys passes

  new : Checked m d.knots d.xs d.ys
  new = checked-of-passes m d.knots d.xs d.ys p.passes

  abbrev us : List ℕ
  us = entries (open_knot c.knots (length c.xs)) (length c.knots)

  knots-are : d.knots ≡ us
  unfolding unclamped
  knots-are = p.knots

  agree : get_or c.knots (length c.xs + m) 0 ≡ get_or c.knots (length c.xs) 0
  agree = p.agree m (omega arith)

  many : length d.xs ≡ length c.xs - 1 + 1
  many = omega (arith, new.sizes.knots, old.sizes.knots, old.sizes.enough, ap length knots-are ∙ entries-length (open_knot c.knots (length c.xs)) (length c.knots))

  many-y : length d.ys ≡ length c.xs - 1 + 1
  many-y = new.sizes.as_many ∙ many

  on : (ps qs : List ℤ) → SameOnAxis m c.knots ps d.knots qs → SameOnAxis m c.knots ps us qs
  on ps qs = subst (λ (ks : List ℕ). SameOnAxis m c.knots ps ks qs) knots-are

  fits : open_knot c.knots (length c.xs) (length c.xs + m) ≤ knot_most
  fits =
      let inside : length c.xs + m < length c.knots = omega (arith, old.sizes.knots) in
      let last = ap (λ (ks : List ℕ). get_or ks (length c.xs + m) 0) knots-are ∙ entries_at (open_knot c.knots (length c.xs)) (length c.knots) (length c.xs + m) 0 inside in
      omega (arith, last, new.largest (length c.xs + m) (omega (arith, new.sizes.knots, many, old.sizes.enough)))

  pub polygon-opens : opens m c ≡ true
  unfolding opens end_clamped knots_fit
  polygon-opens =
      rw (
        eq-eqb (get_or c.knots (length c.xs + m) 0) (get_or c.knots (length c.xs) 0) agree,
        le-leb (open_knot c.knots (length c.xs) (length c.xs + m)) knot_most fits,
        axis-open m c passes agree c.xs refl d.xs many (on c.xs d.xs p.same.x) old.grid_x new.grid_x,
        axis-open m c passes agree c.ys old.sizes.as_many d.ys many-y (on c.ys d.ys p.same.y) old.grid_y new.grid_y,
      )

  pub polygon-is : d ≡ unclamped m c
  unfolding unclamped
  polygon-is =
      let parts = opens-parts m c polygon-opens in
      lists-same knots-are
      (points-these m c passes agree c.xs refl d.xs many (on c.xs d.xs p.same.x) p.x parts.x)
      (points-these m c passes agree c.ys old.sizes.as_many d.ys many-y (on c.ys d.ys p.same.y) p.y parts.y)

-- the unclamped curve is such a polygon
the-polygon : (m : ℕ) (c : Lists) → Passes m c.knots c.xs c.ys → opens m c ≡ true → UnclampedPolygon m c (unclamped m c)
the-polygon m c passes h =
    let parts = opens-parts m c h in
    let k = checked-of-passes m c.knots c.xs c.ys passes in
    let z = k.sizes in
    let old : (ps : List ℤ) → length ps ≡ length c.xs → (j : ℕ) → j + m < length c.xs → point_at (open_points m c.knots ps) j ≡ point_at ps j =
    λ ps long j l.
    open_points-at m c.knots ps j (omega (arith, long)) ∙ ap whole_of (point-old m c.knots ps j (omega (arith, long)) (omega (arith, long))) ∙ whole_is (point_at ps j) in
    record {
      agree = λ i l.
          omega (
            arith,
            parts.end,
            k.rising (length c.xs) (length c.xs + i) (omega arith) (omega (arith, z.knots)),
            k.rising (length c.xs + i) (length c.xs + m) (omega arith) (omega (arith, z.knots)),
          );
      passes = unclamped-passes m c passes h;
      knots = refl;
      x = λ j l. rw (unclamped-xs m c) (old c.xs refl j l);
      y = λ j l. rw (unclamped-ys m c) (old c.ys z.as_many j l);
      same = opens-keeps m c passes h;
    }

pub unclamp-exactly : UnclampExactly
unclamp-exactly m c passes =
    ((λ h. (unclamped m c, the-polygon m c passes h), λ e. polygon-opens m c e.0 passes e.1), λ d p. polygon-is m c d passes p)

pub unclamped-clamps-back : UnclampedClampsBack
unclamped-clamps-back m c passes h ends =
    let z = (checked-of-passes m c.knots c.xs c.ys passes).sizes in
    clamps-back m c (unclamped m c) passes ends (unclamped-passes m c passes h) (ap length (unclamped-xs m c) ∙ open_points-length m c.knots c.xs)
    (λ j low high. unclamped-knot-at m c j (omega (arith, z.knots)) ∙ knot-old c.knots (length c.xs) j high) (opens-keeps m c passes h)

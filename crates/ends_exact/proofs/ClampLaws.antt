-- Clamping keeps the exact curve on both axes, and is done exactly where some polygon of whole points does.
use mathlib.Core.Bool.{true, and-eq-true_iff}
use mathlib.Core.List.{List}
use mathlib.Core.Path.{◌≡◌, refl, sym, ap, subst, ◌∙◌}
use Prim.Native.Nat.{ℕ, ◌+◌, ◌-◌, ◌<◌}
use native.Mathlib.Decide.{ℕ_discrete}
use native.Mathlib.Omega.{arith}
use lib.IntN.{ℤ, pos}
use lib.ListN.{length, get_or}
use lib.Seq.{ext_get_or}
use Rattle.refusal.specs.Numbers.{accepted}
use Rattle.refusal.proofs.JudgingLaws.{unless-accepted}
use Rattle.curve.specs.Lists.{Lists, NeverFall}
use Rattle.fractions.specs.Fraction.{whole}
use Rattle.fractions.proofs.Rational.{class}
use Rattle.curve.proofs.ListLaws.{lists-same}
use Rattle.grid.specs.Check.{check_number, Passes}
use Rattle.grid.proofs.ThenLaws.{checked_then-passed, checked_then-refused}
use Rattle.checked.specs.Checked.{Checked}
use Rattle.checked.proofs.CheckedLaws.{checked-of-passes, passes-of-checked}
use Rattle.insertion.specs.Insertion.{entries}
use Rattle.insertion.proofs.EntryLaws.{entries-length}
use Rattle.clamping.specs.Clamping.{carriers_from, carriers, carrying_part, clamped_knot, clamped_number, is_whole, all_whole, clamped_points, clamped, clamps_whole, clamp_then, clamp_number}
use Rattle.clamping.proofs.PartLaws.{PartFacts, part-of-passes}
use Rattle.clamping.proofs.WholeLaws.{whole-of-each}
use Rattle.clamping.proofs.ClampedLaws.{clamped-passes, points-at, points-length}
use Rattle.knots_exact.specs.SameCurve.{SameOnAxis, SameCurve}
use Rattle.same_polygon.specs.SamePolygon.{CarriesSpan}
use Rattle.same_polygon.proofs.PointLaws.{whole_is}
use Rattle.same_polygon.proofs.PolygonLaws.{carries}
use Rattle.ends_exact.specs.Clamping.{ClampKeepsCurve, ClampedPolygon, ClampExactly}
use Rattle.ends_exact.proofs.ShareLaws.{value, value-of-whole}
use Rattle.ends_exact.proofs.EndLaws.{WideEnds, number-lower}
use Rattle.ends_exact.proofs.MovedLaws.{Axis, PartOf}
use Rattle.ends_exact.proofs.AxisLaws.{clamped-same, carrier-fixed, carrier-whole}

module _ (m : ℕ) (c : Lists) (passes : Passes m c.knots c.xs c.ys) where
  facts : Checked m c.knots c.xs c.ys
  facts = checked-of-passes m c.knots c.xs c.ys passes

  abbrev d : Lists
  d = carrying_part m c

  abbrev first : ℕ
  first = carriers_from m c

  abbrev n : ℕ
  n = carriers m c - 1

  part : PartFacts m c d first (carriers m c)
  part = part-of-passes m c passes

  count : carriers m c ≡ n + 1
  count = omega (arith, part.enough)

  -- either axis: its coordinates in c and in the part
  module _ (ps rs : List ℤ) (long : length ps ≡ length c.xs) (size : length rs ≡ carriers m c)
      (at : (j : ℕ) → j < carriers m c → get_or rs j (pos 0) ≡ get_or ps (first + j) (pos 0)) where
    axis : Axis m c.knots ps
    axis = record { rises = facts.rising; size = rw long facts.sizes.knots; domain = rw long facts.domain }

    wide : WideEnds m d.knots rs n
    wide = record {
      degree = facts.sizes.degree-least;
      enough = omega (arith, part.enough);
      rises = part.checked.rising;
      size = part.count-knots ∙ ap (λ (k : ℕ). k + m + 1) count;
      points = size ∙ count;
      first = part.first-wide;
      final = rw (← count) part.last-wide;
    }

    part_of : PartOf m c.knots ps d.knots rs first n
    part_of = record {
      wide = wide;
      within = rw (← count, long) part.within;
      knot = λ j l. part.knot j (rw count l);
      point = λ j l. at j (rw count l);
      start = part.start;
      stop = rw (← count, long) part.stop;
    }

    -- the clamped knots
    knots-is : (clamped m c).knots ≡ entries (clamped_knot m d.knots (n + 1)) (length d.knots)
    unfolding clamped
    knots-is = ap (λ (k : ℕ). entries (clamped_knot m d.knots k) (length d.knots)) (part.count-xs ∙ count)

    all-to : all_whole (clamped_number m d.knots rs) (length rs) ≡ true → all_whole (clamped_number m d.knots rs) (n + 1) ≡ true
    all-to = subst (λ (k : ℕ). all_whole (clamped_number m d.knots rs) k ≡ true) (size ∙ count)

    same-axis : all_whole (clamped_number m d.knots rs) (length rs) ≡ true → SameOnAxis m c.knots ps (clamped m c).knots (clamped_points m d.knots rs)
    same-axis all =
        subst (λ (us : List ℕ). SameOnAxis m c.knots ps us (clamped_points m d.knots rs)) (sym knots-is)
        (clamped-same m facts.sizes.degree-most c.knots ps axis d.knots rs first n part_of (all-to all))

    -- whole numbers qs over the clamped knots with the same exact curve
    module _ (qs : List ℤ) (many : length qs ≡ carriers m c) (same : SameOnAxis m c.knots ps (clamped m c).knots qs) where
      rises : NeverFall (entries (clamped_knot m d.knots (n + 1)) (length d.knots))
      rises =
          subst (λ (us : List ℕ). NeverFall us) knots-is
          (checked-of-passes m (clamped m c).knots (clamped m c).xs (clamped m c).ys (clamped-passes m c passes).passes).rising

      part-passes : Passes m d.knots d.xs d.ys
      part-passes = passes-of-checked m d.knots d.xs d.ys part.checked

      carried : (j : ℕ) → j < carriers m c → (i : ℕ) × CarriesSpan m d.knots (length d.xs) j i
      carried j l =
          carries m d part-passes part.first-wide
          (subst (λ (k : ℕ). get_or d.knots (k - 1) 0 < get_or d.knots k 0) (sym part.count-xs) part.last-wide) j (rw part.count-xs l)

      over : SameOnAxis m c.knots ps (entries (clamped_knot m d.knots (n + 1)) (length d.knots)) qs
      over = subst (λ (us : List ℕ). SameOnAxis m c.knots ps us qs) knots-is same

      number-whole : (j : ℕ) → j < carriers m c → is_whole (clamped_number m d.knots rs j) ≡ true
      number-whole j l =
          let k = carried j l in
          carrier-whole m facts.sizes.degree-most c.knots ps axis d.knots rs first n part_of rises qs (many ∙ count) over k.0 k.1.from
          (omega (arith, k.1.to, part.count-xs, count)) k.1.some j k.1.first k.1.last

      number_is : (j : ℕ) → j < carriers m c → value (clamped_number m d.knots rs j) ≡ class (whole (get_or qs j (pos 0)))
      number_is j l =
          let k = carried j l in
          carrier-fixed m facts.sizes.degree-most c.knots ps axis d.knots rs first n part_of rises qs (many ∙ count) over k.0 k.1.from
          (omega (arith, k.1.to, part.count-xs, count)) k.1.some j k.1.first k.1.last

      -- row 11 does not apply on this axis, and they are the clamped points
      each_whole : all_whole (clamped_number m d.knots rs) (length rs) ≡ true
      each_whole = whole-of-each (clamped_number m d.knots rs) (length rs) (λ j l. number-whole j (rw (← size) l))

      points-are-these : qs ≡ clamped_points m d.knots rs
      points-are-these =
          ext_get_or (pos 0) qs (clamped_points m d.knots rs) (many ∙ sym size ∙ sym (points-length m d.knots rs))
          (λ j l.
          let inside : j < carriers m c = rw (← many) l in
          whole_is (get_or qs j (pos 0)) (get_or (clamped_points m d.knots rs) j (pos 0))
          (sym (number_is j inside)
          ∙ sym (value-of-whole (clamped_number m d.knots rs j) (number-lower m d.knots rs n wide j) (number-whole j inside))
          ∙ ap (λ (z : ℤ). class (whole z)) (sym (points-at m d.knots rs j (omega (arith, size))))))

  -- both axes
  as-many-y : length c.ys ≡ length c.xs
  as-many-y = facts.sizes.as_many

  both : clamps_whole m c ≡ true → (all_whole (clamped_number m d.knots d.xs) (length d.xs) ≡ true) × (all_whole (clamped_number m d.knots d.ys) (length d.ys) ≡ true)
  unfolding clamps_whole
  both h = (and-eq-true_iff (all_whole (clamped_number m d.knots d.xs) (length d.xs)) (all_whole (clamped_number m d.knots d.ys) (length d.ys))).0 h

  pub whole-keeps : clamps_whole m c ≡ true → SameCurve m c (clamped m c)
  unfolding clamped
  whole-keeps h =
      let e = both h in
      record {
        x = same-axis c.xs d.xs refl part.count-xs part.x e.0;
        y = same-axis c.ys d.ys as-many-y part.count-ys part.y e.1;
      }

  module _ (g : Lists) (p : ClampedPolygon m c g) where
    -- it has as many points
    many-x : length g.xs ≡ carriers m c
    unfolding clamped
    many-x =
        let long = ap length p.knots ∙ entries-length (clamped_knot m d.knots (length d.xs)) (length d.knots) ∙ part.count-knots in
        omega (arith, p.points)

    many-y : length g.ys ≡ carriers m c
    many-y = p.as_many ∙ many-x

    on : (ps qs : List ℤ) → SameOnAxis m c.knots ps g.knots qs → SameOnAxis m c.knots ps (clamped m c).knots qs
    on ps qs = subst (λ (us : List ℕ). SameOnAxis m c.knots ps us qs) p.knots

    polygon-whole : clamps_whole m c ≡ true
    unfolding clamps_whole
    polygon-whole =
        rw (
          each_whole c.xs d.xs refl part.count-xs part.x g.xs many-x (on c.xs g.xs p.same.x),
          each_whole c.ys d.ys as-many-y part.count-ys part.y g.ys many-y (on c.ys g.ys p.same.y),
        )

    polygon-is : g ≡ clamped m c
    unfolding clamped
    polygon-is =
        lists-same p.knots
        (points-are-these c.xs d.xs refl part.count-xs part.x g.xs many-x (on c.xs g.xs p.same.x))
        (points-are-these c.ys d.ys as-many-y part.count-ys part.y g.ys many-y (on c.ys g.ys p.same.y))

  the-polygon : clamps_whole m c ≡ true → ClampedPolygon m c (clamped m c)
  the-polygon h =
      let z = (checked-of-passes m (clamped m c).knots (clamped m c).xs (clamped m c).ys (clamped-passes m c passes).passes).sizes in
      record { knots = refl; points = z.knots; as_many = z.as_many; same = whole-keeps h }

pub clamp-exactly : ClampExactly
clamp-exactly m c passes = ((λ h. (clamped m c, the-polygon m c passes h), λ e. polygon-whole m c passes e.0 e.1), polygon-is m c passes)

-- what an accepted clamping says: the curve passes the check, and every point is whole
pub clamp-accepted : (m : ℕ) (c lent : Lists) → clamp_number m c lent ≡ accepted → Passes m c.knots c.xs c.ys × (clamps_whole m c ≡ true)
unfolding clamp_number clamp_then
clamp-accepted m c lent h =
    elim (ℕ_discrete (check_number m c.knots c.xs c.ys) 0) [
      | yes passes ↦ (
        passes,
        (unless-accepted (clamps_whole m c) 10 _ (sym (checked_then-passed m c.knots c.xs c.ys _ passes) ∙ h)).0,
      )
      | no refused ↦ absurd (refused (sym (checked_then-refused m c.knots c.xs c.ys _ refused) ∙ h))
    ]

pub clamp-keeps-curve : ClampKeepsCurve
clamp-keeps-curve m c lent h = let a = clamp-accepted m c lent h in whole-keeps m c a.0 a.1

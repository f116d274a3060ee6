-- Points that carry a span are fixed by the exact curve on it, on one axis; and so a polygon by its curve.
use mathlib.Core.Bool.{true}
use mathlib.Core.List.{List}
use mathlib.Core.Path.{◌≡◌, refl, sym, ◌∙◌, ap}
use Prim.Native.Nat.{ℕ, ◌+◌, ◌-◌, ◌≤◌, ◌<◌}
use native.Mathlib.Omega.{arith}
use lib.IntN.{ℤ}
use lib.ListN.{length, get_or}
use Rattle.signed.proofs.ScaleLaws.{times-cancel}
use Rattle.algebra.specs.OrderedField.{AtMost, Below}
use Rattle.splines.specs.Span.{Rising}
use Rattle.splines.specs.Triangle.{entry}
use Rattle.span_points.proofs.SpanPointLaws.{span-fixes-points}
use Rattle.fractions.specs.Fraction.{whole}
use Rattle.fractions.specs.Order.{Equals}
use Rattle.fractions.proofs.Rational.{ℚ, ℚ-set, class, rational, rational_operations, class-of-equals, equals-of-class}
use Rattle.fractions.proofs.ClassLaws.{whole_n-below}
use Rattle.exact.specs.ExactCurve.{exact_at}
use Rattle.exact.proofs.ExactLaws.{rational_knot, rational_coordinate}
use Rattle.exact.proofs.SpanLaws.{knots-rising}
use Rattle.span.specs.Span.{in_domain}
use Rattle.curve.specs.Lists.{Lists}
use Rattle.grid.specs.Sizes.{Sizes}
use Rattle.grid.proofs.SizeLaws.{sizes-of-passes}
use Rattle.checked.specs.Checked.{Checked}
use Rattle.checked.proofs.CheckedLaws.{checked-of-passes}
use Rattle.insertion.specs.Insertion.{point_at}
use Rattle.knots_exact.specs.SameCurve.{SameOnAxis}
use Rattle.same_polygon.specs.SamePolygon.{CarriesSpan, OneCurve, CurveFixesCarriers}
use Rattle.same_polygon.proofs.ParameterLaws.{on-span}
use Rattle.same_polygon.proofs.AgreeLaws.{WideSpan, in-domain, exact-entry}

-- a whole number is told by its class
pub whole_is : (x y : ℤ) → class (whole x) ≡ class (whole y) → x ≡ y
whole_is x y e = times-cancel x y 1 (omega arith) (equals-of-class (whole x) (whole y) e)

-- the knots of a span that is not empty, as rational numbers
pub wide_below : (m : ℕ) (ts : List ℕ) (count i : ℕ) → WideSpan m ts count i → Below rational (rational_knot ts i) (rational_knot ts (i + 1))
wide_below m ts count i s = (whole_n-below (get_or ts i 0) (get_or ts (i + 1) 0)).0 s.some

pub wide-rising : (m : ℕ) (ts : List ℕ) (count i : ℕ) → WideSpan m ts count i → Rising rational (rational_knot ts) (i + m)
wide-rising m ts count i s = knots-rising ts (i + m) (λ a b h k. s.rises a b h (omega (arith, s.size, s.to)))

-- two exact curves that agree at every fraction of the domain: on a span that both have, their triangles agree at every number
module _ (m : ℕ) (ts us : List ℕ) (ps qs : List ℤ) (i k : ℕ) (s : WideSpan m ts (length ps) i) (z : WideSpan m us (length qs) k)
    (low : get_or us k 0 ≡ get_or ts i 0) (high : get_or us (k + 1) 0 ≡ get_or ts (i + 1) 0)
    (same : (p q : ℕ) → 0 < q → in_domain ts m (length ps - 1) p q ≡ true → Equals (exact_at m us qs p q) (exact_at m ts ps p q)) where
  abbrev Agree : ℚ → Type 0
  Agree t =
      entry rational_operations (rational_knot us) (rational_coordinate qs) m t m k ≡ entry rational_operations (rational_knot ts) (rational_coordinate ps) m t m i

  pub same_entries : (t : ℚ) → AtMost rational (rational_knot ts i) t → Below rational t (rational_knot ts (i + 1)) → Agree t
  same_entries =
      on-span Agree (λ t. ℚ-set _ _) (get_or ts i 0) (get_or ts (i + 1) 0)
      (λ p q above from to.
      sym (exact-entry m us (length qs) k z p q above (rw low from) (rw high to) qs refl)
      ∙ class-of-equals {a = exact_at m us qs p q} {b = exact_at m ts ps p q} (same p q above (in-domain m ts (length ps) i s p q above from to))
      ∙ exact-entry m ts (length ps) i s p q above from to ps refl)

-- so on the same knots the points that carry the span are the same
pub axis-fixed : (m : ℕ) (ts : List ℕ) (ps qs : List ℤ) (i : ℕ) → WideSpan m ts (length ps) i → length qs ≡ length ps → SameOnAxis m ts ps ts qs
    → (j : ℕ) → i ≤ j + m → j ≤ i → point_at qs j ≡ point_at ps j
axis-fixed m ts ps qs i s even same j first last =
    whole_is (point_at qs j) (point_at ps j)
    (span-fixes-points rational (rational_knot ts) (rational_coordinate qs) (rational_coordinate ps) m i (wide-rising m ts (length ps) i s) s.from (wide_below m ts (length ps) i s)
    (same_entries m ts ts ps qs i i s (rw even s) refl refl same.point) j first last)

module _ (m : ℕ) (c d : Lists) (one : OneCurve m c d) where
  facts : Checked m c.knots c.xs c.ys
  facts = checked-of-passes m c.knots c.xs c.ys one.passes

  sizes : Sizes m d.knots d.xs d.ys
  sizes = sizes-of-passes m d.knots d.xs d.ys one.passes_too

  -- as many points
  as_many : length d.xs ≡ length c.xs
  as_many = omega (arith, sizes.knots, facts.sizes.knots, ap length one.knots)

  span-of : (j i : ℕ) → CarriesSpan m c.knots (length c.xs) j i → WideSpan m c.knots (length c.xs) i
  span-of j i k =
      record { rises = facts.rising; size = facts.sizes.knots; domain = facts.domain; from = k.from; to = k.to; some = k.some }

  same-knots : (ps qs : List ℤ) → SameOnAxis m c.knots ps d.knots qs → SameOnAxis m c.knots ps c.knots qs
  same-knots ps qs s = rw one.knots at s

  pub carriers-fixed : (j i : ℕ) → CarriesSpan m c.knots (length c.xs) j i
      → (point_at d.xs j ≡ point_at c.xs j) × (point_at d.ys j ≡ point_at c.ys j)
  carriers-fixed j i k = (
    axis-fixed m c.knots c.xs d.xs i (span-of j i k) as_many (same-knots c.xs d.xs one.same.x) j k.first k.last,
    axis-fixed m c.knots c.ys d.ys i (rw facts.sizes.as_many (span-of j i k)) (omega (arith, as_many, sizes.as_many, facts.sizes.as_many))
        (same-knots c.ys d.ys one.same.y) j k.first k.last,
  )

pub curve-fixes-carriers : CurveFixesCarriers
curve-fixes-carriers m c d one j i k = carriers-fixed m c d one j i k

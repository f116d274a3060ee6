-- Where the first span and the last are not empty every point carries a span, and the curve fixes the whole polygon.
use mathlib.Core.Bool.{true≢false}
use mathlib.Core.List.{List}
use mathlib.Core.Path.{◌≡◌, sym, ◌∙◌, ap}
use Prim.Native.Nat.{ℕ, ◌+◌, ◌*◌, ◌-◌, ◌≤◌, ◌<◌}
use native.Mathlib.Decide.{dec_le}
use native.Mathlib.Omega.{arith}
use lib.IntN.{pos}
use lib.ListN.{length, get_or}
use lib.Seq.{ext_get_or}
use Rattle.curve.specs.Lists.{Lists}
use Rattle.grid.specs.Rows.{knot_order_ok}
use Rattle.grid.specs.Check.{Passes}
use Rattle.grid.proofs.CheckLaws.{passes-tests}
use Rattle.grid.proofs.InnerLaws.{again-far}
use Rattle.curve.proofs.ListLaws.{lists-same}
use Rattle.insertion.specs.Insertion.{point_at}
use Rattle.span.specs.Span.{span_of}
use Rattle.span.proofs.SpanLaws.{span_of-is}
use Rattle.checked.specs.Checked.{Checked}
use Rattle.checked.proofs.CheckedLaws.{checked-of-passes}
use Rattle.same_polygon.specs.SamePolygon.{CarriesSpan, CurveFixesPolygon}
use Rattle.same_polygon.proofs.PointLaws.{carriers-fixed}

module _ (m : ℕ) (c : Lists) (passes : Passes m c.knots c.xs c.ys) where
  abbrev ts : List ℕ
  ts = c.knots

  abbrev count : ℕ
  count = length c.xs

  facts : Checked m c.knots c.xs c.ys
  facts = checked-of-passes m c.knots c.xs c.ys passes

  -- a value stands at most m+1 times, so m+1 places on there is another
  apart : (j : ℕ) → j + (m + 1) < length ts → get_or ts j 0 < get_or ts (j + (m + 1)) 0
  unfolding knot_order_ok
  apart j l =
      let t = passes-tests m c.knots c.xs c.ys passes in
      let back : j + (m + 1) - (m + 1) ≡ j = omega arith in
      let up = facts.rising j (j + (m + 1)) (omega arith) l in
      elim (dec_le (get_or ts (j + (m + 1)) 0) (get_or ts j 0)) [
        | yes same ↦ absurd (true≢false (sym t.repeats ∙ again-far m ts t.order (j + (m + 1)) (omega arith) l (rw back (omega arith))))
        | no other ↦ omega arith
      ]

  module _ (first : get_or ts m 0 < get_or ts (m + 1) 0) (final : get_or ts (count - 1) 0 < get_or ts count 0) where
    pub carries : (j : ℕ) → j < count → (i : ℕ) × CarriesSpan m ts count j i
    carries j l =
        let z = facts.sizes in
        elim (dec_le j m) [
          | yes low ↦ (m, record { from = omega arith; to = omega (arith, z.enough); first = omega arith; last = low; some = first })
          | no low ↦ elim (dec_le count (j + m + 1)) [
            | yes high ↦
                let next : count - 1 + 1 ≡ count = omega arith in
                (count - 1, record { from = omega (arith, z.enough); to = omega arith; first = omega arith; last = omega arith; some = rw next final })
            | no high ↦
                let next : j + m + 1 ≡ j + (m + 1) = omega arith in
                let one : get_or ts j 0 * 1 ≤ get_or ts j 0 = omega arith in
                let s = span_of-is ts j (j + m) (get_or ts j 0) 1 (omega arith) one (rw next (apart j (omega (arith, z.knots)))) in
                (span_of ts j (j + m) (get_or ts j 0) 1, record { from = omega (arith, s.from); to = omega (arith, s.to); first = s.to; last = s.from; some = s.wide })
          ]
        ]

pub curve-fixes-polygon : CurveFixesPolygon
curve-fixes-polygon m c d one first final =
    let known = (checked-of-passes m c.knots c.xs c.ys one.passes).sizes in
    let new = (checked-of-passes m d.knots d.xs d.ys one.passes_too).sizes in
    let many : length d.xs ≡ length c.xs = omega (arith, new.knots, known.knots, ap length one.knots) in
    let fixed : (j : ℕ) → j < length c.xs → (point_at d.xs j ≡ point_at c.xs j) × (point_at d.ys j ≡ point_at c.ys j) =
    λ j l. let k = carries m c one.passes first final j l in carriers-fixed m c d one j k.0 k.1 in
    lists-same one.knots
    (ext_get_or (pos 0) d.xs c.xs many (λ j l. (fixed j (omega (arith, many))).0))
    (ext_get_or (pos 0) d.ys c.ys (omega (arith, many, new.as_many, known.as_many)) (λ j l. (fixed j (omega (arith, many, new.as_many))).1))

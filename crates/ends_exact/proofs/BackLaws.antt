-- Clamping gives an unclamped curve back: on its clamped knots, which are the old ones, the old points are a polygon with the same exact curve.
use mathlib.Core.Bool.{true, true≢false}
use mathlib.Core.List.{List}
use mathlib.Core.Path.{◌≡◌, sym, ap, ◌∙◌}
use Prim.Native.Nat.{ℕ, ◌+◌, ◌-◌, ◌≤◌, ◌<◌}
use native.Mathlib.Decide.{dec_le}
use native.Mathlib.Omega.{arith}
use lib.IntN.{ℤ}
use lib.ListN.{length, get_or}
use lib.Seq.{ext_get_or}
use Rattle.curve.specs.Lists.{Lists}
use Rattle.grid.specs.Rows.{knot_order_ok}
use Rattle.grid.specs.Check.{Passes}
use Rattle.grid.proofs.CheckLaws.{passes-tests}
use Rattle.grid.proofs.InnerLaws.{again-far}
use Rattle.checked.specs.Checked.{Checked, Clamped}
use Rattle.checked.proofs.CheckedLaws.{checked-of-passes}
use Rattle.span.specs.Span.{in_domain}
use Rattle.clamping.specs.Clamping.{first_span, last_span, carriers_from, carriers, carrying_part, clamped, clamps_whole}
use Rattle.clamping.proofs.EndSpanLaws.{EndSpans, end-spans}
use Rattle.clamping.proofs.PartLaws.{PartFacts, part-of-passes}
use Rattle.clamping.proofs.KnotLaws.{knots-clamped}
use Rattle.knots_exact.specs.SameCurve.{SameOnAxis, SameCurve}
use Rattle.ends_exact.specs.Clamping.{ClampedPolygon}
use Rattle.ends_exact.proofs.ClampLaws.{clamp-exactly}

-- sameness the other way round: the domain is the same
axis-back : (m : ℕ) (ts us : List ℕ) (ps qs : List ℤ) → 0 < length ps → 0 < length qs → SameOnAxis m ts ps us qs → SameOnAxis m us qs ts ps
unfolding in_domain
axis-back m ts us ps qs some many s =
    let last : length ps - 1 + 1 ≡ length ps = omega arith in
    let end : length qs - 1 + 1 ≡ length qs = omega arith in
    record {
      start = sym s.start;
      stop = sym s.stop;
      point = λ p q above inside. sym (s.point p q above (rw (last, ← s.start, ← s.stop) (rw end at inside)));
    }

pub same_back : (m : ℕ) (c d : Lists) → 0 < length c.xs → 0 < length c.ys → 0 < length d.xs → 0 < length d.ys → SameCurve m c d → SameCurve m d c
same_back m c d a b x y s = record {
  x = axis-back m c.knots d.knots c.xs d.xs a x s.x;
  y = axis-back m c.knots d.knots c.ys d.ys b y s.y;
}

-- c has clamped ends, and the knots of e are the same from t_m to t_{n+1}
module _ (m : ℕ) (c e : Lists) (passes : Passes m c.knots c.xs c.ys) (ends : Clamped m c.knots (length c.xs))
    (passes-too : Passes m e.knots e.xs e.ys) (even : length e.xs ≡ length c.xs)
    (same : (j : ℕ) → m ≤ j → j ≤ length c.xs → get_or e.knots j 0 ≡ get_or c.knots j 0) where
  old : Checked m c.knots c.xs c.ys
  old = checked-of-passes m c.knots c.xs c.ys passes

  new : Checked m e.knots e.xs e.ys
  new = checked-of-passes m e.knots e.xs e.ys passes-too

  abbrev count : ℕ
  count = length c.xs

  -- else an end value would stand m+2 times
  again-not : (i : ℕ) → m + 1 ≤ i → i < length c.knots → get_or c.knots (i - (m + 1)) 0 < get_or c.knots i 0
  unfolding knot_order_ok
  again-not i long l =
      let t = passes-tests m c.knots c.xs c.ys passes in
      let up = old.rising (i - (m + 1)) i (omega arith) l in
      elim (dec_le (get_or c.knots i 0) (get_or c.knots (i - (m + 1)) 0)) [
        | yes level ↦ absurd (true≢false (sym t.repeats ∙ again-far m c.knots t.order i long l (omega arith)))
        | no other ↦ omega arith
      ]

  first-wide : get_or c.knots m 0 < get_or c.knots (m + 1) 0
  first-wide =
      let place : m + 1 - (m + 1) ≡ 0 = omega arith in
      omega (arith, rw place at (again-not (m + 1) (omega arith) (omega (arith, old.sizes.knots, old.sizes.enough))), ends.firsts 0 (omega arith))

  last-wide : get_or c.knots (count - 1) 0 < get_or c.knots count 0
  last-wide =
      let place : count + m - (m + 1) ≡ count - 1 = omega arith in
      omega (arith, rw place at (again-not (count + m) (omega (arith, old.sizes.enough)) (omega (arith, old.sizes.knots))), ends.lasts (count + m) (omega arith) (omega (arith, old.sizes.knots)))

  spans : EndSpans m e (first_span m e) (last_span m e)
  spans = end-spans m e new

  first-is : first_span m e ≡ m
  first-is =
      elim (dec_le (first_span m e) m) [
        | yes low ↦ omega (arith, spans.from)
        | no high ↦
            absurd (omega (arith, first-wide, spans.starts (m + 1) (omega arith) (omega arith), same m (omega arith) (omega (arith, old.sizes.enough)), same (m + 1) (omega arith) old.sizes.enough))
      ]

  last-is : last_span m e + 1 ≡ count
  last-is =
      let end : get_or e.knots (length e.xs) 0 ≡ get_or e.knots count 0 = ap (λ (j : ℕ). get_or e.knots j 0) even in
      elim (dec_le (count - 1) (last_span m e)) [
        | yes high ↦ omega (arith, spans.to)
        | no low ↦
            absurd (omega (
              arith,
              last-wide,
              spans.stops (count - 1) (omega arith) (omega arith),
              end,
              same (count - 1) (omega (arith, old.sizes.enough)) (omega arith),
              same count (omega (arith, old.sizes.enough)) (omega arith),
            ))
      ]

  abbrev d : Lists
  d = carrying_part m e

  part : PartFacts m e d (carriers_from m e) (carriers m e)
  part = part-of-passes m e passes-too

  none : carriers_from m e ≡ 0
  none = omega (arith, first-is)

  all : carriers m e ≡ count
  all = omega (arith, first-is, last-is)

  -- the clamped knots of e are those of c
  pub knots-back : c.knots ≡ (clamped m e).knots
  unfolding clamped
  knots-back =
      let k = knots-clamped m d.knots (length d.xs) (rw part.count-xs part.enough) (rw part.count-xs part.count-knots) in
      let points : length d.xs ≡ count = part.count-xs ∙ all in
      ext_get_or 0 c.knots _ (omega (arith, k.long, points, old.sizes.knots))
      (λ j l.
      let inside : j < carriers m e + m + 1 = omega (arith, all, old.sizes.knots) in
      elim (dec_le j m) [
        | yes low ↦ ends.firsts j low ∙ sym (k.firsts j low ∙ part.start ∙ same m (omega arith) (omega (arith, old.sizes.enough)))
        | no past ↦ elim (dec_le count j) [
          | yes high ↦
              ends.lasts j high l
              ∙ sym (k.lasts j (omega arith) (omega (arith, k.long, points, old.sizes.knots))
              ∙ ap (λ (i : ℕ). get_or d.knots i 0) part.count-xs
              ∙ part.stop
              ∙ ap (λ (i : ℕ). get_or e.knots i 0) even
              ∙ same count (omega (arith, old.sizes.enough)) (omega arith))
          | no before ↦
              let place : carriers_from m e + j ≡ j = omega (arith, none) in
              sym (k.between j (omega arith) (omega arith) ∙ part.knot j inside ∙ ap (λ (i : ℕ). get_or e.knots i 0) place ∙ same j (omega arith) (omega arith))
        ]
      ])

  -- so where c and e have one exact curve, clamping e gives c
  pub clamps-back : SameCurve m c e → (clamps_whole m e ≡ true) × (clamped m e ≡ c)
  clamps-back s =
      let polygon : ClampedPolygon m e c = record {
        knots = knots-back;
        points = old.sizes.knots;
        as_many = old.sizes.as_many;
        same = same_back m c e (omega (arith, old.sizes.enough)) (omega (arith, old.sizes.enough, old.sizes.as_many)) (omega (arith, new.sizes.enough)) (omega (arith, new.sizes.enough, new.sizes.as_many)) s;
      } in
      let exact = clamp-exactly m e passes-too in
      (exact.0.1 (c, polygon), sym (exact.1 c polygon))

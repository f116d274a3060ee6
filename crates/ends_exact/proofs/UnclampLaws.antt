-- Unclamping keeps the exact curve on both axes, and is done exactly where some polygon on the grid does.
use mathlib.Core.Bool.{Bool, true, false, cond, ◌&&◌}
use mathlib.Core.List.{List}
use mathlib.Core.Path.{◌≡◌, refl, sym, ap, subst, ◌∙◌}
use Prim.Native.Nat.{ℕ, ◌+◌, ◌-◌, ◌≤◌, ◌<◌}
use native.Mathlib.Decide.{dec_le}
use native.Mathlib.Omega.{arith}
use lib.Dec.{eqb}
use lib.IntN.{ℤ, pos}
use lib.ListN.{length, get_or}
use lib.Seq.{ext_get_or}
use Rattle.curve.specs.Lists.{Lists}
use Rattle.grid.specs.Check.{Passes}
use Rattle.checked.specs.Checked.{Checked, OnGrid}
use Rattle.checked.proofs.CheckedLaws.{checked-of-passes}
use Rattle.checked.proofs.TestLaws.{passes-from}
use Rattle.checked.proofs.GridLaws.{on_grid-judged}
use Rattle.fractions.specs.Fraction.{whole}
use Rattle.fractions.proofs.Rational.{ℚ, class, rational, rational_operations, equals-of-class}
use Rattle.exact.specs.ExactPoint.{exact_coordinate}
use Rattle.exact.specs.ExactCurve.{exact_at}
use Rattle.exact.proofs.ExactLaws.{rational_knot, rational_coordinate, rational_parameter, exact-class}
use Rattle.exact.proofs.DomainLaws.{domain-span}
use Rattle.span.specs.Span.{IsSpan, span_of, in_domain}
use Rattle.splines.specs.Triangle.{entry}
use Rattle.splines.proofs.TriangleLaws.{triangle-is-curve}
use Rattle.insertion.specs.Insertion.{entries, point_at}
use Rattle.clamping.specs.declared.Share.{Share}
use Rattle.clamping.specs.EndRows.{End, finish_of}
use Rattle.clamping.specs.Clamping.{is_whole, whole_of}
use Rattle.unclamping.specs.Unclamping.{open_knot, open_second, open_first, open_number, open_numbers, open_points, opens_on}
use Rattle.unclamping.proofs.EntryLaws as Open
use Rattle.unclamping.proofs.EntryLaws.{open_points-length, open_points-at, point-old}
use Rattle.unclamping.proofs.AxisLaws.{axis-each, axis-opens}
use Rattle.knots_exact.specs.SameCurve.{SameOnAxis}
use Rattle.same_polygon.proofs.AgreeLaws.{WideSpan}
use Rattle.same_polygon.proofs.PointLaws.{whole_is, same_entries}
use Rattle.ends_exact.proofs.ShareLaws.{value, value-of-whole, whole-of-value}
use Rattle.ends_exact.proofs.UnclampAxisLaws.{OpenKnots, opened-keeps, kept-opened, inside-some}
use Rattle.ends_exact.proofs.OpenKnotLaws.{span_same, open-knots}

-- what stands below the line is not zero
choice-lower : (b : Bool) (x y : Share) → 0 < x.lower → 0 < y.lower → 0 < (cond b x y).lower
choice-lower true x y a c = a
choice-lower false x y a c = c

open-lower : (end : End) (m k : ℕ) → 0 < end.inside 2 → 0 < (open_number end m k).lower
unfolding open_number open_first open_second
open-lower end m k some =
    choice-lower (eqb m 2 && eqb k 0) _ _ (omega arith)
    (choice-lower (eqb m 3 && eqb k 0) _ _ some (choice-lower (eqb m 3 && eqb k 1) _ _ some (omega arith)))

module _ (m : ℕ) (c : Lists) (passes : Passes m c.knots c.xs c.ys) (agree : get_or c.knots (length c.xs + m) 0 ≡ get_or c.knots (length c.xs) 0) where
  abbrev ts : List ℕ
  ts = c.knots

  abbrev n : ℕ
  n = length c.xs - 1

  abbrev us : List ℕ
  us = entries (open_knot ts (length c.xs)) (length ts)

  facts : Checked m c.knots c.xs c.ys
  facts = checked-of-passes m c.knots c.xs c.ys passes

  knots : OpenKnots m n ts us
  knots = open-knots m c passes agree

  next : length c.xs ≡ n + 1
  next = omega (arith, facts.sizes.enough)

  -- either axis
  module _ (ps : List ℤ) (long : length ps ≡ length c.xs) where
    size : length ps ≡ n + 1
    size = long ∙ next

    lower-some : (k : ℕ) → 0 < (open_number (finish_of ts ps) m k).lower
    lower-some k = open-lower (finish_of ts ps) m k (inside-some m n ts us knots ps ps size 2 (omega arith) (omega (arith, knots.least, knots.enough)))

    -- the new points as rational numbers
    point-value : opens_on m ts ps ≡ true → (j : ℕ) → j ≤ n → rational_coordinate (open_points m ts ps) j ≡ value (open_numbers m ts ps j)
    point-value h j l =
        let inside : j < length ps = omega (arith, size) in
        ap (λ (z : ℤ). class (whole z)) (open_points-at m ts ps j inside)
        ∙ value-of-whole (open_numbers m ts ps j) (lower-some (length ps - 1 - j)) (axis-each m ts ps h j inside).0

    -- a triangle that stays on every span is an exact curve that stays
    same_from : (qs : List ℤ) → length qs ≡ n + 1
        → ((i : ℕ) → m ≤ i → i ≤ n → get_or ts i 0 < get_or ts (i + 1) 0 → (t : ℚ)
        → entry rational_operations (rational_knot us) (rational_coordinate qs) m t m i ≡ entry rational_operations (rational_knot ts) (rational_coordinate ps) m t m i)
        → SameOnAxis m ts ps us qs
    same_from qs many keeps =
        let top : length qs - 1 ≡ n = omega arith in
        let end : length ps - 1 ≡ n = omega (arith, size) in
        record {
          start = knots.old m (omega (arith, knots.enough));
          stop = ap (λ (j : ℕ). get_or us j 0) many ∙ knots.old (n + 1) (omega arith) ∙ ap (λ (j : ℕ). get_or ts j 0) (sym size);
          point = λ p q above inside.
              let i = span_of ts m n p q in
              let s : IsSpan ts m n p q (span_of ts m n p q) = domain-span m ts c.xs c.ys facts p q (subst (λ (k : ℕ). in_domain ts m k p q ≡ true) end inside) in
              let here : span_of us m (length qs - 1) p q ≡ i = rw top (span_same ts us m n p q knots.old) in
              let old : span_of ts m (length ps - 1) p q ≡ i = rw end refl in
              equals-of-class (exact_at m us qs p q) (exact_at m ts ps p q)
              (ap (λ (j : ℕ). class (exact_coordinate us qs m j p q)) here
              ∙ exact-class us qs m i p q
              ∙ sym (triangle-is-curve rational (rational_knot us) (rational_parameter p q) i (length qs) (omega (arith, s.to, many)) (rational_coordinate qs) m s.from)
              ∙ keeps i s.from s.to s.wide (rational_parameter p q)
              ∙ triangle-is-curve rational (rational_knot ts) (rational_parameter p q) i (length ps) (omega (arith, s.to, size)) (rational_coordinate ps) m s.from
              ∙ sym (exact-class ts ps m i p q)
              ∙ ap (λ (j : ℕ). class (exact_coordinate ts ps m j p q)) (sym old));
        }

    pub opened-same : opens_on m ts ps ≡ true → SameOnAxis m ts ps us (open_points m ts ps)
    opened-same h =
        same_from (open_points m ts ps) (open_points-length m ts ps ∙ size)
        (opened-keeps m n ts us knots ps (open_points m ts ps) size
        (λ k l.
        let back : length ps - 1 - (n - k) ≡ k = omega (arith, size) in
        point-value h (n - k) (omega arith) ∙ ap (λ (j : ℕ). value (open_number (finish_of ts ps) m j)) back))

    -- whole numbers qs on the new knots, with which the exact curve stays
    module _ (qs : List ℤ) (many : length qs ≡ n + 1) (same : SameOnAxis m ts ps us qs) where
      old-span : WideSpan m ts (length ps) n
      old-span = record {
        rises = facts.rising;
        size = rw long facts.sizes.knots;
        domain = rw long facts.domain;
        from = knots.enough;
        to = omega (arith, size);
        some = knots.some;
      }

      new-span : WideSpan m us (length qs) n
      new-span = record {
        rises = knots.new_rises;
        size = rw many knots.new_size;
        domain = rw (many, knots.old m (omega (arith, knots.enough)), knots.old (n + 1) (omega arith)) (rw (← next) facts.domain);
        from = knots.enough;
        to = omega arith;
        some = rw (knots.old n (omega arith), knots.old (n + 1) (omega arith)) knots.some;
      }

      end-value : (k : ℕ) → k ≤ m → rational_coordinate qs (n - k) ≡ value (open_number (finish_of ts ps) m k)
      end-value =
          kept-opened m n ts us knots ps qs size
          (same_entries m ts us ps qs n n old-span new-span (knots.old n (omega arith)) (knots.old (n + 1) (omega arith)) same.point)

      end_whole : (k : ℕ) → k ≤ m → is_whole (open_number (finish_of ts ps) m k) ≡ true
      end_whole k l = whole-of-value (open_number (finish_of ts ps) m k) (get_or qs (n - k) (pos 0)) (lower-some k) (sym (end-value k l))

      end_is : (k : ℕ) → k ≤ m → whole_of (open_number (finish_of ts ps) m k) ≡ get_or qs (n - k) (pos 0)
      end_is k l =
          whole_is (whole_of (open_number (finish_of ts ps) m k)) (get_or qs (n - k) (pos 0))
          (value-of-whole (open_number (finish_of ts ps) m k) (lower-some k) (end_whole k l) ∙ sym (end-value k l))

      -- the old points and these are on the grid: so the axis opens
      pub axis-open : ((j : ℕ) → j < length ps → OnGrid (get_or ps j (pos 0))) → ((j : ℕ) → j < length qs → OnGrid (get_or qs j (pos 0))) → opens_on m ts ps ≡ true
      axis-open old new =
          axis-opens m ts ps old
          (λ k l. (
            end_whole k (omega arith),
            rw (end_is k (omega arith)) (passes-from (on_grid-judged (get_or qs (n - k) (pos 0))) (new (n - k) (omega arith))),
          ))

      -- all but the last m being as they were, they are the unclamped points
      pub points-these : ((j : ℕ) → j + m < length c.xs → point_at qs j ≡ point_at ps j) → opens_on m ts ps ≡ true → qs ≡ open_points m ts ps
      points-these front h =
          ext_get_or (pos 0) qs (open_points m ts ps) (many ∙ sym (open_points-length m ts ps ∙ size))
          (λ j l.
          let inside : j < length ps = omega (arith, size) in
          let place : length ps - 1 - j ≡ n - j = omega (arith, size) in
          let back : n - (n - j) ≡ j = omega arith in
          elim (dec_le (n - j) m) [
            | yes near ↦
                sym (open_points-at m ts ps j inside ∙ ap (λ (k : ℕ). whole_of (open_number (finish_of ts ps) m k)) place ∙ end_is (n - j) near ∙ ap (λ (k : ℕ). get_or qs k (pos 0)) back)
            | no far ↦ front j (omega (arith, next)) ∙ sym (open_points-at m ts ps j inside ∙ ap whole_of (point-old m ts ps j inside (omega (arith, long, next))) ∙ Open.whole_is (get_or ps j (pos 0)))
          ])

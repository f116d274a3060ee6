-- Row 23 as its sentence: the tests of unclamping fail exactly where it holds.
use mathlib.Core.Bool.{Bool, true, false, ◌&&◌, true≢false}
use mathlib.Core.List.{List}
use mathlib.Core.Logic.{◌⊎◌, inl, inr, ◌↔◌}
use mathlib.Core.Path.{◌≡◌, refl, sym, ap, ◌∙◌}
use Prim.Native.Nat.{ℕ, ◌+◌, ◌-◌, ◌*◌, ◌≤◌, ◌<◌}
use native.Mathlib.Decide.{ℕ_discrete}
use native.Mathlib.Omega.{arith}
use lib.IntN.{ℤ, pos, ◌*ℤ◌}
use lib.ListN.{length, get_or}
use borrow.Author.Tests.{eqb-true, eqb-false}
use Rattle.refusal.proofs.JudgingLaws.{both}
use Rattle.refusal.proofs.ChainLaws.{accepts, judged, answers-first}
use Rattle.signed.specs.Division.{divides}
use Rattle.signed.proofs.DivisionLaws.{product-divides, product-of-quot}
use Rattle.signed.proofs.ScaleLaws.{times-cancel}
use Rattle.curve.specs.Lists.{Lists}
use Rattle.grid.specs.Limits.{knot_most}
use Rattle.grid.specs.Check.{Passes}
use Rattle.checked.specs.Checked.{OnGrid}
use Rattle.checked.specs.Sentences.{OffGrid}
use Rattle.checked.proofs.TestLaws.{Judged, fails-iff, both-judged, leb-judged, room-judged}
use Rattle.checked.proofs.GridLaws.{on_grid-judged}
use Rattle.checked.proofs.CheckedLaws.{checked-of-passes}
use Rattle.checked.proofs.SentenceLaws.{curve-judged}
use Rattle.clamping.specs.declared.Share.{Share}
use Rattle.clamping.specs.EndRows.{finish_of}
use Rattle.clamping.specs.Clamping.{is_whole, whole_of}
use Rattle.unclamping.specs.Unclamping.{end_clamped, knots_fit, open_numbers, unclamped, opens_on, opens, unclamp_number}
use Rattle.unclamping.specs.Sentences.{EndNotClamped, KnotsPast, PointWrongOn, UnclampWrong, unclamp_rows, UnclampAnswersFirst}
use Rattle.unclamping.proofs.EntryLaws.{knot-behind, lower-of-two, lower-of-three}
use Rattle.unclamping.proofs.AxisLaws.{FitsNot, axis-each, axis-fails}
use Rattle.unclamping.proofs.WidthLaws.{last-span}

-- two tests, of which the second is judged where the first passes
module _ {a b : Bool} {P Q S T : Type 0} (p : Judged a P S) (q : P → Judged b Q T) where
  then-passing : (a && b) ≡ true → P × Q
  then-passing h =
      let e = both a b h in
      let first = p.passing e.0 in
      (first, (q first).passing e.1)

  then-failing : (a && b) ≡ false → S ⊎ T
  then-failing h = by a refl h
    where
      by : (t : Bool) → a ≡ t → (t && b) ≡ false → S ⊎ T
      by true e f = inr ((q (p.passing e)).failing f)
      by false e f = inl (p.failing e)

  then-clash : P × Q → S ⊎ T → ⊥
  then-clash x (inl s) = p.clash x.0 s
  then-clash x (inr t) = (q x.0).clash x.1 t

  then-judged : Judged (a && b) (P × Q) (S ⊎ T)
  then-judged = record { passing = then-passing; failing = then-failing; clash = then-clash }

-- a number is whole where some z is it, and then z is the whole number that it is
module _ (a : Share) where
  not-whole : is_whole a ≡ false → (z : ℤ) → z *ℤ pos a.lower ≡ a.upper → ⊥
  not-whole h z e = true≢false (sym (product-divides z a.lower) ∙ ap (divides (pos a.lower)) e ∙ h)

  fits_not : FitsNot a → ((z : ℤ) → z *ℤ pos a.lower ≡ a.upper → ⊥) ⊎ ((z : ℤ) × (z *ℤ pos a.lower ≡ a.upper) × OffGrid z)
  fits_not (inl h) = inl (not-whole h)
  fits_not (inr h) = by (is_whole a) refl
    where
      by : (b : Bool) → is_whole a ≡ b → ((z : ℤ) → z *ℤ pos a.lower ≡ a.upper → ⊥) ⊎ ((z : ℤ) × (z *ℤ pos a.lower ≡ a.upper) × OffGrid z)
      by true e = inr (whole_of a, product-of-quot a.upper a.lower e, (on_grid-judged (whole_of a)).failing h)
      by false e = inl (not-whole e)

  whole-clash : 0 < a.lower → is_whole a ≡ true → OnGrid (whole_of a)
      → ((z : ℤ) → z *ℤ pos a.lower ≡ a.upper → ⊥) ⊎ ((z : ℤ) × (z *ℤ pos a.lower ≡ a.upper) × OffGrid z) → ⊥
  whole-clash some whole grid (inl none) = none (whole_of a) (product-of-quot a.upper a.lower whole)
  whole-clash some whole grid (inr (z, e, off)) =
      let same : z ≡ whole_of a = times-cancel z (whole_of a) a.lower some (e ∙ sym (product-of-quot a.upper a.lower whole)) in
      (on_grid-judged (whole_of a)).clash grid (rw same at off)

-- one axis, where the old points are on the grid and the last two spans are not empty
module _ (m : ℕ) (ts : List ℕ) (ps : List ℤ) (most : m ≤ 3) (old : (j : ℕ) → j < length ps → OnGrid (get_or ps j (pos 0)))
    (wide : 2 ≤ m → 0 < get_or ts (length ps) 0 - get_or ts (length ps - 2) 0) where
  lower-some : (j : ℕ) → j < length ps → length ps < j + m → 0 < (open_numbers m ts ps j).lower
  lower-some j inside late =
      let k = length ps - 1 - j in
      let few : k + 1 < m = omega arith in
      elim (ℕ_discrete m 2) [
        | yes e ↦ omega (arith, lower-of-two (finish_of ts ps) m k few e)
        | no n ↦ omega (arith, lower-of-three (finish_of ts ps) m k few (omega arith), wide (omega arith))
      ]

  axis-clash : opens_on m ts ps ≡ true → PointWrongOn m ts ps → ⊥
  axis-clash h (j, inside, late, wrong) =
      let f = axis-each m ts ps h j inside in
      whole-clash (open_numbers m ts ps j) (lower-some j inside late) f.0 ((on_grid-judged (whole_of (open_numbers m ts ps j))).passing f.1) wrong

  axis-judged : Judged (opens_on m ts ps) (opens_on m ts ps ≡ true) (PointWrongOn m ts ps)
  axis-judged =
      record {
        passing = λ h. h;
        failing = λ h. let r = axis-fails m ts ps old h in (r.0, r.1, r.2, fits_not (open_numbers m ts ps r.0) r.3);
        clash = axis-clash;
      }

-- the end of a curve that passes the check
module _ (m : ℕ) (c : Lists) (passes : Passes m c.knots c.xs c.ys) where
  abbrev EndClamped : Type 0
  EndClamped = get_or c.knots (length c.xs + m) 0 ≡ get_or c.knots (length c.xs) 0

  end-clash : EndClamped → EndNotClamped m c → ⊥
  end-clash e (k, l, n) =
      let s = checked-of-passes m c.knots c.xs c.ys passes in
      let first = s.rising (length c.xs) (length c.xs + k) (omega arith) (omega (arith, s.sizes.knots)) in
      let second = s.rising (length c.xs + k) (length c.xs + m) (omega arith) (omega (arith, s.sizes.knots)) in
      n (omega arith)

  end-judged : Judged (end_clamped m c.knots (length c.xs)) EndClamped (EndNotClamped m c)
  unfolding end_clamped
  end-judged =
      record {
        passing = eqb-true _ _;
        failing = λ h. (m, omega arith, eqb-false _ _ h);
        clash = end-clash;
      }

  fit-judged : Judged (knots_fit m c.knots (length c.xs))
      (get_or c.knots (length c.xs) 0 + m * (get_or c.knots (length c.xs) 0 - get_or c.knots (length c.xs - 1) 0) ≤ knot_most)
      (KnotsPast m c)
  unfolding knots_fit
  fit-judged = rw (knot-behind c.knots (length c.xs) m) (leb-judged _ _)

  -- x and y, where the end is clamped
  points-judged : EndClamped → Judged (opens_on m c.knots c.xs && opens_on m c.knots c.ys)
      ((opens_on m c.knots c.xs ≡ true) × (opens_on m c.knots c.ys ≡ true))
      (PointWrongOn m c.knots c.xs ⊎ PointWrongOn m c.knots c.ys)
  points-judged end =
      let s = checked-of-passes m c.knots c.xs c.ys passes in
      let span = last-span m c.knots c.xs c.ys passes end in
      let before = s.rising (length c.xs - 2) (length c.xs - 1) (omega arith) (omega (arith, s.sizes.knots)) in
      let wide : 0 < get_or c.knots (length c.xs) 0 - get_or c.knots (length c.xs - 2) 0 = omega arith in
      both-judged
      (axis-judged m c.knots c.xs s.sizes.degree-most s.grid_x (λ two. wide))
      (axis-judged m c.knots c.ys s.sizes.degree-most s.grid_y (λ two. rw s.sizes.as_many wide))

  -- row 23
  opens-judged : (opens m c ≡ false) ↔ UnclampWrong m c
  unfolding opens
  opens-judged =
      let j = fails-iff (then-judged (both-judged end-judged fit-judged) (λ p. points-judged p.0)) in
      (λ h. ungroup (j.0 h), λ w. j.1 (regroup w))
    where
      ungroup : (EndNotClamped m c ⊎ KnotsPast m c) ⊎ (PointWrongOn m c.knots c.xs ⊎ PointWrongOn m c.knots c.ys) → UnclampWrong m c
      ungroup (inl (inl e)) = inl e
      ungroup (inl (inr k)) = inr (inl k)
      ungroup (inr p) = inr (inr p)

      regroup : UnclampWrong m c → (EndNotClamped m c ⊎ KnotsPast m c) ⊎ (PointWrongOn m c.knots c.xs ⊎ PointWrongOn m c.knots c.ys)
      regroup (inl e) = inl (inl e)
      regroup (inr (inl k)) = inl (inr k)
      regroup (inr (inr p)) = inr p

pub unclamp-answers-first : UnclampAnswersFirst
unfolding unclamp_number
unclamp-answers-first m c lent =
    answers-first (unclamp_number m c lent) (unclamp_rows m c lent) refl
    (curve-judged m c.knots c.xs c.ys _ _ λ passes.
    judged (opens-judged m c passes) λ open-end. judged (fails-iff (room-judged (unclamped m c) lent)) λ room. accepts)

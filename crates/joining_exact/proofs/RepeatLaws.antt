-- How often a value stands among the joined knots (row 6): an end value four times, any other at most `inner` times.
use mathlib.Core.Bool.{Bool, true, false, cond}
use mathlib.Core.List.{List, [], ◌∷◌, ◌++◌}
use mathlib.Core.Path.{◌≡◌, refl, sym, ap, ◌∙◌}
use Prim.Native.Nat.{ℕ, zero, suc, ◌+◌, ◌-◌, ◌≤◌, ◌<◌}
use native.Mathlib.Omega.{arith}
use lib.Dec.{eqb}
use lib.IntN.{ℤ}
use lib.ListN.{length, get_or, replicate}
use borrow.Author.Tests.{eqb-true, eqb-false, ne_eqb}
use Rattle.grid.specs.Rows.{occurrences}
use Rattle.spline_pieces.specs.Pieces.{piece_of, piece_at, pieces_from, pieces}
use Rattle.spline_pieces.specs.Standing.{Rising}
use Rattle.joined_curve.specs.Curve.{knots_after, joined_knots}
use Rattle.joined_curve.proofs.CurveLaws.{knots_before, knots_from, knots-cut}

module _ (v t : ℕ) where
  -- an entry that is not v, and any entry
  other-one : (l : List ℕ) → (t ≡ v → ⊥) → occurrences v (t ∷ l) ≡ occurrences v l
  unfolding occurrences
  other-one l h = rw (ne_eqb t v h)

  one_more : (l : List ℕ) → occurrences v (t ∷ l) ≤ occurrences v l + 1
  unfolding occurrences
  one_more l = by (eqb t v)
    where
      by : (b : Bool) → cond b (suc (occurrences v l)) (occurrences v l) ≤ occurrences v l + 1
      by true = omega arith
      by false = omega arith

  -- n equal entries: they are v, or they are not
  run_more : (n : ℕ) (l : List ℕ) → occurrences v (replicate n t ++ l) ≤ occurrences v l + n
  run_more zero l = omega arith
  run_more (suc n) l = omega (arith, one_more (replicate n t ++ l), run_more n l)

  run-other : (n : ℕ) (l : List ℕ) → (t ≡ v → ⊥) → occurrences v (replicate n t ++ l) ≡ occurrences v l
  run-other zero l h = refl
  run-other (suc n) l h = other-one (replicate n t ++ l) h ∙ run-other n l h

  turn : (n most : ℕ) (l : List ℕ) → (t ≡ v → occurrences v l + n ≤ most) → ((t ≡ v → ⊥) → occurrences v l ≤ most) → occurrences v (replicate n t ++ l) ≤ most
  turn n most l same other = by (eqb t v) refl
    where
      by : (b : Bool) → eqb t v ≡ b → occurrences v (replicate n t ++ l) ≤ most
      by true e = omega (arith, run_more n l, same (eqb-true t v e))
      by false e = rw (run-other n l (eqb-false t v e)) (other (eqb-false t v e))

none : (v : ℕ) → occurrences v [] ≡ 0
unfolding occurrences
none v = refl

module _ (inner : ℕ) (ss : List ℕ) (rising : Rising ss) (ps ds : List ℤ) (v : ℕ) where
  abbrev from : ℕ → ℕ → List ℕ
  from i count = knots_from inner ss ps ds i count

  -- a value below the next parameter does not stand further on
  none-further : (count i : ℕ) → i + suc count < length ss → v < get_or ss (suc i) 0 → occurrences v (from i count) ≤ 0
  unfolding knots_after pieces_from piece_at piece_of
  none-further zero i h below = turn v (get_or ss (suc i) 0) 4 0 [] (λ e. absurd (omega (arith, e))) (λ ne. omega (arith, none v))
  none-further (suc count) i h below =
      turn v (get_or ss (suc i) 0) inner 0 (from (suc i) count) (λ e. absurd (omega (arith, e)))
      (λ ne. none-further count (suc i) (omega arith) (omega (arith, rising.rises (suc i) (omega arith))))

  -- what is v does not stand behind it
  none-behind : (i count : ℕ) → i + suc (suc count) < length ss → get_or ss (suc i) 0 ≡ v → occurrences v (from (suc i) count) ≤ 0
  none-behind i count h e = none-further count (suc i) (omega arith) (omega (arith, e, rising.rises (suc i) (omega arith)))

  from-outer : inner ≤ 4 → (count i : ℕ) → i + suc count < length ss → occurrences v (from i count) ≤ 4
  unfolding knots_after pieces_from piece_at piece_of
  from-outer few zero i h = turn v (get_or ss (suc i) 0) 4 4 [] (λ e. omega (arith, none v)) (λ ne. omega (arith, none v))
  from-outer few (suc count) i h =
      turn v (get_or ss (suc i) 0) inner 4 (from (suc i) count) (λ e. omega (arith, none-behind i count h e)) (λ ne. from-outer few count (suc i) (omega arith))

  from_inner : (count i : ℕ) → i + suc count < length ss → (v ≡ get_or ss (i + suc count) 0 → ⊥) → occurrences v (from i count) ≤ inner
  unfolding knots_after pieces_from piece_at piece_of
  from_inner zero i h inside =
      let last : i + suc zero ≡ suc i = omega arith in
      turn v (get_or ss (suc i) 0) 4 inner [] (λ e. absurd (inside (sym e ∙ ap (λ j. get_or ss j 0) (sym last)))) (λ ne. omega (arith, none v))
  from_inner (suc count) i h inside =
      let last : suc i + suc count ≡ i + suc (suc count) = omega arith in
      turn v (get_or ss (suc i) 0) inner inner (from (suc i) count) (λ e. omega (arith, none-behind i count h e))
      (λ ne. from_inner count (suc i) (omega arith) (λ e. inside (e ∙ ap (λ j. get_or ss j 0) last)))

  all_are : joined_knots inner (pieces ss ps ds) ≡ replicate 4 (get_or ss 0 0) ++ from 0 (length ss - 2)
  unfolding knots_before
  all_are = knots-cut inner ss ps ds rising.least 0 (length ss - 2) (omega arith)

  pub repeats-outer : inner ≤ 4 → occurrences v (joined_knots inner (pieces ss ps ds)) ≤ 4
  repeats-outer few =
      let count = length ss - 2 in
      rw all_are
      (turn v (get_or ss 0 0) 4 4 (from 0 count)
      (λ e. omega (arith, none-further count 0 (omega (arith, rising.least)) (omega (arith, e, rising.rises 0 (omega (arith, rising.least))))))
      (λ ne. from-outer few count 0 (omega (arith, rising.least))))

  pub repeats-inner : (v ≡ get_or ss 0 0 → ⊥) → (v ≡ get_or ss (length ss - 1) 0 → ⊥) → occurrences v (joined_knots inner (pieces ss ps ds)) ≤ inner
  repeats-inner first last =
      let end : 0 + suc (length ss - 2) ≡ length ss - 1 = omega (arith, rising.least) in
      rw all_are
      (turn v (get_or ss 0 0) 4 inner (from 0 (length ss - 2)) (λ e. absurd (first (sym e)))
      (λ ne. from_inner (length ss - 2) 0 (omega (arith, rising.least)) (λ e. last (e ∙ ap (λ j. get_or ss j 0) end))))

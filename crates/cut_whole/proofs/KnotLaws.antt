-- The knots of the cut curve by index: `cut-knot`; so its sizes, and the knots of its pieces: `low-knot`, `high-knot`.
use mathlib.Core.List.{List}
use mathlib.Core.Logic.{⊎_elim}
use mathlib.Core.Path.{◌≡◌, sym, ap, ◌∙◌}
use Prim.Native.Nat.{ℕ, zero, suc, ◌+◌, ◌-◌, ◌*◌, ◌≤◌, ◌<◌}
use native.Mathlib.Decide.{ℕ_discrete}
use native.Mathlib.Nat.{suc-mul, zero-mul}
use native.Mathlib.Omega.{arith}
use lib.ListN.{length, get_or}
use Rattle.refusal.specs.Numbers.{accepted}
use Rattle.curve.specs.Lists.{Lists}
use Rattle.grid.specs.Rows.{occurrences}
use Rattle.checked.specs.Checked.{Clamped}
use Rattle.insertion.specs.Insertion.{knots_up_to}
use Rattle.insertion.proofs.EntryLaws.{entries-length, entries_at}
use Rattle.insertion.proofs.SpanLaws.{knots_up_to-length, knots_up_to-below, knots_up_to-above}
use Rattle.cutting.specs.Cutting.{cut, cut_number}
use Rattle.cutting.specs.Pieces.{piece_of, piece_count, pieces}
use Rattle.cutting.specs.declared.Piece.{Piece}
use Rattle.cut_whole.specs.Sentences.{low_at, high_at, SizesOfCut, KnotsOfCut, KnotsOfPieces}
use Rattle.cut_whole.proofs.ValueLaws.{new, kept, ends, order, value_at, low-is, none_between, next-up-to, inner-stands, up_to, all-up-to, last-stands}

module _ (m : ℕ) (c : Lists) (h : cut_number m c ≡ accepted) (clamped : Clamped m c.knots (length c.xs)) where
  abbrev ks : List ℕ
  ks = (cut m c).knots

  abbrev count : ℕ
  count = piece_count m c

  abbrev last : ℕ
  last = piece_count m c - 1

  pub knot-count : length ks ≡ count * m + 1 + m + 1
  knot-count =
      let whole : suc last ≡ count = omega (arith, (order m c h clamped).some) in
      let product : count * m ≡ last * m + m = ap (λ n. n * m) (sym whole) ∙ suc-mul last m in
      let next = next-up-to m c h clamped last (omega (arith, (order m c h clamped).some)) in
      let before = up_to m c h clamped last (omega (arith, (order m c h clamped).some)) in
      omega (arith, all-up-to m c h clamped, last-stands m c h clamped)

  -- every value behind the first stands m times at least
  stands-enough : (k : ℕ) → k < count → m ≤ occurrences (value_at m c (suc k)) ks
  stands-enough k l =
      elim (ℕ_discrete (suc k) count) [
        | yes e ↦
            let here : k ≡ last = omega arith in
            rw here (omega (arith, last-stands m c h clamped))
        | no n ↦ omega (arith, inner-stands m c h clamped k (omega arith))
      ]

  pub left-knot : (j : ℕ) → j ≤ m → get_or ks j 0 ≡ value_at m c 0
  left-knot j l = (ends m c h clamped).firsts j l ∙ (kept m c h clamped).start

  -- m knots of each value, one value after the other
  pub cut-knot : (k r : ℕ) → k ≤ count → r < m → get_or ks (k * m + 1 + r) 0 ≡ value_at m c k
  cut-knot zero r l few =
      let place : zero * m + 1 + r ≡ suc r = omega (arith, zero-mul m) in
      rw place (left-knot (suc r) (omega arith))
  cut-knot (suc k) r l few =
      let place : suc k * m + 1 + r ≡ knots_up_to (value_at m c k) ks + r = omega (arith, suc-mul k m, up_to m c h clamped k (omega arith)) in
      let next = next-up-to m c h clamped k (omega arith) in
      let enough = stands-enough k (omega arith) in
      let inside : knots_up_to (value_at m c k) ks + r < length ks = omega (arith, knots_up_to-length (value_at m c (suc k)) ks) in
      let most = knots_up_to-below (value_at m c (suc k)) ks (knots_up_to (value_at m c k) ks + r) (omega arith) in
      let above = knots_up_to-above (value_at m c k) ks (omega arith) in
      let up = (new m c h clamped).rising (knots_up_to (value_at m c k) ks) (knots_up_to (value_at m c k) ks + r) (omega arith) inside in
      rw place
      (⊎_elim (λ low. absurd (omega arith)) (λ high. omega arith) (none_between m c h clamped k (omega arith) (knots_up_to (value_at m c k) ks + r) inside))

  pub cut-sizes-of : SizesOfCut m c
  cut-sizes-of = record {
    xs = omega (arith, knot-count, (new m c h clamped).sizes.knots);
    ys = omega (arith, knot-count, (new m c h clamped).sizes.knots, (new m c h clamped).sizes.as_many);
    knots = knot-count;
  }

  right-knot : (j : ℕ) → count * m < j → j < length ks → get_or ks j 0 ≡ get_or c.knots (length c.xs) 0
  right-knot j l inside =
      let many : length (cut m c).xs ≡ count * m + 1 = cut-sizes-of.xs in
      (ends m c h clamped).lasts j (omega arith) inside ∙ (kept m c h clamped).stop

  pub cut-knots-of : KnotsOfCut m c
  cut-knots-of = record {
    left = left-knot;
    low = λ k r l few. cut-knot k r (omega arith) few ∙ sym (low-is m c h clamped k l);
    high = λ k r l few.
        let place : k * m + m + 1 + r ≡ suc k * m + 1 + r = omega (arith, suc-mul k m) in
        rw place (cut-knot (suc k) r (omega arith) few);
    right = right-knot;
  }

  -- the two knots between which piece k stands
  pub low-knot : (k : ℕ) → k < count → get_or ks (k * m + m) 0 ≡ low_at m c k
  low-knot k l =
      let degree = (new m c h clamped).sizes.degree-least in
      let place : k * m + m ≡ k * m + 1 + (m - 1) = omega arith in
      rw place (cut-knots-of.low k (m - 1) l (omega arith))

  pub high-knot : (k : ℕ) → k < count → get_or ks (k * m + m + 1) 0 ≡ high_at m c k
  high-knot k l =
      let degree = (new m c h clamped).sizes.degree-least in
      let place : k * m + m + 1 ≡ k * m + m + 1 + 0 = omega arith in
      rw place (cut-knots-of.high k 0 l (omega arith))

  piece-at : (k : ℕ) (past : Piece) → k < count → get_or (pieces m c) k past ≡ piece_of m (cut m c) k
  unfolding pieces
  piece-at k past l = entries_at (piece_of m (cut m c)) count k past l

  pub piece-knots-of : KnotsOfPieces m c
  unfolding pieces piece_of
  piece-knots-of = record {
    count = entries-length (piece_of m (cut m c)) count;
    entry = piece-at;
    low = λ k past l. ap (λ p. p.low) (piece-at k past l) ∙ low-knot k l;
    high = λ k past l. ap (λ p. p.high) (piece-at k past l) ∙ high-knot k l;
  }

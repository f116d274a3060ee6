-- A test of all pieces, by the test of one; and row 11: all points are whole, or some piece has one that is not.
use mathlib.Core.Bool.{Bool, false, true≢false}
use mathlib.Core.List.{List}
use mathlib.Core.Logic.{⊎_elim}
use mathlib.Core.Path.{◌≡◌, sym, ap, ◌∙◌}
use Prim.Native.Nat.{ℕ, zero, suc, ◌+◌, ◌-◌, ◌<◌}
use native.Mathlib.Nat.{zero-add}
use native.Mathlib.Omega.{arith}
use lib.IntN.{ℤ, pos, ◌*ℤ◌}
use lib.ListN.{length, get_or}
use Rattle.signed.specs.Division.{divides}
use Rattle.signed.proofs.DivisionLaws.{product-of-quot, product-divides}
use Rattle.checked.proofs.TestLaws.{one-fails, Judged, both-judged}
use Rattle.spline_pieces.specs.Pieces.{Piece, third_whole, third, piece_of, piece_at, pieces_from, pieces, every_piece, all_whole}
use Rattle.spline_pieces.specs.Sentences.{NotThreefold, width_of, NotWhole}
use Rattle.spline_pieces.proofs.PieceLaws.{every-each}

module _ (ok : Piece → Bool) (ss : List ℕ) (ps ds : List ℤ) where
  some-fails : (count i : ℕ) → every_piece ok (pieces_from ss ps ds i count) ≡ false → (k : ℕ) × (k < count) × (ok (piece_at ss ps ds (i + k)) ≡ false)
  unfolding every_piece pieces_from
  some-fails zero i e = absurd (true≢false e)
  some-fails (suc count) i e =
      let here : i ≡ i + zero = omega arith in
      let rest = some-fails count (suc i) in
      ⊎_elim
      (λ f. (zero, omega arith, ap (λ j. ok (piece_at ss ps ds j)) (sym here) ∙ f))
      (λ f.
      let r = rest f in
      let later : i + suc r.0 ≡ suc i + r.0 = omega arith in
      (suc r.0, omega (arith, r.1), ap (λ j. ok (piece_at ss ps ds j)) later ∙ r.2))
      (one-fails (ok (piece_at ss ps ds i)) (every_piece ok (pieces_from ss ps ds (suc i) count)) e)

  pub pieces-judged : {P S : ℕ → Type 0} → ((i : ℕ) → Judged (ok (piece_at ss ps ds i)) (P i) (S i))
      → Judged (every_piece ok (pieces ss ps ds)) ((i : ℕ) → suc i < length ss → P i) ((i : ℕ) × (suc i < length ss) × S i)
  unfolding pieces
  pieces-judged each =
      record {
        passing = λ e i h. (each i).passing (every-each ok ss ps ds e i (omega arith));
        failing = λ e. let r = some-fails (length ss - 1) 0 e in (r.0, omega (arith, r.1), (each r.0).failing (rw (zero-add r.0) at r.2));
        clash = λ p s. (each s.0).clash (p s.0 s.1) s.2;
      }

-- three goes into h·d, with this quotient, or it goes into it with none
pub threefold-judged : (h : ℕ) (d : ℤ) → Judged (third_whole h d) (third h d *ℤ pos 3 ≡ pos h *ℤ d) (NotThreefold h d)
unfolding third_whole third
threefold-judged h d =
    record {
      passing = product-of-quot (pos h *ℤ d) 3;
      failing = λ e q same. true≢false (sym (product-divides q 3) ∙ ap (divides (pos 3)) same ∙ e);
      clash = λ p s. s (third h d) p;
    }

module _ (ss : List ℕ) (ps ds : List ℤ) where
  -- the two thirds of a piece
  abbrev Thirds : ℕ → Type 0
  Thirds i =
      (third (width_of ss i) (get_or ds i (pos 0)) *ℤ pos 3 ≡ pos (width_of ss i) *ℤ get_or ds i (pos 0))
      × (third (width_of ss i) (get_or ds (suc i) (pos 0)) *ℤ pos 3 ≡ pos (width_of ss i) *ℤ get_or ds (suc i) (pos 0))

  pub whole-judged : Judged (all_whole (pieces ss ps ds)) ((i : ℕ) → suc i < length ss → Thirds i) (NotWhole ss ds)
  unfolding piece_at piece_of
  whole-judged =
      pieces-judged (λ piece. piece.whole) ss ps ds λ i. both-judged (threefold-judged (width_of ss i) (get_or ds i (pos 0))) (threefold-judged (width_of ss i) (get_or ds (suc i) (pos 0)))

-- The pieces from the i-th on: one piece at a time, and none at the end. A test of all of them, one piece at a time.
use mathlib.Core.Bool.{Bool, true, false, ◌&&◌}
use mathlib.Core.List.{List, [], ◌∷◌}
use mathlib.Core.Path.{◌≡◌, ap, ◌∙◌}
use Prim.Native.Nat.{ℕ, zero, suc, ◌+◌, ◌-◌, ◌≤◌, ◌<◌}
use native.Mathlib.Nat.{sub-zero, zero-add, add-zero}
use native.Mathlib.Numerals.{add-one}
use native.Mathlib.Omega.{arith}
use lib.IntN.{ℤ}
use lib.ListN.{length}
use Rattle.refusal.proofs.JudgingLaws.{both}
use Rattle.spline_pieces.specs.Pieces.{Piece, piece_at, pieces_from, pieces, every_piece}

-- the pieces from the i-th on
abbrev pub pieces_on : List ℕ → List ℤ → List ℤ → ℕ → List Piece
pieces_on ss ps ds i = pieces_from ss ps ds i (length ss - 1 - i)

module _ (ss : List ℕ) (ps ds : List ℤ) where
  pub pieces-all : pieces ss ps ds ≡ pieces_on ss ps ds 0
  unfolding pieces
  pieces-all = rw (sub-zero (length ss - 1))

  pub pieces_more : (i : ℕ) → i + 1 < length ss → pieces_on ss ps ds i ≡ piece_at ss ps ds i ∷ pieces_on ss ps ds (i + 1)
  unfolding pieces_from
  pieces_more i h =
      let more : length ss - 1 - i ≡ suc (length ss - 1 - (i + 1)) = omega arith in
      rw (more, add-one)

  pieces_none : (i : ℕ) → length ss ≤ i + 1 → pieces_on ss ps ds i ≡ []
  unfolding pieces_from
  pieces_none i h =
      let none : length ss - 1 - i ≡ 0 = omega arith in
      rw none

-- a test of all pieces, one piece at a time
module _ (ok : Piece → Bool) (ss : List ℕ) (ps ds : List ℤ) (i : ℕ) where
  every-step : i + 1 < length ss → every_piece ok (pieces_on ss ps ds i) ≡ (ok (piece_at ss ps ds i) && every_piece ok (pieces_on ss ps ds (i + 1)))
  unfolding every_piece
  every-step h = ap (every_piece ok) (pieces_more ss ps ds i h)

  pub every-on : i + 1 < length ss → ok (piece_at ss ps ds i) ≡ true → every_piece ok (pieces_on ss ps ds i) ≡ every_piece ok (pieces_on ss ps ds (i + 1))
  every-on h e = every-step h ∙ rw e

  pub every-fails : i + 1 < length ss → ok (piece_at ss ps ds i) ≡ false → every_piece ok (pieces_on ss ps ds i) ≡ false
  every-fails h e = every-step h ∙ rw e

  pub every-end : length ss ≤ i + 1 → every_piece ok (pieces_on ss ps ds i) ≡ true
  unfolding every_piece
  every-end h = ap (every_piece ok) (pieces_none ss ps ds i h)

-- the turns of a loop over the pieces
pub ruleset pieces_turn = (pieces-all, every-on, every-fails, every-end)

-- a test of all pieces says the same of each
module _ (ok : Piece → Bool) (ss : List ℕ) (ps ds : List ℤ) where
  each_from : (count i k : ℕ) → k < count → every_piece ok (pieces_from ss ps ds i count) ≡ true → ok (piece_at ss ps ds (i + k)) ≡ true
  unfolding every_piece pieces_from
  each_from zero i k h e = absurd (omega arith)
  each_from (suc count) i zero h e = rw (add-zero i) (both (ok (piece_at ss ps ds i)) (every_piece ok (pieces_from ss ps ds (suc i) count)) e).0
  each_from (suc count) i (suc k) h e =
      let later : i + suc k ≡ suc i + k = omega arith in
      rw later (each_from count (suc i) k (omega arith) (both (ok (piece_at ss ps ds i)) (every_piece ok (pieces_from ss ps ds (suc i) count)) e).1)

  pub every-each : every_piece ok (pieces ss ps ds) ≡ true → (i : ℕ) → i + 1 < length ss → ok (piece_at ss ps ds i) ≡ true
  unfolding pieces
  every-each e i h = rw (zero-add i) at (each_from (length ss - 1) 0 i (omega arith) e)

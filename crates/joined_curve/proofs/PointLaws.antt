-- The joined points by index: the inner points of piece i stand at inner·i + 1 and inner·i + 2, and its end behind them where it is a point of the curve.
use mathlib.Core.List.{List, [], ◌∷◌, ◌++◌}
use mathlib.Core.Path.{◌≡◌, refl, sym, ap, ◌∙◌}
use Prim.Native.Nat.{ℕ, zero, suc, ◌+◌, ◌-◌, ◌*◌, ◌≤◌, ◌<◌}
use native.Mathlib.Omega.{arith}
use lib.IntN.{ℤ, pos}
use lib.ListN.{length, get_or}
use lib.Seq.{get_or-append-add}
use Rattle.spline_pieces.specs.Pieces.{Piece, piece_of, piece_at, pieces_from, pieces}
use Rattle.joined_curve.specs.Curve.{inner_thrice, points_after, joined_points}
use Rattle.joined_curve.proofs.CurveLaws.{points_before, points_from, points-cut, points_before-length}

-- the first two points after a piece's start are its inner ones, whatever follows
after_first : (inner : ℕ) (piece : Piece) (rest : List Piece) → get_or (points_after inner piece rest) 0 (pos 0) ≡ piece.leaving
unfolding points_after
after_first inner piece [] = refl
after_first inner piece (next ∷ rest) = refl

after-second : (inner : ℕ) (piece : Piece) (rest : List Piece) → get_or (points_after inner piece rest) 1 (pos 0) ≡ piece.arriving
unfolding points_after
after-second inner piece [] = refl
after-second inner piece (next ∷ rest) = refl

-- the third is its end, where the meeting points stay or the curve ends
after-third : (piece : Piece) (rest : List Piece) → get_or (points_after inner_thrice piece rest) 2 (pos 0) ≡ piece.end
unfolding points_after
after-third piece [] = refl
after-third piece (next ∷ rest) = refl

module _ (inner : ℕ) (least : 2 ≤ inner) (ss : List ℕ) (ps ds : List ℤ) (some : 2 ≤ length ss) where
  abbrev joined : List ℤ
  joined = joined_points inner (pieces ss ps ds)

  -- an entry from the inner points of piece i on
  behind : (i r : ℕ) → suc i < length ss → get_or joined (inner * i + 1 + r) (pos 0) ≡ get_or (points_from inner ss ps ds i (length ss - 2 - i)) r (pos 0)
  behind i r h =
      let rest = length ss - 2 - i in
      ap (λ l. get_or l (inner * i + 1 + r) (pos 0)) (points-cut inner ss ps ds some i rest (omega arith))
      ∙ ap (λ j. get_or (points_before inner ss ps ds i ++ points_from inner ss ps ds i rest) (j + r) (pos 0)) (sym (points_before-length inner least ss ps ds i))
      ∙ get_or-append-add (points_before inner ss ps ds i) (points_from inner ss ps ds i rest) r (pos 0)

  pub leaving-is : (i : ℕ) → suc i < length ss → get_or joined (inner * i + 1) (pos 0) ≡ (piece_at ss ps ds i).leaving
  leaving-is i h =
      let here : inner * i + 1 ≡ inner * i + 1 + 0 = omega arith in
      ap (λ j. get_or joined j (pos 0)) here ∙ behind i 0 h ∙ after_first inner (piece_at ss ps ds i) (pieces_from ss ps ds (suc i) (length ss - 2 - i))

  pub arriving-is : (i : ℕ) → suc i < length ss → get_or joined (inner * i + 2) (pos 0) ≡ (piece_at ss ps ds i).arriving
  arriving-is i h =
      let here : inner * i + 2 ≡ inner * i + 1 + 1 = omega arith in
      ap (λ j. get_or joined j (pos 0)) here ∙ behind i 1 h ∙ after-second inner (piece_at ss ps ds i) (pieces_from ss ps ds (suc i) (length ss - 2 - i))

  pub first-is : get_or joined 0 (pos 0) ≡ get_or ps 0 (pos 0)
  unfolding points_before
  first-is = ap (λ l. get_or l 0 (pos 0)) (points-cut inner ss ps ds some 0 (length ss - 2) (omega arith))

  pub last-is : get_or joined (inner * (length ss - 2) + 3) (pos 0) ≡ get_or ps (length ss - 1) (pos 0)
  unfolding points_after pieces_from piece_at piece_of
  last-is =
      let here : inner * (length ss - 2) + 3 ≡ inner * (length ss - 2) + 1 + 2 = omega arith in
      let none : length ss - 2 - (length ss - 2) ≡ 0 = omega arith in
      let end : suc (length ss - 2) ≡ length ss - 1 = omega arith in
      ap (λ j. get_or joined j (pos 0)) here
      ∙ behind (length ss - 2) 2 (omega arith)
      ∙ ap (λ count. get_or (points_from inner ss ps ds (length ss - 2) count) 2 (pos 0)) none
      ∙ ap (λ j. get_or ps j (pos 0)) end

-- where the meeting points stay, P_i stands at 3·i
module _ (ss : List ℕ) (ps ds : List ℤ) (some : 2 ≤ length ss) where
  pub point-is : (i : ℕ) → i < length ss → get_or (joined_points inner_thrice (pieces ss ps ds)) (3 * i) (pos 0) ≡ get_or ps i (pos 0)
  unfolding piece_at piece_of
  point-is zero h = first-is 3 (omega arith) ss ps ds some
  point-is (suc i) h =
      let here : 3 * suc i ≡ 3 * i + 1 + 2 = omega arith in
      ap (λ j. get_or (joined_points inner_thrice (pieces ss ps ds)) j (pos 0)) here
      ∙ behind 3 (omega arith) ss ps ds some i 2 h
      ∙ after-third (piece_at ss ps ds i) (pieces_from ss ps ds (suc i) (length ss - 2 - i))

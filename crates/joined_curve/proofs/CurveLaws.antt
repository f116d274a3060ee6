-- The joined curve cut at any piece: what stands before it, and what follows from it on. So its lengths.
use mathlib.Core.List.{List, [], ◌∷◌, ◌++◌, append_assoc}
use mathlib.Core.Path.{◌≡◌, sym, ap, ◌∙◌}
use Prim.Native.Nat.{ℕ, zero, suc, ◌+◌, ◌-◌, ◌*◌, ◌≤◌}
use native.Mathlib.Nat.{mul-zero, mul-suc}
use native.Mathlib.Omega.{arith}
use lib.IntN.{ℤ, pos}
use lib.ListN.{length, get_or, replicate, length-append, length-replicate}
use Rattle.spline_pieces.specs.Pieces.{Piece, piece_of, piece_at, pieces_from, pieces}
use Rattle.joined_curve.specs.Curve.{end_knots, inner_of, EitherNumber, knots_after, joined_knots, points_after, joined_points}
use Rattle.joined_curve.specs.declared.meeting.Meeting.{Meeting}
use Rattle.joined_curve.specs.declared.meeting.Meeting.TheVariants.{LeftOut, Kept}

-- an inner parameter stands twice or three times
pub either_of : (meeting : Meeting) → EitherNumber (inner_of meeting)
either_of LeftOut = (omega arith, omega arith)
either_of Kept = (omega arith, omega arith)

-- the knots before the end of piece i
unfoldable pub knots_before : ℕ → List ℕ → ℕ → List ℕ
knots_before inner ss zero = replicate end_knots (get_or ss 0 0)
knots_before inner ss (suc i) = knots_before inner ss i ++ replicate inner (get_or ss (suc i) 0)

-- the knots from there on, with `count` pieces to come behind piece i
abbrev pub knots_from : ℕ → List ℕ → List ℤ → List ℤ → ℕ → ℕ → List ℕ
knots_from inner ss ps ds i count = knots_after inner (piece_at ss ps ds i) (pieces_from ss ps ds (suc i) count)

-- the first two points of a piece after its start, and its end where it is a point of the curve
unfoldable pub in_piece : ℕ → Piece → List ℤ
in_piece inner piece = piece.leaving ∷ piece.arriving ∷ replicate (inner - 2) piece.end

-- the points before the inner ones of piece i
unfoldable pub points_before : ℕ → List ℕ → List ℤ → List ℤ → ℕ → List ℤ
points_before inner ss ps ds zero = get_or ps 0 (pos 0) ∷ []
points_before inner ss ps ds (suc i) = points_before inner ss ps ds i ++ in_piece inner (piece_at ss ps ds i)

-- the points from there on, with `count` pieces to come behind piece i
abbrev pub points_from : ℕ → List ℕ → List ℤ → List ℤ → ℕ → ℕ → List ℤ
points_from inner ss ps ds i count = points_after inner (piece_at ss ps ds i) (pieces_from ss ps ds (suc i) count)

-- how many there are
pub knots_before-length : (inner : ℕ) (ss : List ℕ) (i : ℕ) → length (knots_before inner ss i) ≡ inner * i + 4
unfolding knots_before
knots_before-length inner ss zero = omega (arith, mul-zero inner)
knots_before-length inner ss (suc i) =
    length-append (knots_before inner ss i) (replicate inner (get_or ss (suc i) 0))
    ∙ omega (arith, knots_before-length inner ss i, length-replicate inner (get_or ss (suc i) 0), mul-suc inner i)

module _ (inner : ℕ) (ss : List ℕ) (ps ds : List ℤ) where
  -- one piece further
  knots-on : (i count : ℕ) → knots_before inner ss i ++ knots_from inner ss ps ds i (suc count) ≡ knots_before inner ss (suc i) ++ knots_from inner ss ps ds (suc i) count
  unfolding knots_before knots_after pieces_from piece_at piece_of
  knots-on i count = sym (append_assoc (knots_before inner ss i) (replicate inner (get_or ss (suc i) 0)) (knots_from inner ss ps ds (suc i) count))

  points_on : (i count : ℕ) → points_before inner ss ps ds i ++ points_from inner ss ps ds i (suc count) ≡ points_before inner ss ps ds (suc i) ++ points_from inner ss ps ds (suc i) count
  unfolding points_before in_piece points_after pieces_from
  points_on i count = sym (append_assoc (points_before inner ss ps ds i) (in_piece inner (piece_at ss ps ds i)) (points_from inner ss ps ds (suc i) count))

  -- all pieces: the first, and those behind it
  pieces_are : 2 ≤ length ss → pieces ss ps ds ≡ piece_at ss ps ds 0 ∷ pieces_from ss ps ds 1 (length ss - 2)
  unfolding pieces pieces_from
  pieces_are some =
      let count : length ss - 1 ≡ suc (length ss - 2) = omega arith in
      rw count

  pub knots-cut : 2 ≤ length ss → (i count : ℕ) → i + count ≡ length ss - 2
      → joined_knots inner (pieces ss ps ds) ≡ knots_before inner ss i ++ knots_from inner ss ps ds i count
  unfolding joined_knots knots_before piece_at piece_of
  knots-cut some zero count e =
      let all : length ss - 2 ≡ count = omega arith in
      rw (pieces_are some, all)
  knots-cut some (suc i) count e = knots-cut some i (suc count) (omega arith) ∙ knots-on i count

  pub points-cut : 2 ≤ length ss → (i count : ℕ) → i + count ≡ length ss - 2
      → joined_points inner (pieces ss ps ds) ≡ points_before inner ss ps ds i ++ points_from inner ss ps ds i count
  unfolding joined_points points_before piece_at piece_of
  points-cut some zero count e =
      let all : length ss - 2 ≡ count = omega arith in
      rw (pieces_are some, all)
  points-cut some (suc i) count e = points-cut some i (suc count) (omega arith) ∙ points_on i count

  pub knots-length : 2 ≤ length ss → length (joined_knots inner (pieces ss ps ds)) ≡ inner * (length ss - 2) + 8
  unfolding knots_after pieces_from
  knots-length some =
      ap length (knots-cut some (length ss - 2) 0 (omega arith))
      ∙ length-append (knots_before inner ss (length ss - 2)) (knots_from inner ss ps ds (length ss - 2) 0)
      ∙ omega (arith, knots_before-length inner ss (length ss - 2))

module _ (inner : ℕ) (least : 2 ≤ inner) (ss : List ℕ) (ps ds : List ℤ) where
  pub points_before-length : (i : ℕ) → length (points_before inner ss ps ds i) ≡ inner * i + 1
  unfolding points_before in_piece
  points_before-length zero = omega (arith, mul-zero inner)
  points_before-length (suc i) =
      length-append (points_before inner ss ps ds i) (in_piece inner (piece_at ss ps ds i))
      ∙ omega (arith, points_before-length i, length-replicate (inner - 2) (piece_at ss ps ds i).end, mul-suc inner i)

  pub points-length : 2 ≤ length ss → length (joined_points inner (pieces ss ps ds)) ≡ inner * (length ss - 2) + 4
  unfolding points_after pieces_from
  points-length some =
      ap length (points-cut inner ss ps ds some (length ss - 2) 0 (omega arith))
      ∙ length-append (points_before inner ss ps ds (length ss - 2)) (points_from inner ss ps ds (length ss - 2) 0)
      ∙ omega (arith, points_before-length (length ss - 2))

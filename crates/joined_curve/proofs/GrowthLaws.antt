-- The joined curve of the first pieces, as it stands in the lent lists while it grows: each piece is written as the last one. One piece more
-- is written over what of the curve so far does not stay; after the last piece it is the joined curve.
use mathlib.Core.List.{List, [], ◌∷◌, ◌++◌, append_assoc, append-nil}
use mathlib.Core.Path.{◌≡◌, refl, sym, ap, ◌∙◌}
use Prim.Native.Nat.{ℕ, zero, suc, ◌+◌, ◌-◌, ◌≤◌, ◌<◌}
use native.Mathlib.Omega.{arith}
use lib.IntN.{ℤ, pos}
use lib.ListN.{length, get_or, replicate, length-replicate, replicate-append-replicate}
use lib.Seq.{sets}
use Rattle.spline_pieces.specs.Pieces.{Piece, piece_of, piece_at, pieces_from, pieces}
use Rattle.joined_curve.specs.Curve.{end_knots, EitherNumber, knots_after, joined_knots, points_after, joined_points}
use Rattle.joined_curve.proofs.CurveLaws.{knots_before, in_piece, points_before, knots-cut, points-cut, knots_before-length, points_before-length}
use Rattle.joined_curve.proofs.PutLaws.{Grown, grown-more}

-- the knots up to parameter i
unfoldable pub knots_to : ℕ → List ℕ → ℕ → List ℕ
knots_to inner ss zero = replicate end_knots (get_or ss 0 0)
knots_to inner ss (suc i) = knots_before inner ss i ++ replicate end_knots (get_or ss (suc i) 0)

-- the points of a piece after its start
abbrev pub three_of : Piece → List ℤ
three_of piece = piece.leaving ∷ piece.arriving ∷ piece.end ∷ []

-- the points up to the end of the i-th piece, the first point alone for none
unfoldable pub points_to : ℕ → List ℕ → List ℤ → List ℤ → ℕ → List ℤ
points_to inner ss ps ds zero = get_or ps 0 (pos 0) ∷ []
points_to inner ss ps ds (suc i) = points_before inner ss ps ds i ++ three_of (piece_at ss ps ds i)

-- the knots, and the points, while they grow
abbrev pub KnotsGrown : ℕ → List ℕ → List ℕ → List ℕ → ℕ → ℕ → Type 0
KnotsGrown inner ss before out at i = Grown (length ss) inner 4 4 (knots_to inner ss) before out at i

abbrev pub PointsGrown : ℕ → List ℕ → List ℤ → List ℤ → List ℤ → List ℤ → ℕ → ℕ → Type 0
PointsGrown inner ss ps ds before out at i = Grown (length ss) inner 1 3 (points_to inner ss ps ds) before out at i

module _ (inner : ℕ) (either : EitherNumber inner) where
  -- so often as an end value stands: as often as an inner one does, and the rest
  four_are : (s : ℕ) → replicate end_knots s ≡ replicate inner s ++ replicate (end_knots - inner) s
  four_are s =
      let all : inner + (end_knots - inner) ≡ end_knots = omega (arith, either.1) in
      sym (replicate-append-replicate inner (end_knots - inner) s ∙ ap (λ n. replicate n s) all)

  three-are : (piece : Piece) → three_of piece ≡ in_piece inner piece ++ replicate (3 - inner) piece.end
  unfolding in_piece
  three-are piece =
      let all : inner - 2 + (3 - inner) ≡ 1 = omega (arith, either) in
      ap (λ l. piece.leaving ∷ piece.arriving ∷ l) (sym (replicate-append-replicate (inner - 2) (3 - inner) piece.end ∙ ap (λ n. replicate n piece.end) all))

  module _ (ss : List ℕ) where
    -- of the knots so far those before the next parameter stay
    lost_knots : ℕ → List ℕ
    lost_knots zero = []
    lost_knots (suc i) = replicate (end_knots - inner) (get_or ss (suc i) 0)

    knots-stay : (i : ℕ) → knots_to inner ss i ≡ knots_before inner ss i ++ lost_knots i
    unfolding knots_to knots_before lost_knots
    knots-stay zero = sym (append-nil (replicate end_knots (get_or ss 0 0)))
    knots-stay (suc i) =
        let s = get_or ss (suc i) 0 in
        ap (λ l. knots_before inner ss i ++ l) (four_are s) ∙ sym (append_assoc (knots_before inner ss i) (replicate inner s) (replicate (end_knots - inner) s))

    lost-few : (i : ℕ) → length (lost_knots i) ≤ 4
    unfolding lost_knots
    lost-few zero = omega arith
    lost-few (suc i) = rw (length-replicate (end_knots - inner) (get_or ss (suc i) 0)) (omega arith)

    pub knots-grow : {before out now : List ℕ} {at i : ℕ} → KnotsGrown inner ss before out at i → suc i < length ss → now ≡ sets out at (replicate end_knots (get_or ss (i + 1) 0))
        → KnotsGrown inner ss before now (at + inner) (i + 1)
    unfolding knots_to
    knots-grow {i = i} g h put =
        let next : i + 1 ≡ suc i = omega arith in
        grown-more g (knots_before inner ss i) (lost_knots i) (replicate end_knots (get_or ss (suc i) 0)) h (rw next at put) (knots-stay i) refl (knots_before-length inner ss i) refl (lost-few i)

  module _ (ss : List ℕ) (ps ds : List ℤ) where
    -- of the points so far those before the inner points of the next piece stay
    lost_points : ℕ → List ℤ
    lost_points zero = []
    lost_points (suc i) = replicate (3 - inner) (piece_at ss ps ds i).end

    points-stay : (i : ℕ) → points_to inner ss ps ds i ≡ points_before inner ss ps ds i ++ lost_points i
    unfolding points_to points_before lost_points
    points-stay zero = sym (append-nil (get_or ps 0 (pos 0) ∷ []))
    points-stay (suc i) =
        let piece = piece_at ss ps ds i in
        ap (λ l. points_before inner ss ps ds i ++ l) (three-are piece) ∙ sym (append_assoc (points_before inner ss ps ds i) (in_piece inner piece) (replicate (3 - inner) piece.end))

    lost-points-few : (i : ℕ) → length (lost_points i) ≤ 3
    unfolding lost_points
    lost-points-few zero = omega arith
    lost-points-few (suc i) = rw (length-replicate (3 - inner) (piece_at ss ps ds i).end) (omega arith)

    pub points-grow : {before out now : List ℤ} {at i : ℕ} → PointsGrown inner ss ps ds before out at i → suc i < length ss → now ≡ sets out at (three_of (piece_at ss ps ds i))
        → PointsGrown inner ss ps ds before now (at + inner) (i + 1)
    unfolding points_to
    points-grow {i = i} g h put =
        grown-more g (points_before inner ss ps ds i) (lost_points i) (three_of (piece_at ss ps ds i)) h put (points-stay i) refl (points_before-length inner either.0 ss ps ds i) refl (lost-points-few i)

-- after the last piece
module _ (inner : ℕ) (ss : List ℕ) (ps ds : List ℤ) (i : ℕ) (last : i + 2 ≡ length ss) where
  pub knots-grown : knots_to inner ss (suc i) ≡ joined_knots inner (pieces ss ps ds)
  unfolding knots_to knots_after pieces_from piece_at piece_of
  knots-grown = sym (knots-cut inner ss ps ds (omega arith) i 0 (omega arith))

  pub points-grown : points_to inner ss ps ds (suc i) ≡ joined_points inner (pieces ss ps ds)
  unfolding points_to points_after pieces_from
  points-grown = sym (points-cut inner ss ps ds (omega arith) i 0 (omega arith))

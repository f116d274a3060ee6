-- A joined curve whose inner knots stand twice, where piece i ends: the end stands twice there, and the mean that inserting it asks for is the meeting point.
use mathlib.Core.Bool.{true}
use mathlib.Core.List.{List, ◌∷◌, ◌++◌}
use mathlib.Core.Path.{◌≡◌, refl}
use Prim.Native.Nat.{ℕ, zero, suc, ◌+◌, ◌-◌, ◌*◌, ◌<◌}
use native.Mathlib.Nat.{le_of_lt}
use native.Mathlib.Omega.{arith}
use lib.IntN.{ℤ, pos, ◌+ℤ◌}
use lib.ListN.{length, get_or}
use lib.Seq.{get_or_at}
use Rattle.insertion.specs.Sentences.{Quotient}
use Rattle.spline_pieces.specs.Pieces.{third, piece_of, piece_at, pieces_from, pieces, all_whole}
use Rattle.spline_pieces.specs.Standing.{Rising}
use Rattle.spline_pieces.proofs.SentenceLaws.{whole-judged}
use Rattle.joined_curve.specs.Curve.{inner_twice, knots_after, points_after}
use Rattle.joined_curve.proofs.CurveLaws.{knots_from, points_from}
use Rattle.meeting_points.proofs.ListLaws.{entry-behind}
use Rattle.meeting_points.proofs.QuotientLaws.{meeting-mean}
use Rattle.meeting_points.proofs.AxisLaws.{Twice}

module _ (ss : List ℕ) (ps ds : List ℤ) where
  -- the first knot is the piece's end, the first point the one that leaves its start
  pub knots_from-first : (i count : ℕ) → get_or (knots_from inner_twice ss ps ds i count) 0 0 ≡ get_or ss (suc i) 0
  unfolding knots_after pieces_from piece_at piece_of
  knots_from-first i zero = refl
  knots_from-first i (suc count) = refl

  points_from-first : (i count : ℕ)
      → get_or (points_from inner_twice ss ps ds i count) 0 (pos 0) ≡ get_or ps i (pos 0) +ℤ third (get_or ss (suc i) 0 - get_or ss i 0) (get_or ds i (pos 0))
  unfolding points_after pieces_from piece_at piece_of
  points_from-first i zero = refl
  points_from-first i (suc count) = refl

  pub points_from-length : (i count : ℕ) → length (points_from inner_twice ss ps ds i count) ≡ 2 * count + 3
  unfolding points_after pieces_from
  points_from-length i zero = refl
  points_from-length i (suc count) = omega (arith, points_from-length (suc i) count)

-- ks are the knots before the last one of piece i's start, ls those behind its end; k is the place of the mean
module _ (ss : List ℕ) (rising : Rising ss) (i count : ℕ) (inside : i + suc (suc count) < length ss)
    (ks ls : List ℕ) (many : length ks ≡ 3 * i + 3) (first : get_or ls 0 0 ≡ get_or ss (suc (suc i)) 0) where
  abbrev low : ℕ
  low = get_or ss i 0

  abbrev v : ℕ
  v = get_or ss (suc i) 0

  abbrev k : ℕ
  k = 3 * i + 3

  abbrev ts : List ℕ
  ts = ks ++ (low ∷ v ∷ v ∷ ls)

  low-is : get_or ts k 0 ≡ low
  low-is = get_or_at ks low (v ∷ v ∷ ls) 0 k many

  high_is : get_or ts (k + 3) 0 ≡ get_or ss (suc (suc i)) 0
  high_is = rw (entry-behind 0 ks (low ∷ v ∷ v ∷ ls) k 3 many) first

  pub end-twice : Twice ts v k
  end-twice =
      record {
        low = rw low-is (rising.rises i (omega arith));
        first = entry-behind 0 ks (low ∷ v ∷ v ∷ ls) k 1 many;
        second = entry-behind 0 ks (low ∷ v ∷ v ∷ ls) k 2 many;
        high = rw high_is (rising.rises (suc i) (omega arith));
      }

  -- front are the points before piece i's start
  pub end-mean : (ps ds front : List ℤ) → all_whole (pieces ss ps ds) ≡ true → length front ≡ 3 * i
      → Quotient 3 ts (front ++ (get_or ps i (pos 0) ∷ points_from inner_twice ss ps ds i (suc count))) v k (get_or ps (suc i) (pos 0))
  unfolding points_after pieces_from piece_at piece_of
  end-mean ps ds front whole few =
      let thirds = (whole-judged ss ps ds).passing whole in
      let us = get_or ps i (pos 0) ∷ points_from inner_twice ss ps ds i (suc count) in
      let place : k - 1 ≡ 3 * i + 2 = omega arith in
      rw (
        high_is,
        low-is,
        place,
        entry-behind (pos 0) front us (3 * i) 3 few,
        entry-behind (pos 0) front us (3 * i) 2 few,
        points_from-first ss ps ds (suc i) count,
      )
      (meeting-mean low v (get_or ss (suc (suc i)) 0) (get_or ps (suc i) (pos 0)) (get_or ds (suc i) (pos 0))
      (le_of_lt (rising.rises i (omega arith))) (le_of_lt (rising.rises (suc i) (omega arith)))
      (thirds i (omega arith)).1 (thirds (suc i) (omega arith)).0)

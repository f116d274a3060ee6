-- The meeting points of a joined curve, inserted one after the other from the left, turn the curve that leaves them out into the one that keeps them:
-- `meeting-points-inserted`. On the way the lists are a front, where the meeting points are in, and what follows from piece i on.
use mathlib.Core.Bool.{true}
use mathlib.Core.List.{List, [], ◌∷◌, ◌++◌, append_assoc}
use mathlib.Core.Path.{◌≡◌, refl, subst, ◌∙◌}
use Prim.Native.Nat.{ℕ, zero, suc, ◌+◌, ◌-◌, ◌*◌, ◌<◌}
use native.Mathlib.Omega.{arith}
use lib.IntN.{ℤ, pos}
use lib.ListN.{length, get_or, take, drop, length-append}
use lib.Seq.{drop-cons}
use Rattle.refusal.specs.Numbers.{accepted}
use Rattle.curve.specs.Lists.{Lists, lists}
use Rattle.grid.specs.Check.{Passes}
use Rattle.insertion.specs.Insertion.{inserted}
use Rattle.insertion.specs.Judged.{insertion_number}
use Rattle.insertion.proofs.ResultLaws.{inserted-passes}
use Rattle.spline_pieces.specs.Pieces.{piece_of, piece_at, pieces_from, pieces, all_whole}
use Rattle.spline_pieces.specs.Standing.{Rising}
use Rattle.joined_curve.specs.Curve.{inner_twice, inner_thrice, knots_after, joined_knots, points_after, joined_points}
use Rattle.joined_curve.proofs.CurveLaws.{knots_from, points_from}
use Rattle.meeting_points.specs.Inserting.{inner_parameters, InsertsEach}
use Rattle.meeting_points.proofs.StepLaws.{twice-inserts}
use Rattle.meeting_points.proofs.MeanLaws.{knots_from-first, points_from-length, end-twice, end-mean}

-- a cubic that passes the check
abbrev CubicPasses : Lists → Type 0
CubicPasses c = Passes 3 c.knots c.xs c.ys

-- a front with the three knots, or the three points, by which piece i makes it longer
abbrev longer_knots : List ℕ → ℕ → List ℕ → List ℕ
longer_knots ss i front = front ++ (get_or ss i 0 ∷ get_or ss (suc i) 0 ∷ get_or ss (suc i) 0 ∷ [])

abbrev longer_points : List ℕ → List ℤ → List ℤ → ℕ → List ℤ → List ℤ
longer_points ss ps ds i front = front ++ (get_or ps i (pos 0) ∷ (piece_at ss ps ds i).leaving ∷ (piece_at ss ps ds i).arriving ∷ [])

module _ (ss : List ℕ) (xs dxs ys dys : List ℤ) where
  -- the curve with these fronts and what follows from piece i on, with `count` pieces behind it
  abbrev curve_on : ℕ → ℕ → ℕ → List ℕ → List ℤ → List ℤ → Lists
  curve_on inner i count ks fx fy =
      lists (ks ++ (get_or ss i 0 ∷ knots_from inner ss xs dxs i count))
      (fx ++ (get_or xs i (pos 0) ∷ points_from inner ss xs dxs i count))
      (fy ++ (get_or ys i (pos 0) ∷ points_from inner ss ys dys i count))

  -- the first i meeting points are in, and the curve passes the check
  record Begun (i count : ℕ) (ks : List ℕ) (fx fy : List ℤ) : Type 0 where
    inside : i + suc count < length ss
    many : length ks ≡ 3 * i + 3
    many-x : length fx ≡ 3 * i
    many-y : length fy ≡ 3 * i
    passes : CubicPasses (curve_on inner_twice i count ks fx fy)

  module _ (rising : Rising ss) (whole-x : all_whole (pieces ss xs dxs) ≡ true) (whole-y : all_whole (pieces ss ys dys) ≡ true) where
    module _ (i count : ℕ) (ks : List ℕ) (fx fy : List ℤ) (b : Begun i (suc count) ks fx fy) where
      abbrev before : Lists
      before = curve_on inner_twice i (suc count) ks fx fy

      abbrev next : ℕ → Lists
      next inner = curve_on inner (suc i) count (longer_knots ss i ks) (longer_points ss xs dxs i fx) (longer_points ss ys dys i fy)

      points-length : length before.xs ≡ 3 * i + (2 * suc count + 4)
      points-length = length-append fx _ ∙ omega (arith, points_from-length ss xs dxs i (suc count), b.many-x)

      -- with inner knots three times nothing is to be inserted where piece i ends
      thrice-next : curve_on inner_thrice i (suc count) ks fx fy ≡ next inner_thrice
      unfolding knots_after points_after pieces_from piece_at piece_of
      thrice-next = simp append_assoc

      -- with inner knots twice its end is inserted
      twice-next : (insertion_number 3 before (get_or ss (suc i) 0) (inserted 3 before (get_or ss (suc i) 0)) ≡ accepted)
          × (inserted 3 before (get_or ss (suc i) 0) ≡ next inner_twice)
      unfolding knots_after points_after pieces_from piece_at piece_of
      twice-next =
          let ls = knots_from inner_twice ss xs dxs (suc i) count in
          let first = knots_from-first ss xs dxs (suc i) count in
          let inside = b.inside in
          twice-inserts before (get_or ss (suc i) 0) (3 * i + 3) (get_or xs (suc i) (pos 0)) (get_or ys (suc i) (pos 0)) b.passes
          (end-twice ss rising i count inside ks ls b.many first)
          (omega arith) (omega (arith, points-length)) (omega (arith, points-length, rising.most))
          (end-mean ss rising i count inside ks ls b.many first xs dxs fx whole-x b.many-x)
          (end-mean ss rising i count inside ks ls b.many first ys dys fy whole-y b.many-y)
          (longer_knots ss i ks) ls
          (longer_points ss xs dxs i fx) (points_from inner_twice ss xs dxs (suc i) count)
          (longer_points ss ys dys i fy) (points_from inner_twice ss ys dys (suc i) count)
          (simp append_assoc) (simp append_assoc) (simp append_assoc)
          (length-append ks _ ∙ omega (arith, b.many)) (length-append fx _ ∙ omega (arith, b.many-x)) (length-append fy _ ∙ omega (arith, b.many-y))

      next-begun : Begun (suc i) count (longer_knots ss i ks) (longer_points ss xs dxs i fx) (longer_points ss ys dys i fy)
      next-begun =
          let (accepts, gives) = twice-next in
          record {
            inside = omega (arith, b.inside);
            many = length-append ks _ ∙ omega (arith, b.many);
            many-x = length-append fx _ ∙ omega (arith, b.many-x);
            many-y = length-append fy _ ∙ omega (arith, b.many-y);
            passes = subst CubicPasses gives (inserted-passes 3 before.knots before.xs before.ys (get_or ss (suc i) 0) (inserted 3 before (get_or ss (suc i) 0)) accepts);
          }

    inserts-on : (count i : ℕ) (ks : List ℕ) (fx fy : List ℤ) → Begun i count ks fx fy
        → InsertsEach 3 (take count (drop (suc i) ss)) (curve_on inner_twice i count ks fx fy) (curve_on inner_thrice i count ks fx fy)
    unfolding knots_after points_after pieces_from
    inserts-on zero i ks fx fy b = refl
    inserts-on (suc count) i ks fx fy b =
        let (accepts, gives) = twice-next i count ks fx fy b in
        rw (drop-cons ss (suc i) 0 (omega (arith, b.inside)))
        (accepts, rw (gives, thrice-next i count ks fx fy b) (inserts-on count (suc i) _ _ _ (next-begun i count ks fx fy b)))

pub meeting-points-inserted : (ss : List ℕ) (xs dxs ys dys : List ℤ) → Rising ss → all_whole (pieces ss xs dxs) ≡ true → all_whole (pieces ss ys dys) ≡ true
    → Passes 3 (joined_knots inner_twice (pieces ss xs dxs)) (joined_points inner_twice (pieces ss xs dxs)) (joined_points inner_twice (pieces ss ys dys))
    → InsertsEach 3 (inner_parameters ss)
    (lists (joined_knots inner_twice (pieces ss xs dxs)) (joined_points inner_twice (pieces ss xs dxs)) (joined_points inner_twice (pieces ss ys dys)))
    (lists (joined_knots inner_thrice (pieces ss xs dxs)) (joined_points inner_thrice (pieces ss xs dxs)) (joined_points inner_thrice (pieces ss ys dys)))
unfolding inner_parameters joined_knots joined_points pieces pieces_from piece_at piece_of
meeting-points-inserted ss xs dxs ys dys rising whole-x whole-y passes =
    let count : length ss - 1 ≡ suc (length ss - 2) = omega (arith, rising.least) in
    let s = get_or ss 0 0 in
    rw count
    (inserts-on ss xs dxs ys dys rising whole-x whole-y (length ss - 2) 0 (s ∷ s ∷ s ∷ []) [] []
    (record { inside = omega (arith, rising.least); many = refl; many-x = refl; many-y = refl; passes = rw count at passes }))

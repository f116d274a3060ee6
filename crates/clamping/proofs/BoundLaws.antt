-- How large the numbers in the rows of an end are: upper against lower, that lower is not zero, and how large it becomes.
use mathlib.Core.List.{List}
use mathlib.Core.Path.{◌≡◌, ap, ◌∙◌}
use Prim.Native.Nat.{ℕ, zero, suc, ◌+◌, ◌*◌, ◌≤◌, ◌<◌}
use native.Mathlib.Nat.{mul_assoc, mul_comm, mul_left_comm, add-mul, mul-add, mul-le-mul, mul-le-mul_left, mul-pos, mul-one}
use native.Mathlib.Omega.{arith}
use lib.IntN.{ℤ, pos, nat_abs, ◌*ℤ◌}
use lib.ListN.{length, get_or}
use Rattle.signed.proofs.SizeLaws.{nat_abs-add, nat_abs_mul}
use Rattle.grid.specs.Limits.{coordinate_most}
use Rattle.clamping.specs.declared.Share.{Share}
use Rattle.clamping.specs.EndRows.{End, mean, end_row, start_of, finish_of}

-- the size of one summand of a mean: d·p / b below, where p is at most `most` times a
summand-bounded : (most d a b : ℕ) (p : ℤ) → nat_abs p ≤ most * a → nat_abs (pos (d * b) *ℤ p) ≤ most * (d * (a * b))
summand-bounded most d a b p h =
    let regroup : d * b * (most * a) ≡ most * (d * (a * b)) = simp (mul_assoc, mul_comm, mul_left_comm) in
    rw (nat_abs_mul (pos (d * b)) p, ← regroup) (mul-le-mul_left (d * b) h)

-- a mean is no further out than the two it is taken of
mean-bounded : (most d e : ℕ) (a b : Share) → nat_abs a.upper ≤ most * a.lower → nat_abs b.upper ≤ most * b.lower
    → nat_abs (mean d a e b).upper ≤ most * (mean d a e b).lower
unfolding mean
mean-bounded most d e a b ha hb =
    let sum = nat_abs-add (pos (d * b.lower) *ℤ a.upper) (pos (e * a.lower) *ℤ b.upper) in
    let left = summand-bounded most d a.lower b.lower a.upper ha in
    let right : nat_abs (pos (e * a.lower) *ℤ b.upper) ≤ most * (e * (a.lower * b.lower)) =
    rw (mul_comm a.lower b.lower) (summand-bounded most e b.lower a.lower b.upper hb) in
    let whole : most * ((d + e) * (a.lower * b.lower)) ≡ most * (d * (a.lower * b.lower)) + most * (e * (a.lower * b.lower)) =
    ap (λ (n : ℕ). most * n) (add-mul d e (a.lower * b.lower)) ∙ mul-add most (d * (a.lower * b.lower)) (e * (a.lower * b.lower)) in
    omega arith

module _ (end : End) (m : ℕ) where
  -- every number of every row lies on the grid where the points do
  pub row-bounded : ((k : ℕ) → nat_abs (end.point k) ≤ coordinate_most) → (r k : ℕ)
      → nat_abs (end_row end m r k).upper ≤ coordinate_most * (end_row end m r k).lower
  unfolding end_row
  row-bounded range zero k = omega (arith, range k)
  row-bounded range (suc r) k =
      mean-bounded coordinate_most _ _ (end_row end m r k) (end_row end m r (k + 1))
      (row-bounded range r k) (row-bounded range r (k + 1))

  -- entry k of row r is worked out with the r knots inside behind the k-th; where these lie apart from the end, no lower number is zero
  pub row-lower : (r k : ℕ) → ((j : ℕ) → k < j → j ≤ k + r → 0 < end.inside j) → 0 < (end_row end m r k).lower
  unfolding end_row mean
  row-lower zero k apart = omega arith
  row-lower (suc r) k apart =
      let first = apart (k + 1) (omega arith) (omega arith) in
      let left = row-lower r k (λ j a b. apart j a (omega arith)) in
      let right = row-lower r (k + 1) (λ j a b. apart j (omega arith) (omega arith)) in
      mul-pos (omega arith) (mul-pos left right)

  -- where no knot inside and knot outside are further apart than w, the lower numbers of the first row are at most w, those of the second w·w·w
  module _ (w : ℕ) (near : (j l : ℕ) → end.inside j + end.outside l ≤ w) where
    pub first-row-most : (k : ℕ) → (end_row end m 1 k).lower ≤ w
    unfolding end_row mean
    first-row-most k = rw (mul-one (_ + _)) (near _ _)

    pub second-row-most : (k : ℕ) → (end_row end m 2 k).lower ≤ w * (w * w)
    unfolding end_row mean
    second-row-most k = mul-le-mul (near _ _) (mul-le-mul (first-row-most k) (first-row-most (k + 1)))

-- the ends of a curve whose knots are at most `most` are such
module _ (ts : List ℕ) (ps : List ℤ) (most : ℕ) (high : (a : ℕ) → get_or ts a 0 ≤ most) where
  pub start-near : (m j l : ℕ) → (start_of m ts ps).inside j + (start_of m ts ps).outside l ≤ most
  start-near m j l = omega (arith, high (m + j), high m)

  pub finish-near : (j l : ℕ) → (finish_of ts ps).inside j + (finish_of ts ps).outside l ≤ most
  finish-near j l = omega (arith, high (length ps + l), high (length ps))

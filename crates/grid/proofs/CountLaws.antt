-- Rows 1 to 3: what their tests say of the degree and of the lengths, and back.
use mathlib.Core.Bool.{true, ◌&&◌}
use mathlib.Core.List.{List}
use mathlib.Core.Path.{◌≡◌}
use Prim.Native.Nat.{ℕ, ◌+◌, ◌≤◌}
use lib.Dec.{leb, eqb}
use lib.IntN.{ℤ}
use lib.ListN.{length}
use borrow.Author.Tests.{leb-true, eqb-true}
use Rattle.grid.specs.Limits.{points_most}
use Rattle.grid.specs.Rows.{degree_ok, point_count_ok, knot_count_ok}
use Rattle.refusal.proofs.JudgingLaws.{both}

pub degree-of-test : (m : ℕ) → degree_ok m ≡ true → (1 ≤ m) × (m ≤ 3)
unfolding degree_ok
degree-of-test m h =
    let p = both (leb 1 m) (leb m 3) h in
    (leb-true 1 m p.0, leb-true m 3 p.1)

pub points-of-test : (m : ℕ) (xs ys : List ℤ) → point_count_ok m xs ys ≡ true → (length xs ≡ length ys) × (m + 1 ≤ length xs) × (length xs ≤ points_most)
unfolding point_count_ok
points-of-test m xs ys h =
    let p = both (eqb (length xs) (length ys) && leb (m + 1) (length xs)) (leb (length xs) points_most) h in
    let q = both (eqb (length xs) (length ys)) (leb (m + 1) (length xs)) p.0 in
    (eqb-true (length xs) (length ys) q.0, leb-true (m + 1) (length xs) q.1, leb-true (length xs) points_most p.1)

pub knots-of-test : (m : ℕ) (ts : List ℕ) (xs : List ℤ) → knot_count_ok m ts xs ≡ true → length ts ≡ length xs + m + 1
unfolding knot_count_ok
knots-of-test m ts xs h = eqb-true (length ts) (length xs + m + 1) h

-- The new coordinates, entry by entry.
use mathlib.Core.Path.{◌≡◌, ap, ◌∙◌}
use mathlib.Core.List.{List}
use Prim.Native.Nat.{ℕ, suc, ◌+◌, ◌-◌, ◌≤◌, ◌<◌}
use native.Mathlib.Omega.{arith}
use lib.IntN.{ℤ, pos}
use lib.ListN.{length, get_or, take, drop}
use lib.Signed.{quot_z}
use borrow.Author.Tests.{le-leb, lt-leb}
use Rattle.lent.specs.Lent.{over}
use Rattle.lent.proofs.ListLaws.{take_rest}
use Rattle.insertion.specs.Standing.{Insertable}
use Rattle.insertion.specs.Insertion.{insertion_span, inserted_point, inserted_points, point_at, weighted_sum, weight}
use Rattle.lent.proofs.StoreLaws.{Stored}
use Rattle.insertion.proofs.EntryLaws.{entries-length, entries_at}
use Rattle.insertion.proofs.PartLaws.{same-front, same_rest, front-copied}
use Rattle.insertion.proofs.SpanLaws.{span-least, span-most}

-- Q_j by its place
module _ (m : ℕ) (ts : List ℕ) (ps : List ℤ) (v i j : ℕ) where
  pub point-left : j + m ≤ i → inserted_point m ts ps v i j ≡ point_at ps j
  unfolding inserted_point
  point-left h = rw (le-leb (j + m) i h)

  pub point-quotient : i < j + m → j ≤ i → inserted_point m ts ps v i j ≡ quot_z (weighted_sum m ts ps v j) (weight m ts j)
  unfolding inserted_point
  point-quotient h k = rw (lt-leb (j + m) i h, le-leb j i k)

  pub point-right : i < j → inserted_point m ts ps v i j ≡ point_at ps (j - 1)
  unfolding inserted_point
  point-right h = rw (lt-leb (j + m) i (omega arith), lt-leb j i h)

module _ (m : ℕ) (ts : List ℕ) (ps : List ℤ) (v : ℕ) where
  -- one point more
  pub inserted_points-length : length (inserted_points m ts ps v) ≡ length ps + 1
  unfolding inserted_points
  inserted_points-length = entries-length (inserted_point m ts ps v (insertion_span ts v)) (length ps + 1)

  pub inserted_points-at : (j : ℕ) → j ≤ length ps → get_or (inserted_points m ts ps v) j (pos 0) ≡ inserted_point m ts ps v (insertion_span ts v) j
  unfolding inserted_points
  inserted_points-at j h =
      entries_at (inserted_point m ts ps v (insertion_span ts v)) (length ps + 1) j (pos 0) (omega arith)

-- the points around the quotients
module _ (m : ℕ) (ts : List ℕ) (ps : List ℤ) (v i : ℕ) (s : Insertable m ts ps v) (span : i ≡ insertion_span ts v) where
  -- the points in front of them are copied
  pub points-stored : (before list : List ℤ) → length ps + 1 ≤ length before → list ≡ over (take (length before) (take (i + 1 - m) ps)) before
      → Stored (inserted_points m ts ps v) before list (i + 1 - m)
  points-stored before list room copied =
      let n = inserted_points-length m ts ps v in
      let least = span-least m ts ps v s in
      let most = span-most m ts ps v s in
      let front = same-front (pos 0) (inserted_points m ts ps v) ps (i + 1 - m) (omega arith) (omega arith) (λ k inside. inserted_points-at m ts ps v k (omega arith) ∙ point-left m ts ps v (insertion_span ts v) k (omega arith)) in
      front-copied (inserted_points m ts ps v) before (take (i + 1 - m) ps) list (i + 1 - m) (omega arith) (omega arith) front copied

  -- the points behind them, one place on
  pub points-rest : (behind : ℕ) → behind ≡ i + 1 → take (length ps - (behind - 1)) (drop (behind - 1) ps) ≡ drop behind (inserted_points m ts ps v)
  points-rest behind e =
      let place : behind - 1 + 1 ≡ behind = omega arith in
      let before : (k : ℕ) → suc k - 1 ≡ k = λ k. omega arith in
      take_rest (behind - 1) ps
      ∙ same_rest (pos 0) (inserted_points m ts ps v) ps (behind - 1) (inserted_points-length m ts ps v)
      (λ k later inside. inserted_points-at m ts ps v (suc k) (omega arith) ∙ point-right m ts ps v (insertion_span ts v) (suc k) (omega arith) ∙ ap (point_at ps) (before k))
      ∙ ap (λ (n : ℕ). drop n (inserted_points m ts ps v)) place

-- The four places of a piece on one axis.
use mathlib.Core.Bool.{cond}
use mathlib.Core.List.{List}
use mathlib.Core.Path.{◌≡◌, ◌∙◌}
use Prim.Native.Nat.{ℕ, ◌+◌, ◌≤◌, ◌<◌}
use native.Mathlib.Omega.{arith}
use lib.Dec.{leb}
use lib.IntN.{ℤ, pos}
use lib.ListN.{length}
use borrow.Author.Tests.{le-leb, lt-leb}
use Rattle.insertion.specs.Insertion.{point_at}
use Rattle.insertion.proofs.EntryLaws.{entries-length, entries_at}
use Rattle.cutting.specs.Pieces.{four_from}

module _ (m : ℕ) (ps : List ℤ) (first : ℕ) where
  pub four-count : length (four_from m ps first) ≡ 4
  unfolding four_from
  four-count = entries-length (λ a. cond (leb a m) (point_at ps (first + a)) (pos 0)) 4

  four-at : (a : ℕ) → a < 4 → point_at (four_from m ps first) a ≡ cond (leb a m) (point_at ps (first + a)) (pos 0)
  unfolding four_from
  four-at a l = entries_at (λ b. cond (leb b m) (point_at ps (first + b)) (pos 0)) 4 a (pos 0) l

  pub four-used : (a : ℕ) → a ≤ m → m ≤ 3 → point_at (four_from m ps first) a ≡ point_at ps (first + a)
  four-used a h most = four-at a (omega arith) ∙ rw (le-leb a m h)

  pub four-unused : (a : ℕ) → m < a → a < 4 → point_at (four_from m ps first) a ≡ pos 0
  four-unused a h l = four-at a l ∙ rw (lt-leb a m h)

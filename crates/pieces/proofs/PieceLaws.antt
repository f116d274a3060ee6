-- The piece that a walk hands out is the one of the curve as far as it is cut, and the pieces before it stay what they were.
use mathlib.Core.Bool.{cond}
use mathlib.Core.List.{List, [], ◌∷◌}
use mathlib.Core.Path.{◌≡◌, sym, ◌∙◌}
use Prim.Native.Nat.{ℕ, ◌+◌, ◌*◌, ◌<◌}
use native.Mathlib.Decide.{dec_le}
use native.Mathlib.Omega.{arith}
use lib.Dec.{leb}
use lib.IntN.{ℤ, pos}
use lib.ListN.{length, get_or}
use borrow.Author.Tests.{le-leb, lt-leb}
use Rattle.curve.specs.Lists.{Lists}
use Rattle.grid.proofs.SizeLaws.{sizes-of-passes}
use Rattle.insertion.specs.Insertion.{point_at, entries}
use Rattle.cutting.specs.Pieces.{four_from, piece_of}
use Rattle.cut_window.specs.Window.{Window, Carried}

-- four places by their entries
four_same : (row : List ℤ) (f : ℕ → ℤ) → length row ≡ 4 → ((a : ℕ) → a < 4 → point_at row a ≡ f a) → row ≡ entries f 4
unfolding entries
four_same [] f h same = absurd (omega (arith, h))
four_same (x ∷ []) f h same = absurd (omega (arith, h))
four_same (x ∷ y ∷ []) f h same = absurd (omega (arith, h))
four_same (x ∷ y ∷ z ∷ []) f h same = absurd (omega (arith, h))
four_same (x ∷ y ∷ z ∷ w ∷ []) f h same = rw (same 0 (omega arith), same 1 (omega arith), same 2 (omega arith), same 3 (omega arith))
four_same (x ∷ y ∷ z ∷ w ∷ u ∷ l) f h same = absurd (omega (arith, h))

-- a row holds the coordinates of its piece
pub row_is : {m : ℕ} {ps qs row : List ℤ} {i k r : ℕ} → Carried m ps qs i k r row → row ≡ four_from m qs (k * m)
unfolding four_from
row_is {m} {ps} {qs} {row} {i} {k} {r} on = four_same row (λ a. cond (leb a m) (point_at qs (k * m + a)) (pos 0)) on.places at
  where
    at : (a : ℕ) → a < 4 → point_at row a ≡ cond (leb a m) (point_at qs (k * m + a)) (pos 0)
    at a h =
        elim (dec_le a m) [
          | yes l ↦ rw (le-leb a m l) (sym (on.holds a l))
          | no l ↦ rw (lt-leb a m (omega arith)) (on.unused a (omega arith) h)
        ]

-- the piece of a span whose high knot v stands behind its low knots
pub piece_is : {m : ℕ} {c d : Lists} {i k r : ℕ} (low v : ℕ) (rx ry : List ℤ) → Window m c d i k r → low ≡ get_or c.knots i 0 → v ≡ get_or d.knots (k * m + m + 1) 0
    → Carried m c.xs d.xs i k r rx → Carried m c.ys d.ys i k r ry → record { low = low; high = v; xs = rx; ys = ry } ≡ piece_of m d k
unfolding piece_of
piece_is {m} {c} {d} {i} {k} {r} low v rx ry w lows highs x y =
    let z = sizes-of-passes m c.knots c.xs c.ys w.original in
    λ j. record {
      low = (lows ∙ sym (w.low m z.degree-least (omega arith))) j;
      high = highs j;
      xs = row_is x j;
      ys = row_is y j;
    }

-- The text of path data one point and one piece more at a time, of any pieces and of those that are given one by one.
use mathlib.Core.List.{List, [], ◌∷◌, ◌++◌, append_assoc, append-nil}
use mathlib.Core.Path.{◌≡◌, refl, sym, ◌∙◌, ap}
use Prim.Native.Nat.{ℕ, zero, suc, ◌+◌, ◌≤◌, ◌<◌}
use native.Mathlib.Nat.{add-zero}
use native.Mathlib.Numerals.{add-one}
use native.Mathlib.Omega.{arith}
use lib.IntN.{ℤ}
use lib.ListN.{length, length-append}
use borrow.Author.Tests.{ne_eqb}
use Rattle.insertion.proofs.EntryLaws.{entries-length}
use Rattle.insertion.specs.Insertion.{point_at, entries}
use Rattle.insertion.proofs.OrderLaws.{either}
use Rattle.cutting.specs.declared.Piece.{Piece}
use Rattle.path_data.specs.Text.{pair_text, pairs_text, segment_text, segments_text, move_text, path_text, part_text}

-- the points behind the first of a piece, one more at a time
module _ (xs ys : List ℤ) where
  abbrev pub pair_at : ℕ → List ℕ
  pair_at a = pair_text (point_at xs a) (point_at ys a)

  pairs_text-last : (a count : ℕ) → pairs_text xs ys a (suc count) ≡ pairs_text xs ys a count ++ pair_at (a + count)
  unfolding pairs_text
  pairs_text-last a zero = append-nil (pair_at a) ∙ ap pair_at (sym (add-zero a))
  pairs_text-last a (suc count) =
      ap (λ (l : List ℕ). pair_at a ++ l) (pairs_text-last (suc a) count)
      ∙ sym (append_assoc (pair_at a) (pairs_text xs ys (suc a) count) (pair_at (suc a + count)))
      ∙ ap (λ (b : ℕ). pair_at a ++ pairs_text xs ys (suc a) count ++ pair_at b) (omega arith)

  pub pairs_text-next : (k : ℕ) → pairs_text xs ys 1 (k + 1) ≡ pairs_text xs ys 1 k ++ pair_at (k + 1)
  pairs_text-next k = rw (add-one k) (pairs_text-last 1 k ∙ ap (λ (b : ℕ). pairs_text xs ys 1 k ++ pair_at b) (omega arith))

  -- there is room for one where there is room for all
  pairs_text-within : (a k count : ℕ) → k ≤ count → length (pairs_text xs ys a k) ≤ length (pairs_text xs ys a count)
  unfolding pairs_text
  pairs_text-within a zero count h = omega arith
  pairs_text-within a (suc k) zero h = absurd (omega arith)
  pairs_text-within a (suc k) (suc count) h =
      omega (arith, length-append (pair_at a) (pairs_text xs ys (suc a) k), length-append (pair_at a) (pairs_text xs ys (suc a) count), pairs_text-within (suc a) k count (omega arith))

  pub pairs_text-room : (k count : ℕ) → k < count → length (pairs_text xs ys 1 k ++ pair_at (k + 1)) ≤ length (pairs_text xs ys 1 count)
  pairs_text-room k count h = omega (arith, ap length (pairs_text-next k), pairs_text-within 1 (k + 1) count (omega arith))

module _ (m : ℕ) where
  -- some pieces and then some
  segments_text-append : (ps qs : List Piece) → segments_text m (ps ++ qs) ≡ segments_text m ps ++ segments_text m qs
  unfolding segments_text
  segments_text-append [] qs = refl
  segments_text-append (p ∷ ps) qs =
      ap (λ (l : List ℕ). segment_text m p ++ l) (segments_text-append ps qs) ∙ sym (append_assoc (segment_text m p) (segments_text m ps) (segments_text m qs))

  -- one piece more
  pub segments_text-last : (ps : List Piece) (p : Piece) → segments_text m (ps ++ (p ∷ [])) ≡ segments_text m ps ++ segment_text m p
  unfolding segments_text
  segments_text-last ps p = segments_text-append ps (p ∷ []) ∙ ap (λ (l : List ℕ). segments_text m ps ++ l) (append-nil (segment_text m p))

  -- the whole begins at the first point of the first piece
  pub path_text-first : (p : Piece) (ps : List Piece) → path_text m (p ∷ ps) ≡ move_text p ++ segments_text m (p ∷ ps)
  unfolding path_text
  path_text-first p ps = refl

  -- the first part has a move in front, a later one has not
  pub part_text-first : (p : Piece) → part_text m 0 p ≡ move_text p ++ segment_text m p
  unfolding part_text
  part_text-first p = refl

  pub part_text-later : (k : ℕ) (p : Piece) → 0 < k → part_text m k p ≡ segment_text m p
  unfolding part_text
  part_text-later k p h = rw (ne_eqb k 0 (λ e. omega arith))

  -- one piece more adds its part
  pub path_text-last : (ps : List Piece) (p : Piece) → path_text m (ps ++ (p ∷ [])) ≡ path_text m ps ++ part_text m (length ps) p
  unfolding path_text segments_text
  path_text-last [] p = ap (λ (l : List ℕ). move_text p ++ l) (append-nil (segment_text m p)) ∙ sym (part_text-first p)
  path_text-last (q ∷ ps) p =
      ap (λ (l : List ℕ). move_text q ++ l) (segments_text-last (q ∷ ps) p)
      ∙ sym (append_assoc (move_text q) (segments_text m (q ∷ ps)) (segment_text m p))
      ∙ ap (λ (l : List ℕ). move_text q ++ segments_text m (q ∷ ps) ++ l) (sym (part_text-later (suc (length ps)) p (omega arith)))

  -- pieces that are given one by one, from f 0 on
  module _ (f : ℕ → Piece) where
    pub entries-text : (k : ℕ) → path_text m (entries f (suc k)) ≡ path_text m (entries f k) ++ part_text m k (f k)
    unfolding entries
    entries-text k = path_text-last (entries f k) (f k) ∙ ap (λ (n : ℕ). path_text m (entries f k) ++ part_text m n (f k)) (entries-length f k)

    -- there is room for some where there is room for all
    pub entries-within : (count k : ℕ) → k ≤ count → length (path_text m (entries f k)) ≤ length (path_text m (entries f count))
    entries-within zero k h = let last : k ≡ 0 = omega arith in rw last (omega arith)
    entries-within (suc count) k h =
        either k (suc count)
        (λ before. omega (arith, entries-within count k (omega arith), ap length (entries-text count), length-append (path_text m (entries f count)) (part_text m count (f count))))
        (λ after. let last : k ≡ suc count = omega arith in rw last (omega arith))

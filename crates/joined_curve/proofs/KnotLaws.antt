-- The joined knots by index: the first parameter stands at 0 to 3, the one behind piece i from inner·i + 4 on.
use mathlib.Core.List.{List, ◌++◌}
use mathlib.Core.Path.{◌≡◌, sym, ap, ◌∙◌}
use Prim.Native.Nat.{ℕ, suc, ◌+◌, ◌-◌, ◌*◌, ◌≤◌, ◌<◌}
use native.Mathlib.Omega.{arith}
use lib.IntN.{ℤ}
use lib.ListN.{length, get_or, replicate, length-replicate, get_or-replicate, get_or-append}
use lib.Seq.{get_or-append-add}
use Rattle.spline_pieces.specs.Pieces.{piece_of, piece_at, pieces_from, pieces}
use Rattle.joined_curve.specs.Curve.{knots_after, joined_knots}
use Rattle.joined_curve.specs.Sentences.{KnotsOf}
use Rattle.joined_curve.proofs.CurveLaws.{knots_before, knots_from, knots-cut, knots_before-length, knots-length}

-- an entry of the equal ones at the front
front_same : (n v : ℕ) (l : List ℕ) (r : ℕ) → r < n → get_or (replicate n v ++ l) r 0 ≡ v
front_same n v l r h = get_or-append (replicate n v) l 0 r (rw (length-replicate n v) h) ∙ get_or-replicate n r v 0 h

module _ (inner : ℕ) (ss : List ℕ) (ps ds : List ℤ) (some : 2 ≤ length ss) where
  abbrev joined : List ℕ
  joined = joined_knots inner (pieces ss ps ds)

  -- an entry from the end of piece i on
  behind : (i count r : ℕ) → i + count ≡ length ss - 2 → get_or joined (inner * i + 4 + r) 0 ≡ get_or (knots_from inner ss ps ds i count) r 0
  behind i count r e =
      ap (λ l. get_or l (inner * i + 4 + r) 0) (knots-cut inner ss ps ds some i count e)
      ∙ ap (λ j. get_or (knots_before inner ss i ++ knots_from inner ss ps ds i count) (j + r) 0) (sym (knots_before-length inner ss i))
      ∙ get_or-append-add (knots_before inner ss i) (knots_from inner ss ps ds i count) r 0

  first : (r : ℕ) → r < 4 → get_or joined r 0 ≡ get_or ss 0 0
  unfolding knots_before
  first r h =
      ap (λ l. get_or l r 0) (knots-cut inner ss ps ds some 0 (length ss - 2) (omega arith))
      ∙ front_same 4 (get_or ss 0 0) (knots_from inner ss ps ds 0 (length ss - 2)) r h

  inside : (i r : ℕ) → suc (suc i) < length ss → r < inner → get_or joined (inner * i + 4 + r) 0 ≡ get_or ss (suc i) 0
  unfolding knots_after pieces_from piece_at piece_of
  inside i r h few =
      let rest = length ss - 2 - suc i in
      behind i (suc rest) r (omega arith)
      ∙ front_same inner (get_or ss (suc i) 0) (knots_from inner ss ps ds (suc i) rest) r few

  last : (r : ℕ) → r < 4 → get_or joined (inner * (length ss - 2) + 4 + r) 0 ≡ get_or ss (length ss - 1) 0
  unfolding knots_after pieces_from piece_at piece_of
  last r h =
      let end : suc (length ss - 2) ≡ length ss - 1 = omega arith in
      behind (length ss - 2) 0 r (omega arith) ∙ get_or-replicate 4 r (get_or ss (suc (length ss - 2)) 0) 0 h ∙ ap (λ j. get_or ss j 0) end

  pub joined-knots : KnotsOf inner ss joined
  joined-knots = record { count = knots-length inner ss ps ds some; first = first; inside = inside; last = last }

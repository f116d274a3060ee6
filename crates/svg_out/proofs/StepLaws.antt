-- A step of the walk over the pieces, for the text: what a piece adds, that it is on the grid, and that the walk comes to an end.
use mathlib.Core.List.{[], ◌∷◌, ◌++◌}
use mathlib.Core.Path.{◌≡◌, refl, sym, ap, ap₂, subst, ◌∙◌}
use Prim.Native.Nat.{ℕ, zero, suc, ◌+◌, ◌-◌, ◌*◌, ◌≤◌, ◌<◌}
use native.Mathlib.Nat.{suc-mul, mul-le-mul, mul-le-mul_left, mul-le-mul_right}
use native.Mathlib.Omega.{arith}
use lib.ListN.{length}
use Rattle.curve.specs.Lists.{Lists}
use Rattle.grid.specs.Limits.{points_most, pair_bytes_most}
use Rattle.insertion.specs.Insertion.{entries}
use Rattle.insertion.proofs.EntryLaws.{entries-length}
use Rattle.cutting.specs.Pieces.{piece_of}
use Rattle.cutting.specs.declared.Piece.{Piece}
use Rattle.pieces.specs.declared.Walk.{Walk}
use Rattle.pieces.specs.Walk.{cut_up_to, AtSpan, Handed, inner, last}
use Rattle.pieces.proofs.WalkLaws.{bounds}
use Rattle.path_data.specs.Text.{path_text}
use Rattle.path_data.specs.Sentences.{PieceOnGrid}
use Rattle.path_data.proofs.LengthLaws.{path_text-most, entries-on-grid}
use Rattle.svg_out.proofs.PartLaws.{piece-on-grid}

-- entries that are the same one by one
pub entries-same : {A : Type 0} (f g : ℕ → A) (k : ℕ) → ((j : ℕ) → j < k → f j ≡ g j) → entries f k ≡ entries g k
unfolding entries
entries-same f g zero h = refl
entries-same f g (suc k) h = ap₂ (λ l a. l ++ (a ∷ [])) (entries-same f g k (λ j l. h j (omega arith))) (h k (omega arith))

module _ (m : ℕ) (c : Lists) (walk : Walk) (at : AtSpan m c walk) where
  abbrev k : ℕ
  k = walk.index

  -- the pieces as the curve is cut so far
  abbrev pub pieces_at : ℕ → Piece
  pieces_at = piece_of m (cut_up_to m c walk.span)

  -- they are on the grid, the one of the span itself too
  pub each_within : (j : ℕ) → j ≤ k → j * m + m < length (cut_up_to m c walk.span).xs
  each_within j h = omega (arith, at.window.points, at.window.inside, mul-le-mul_right m h)

  each-on-grid : (j : ℕ) → j < k → PieceOnGrid m (pieces_at j)
  each-on-grid j h = piece-on-grid m (cut_up_to m c walk.span) j at.window.passes (each_within j (omega arith))

  -- and their text is short
  pub text-short : length (path_text m (entries pieces_at k)) ≤ (1 + pair_bytes_most) + points_most * (2 + pair_bytes_most * 3)
  text-short =
      let b = bounds m c walk at in
      let wide : 2 + pair_bytes_most * m ≤ 2 + pair_bytes_most * 3 = omega (arith, mul-le-mul_left pair_bytes_most b.degree) in
      omega
      (arith, path_text-most m (entries-on-grid m pieces_at k each-on-grid), ap (λ n. n * (2 + pair_bytes_most * m)) (entries-length pieces_at k), mul-le-mul b.index wide)

  module _ (handed : Piece) (next : Walk) where
    -- the piece that is handed out is on the grid
    pub handed_on-grid : Handed m c walk handed next → PieceOnGrid m handed
    handed_on-grid (inner n) =
        let w = n.stands.window in
        let more : suc k * m ≡ k * m + m = suc-mul k m in
        let later = ap (λ j. j * m) n.index in
        subst (PieceOnGrid m) (sym n.piece)
        (piece-on-grid m (cut_up_to m c next.span) k w.passes (omega (arith, w.points, w.inside, more, later)))
    handed_on-grid (last l) =
        subst (PieceOnGrid m) (sym (l.piece ∙ ap (λ d. piece_of m d k) (sym l.same)))
        (piece-on-grid m (cut_up_to m c walk.span) k at.window.passes (each_within k (omega arith)))

    -- the walk comes nearer to its end
    pub nearer : Handed m c walk handed next → length c.xs - next.span < length c.xs - walk.span
    nearer (inner n) = omega (arith, n.rises, n.stands.window.inside)
    nearer (last l) = omega (arith, l.ends, at.window.inside)

-- The length of the text so far, as the walk goes on.
use mathlib.Core.Path.{◌≡◌, sym, ap, ap₂, ◌∙◌}
use Prim.Native.Nat.{ℕ, suc, ◌+◌, ◌<◌}
use native.Mathlib.Omega.{arith}
use lib.ListN.{length, length-append}
use Rattle.curve.specs.Lists.{Lists}
use Rattle.insertion.specs.Insertion.{entries}
use Rattle.cutting.specs.Cutting.{cuts, cut, insertable_each_then}
use Rattle.cutting.specs.Pieces.{piece_of, pieces}
use Rattle.cutting.specs.declared.Piece.{Piece}
use Rattle.pieces.specs.declared.Walk.{Walk}
use Rattle.pieces.specs.Walk.{cut_up_to, AtSpan, Handed, inner, last}
use Rattle.path_data.specs.Text.{path_text, part_text}
use Rattle.path_data.proofs.TextLaws.{entries-text}
use Rattle.svg_out.specs.Svg.{pieces_text}
use Rattle.svg_out.specs.Measure.{Measured}
use Rattle.svg_out.proofs.StepLaws.{pieces_at, entries-same}

-- at a span, and behind the last
pub data Measuring (m : ℕ) (c : Lists) (walk : Walk) (so : ℕ) : Type 0 where
  going : (at : AtSpan m c walk) → so ≡ length (path_text m (entries (pieces_at m c walk at) walk.index)) → Measuring m c walk so
  done : walk.span ≡ length c.xs → ((next : ℕ) → insertable_each_then m (cuts m c) c next ≡ next) → so ≡ length (pieces_text m c) → Measuring m c walk so

module _ (m : ℕ) (c : Lists) (walk : Walk) (so : ℕ) where
  -- at the start
  pub measuring-begins : AtSpan m c walk → walk.index ≡ 0 → so ≡ 0 → Measuring m c walk so
  unfolding entries path_text
  measuring-begins at first none = going at (none ∙ sym (ap (λ n. length (path_text m (entries (pieces_at m c walk at) n))) first))

  -- before the end it stands at a span
  pub still-at : Measuring m c walk so → walk.span < length c.xs → AtSpan m c walk
  still-at (going at e) h = at
  still-at (done end passed e) h = absurd (omega (arith, end))

  pub still-so : (s : Measuring m c walk so) (h : walk.span < length c.xs) → so ≡ length (path_text m (entries (pieces_at m c walk (still-at s h)) walk.index))
  still-so (going at e) h = e
  still-so (done end passed e) h = absurd (omega (arith, end))

  -- one piece more
  module _ (s : Measuring m c walk so) (h : walk.span < length c.xs) (handed : Piece) (next : Walk) (part : ℕ)
      (adds : part ≡ length (part_text m walk.index handed)) where
    abbrev k : ℕ
    k = walk.index

    abbrev f : ℕ → Piece
    f = pieces_at m c walk (still-at s h)

    -- the text with the piece, where those before it stay what they were
    longer : (g : ℕ → Piece) → ((j : ℕ) → j < k → g j ≡ f j) → handed ≡ g k → so + part ≡ length (path_text m (entries g (suc k)))
    longer g same piece =
        let before : path_text m (entries g k) ≡ path_text m (entries f k) = ap (path_text m) (entries-same g f k same) in
        ap₂ ◌+◌ (still-so s h ∙ ap length (sym before)) (adds ∙ ap (λ p. length (part_text m k p)) piece)
        ∙ sym (length-append (path_text m (entries g k)) (part_text m k (g k)))
        ∙ ap length (sym (entries-text m g k))

    pub measuring-goes : Handed m c walk handed next → Measuring m c next (so + part)
    unfolding pieces
    measuring-goes (inner n) =
        let g = piece_of m (cut_up_to m c next.span) in
        going n.stands (longer g n.same n.piece ∙ ap (λ i. length (path_text m (entries g i))) (sym n.index))
    measuring-goes (last l) =
        let g = piece_of m (cut m c) in
        done l.ends l.passed
        (longer g (λ j i. ap (λ d. piece_of m d j) (sym l.same)) l.piece ∙ ap (λ i. length (path_text m (entries g i))) (sym l.all))

  -- at the end
  pub measure-ends : Measuring m c walk so → (walk.span < length c.xs → ⊥) → Measured m c so
  measure-ends (going at e) h = absurd (h at.window.inside)
  measure-ends (done end passed e) h = record { passed = passed; length = e }

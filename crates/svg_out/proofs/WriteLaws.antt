-- The text so far at the front of the lent list, as the walk goes on.
use mathlib.Core.List.{List, ◌++◌}
use mathlib.Core.Path.{◌≡◌, sym, ap, subst, ◌∙◌}
use Prim.Native.Nat.{ℕ, suc, ◌+◌, ◌-◌, ◌≤◌, ◌<◌}
use native.Mathlib.Omega.{arith}
use lib.ListN.{length, drop, length-append}
use borrow.Author.Tests.{lt-ltb}
use Rattle.refusal.specs.Numbers.{accepted}
use Rattle.refusal.specs.declared.Refusal.{Refusal}
use Rattle.refusal.proofs.AnswerLaws.{refused-above_zero}
use Rattle.lent.specs.Lent.{over}
use Rattle.curve.specs.Lists.{Lists}
use Rattle.insertion.specs.Insertion.{entries}
use Rattle.span_walk.specs.SpansMet.{non_empty, span_count}
use Rattle.span_walk.proofs.KeepLaws.{keep-room}
use Rattle.cutting.specs.Cutting.{cuts, cut, insertable_each_then}
use Rattle.cutting.specs.Pieces.{piece_of, piece_count, pieces}
use Rattle.cutting.specs.declared.Piece.{Piece}
use Rattle.digits.specs.Put.{Put}
use Rattle.digits.proofs.PutLaws.{put-none, put-length, two-joined}
use Rattle.pieces.specs.declared.Walk.{Walk}
use Rattle.pieces.specs.Walk.{AtSpan, Refuses, Handed, inner, last}
use Rattle.pieces.proofs.WalkLaws.{left-of-walk}
use Rattle.path_data.specs.Text.{move_text, segment_text, path_text, part_text}
use Rattle.path_data.proofs.TextLaws.{part_text-first, part_text-later, entries-text, entries-within}
use Rattle.svg_out.specs.Svg.{pieces_text}

-- the text of the first k pieces
abbrev text_of : ℕ → Lists → ℕ → List ℕ
text_of m c k = path_text m (entries (piece_of m (cut m c)) k)

-- at a span, and behind the last
pub data Writing (m : ℕ) (c : Lists) (before out : List ℕ) (walk : Walk) (place : ℕ) : Type 0 where
  going : AtSpan m c walk → Put before 0 (path_text m (entries (piece_of m (cut m c)) walk.index)) out place → Writing m c before out walk place
  done : walk.span ≡ length c.xs → Put before 0 (pieces_text m c) out place → Writing m c before out walk place

module _ (m : ℕ) (c : Lists) (before : List ℕ) (judged : insertable_each_then m (cuts m c) c accepted ≡ accepted) (room : length (pieces_text m c) ≤ length before) where
  pub writing_begins : (walk : Walk) → AtSpan m c walk → walk.index ≡ 0 → Writing m c before before walk 0
  unfolding entries path_text
  writing_begins walk at first = going at (subst (λ n. Put before 0 (text_of m c n) before 0) (sym first) (put-none before 0))

  module _ (out : List ℕ) (walk : Walk) (place : ℕ) where
    pub writing-at : Writing m c before out walk place → walk.span < length c.xs → AtSpan m c walk
    writing-at (going at p) h = at
    writing-at (done end p) h = absurd (omega (arith, end))

    pub writing-so : Writing m c before out walk place → walk.span < length c.xs → Put before 0 (text_of m c walk.index) out place
    writing-so (going at p) h = p
    writing-so (done end p) h = absurd (omega (arith, end))

    -- the walk has not handed out all pieces
    more-pieces : AtSpan m c walk → walk.index < piece_count m c
    unfolding span_count
    more-pieces at =
        omega (
          arith,
          at.counted,
          keep-room (non_empty c.knots) (non_empty c.knots) (λ i e. e) m walk.span (length c.xs) at.window.least at.window.inside
              (lt-ltb _ _ at.window.wide),
        )

    module _ (s : Writing m c before out walk place) (h : walk.span < length c.xs) (handed : Piece) (later : Walk) (hands : Handed m c walk handed later) where
      abbrev k : ℕ
      k = walk.index

      abbrev g : ℕ → Piece
      g = piece_of m (cut m c)

      -- the piece is the curve's
      piece_is : Handed m c walk handed later → handed ≡ g k
      piece_is (inner n) = n.piece ∙ sym (left-of-walk m c later n.stands judged k (omega (arith, n.index)))
      piece_is (last l) = l.piece

      part-is : part_text m k handed ≡ part_text m k (g k)
      part-is = ap (part_text m k) (piece_is hands)

      next-text : text_of m c (suc k) ≡ text_of m c k ++ part_text m k handed
      next-text = entries-text m g k ∙ ap (λ (l : List ℕ). text_of m c k ++ l) (sym part-is)

      -- there is room for it
      room-for-both : 0 + length (text_of m c k ++ part_text m k handed) ≤ length before
      unfolding pieces
      room-for-both =
          let within = entries-within m g (piece_count m c) (suc k) (more-pieces (writing-at s h)) in
          omega (arith, within, ap length next-text, room)

      room-for-first : 0 + length (text_of m c k) ≤ length before
      room-for-first = omega (arith, room-for-both, length-append (text_of m c k) (part_text m k handed))

      pub room-for-part : place + length (part_text m k handed) ≤ length out
      room-for-part =
          let p = writing-so s h in
          omega (arith, p.place, put-length p room-for-first, room-for-both, length-append (text_of m c k) (part_text m k handed))

      goes_on : (after : List ℕ) (next : ℕ) → Put before 0 (text_of m c (suc k)) after next → Handed m c walk handed later → Writing m c before after later next
      unfolding pieces
      goes_on after next p (inner n) = going n.stands (subst (λ i. Put before 0 (text_of m c i) after next) (sym n.index) p)
      goes_on after next p (last l) = done l.ends (subst (λ i. Put before 0 (text_of m c i) after next) (sym l.all) p)

      pub writing-goes : (after : List ℕ) (next : ℕ) → Put out place (part_text m k handed) after next → Writing m c before after later next
      writing-goes after next p =
          goes_on after next
          (subst (λ (l : List ℕ). Put before 0 l after next) (sym next-text)
          (two-joined before 0 (text_of m c k) (part_text m k handed) room-for-both (writing-so s h) p))
          hands

      pub still-as-long : length out ≡ length before
      still-as-long = put-length (writing-so s h) room-for-first

      pub write-nearer : length c.xs - later.span < length c.xs - walk.span
      write-nearer = by hands
        where
          by : Handed m c walk handed later → length c.xs - later.span < length c.xs - walk.span
          by (inner n) = omega (arith, n.rises, n.stands.window.inside)
          by (last l) = omega (arith, l.ends, h)

    -- nothing is refused
    pub write-accepted : (refusal : Refusal) → Refuses m c refusal → ⊥
    write-accepted refusal r = omega (arith, refused-above_zero refusal, r.number accepted, judged)

    -- at the end
    pub write-ends : Writing m c before out walk place → (walk.span < length c.xs → ⊥) → out ≡ over (pieces_text m c) before
    write-ends (going at p) h = absurd (h at.window.inside)
    write-ends (done end p) h =
        let front : 0 + length (pieces_text m c) ≡ length (pieces_text m c) = omega arith in
        p.holds ∙ ap (λ (n : ℕ). pieces_text m c ++ drop n before) front

    pub write-length : Writing m c before out walk place → (walk.span < length c.xs → ⊥) → length out ≡ length before
    write-length (going at p) h = absurd (h at.window.inside)
    write-length (done end p) h = put-length p (omega (arith, room))

-- a part is a segment, or a move and a segment
pub part-segment : (m k : ℕ) (p : Piece) → 0 < k → segment_text m p ≡ part_text m k p
part-segment m k p h = sym (part_text-later m k p h)

pub part-both : (m k : ℕ) (p : Piece) → k ≡ 0 → move_text p ++ segment_text m p ≡ part_text m k p
part-both m k p h = sym (part_text-first m p) ∙ ap (λ (j : ℕ). part_text m j p) (sym h)

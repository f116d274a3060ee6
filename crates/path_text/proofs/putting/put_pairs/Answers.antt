-- The loop's invariant: the pairs before point k are written.
use mathlib.Core.List.{◌++◌}
use mathlib.Core.Path.{refl, ◌∙◌}
use Prim.Native.Nat.{◌+◌, ◌-◌, ◌≤◌}
use native.Mathlib.Omega.{arith}
use borrow.Author.Rules.{rules}
use lib.IntN.{pos}
use lib.ListN.{length, get_or}
use mir.Syntax.{w32}
use mir.Val.{SFits}
use Rattle.digits.proofs.PutLaws.{put-none, two-second, two-joined}
use Rattle.path_data.specs.Text.{pairs_text}
use Rattle.path_data.proofs.TextLaws.{pair_at}
use Rattle.path_words.proofs.NumberLaws.{pair-asked, pair_put}
use Rattle.path_text.proofs.PairLaws.{pairs-more, pairs-room}
use Rattle.path_text.proofs.putting.put_pairs.Goals.{In-loop-k}
use Rattle.path_text.proofs.putting.put_pairs.Goals as goal

pub loop-k-init : goal.loop-k-init
unfolding pairs_text
loop-k-init c = (put-none _ _, refl)

-- there is room for the next pair behind those that stand
room : (c : In-loop-k) → let a = c.args in let k = c.loop-k.k in
    a.pen.now.at + length (pairs_text a.piece.xs a.piece.ys 1 (k - 1) ++ pair_at a.piece.xs a.piece.ys k) ≤ length a.pen.now.out.now
room c = let a = c.args in
    omega (arith, c.requires.m_in_bounds, pairs-room a.piece.xs a.piece.ys c.loop-k.k c.loop-k.auto.k a.m c.loop-k-test.true)

pub put_pair-requires : goal.put_pair-requires
put_pair-requires c =
    let a = c.args in
    let k = c.loop-k.k in
    let x : SFits w32 (get_or a.piece.xs k (pos 0)) = search rules in
    let y : SFits w32 (get_or a.piece.ys k (pos 0)) = search rules in
    pair-asked x y _
    (two-second a.pen.now.out.now a.pen.now.at (pairs_text a.piece.xs a.piece.ys 1 (k - 1)) (pair_at a.piece.xs a.piece.ys k) (room (goal.at.put_pair-requires c).In-loop-k) c.loop-k.invariant.0)

pub loop-k-preserved : goal.loop-k-preserved
loop-k-preserved c =
    let a = c.args in
    let k = c.loop-k.k in
    let x : SFits w32 (get_or a.piece.xs k (pos 0)) = search rules in
    let y : SFits w32 (get_or a.piece.ys k (pos 0)) = search rules in (
      rw (pairs-more a.piece.xs a.piece.ys k c.loop-k.auto.k)
          (two-joined a.pen.now.out.now a.pen.now.at (pairs_text a.piece.xs a.piece.ys 1 (k - 1)) (pair_at a.piece.xs a.piece.ys k) (room (goal.at.loop-k-preserved c).In-loop-k) c.loop-k.invariant.0
          (pair_put x y c.put_pair.ensures.result)),
      c.put_pair.ensures.name ∙ c.loop-k.invariant.1,
    )

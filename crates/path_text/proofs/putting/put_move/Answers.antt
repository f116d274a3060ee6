-- The letter, then the pair of the first point.
use mathlib.Core.List.{[], ◌∷◌}
use native.Mathlib.Omega.{arith}
use borrow.Author.Rules.{rules}
use lib.IntN.{pos}
use lib.ListN.{get_or}
use mir.Syntax.{w32}
use mir.Val.{SFits}
use Rattle.digits.proofs.PutLaws.{two-second, two-joined}
use Rattle.path_data.specs.Letters.{move_letter}
use Rattle.path_data.specs.Text.{move_text}
use Rattle.path_data.proofs.TextLaws.{pair_at}
use Rattle.path_words.proofs.NumberLaws.{pair-asked, pair_put}
use Rattle.path_text.proofs.putting.put_move.Goals as goal

pub byte-requires : goal.byte-requires
unfolding move_text
byte-requires c = omega (arith, c.requires)

pub put_pair-requires : goal.put_pair-requires
unfolding move_text
put_pair-requires c =
    let a = c.args in
    let x : SFits w32 (get_or a.piece.xs 0 (pos 0)) = search rules in
    let y : SFits w32 (get_or a.piece.ys 0 (pos 0)) = search rules in
    pair-asked x y _
    (two-second a.pen.now.out.now a.pen.now.at (move_letter ∷ []) (pair_at a.piece.xs a.piece.ys 0) c.requires c.byte.ensures.result)

pub returns-clause-result : goal.returns-clause-result
unfolding move_text
returns-clause-result c =
    let a = c.args in
    let x : SFits w32 (get_or a.piece.xs 0 (pos 0)) = search rules in
    let y : SFits w32 (get_or a.piece.ys 0 (pos 0)) = search rules in
    two-joined a.pen.now.out.now a.pen.now.at (move_letter ∷ []) (pair_at a.piece.xs a.piece.ys 0) c.requires c.byte.ensures.result (pair_put x y c.put_pair.ensures.result)

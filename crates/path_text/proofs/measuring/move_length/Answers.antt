-- The letter and a pair.
use native.Mathlib.Omega.{arith}
use borrow.Author.Rules.{rules}
use lib.IntN.{pos}
use lib.ListN.{get_or}
use mir.Syntax.{w32}
use mir.Val.{SFits}
use Rattle.path_data.specs.Text.{move_text}
use Rattle.path_words.proofs.NumberLaws.{pair-measured}
use Rattle.path_text.proofs.measuring.move_length.Goals as goal

pub returns-clause-answer : goal.returns-clause-answer
unfolding move_text
returns-clause-answer c =
    let x : SFits w32 (get_or c.args.piece.xs 0 (pos 0)) = search rules in
    let y : SFits w32 (get_or c.args.piece.ys 0 (pos 0)) = search rules in
    omega (arith, pair-measured x y c.pair_length.ensures.answer)

-- The loop's invariant: the total is the length of the pairs before point k, at most 24 bytes each.
use mathlib.Core.Path.{refl}
use native.Mathlib.Omega.{arith}
use borrow.Author.Rules.{rules}
use lib.IntN.{pos}
use lib.ListN.{get_or}
use mir.Syntax.{w32}
use mir.Val.{SFits}
use Rattle.path_data.specs.Text.{pairs_text}
use Rattle.path_words.proofs.NumberLaws.{pair-measured}
use Rattle.path_text.proofs.PairLaws.{pairs-longer}
use Rattle.path_text.proofs.measuring.pairs_length.Goals as goal

pub loop-k-init : goal.loop-k-init
unfolding pairs_text
loop-k-init c = (refl, omega arith)

pub loop-k-preserved : goal.loop-k-preserved
loop-k-preserved c =
    let p = c.args.piece in
    let loop = c.loop-k in
    let x : SFits w32 (get_or p.xs loop.k (pos 0)) = search rules in
    let y : SFits w32 (get_or p.ys loop.k (pos 0)) = search rules in (
      omega (arith, pairs-longer p.xs p.ys loop.k loop.auto.k, pair-measured x y c.pair_length-total.ensures.answer, loop.invariant.0),
      omega (arith, c.pair_length-total.ensures.most, loop.auto.k, loop.invariant.1),
    )

-- The first piece has the move before it, any other its segment alone.
use native.Mathlib.Omega.{arith}
use Rattle.svg_out.proofs.PartLaws.{later-part, first_part}
use Rattle.svg_out.proofs.measuring.part_length.Goals as goal

pub returns-then-k-gt0 : goal.returns-then-k-gt0
returns-then-k-gt0 c = record {
  answer = let a = c.args in
      later-part a.m a.k a.piece c.requires.0 c.requires.1 c.segment_length-segment.result (omega (arith, c.if-k-gt0.true)) c.segment_length-segment.ensures.answer;
}

pub overflow_add-result : goal.overflow_add-result
overflow_add-result c = let a = c.args in
    let both = first_part a.m a.k a.piece c.requires.0 c.requires.1 c.move_length.result c.segment_length-segment.result (omega (arith, c.if-k-gt0.false)) c.move_length.ensures.answer c.segment_length-segment.ensures.answer in
    omega (arith, both.1)

pub returns : goal.returns
returns c = record {
  answer = let a = c.args in
      first_part a.m a.k a.piece c.requires.0 c.requires.1 c.move_length.result c.segment_length-segment.result (omega (arith, c.if-k-gt0.false)) c.move_length.ensures.answer c.segment_length-segment.ensures.answer;
}

-- A space, a letter and the pairs.
use native.Mathlib.Omega.{arith}
use Rattle.path_data.specs.Text.{segment_text}
use Rattle.path_text.proofs.measuring.segment_length.Goals as goal

pub returns : goal.returns
unfolding segment_text
returns c = record { answer = omega (arith, c.pairs_length.ensures.answer.0) }

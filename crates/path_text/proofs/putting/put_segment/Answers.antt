-- The letter, then the pairs behind it.
use mathlib.Core.List.{[], ◌∷◌}
use native.Mathlib.Omega.{arith}
use Rattle.digits.specs.Letters.{space}
use Rattle.digits.proofs.PutLaws.{two-second, two-joined}
use Rattle.path_data.specs.Text.{letter_of, pairs_text, segment_text}
use Rattle.path_text.proofs.putting.put_segment.Goals as goal

pub put_letter-requires : goal.put_letter-requires
unfolding segment_text
put_letter-requires c = omega (arith, c.requires.piece_in_bounds)

pub put_pairs-requires-clause-m_in_bounds : goal.put_pairs-requires-clause-m_in_bounds
unfolding segment_text
put_pairs-requires-clause-m_in_bounds c = let a = c.args in
    two-second a.pen.now.out.now a.pen.now.at (space ∷ letter_of a.m ∷ []) (pairs_text a.piece.xs a.piece.ys 1 a.m) c.requires.piece_in_bounds c.put_letter.ensures.result

pub returns-clause-result : goal.returns-clause-result
unfolding segment_text
returns-clause-result c = let a = c.args in
    two-joined a.pen.now.out.now a.pen.now.at (space ∷ letter_of a.m ∷ []) (pairs_text a.piece.xs a.piece.ys 1 a.m) c.requires.piece_in_bounds
    c.put_letter.ensures.result c.put_pairs.ensures.result

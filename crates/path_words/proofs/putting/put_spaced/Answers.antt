-- The space, then the number.
use mathlib.Core.List.{[], ◌∷◌}
use mir.Facts.{to_z-of_z}
use Rattle.digits.specs.Letters.{space}
use Rattle.digits.proofs.PutLaws.{two-joined}
use Rattle.path_data.specs.Text.{number_text}
use Rattle.path_words.proofs.putting.put_spaced.Goals as goal

pub returns-clause-result : goal.returns-clause-result
returns-clause-result c = let a = c.args in
    two-joined a.pen.now.out.now a.pen.now.at (space ∷ []) (number_text a.z) c.requires c.byte.ensures.result (rw (to_z-of_z c.ranges.z) at c.put_number.ensures.result)

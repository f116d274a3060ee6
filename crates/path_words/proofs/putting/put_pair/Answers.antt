-- One number behind the other.
use mir.Facts.{to_z-of_z}
use Rattle.digits.proofs.PutLaws.{two-joined}
use Rattle.path_data.specs.Text.{spaced_text}
use Rattle.path_words.proofs.putting.put_pair.Goals as goal

pub returns-clause-result : goal.returns-clause-result
returns-clause-result c = let a = c.args in
    two-joined a.pen.now.out.now a.pen.now.at (spaced_text a.x) (spaced_text a.y) c.requires
    (rw (to_z-of_z c.ranges.x) at c.put_spaced.ensures.result)
    (rw (to_z-of_z c.ranges.y) at c.put_spaced-2.ensures.result)

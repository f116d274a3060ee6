-- The list call answers the first row of its order whose sentence holds: `list-answers`.
use mathlib.Core.Path.{refl}
use lib.ListN.{length}
use Rattle.refusal.proofs.ChainLaws.{accepts, judged, answers-first}
use Rattle.checked.proofs.TestLaws.{fails-iff, leb-judged, both-judged}
use Rattle.checked.proofs.GridLaws.{radius-judged, rectangle-judged}
use Rattle.checked.proofs.SentenceLaws.{curve-judged}
use Rattle.span_walk.specs.SpansMet.{span_count}
use Rattle.spans_met.specs.Answer.{number_with_places}
use Rattle.spans_met.specs.Sentences.{ListAnswersFirst}

pub list-answers : ListAnswersFirst
unfolding number_with_places
list-answers m c clamp radius lent =
    let spans = span_count m c.knots (length c.xs) in
    answers-first _ _ refl
    (curve-judged m c.knots c.xs c.ys _ _ λ passing.
    judged (fails-iff (radius-judged radius)) λ short.
    judged (fails-iff (rectangle-judged clamp.low_x clamp.high_x clamp.low_y clamp.high_y)) λ right.
    judged (fails-iff (both-judged (leb-judged spans (length lent.lows)) (leb-judged spans (length lent.highs)))) λ room.
    accepts)

-- The window is lent, tried, and comes back.
use Rattle.value_removal.proofs.TailLaws.{window-is}
use Rattle.value_removal.proofs.TryLaws.{try-outcome}
use Rattle.value_removal.proofs.remove_one_knot.Goals as goal

pub remove_middle-requires : goal.remove_middle-requires
remove_middle-requires c = let a = c.args in
    window-is a.m a.n a.knots.now a.xs.now a.ys.now c.requires.growing c.requires.knots_bound

pub returns : goal.returns
returns c = record {
  answer = let a = c.args in
      let o = c.remove_middle in try-outcome a.m a.n a.knots.now a.xs.now a.ys.now c.requires.growing c.requires.knots_bound o.new.knots o.new.xs o.new.ys o.result o.ensures.answer;
}

-- What the pass left is handed over.
use Rattle.std.proofs.Common.{rules, ◌≡◌}
use Rattle.curve.specs.Lists.{lists}
use Rattle.curve.specs.HandingOver.{room_number}
use Rattle.value_removal.specs.Work.{front_curve}
use Rattle.work_lists.proofs.OutcomeLaws.{work_done}
use Rattle.work_lists.proofs.compact_in.Goals as goal

pub returns : goal.returns
returns g c = record {
  answer =
      let into = lists c.args.out_knots.now c.args.out_xs.now c.args.out_ys.now in
      let front = c.compact_into-left.new.front in
      let d = front_curve c.args.curve.degree c.compact_into-left.result front.0 front.1.0 front.1.1.0 in
      let number : 0 ≡ room_number d into = search rules in
      work_done _ _ c.args.curve.passes _ c.compact_into-left.ensures.answer.pass into _ c.compact_into-left.result (search rules) number c.in_ok-receive.ensures.result;
}

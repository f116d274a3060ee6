-- The loop's invariant: the lines on the first spans stand from the pen's first place on.
use Rattle.std.proofs.Common.{◌≡◌}
use lib.ListN.{take}
use Rattle.lines.specs.Lines.{meet_lines}
use Rattle.digits.specs.Put.{Put}
use Rattle.lines.proofs.put_meet_lines.Given as goal

abbrev pub invariant-loop-k : goal.invariant-loop-k
invariant-loop-k l =
    Put l.initial.pen.out.now l.initial.pen.at (meet_lines l.clamp (take l.k l.lows) (take l.k l.highs)) l.pen.out.now l.pen.at
    × (l.pen.out.ghost_name ≡ l.initial.pen.out.ghost_name)

-- The points in front are copied, the quotients are stored one by one (the invariant), and the points behind are copied.
use Prim.Native.Nat.{◌+◌, ◌-◌, ◌≤◌}
use Rattle.insertion.specs.Insertion.{inserted_points}
use Rattle.lent.proofs.StoreLaws.{Stored}
use Rattle.insertion_parts.proofs.Inserting.insert_points.Given as goal

abbrev pub invariant-loop-j : goal.invariant-loop-j
invariant-loop-j l =
    (l.self.span + 1 - l.self.degree ≤ l.j) × (l.j ≤ l.self.span + 1) × Stored (inserted_points l.self.degree l.self.knots.now l.self.ps.now l.self.v) l.initial.out l.out l.j

-- The invariant: the quotients passed are whole, so all are whole exactly where the rest is.
use mathlib.Core.Path.{◌≡◌}
use Prim.Native.Nat.{◌+◌, ◌-◌, ◌≤◌, ◌<◌}
use Rattle.insertion.specs.Insertion.{whole_points, whole_from}
use Rattle.insertion_parts.proofs.Inserting.whole_points.Given as goal

abbrev pub invariant-loop-j : goal.invariant-loop-j
invariant-loop-j l =
    (l.self.span < l.j + l.self.degree) × (l.j ≤ l.self.span + 1) × (whole_points l.self.degree l.self.knots.now l.self.ps.now l.self.v ≡ whole_from l.self.degree l.self.knots.now l.self.ps.now l.self.v (l.self.span + 1 - l.j) l.j)

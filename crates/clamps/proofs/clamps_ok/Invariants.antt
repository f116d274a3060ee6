-- The whole answer is that of the clamps not yet looked at.
use mathlib.Core.Path.{◌≡◌}
use Prim.Native.Nat.{◌+◌, ◌*◌, ◌-◌}
use Rattle.clamps.specs.Clamp.{clamp_field_bytes, clamps_at, clamps_ok}
use Rattle.clamps.proofs.clamps_ok.Given as goal

abbrev pub invariant-loop-i : goal.invariant-loop-i
invariant-loop-i l = clamps_ok (clamps_at l.bytes l.start l.count) ≡ clamps_ok (clamps_at l.bytes (l.start + clamp_field_bytes * l.i) (l.count - l.i))

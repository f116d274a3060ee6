-- Compacting keeps the exact curve: it is a chain of removals, and each of them does.
use mathlib.Core.Path.{refl}
use Prim.Native.Nat.{ℕ, ◌<◌}
use native.Mathlib.Omega.{arith}
use lib.ListN.{length}
use Rattle.grid.specs.Check.{Passes}
use Rattle.insertion.proofs.ResultLaws.{inserted-passes}
use Rattle.grid.proofs.SizeLaws.{sizes-of-passes}
use Rattle.insertion.proofs.JudgedLaws.{accepted-of-number}
use Rattle.curve.specs.Lists.{Lists}
use Rattle.removal.specs.Removal.{Removes}
use Rattle.compaction.specs.Compaction.{RemovesWhile, stays, goes_on, Pass, done, next}
use Rattle.knots_exact.specs.SameCurve.{SameCurve, CompactKeepsCurve, EditingPasses}
use Rattle.knots_exact.proofs.RemovalLaws.{remove-keeps-curve}
use Rattle.knots_exact.proofs.SameLaws.{axis-trans}

-- a curve that has points
pub record Some (c : Lists) : Type 0 where
  xs : 0 < length c.xs
  ys : 0 < length c.ys

pub same_refl : (m : ℕ) (c : Lists) → SameCurve m c c
same_refl m c = record {
  x = record { start = refl; stop = refl; point = λ p q above inside. refl };
  y = record { start = refl; stop = refl; point = λ p q above inside. refl };
}

pub same-trans : (m : ℕ) (c d e : Lists) → Some c → Some d → SameCurve m c d → SameCurve m d e → SameCurve m c e
same-trans m c d e some many s t = record {
  x = axis-trans m c.knots c.xs d.knots d.xs some.xs many.xs s.x e.knots e.xs t.x;
  y = axis-trans m c.knots c.ys d.knots d.ys some.ys many.ys s.y e.knots e.ys t.y;
}

-- a curve that passes the check has points
pub passes-some : (m : ℕ) (c : Lists) → Passes m c.knots c.xs c.ys → Some c
passes-some m c passes =
    let size = sizes-of-passes m c.knots c.xs c.ys passes in
    record { xs = omega (arith, size.enough); ys = omega (arith, size.enough, size.as_many) }

-- and so has what is left after a removal
left-some : (m v : ℕ) (c d : Lists) → Removes m v c d → Some d
left-some m v c d r = passes-some m d (accepted-of-number m d v c r.accepts).passes

while-some : {m v : ℕ} {c d : Lists} → RemovesWhile m v c d → Some c → Some d
while-some (stays h) s = s
while-some {m} {v} (goes_on {c = c} {d = d} r rest) s = while-some rest (left-some m v c d r)

while-same : {m v : ℕ} {c e : Lists} → RemovesWhile m v c e → Some c → SameCurve m c e
while-same {m} {v} {c} (stays h) s = same_refl m c
while-same {m} {v} (goes_on {c = c} {d = d} {e = e} r rest) s =
    same-trans m c d e s (left-some m v c d r) (remove-keeps-curve m v c d r) (while-same rest (left-some m v c d r))

pass_same : {m low : ℕ} {c e : Lists} → Pass m low c e → Some c → SameCurve m c e
pass_same {m} {low} {c} (done h) s = same_refl m c
pass_same {m} {low} (next {c = c} {d = d} {e = e} n w p) s =
    same-trans m c d e s (while-some w s) (while-same w s) (pass_same p (while-some w s))

pub compact-keeps-curve : CompactKeepsCurve
compact-keeps-curve m c d passes pass = pass_same pass (passes-some m c passes)

-- what is left after a removal passes the check
left-passes : (m v : ℕ) (c d : Lists) → Removes m v c d → Passes m d.knots d.xs d.ys
left-passes m v c d r = (accepted-of-number m d v c r.accepts).passes

while-passes : {m v : ℕ} {c d : Lists} → RemovesWhile m v c d → Passes m c.knots c.xs c.ys → Passes m d.knots d.xs d.ys
while-passes (stays h) p = p
while-passes {m} {v} (goes_on {c = c} {d = d} r rest) p = while-passes rest (left-passes m v c d r)

pass-passes : {m low : ℕ} {c d : Lists} → Pass m low c d → Passes m c.knots c.xs c.ys → Passes m d.knots d.xs d.ys
pass-passes (done h) p = p
pass-passes (next n w rest) p = pass-passes rest (while-passes w p)

-- inserting, removing and compacting give curves that pass the check
pub editing-passes : EditingPasses
editing-passes = (
  λ m c v lent e. inserted-passes m c.knots c.xs c.ys v lent e,
  λ m v c d r. left-passes m v c d r,
  λ m c d p pass. pass-passes pass p,
)

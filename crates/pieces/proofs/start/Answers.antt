-- At the first span nothing was inserted, and the rows are the first points.
use mathlib.Core.Path.{refl}
use native.Mathlib.Omega.{arith}
use Rattle.curve.specs.Lists.{lists}
use Rattle.grid.proofs.SizeLaws.{sizes-of-passes}
use Rattle.pieces.proofs.StartLaws.{starts}
use Rattle.pieces.proofs.start.Goals as goal

pub overflow_add-width : goal.overflow_add-width
overflow_add-width c = let p = c.requires in
    omega (arith, (sizes-of-passes c.args.m p.0 c.args.xs.now c.args.ys.now p.1).degree-most)

pub loaded-requires : goal.loaded-requires
loaded-requires c = let p = c.requires in
    let z = sizes-of-passes c.args.m p.0 c.args.xs.now c.args.ys.now p.1 in
    (omega (arith, z.degree-most), omega (arith, z.enough))

pub loaded-requires-2 : goal.loaded-requires-2
loaded-requires-2 c = let a = c.args in
    let p = c.requires in
    let z = sizes-of-passes a.m p.0 a.xs.now a.ys.now p.1 in
    (omega (arith, z.degree-most), omega (arith, z.enough, z.as_many))

pub returns : goal.returns
returns c =
    let a = c.args in record { answer = λ ts passes clamped. starts a.m (lists ts a.xs.now a.ys.now) passes clamped c.loaded.result c.loaded-2.result c.loaded.ensures.answer c.loaded-2.ensures.answer; first = refl }

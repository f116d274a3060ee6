-- A number of the first row, or the one number of the second.
use mathlib.Core.Path.{◌∙◌}
use native.Mathlib.Omega.{arith}
use Rattle.clamp_rows.specs.Ends.{as_end}
use Rattle.clamp_rows.proofs.RowLaws.{of-first-row, of-second-row, first_small, number-told}
use Rattle.clamp_rows.proofs.number.Goals as goal

pub returns-then-k-m : goal.returns-then-k-m
returns-then-k-m c = let whole = let a = c.args in
    number-told a.end c.args.end.near c.first_row.result a.m a.k c.requires.0 c.requires.1
    (c.first_row.ensures.answer ∙ of-first-row (as_end a.end) a.m a.k c.if-k-m.true) in record { answer = whole.0; sized = whole.1 }

pub mean_of-requires : goal.mean_of-requires
mean_of-requires c =
    let e = c.args.end in record { e_bound = (c.args.end.near.within 0 0); small = rw (c.first_row-2.ensures.answer, c.first_row-3.ensures.answer) ((first_small e c.args.end.near 3 0, first_small e c.args.end.near 3 1)) }

pub returns : goal.returns
returns c = let whole = let a = c.args in
    let other = c.if-k-m.false in
    number-told a.end c.args.end.near c.mean_of.result a.m a.k c.requires.0 c.requires.1
    ((rw (c.first_row-2.ensures.answer, c.first_row-3.ensures.answer) at c.mean_of.ensures.answer)
    ∙ of-second-row a.end a.m a.k (omega (arith, c.requires.0, c.requires.1, other)) (omega (arith, c.requires.0, c.requires.1, other))) in record { answer = whole.0; sized = whole.1 }

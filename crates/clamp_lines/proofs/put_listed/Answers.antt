-- One line that the clamp is clear, or a line for each span; the longest of them fit.
use Rattle.std.proofs.Common.{rules}
use native.Mathlib.Omega.{arith}
use Rattle.lines.proofs.LengthLaws.{clear_line-most, meet_lines-most}
use Rattle.lines.proofs.LinesLaws.{clamp_text-clear, clamp_text-lines}
use Rattle.clamp_lines.proofs.put_listed.Goals as goal

pub put_clear_line-requires : goal.put_clear_line-requires
put_clear_line-requires c = omega (arith, c.requires.0, c.requires.3, clear_line-most c.args.number (omega (arith, c.requires.0)))

pub returns-then-is_empty-clause-result : goal.returns-then-is_empty-clause-result
returns-then-is_empty-clause-result c = let a = c.args in
    rw (clamp_text-clear a.number a.lows.now a.highs.now (search rules)) c.put_clear_line.ensures.result

pub put_meet_lines-requires : goal.put_meet_lines-requires
put_meet_lines-requires c =
    let a = c.args in record { highs_len = c.requires.1; highs_in_bounds = omega (arith, c.requires.2, c.requires.3, meet_lines-most a.number a.lows.now a.highs.now (omega (arith, c.requires.0)) (λ i. omega (arith, c.type_inv.lows i)) (λ i. omega (arith, c.type_inv.highs i))) }

pub returns-clause-result : goal.returns-clause-result
returns-clause-result c = let a = c.args in
    rw (clamp_text-lines a.number a.lows.now a.highs.now (search rules)) c.put_meet_lines.ensures.result

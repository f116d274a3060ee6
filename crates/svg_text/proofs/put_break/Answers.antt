-- The line is short.
use native.Mathlib.Omega.{arith}
use Rattle.lines.proofs.LengthLaws.{broken_line-most}
use Rattle.svg_text.proofs.put_break.Goals as goal

pub put_broken_line-requires : goal.put_broken_line-requires
put_broken_line-requires c = omega (arith, c.requires.1, broken_line-most c.from.result c.args.found.place (omega (arith, c.from.type_inv)) (omega (arith, c.requires.0)))

-- The line is short.
use native.Mathlib.Omega.{arith}
use Rattle.lines.proofs.LengthLaws.{refused_line-most}
use Rattle.svg_text.proofs.put_refusal.Goals as goal

pub put_refused_line-requires : goal.put_refused_line-requires
put_refused_line-requires c = omega (arith, c.requires, refused_line-most c.from.result (omega (arith, c.from.type_inv)))

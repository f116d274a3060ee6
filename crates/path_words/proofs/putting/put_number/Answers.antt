-- By its sign: a minus sign and the digits behind it, or the digits alone.
use mathlib.Core.List.{◌∷◌, []}
use mathlib.Core.Path.{ap}
use native.Mathlib.Omega.{arith}
use lib.ListN.{length}
use Rattle.digits.specs.Decimal.{decimal}
use Rattle.digits.proofs.PutLaws.{two-joined}
use Rattle.path_data.specs.Letters.{minus_sign}
use Rattle.path_words.proofs.NumberLaws.{text-below, text-above}
use Rattle.path_words.proofs.putting.put_number.Goals.{then-z-lt0, else-z-lt0}
use Rattle.path_words.proofs.putting.put_number.Goals as goal

pub returns-clause-result : goal.returns-clause-result
returns-clause-result c = let a = c.args in let p = a.pen.now in
    elim c.if-z-lt0.branch [
      | then-z-lt0 w ↦
          let low = text-below a.z c.ranges.z c.unsigned_abs.ensures.value w.if-z-lt0.true in
          rw low
          (two-joined p.out.now p.at (minus_sign ∷ []) (decimal c.unsigned_abs.result) (omega (arith, c.requires, ap length low)) w.byte.ensures.result (rw w.pen-is at c.decimal.ensures.result))
      | else-z-lt0 w ↦
          rw (text-above a.z c.ranges.z c.unsigned_abs.ensures.value w.if-z-lt0.false) (rw w.pen-is at c.decimal.ensures.result)
    ]

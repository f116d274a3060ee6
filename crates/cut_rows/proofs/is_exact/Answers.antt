-- The product is the sum exactly where nothing was left over.
use mathlib.Core.Path.{ap, ◌∙◌}
use lib.IntN.{ℤ, pos, ◌*ℤ◌, *ℤ_comm}
use lib.Signed.{quot_z}
use mir.Facts.{to_z-of_z}
use Rattle.cut_rows.proofs.ExactLaws.{exact-told}
use Rattle.cut_rows.proofs.is_exact.Goals as goal

pub returns : goal.returns
returns c = record {
  answer = let a = c.args in
      exact-told a.sum c.product.result a.width c.ranges.sum (record { sfits = c.product.type_inv })
      (c.product.ensures.answer ∙ ap (λ (z : ℤ). pos a.width *ℤ z) (to_z-of_z c.ranges.value ∙ c.requires.1) ∙ *ℤ_comm (pos a.width) (quot_z a.sum (pos a.width)));
}

-- The point call's answer is what its sentences say.
use mathlib.Core.Path.{sym, ap}
use lib.Dec.{eqb-suc-zero}
use lib.IntN.{ℤ}
use lib.Ieee.{binary64, of_int}
use Rattle.span.proofs.SentenceLaws.{carrying-entries}
use Rattle.triangle.specs.FloatTriangle.{entry_of}
use Rattle.point_at.specs.Sentences.{FirstRowCarries, PointAnswered, RefusalAnswered}

pub first-row-carries : FirstRowCarries
unfolding entry_of
first-row-carries m i ts ps t k low high place = ap (λ (z : ℤ). of_int binary64 z) (sym ((carrying-entries m i ps low high).entry k place))

pub point-answered : PointAnswered
point-answered m ts xs ys t e = rw e

pub refusal-answered : RefusalAnswered
refusal-answered m ts xs ys t n e = rw (e, eqb-suc-zero n)

-- The cut curve and the number of cutting are what their sentences say: `cut-passes`, `cuts-counted`, `cut-full`, `cut-sizes`, `cut-knots`,
-- `spans-follow`, `piece-knots`, `cut-number-is`.
use Rattle.checked.proofs.CheckedLaws.{checked-of-passes}
use Rattle.cut_whole.specs.Sentences.{CutPasses, CutsCounted, CutFull, CutSizes, CutKnots, SpansFollow, PieceKnots, CutNumberIs}
use Rattle.cut_whole.proofs.JudgedLaws.{passes-of-cut, accepts-of-cut, cut_keeps, cut-refused}
use Rattle.cut_whole.proofs.SpanLaws.{spans-in-order}
use Rattle.cut_whole.proofs.CountLaws.{counted-cuts}
use Rattle.cut_whole.proofs.FullLaws.{fully-cut}
use Rattle.cut_whole.proofs.KnotLaws.{cut-sizes-of, cut-knots-of, piece-knots-of}
use Rattle.cut_whole.proofs.NumberLaws.{number-of-cut}

pub cut-passes : CutPasses
cut-passes m c h = record { passes = passes-of-cut m c h; accepts = accepts-of-cut m c h; cut-passes = (cut_keeps m c h).passes }

pub cuts-counted : CutsCounted
cuts-counted m c passes clamped = counted-cuts m c passes clamped

pub cut-full : CutFull
cut-full m c h clamped = fully-cut m c (passes-of-cut m c h) clamped

pub cut-sizes : CutSizes
cut-sizes m c h clamped = cut-sizes-of m c h clamped

pub cut-knots : CutKnots
cut-knots m c h clamped = cut-knots-of m c h clamped

pub spans-follow : SpansFollow
spans-follow m c passes = spans-in-order m c (checked-of-passes m c.knots c.xs c.ys passes)

pub piece-knots : PieceKnots
piece-knots m c h clamped = piece-knots-of m c h clamped

pub cut-number-is : CutNumberIs
cut-number-is m c = (number-of-cut m c, cut-refused m c)

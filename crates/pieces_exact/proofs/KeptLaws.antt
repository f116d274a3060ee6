-- Cutting keeps the exact curve: `cut-keeps-curve`; on either axis: `axis-same`.
use mathlib.Core.List.{List, [], ◌∷◌}
use mathlib.Core.Path.{◌≡◌, refl}
use Prim.Native.Nat.{ℕ, ◌+◌, ◌*◌, ◌<◌}
use native.Mathlib.Omega.{arith}
use lib.ListN.{length}
use Rattle.refusal.specs.Numbers.{accepted}
use Rattle.curve.specs.Lists.{Lists}
use Rattle.checked.specs.declared.Axis.{Axis}
use Rattle.checked.specs.declared.Axis.TheVariants.{X, Y}
use Rattle.grid.specs.Check.{Passes}
use Rattle.grid.proofs.SizeLaws.{sizes-of-passes}
use Rattle.checked.specs.Checked.{Clamped}
use Rattle.insertion.specs.Insertion.{inserted}
use Rattle.knots_exact.specs.SameCurve.{SameOnAxis, SameCurve}
use Rattle.meeting_points.specs.Inserting.{InsertsEach}
use Rattle.meeting_points.proofs.InsertingLaws.{inserts-each-keeps}
use Rattle.cutting.specs.Cutting.{inserted_each, cuts, cut, cut_number}
use Rattle.cutting.specs.Pieces.{piece_count}
use Rattle.cut_whole.specs.Sentences.{AcceptsEach}
use Rattle.cut_whole.proofs.EachLaws.{first-accepts, others-accept}
use Rattle.cut_whole.proofs.SentenceLaws.{cut-passes, cut-sizes}
use Rattle.pieces_exact.specs.PieceCurve.{axis_of, CutKeepsCurve}

-- values that are accepted, each in its turn
inserts-of-accepts : (m : ℕ) (vs : List ℕ) (c : Lists) → AcceptsEach m vs c → InsertsEach m vs c (inserted_each m vs c)
unfolding inserted_each
inserts-of-accepts m [] c each = refl
inserts-of-accepts m (v ∷ vs) c each = (first-accepts m v vs c each, inserts-of-accepts m vs (inserted m c v) (others-accept m v vs c each))

pub cut-keeps-curve : CutKeepsCurve
cut-keeps-curve m c h =
    let known = cut-passes m c h in
    let inserts = inserts-of-accepts m (cuts m c) c known.accepts in
    (inserts, inserts-each-keeps m (cuts m c) c (cut m c) known.passes inserts)

pub axis-same : (axis : Axis) (m : ℕ) (c d : Lists) → SameCurve m c d → SameOnAxis m c.knots (axis_of axis c) d.knots (axis_of axis d)
axis-same X m c d s = s.x
axis-same Y m c d s = s.y

pub axis-count : (axis : Axis) (m : ℕ) (c : Lists) → cut_number m c ≡ accepted → Clamped m c.knots (length c.xs) → length (axis_of axis (cut m c)) ≡ piece_count m c * m + 1
axis-count X m c h clamped = (cut-sizes m c h clamped).xs
axis-count Y m c h clamped = (cut-sizes m c h clamped).ys

pub axis-some : (axis : Axis) (m : ℕ) (c : Lists) → Passes m c.knots c.xs c.ys → 0 < length (axis_of axis c)
axis-some X m c passes = omega (arith, (sizes-of-passes m c.knots c.xs c.ys passes).enough)
axis-some Y m c passes = let s = sizes-of-passes m c.knots c.xs c.ys passes in omega (arith, s.enough, s.as_many)

-- The number of clamping is that of the first row that applies; and where clamping is not refused for row 11, each point is what its number says.
use mathlib.Core.Bool.{true}
use mathlib.Core.Path.{◌≡◌, refl}
use Prim.Native.Nat.{ℕ, ◌<◌}
use lib.IntN.{pos}
use lib.ListN.{length, get_or}
use Rattle.refusal.proofs.ChainLaws.{accepts, judged, answers-first}
use Rattle.curve.specs.Lists.{Lists}
use Rattle.grid.specs.Check.{Passes}
use Rattle.checked.proofs.TestLaws.{Judged, fails-iff, both-judged, room-judged}
use Rattle.checked.proofs.SentenceLaws.{curve-judged}
use Rattle.clamping.specs.Clamping.{carriers, carrying_part, clamped_number, is_whole, clamped, clamps_whole, clamp_then, clamp_number}
use Rattle.clamping.specs.Sentences.{IsThe, ClampNotWhole, clamp_rows, ClampAnswersFirst}
use Rattle.clamping.proofs.WholeLaws.{whole-number, all-judged}
use Rattle.clamping.proofs.PartLaws.{part-of-passes}
use Rattle.clamping.proofs.ClampedLaws.{clamped-entries}

module _ (m : ℕ) (c : Lists) where
  -- every number is whole on both axes
  abbrev Whole : Type 0
  Whole =
      let d = carrying_part m c in
      ((j : ℕ) → j < length d.xs → is_whole (clamped_number m d.knots d.xs j) ≡ true)
      × ((j : ℕ) → j < length d.ys → is_whole (clamped_number m d.knots d.ys j) ≡ true)

  pub whole-judged : Judged (clamps_whole m c) Whole (ClampNotWhole m c)
  unfolding clamps_whole
  whole-judged =
      let d = carrying_part m c in
      both-judged (all-judged (clamped_number m d.knots d.xs) (length d.xs)) (all-judged (clamped_number m d.knots d.ys) (length d.ys))

  -- each point times what stands below its number's line is what stands above
  module _ (h : Passes m c.knots c.xs c.ys) (whole : clamps_whole m c ≡ true) where
    pub clamped-x : (k : ℕ) → k < carriers m c → IsThe (get_or (clamped m c).xs k (pos 0)) (clamped_number m (carrying_part m c).knots (carrying_part m c).xs k)
    clamped-x k l =
        let a = clamped_number m (carrying_part m c).knots (carrying_part m c).xs k in
        let inside : k < length (carrying_part m c).xs = rw (part-of-passes m c h).count-xs l in
        rw ((clamped-entries m c h).x k l) (whole-number a ((whole-judged.passing whole).0 k inside))

    pub clamped-y : (k : ℕ) → k < carriers m c → IsThe (get_or (clamped m c).ys k (pos 0)) (clamped_number m (carrying_part m c).knots (carrying_part m c).ys k)
    clamped-y k l =
        let a = clamped_number m (carrying_part m c).knots (carrying_part m c).ys k in
        let inside : k < length (carrying_part m c).ys = rw (part-of-passes m c h).count-ys l in
        rw ((clamped-entries m c h).y k l) (whole-number a ((whole-judged.passing whole).1 k inside))

pub clamp-answers-first : ClampAnswersFirst
unfolding clamp_number clamp_then
clamp-answers-first m c lent =
    answers-first (clamp_number m c lent) (clamp_rows m c lent) refl
    (curve-judged m c.knots c.xs c.ys _ _ λ passes.
    judged (fails-iff (whole-judged m c)) λ whole. judged (fails-iff (room-judged (clamped m c) lent)) λ room. accepts)

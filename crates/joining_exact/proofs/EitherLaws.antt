-- What is promised of a joined curve, with either number of inner knots: `join-passes`, `join-is-hermite`, `join-meets-points`, `join-has-entries`; and
-- of the two together: `meeting-inserted`, `both-are-one-curve`.
use mathlib.Core.Path.{◌≡◌}
use Prim.Native.Nat.{ℕ}
use native.Mathlib.Decide.{dec_le}
use native.Mathlib.Omega.{arith}
use Rattle.curve.specs.Lists.{Lists}
use Rattle.curve.specs.HandingOver.{room_number}
use Rattle.spline_pieces.specs.Standing.{Rising}
use Rattle.joined_curve.proofs.KnotLaws.{joined-knots}
use Rattle.joined_curve.proofs.SentenceLaws.{joined-points}
use Rattle.joining.specs.SplinePoints.{SplinePoints}
use Rattle.joining.specs.Answer.{joined_lists, join_number}
use Rattle.joining.proofs.StandingLaws.{Joinable, joinable-of}
use Rattle.joining_exact.specs.JoinedCurve.{JoinPasses, JoinIsHermite, JoinMeetsPoints, JoinHasEntries, MeetingPointsInserted, BothAreOneCurve}
use Rattle.joining_exact.proofs.PassesLaws.{joined-passes}
use Rattle.joining_exact.proofs.JoinedLaws.{thrice-is-hermite}
use Rattle.joining_exact.proofs.TwiceLaws.{twice-inserted, twice_same, twice-is-hermite}
use Rattle.joining_exact.proofs.MeetsLaws.{meets-points}

module _ (inner : ℕ) (s : SplinePoints) (lent : Lists) (accepted : join_number inner s lent ≡ 0) where
  joined-joinable : Joinable s
  joined-joinable = joinable-of s (room_number (joined_lists inner s) lent) accepted

  joined-rising : Rising s.params
  joined-rising = joined-joinable.standing.x-axis.rising

pub join-passes : JoinPasses
join-passes inner either s lent e = joined-passes inner either s (joined-joinable inner s lent e)

pub meeting-inserted : MeetingPointsInserted
meeting-inserted s lent e = twice-inserted s (joined-joinable 2 s lent e)

pub both-are-one-curve : BothAreOneCurve
both-are-one-curve s lent e = twice_same s (joined-joinable 2 s lent e)

pub join-is-hermite : JoinIsHermite
join-is-hermite inner either s lent e =
    let known = joined-joinable inner s lent e in
    elim (dec_le inner 2) [
      | yes h ↦ let two : inner ≡ 2 = omega (arith, either.0) in rw two (twice-is-hermite s known)
      | no h ↦ let three : inner ≡ 3 = omega (arith, either.1) in rw three (thrice-is-hermite s known)
    ]

pub join-meets-points : JoinMeetsPoints
join-meets-points inner either s lent e i h =
    let rising = joined-rising inner s lent e in
    let cubics = join-is-hermite inner either s lent e in (
      meets-points (joined_lists inner s).knots s.params (joined_lists inner s).xs s.xs s.dxs rising cubics.0 i h,
      meets-points (joined_lists inner s).knots s.params (joined_lists inner s).ys s.ys s.dys rising cubics.1 i h,
    )

pub join-has-entries : JoinHasEntries
join-has-entries inner either s lent e =
    let some = (joined-rising inner s lent e).least in
    let whole = (joined-joinable inner s lent e).whole in (
      joined-knots inner s.params s.xs s.dxs some,
      joined-points s.params s.xs s.dxs some inner either.0 whole.0,
      joined-points s.params s.ys s.dys some inner either.0 whole.1,
    )

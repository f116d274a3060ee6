-- What is promised of a joined curve (heading "Joining spline points"), in the words of the joining calls' contracts. `inner` is how often an inner
-- parameter stands: twice by default, three times where the curve goes through its meeting points.
use Rattle.std.specs.Prelude.{List, ◌≡◌, ℕ, suc, ◌*◌, ◌≤◌, ◌<◌, ℤ, pos, length, get_or}
use Rattle.refusal.specs.Numbers.{accepted}
use Rattle.curve.specs.Lists.{Lists}
use Rattle.grid.specs.Check.{Passes}
use Rattle.fractions.specs.Fraction.{whole}
use Rattle.fractions.specs.Order.{Equals}
use Rattle.exact.specs.ExactCurve.{exact_at}
use Rattle.knots_exact.specs.SameCurve.{SameCurve}
use Rattle.joined_curve.specs.Curve.{inner_twice, inner_thrice, EitherNumber}
use Rattle.joined_curve.specs.Sentences.{KnotsOf, PointsOf}
use Rattle.joining.specs.SplinePoints.{SplinePoints}
use Rattle.joining.specs.Answer.{joined_lists, join_number}
use Rattle.meeting_points.specs.Inserting.{inner_parameters, InsertsEach}
use Rattle.joining_exact.specs.HermitePoint.{hermite_coordinate}

-- whenever joining is not refused, the curve that the call hands out passes the check
abbrev pub JoinPasses : Type 0
JoinPasses =
    (inner : ℕ) → EitherNumber inner → (s : SplinePoints) (lent : Lists) → join_number inner s lent ≡ accepted
    → Passes 3 (joined_lists inner s).knots (joined_lists inner s).xs (joined_lists inner s).ys

-- on one axis: the exact curve of knots ts and coordinates us is the Hermite cubic at every fraction p/q of every interval, both ends included
abbrev pub HermiteOnAxis : List ℕ → List ℤ → List ℕ → List ℤ → List ℤ → Type 0
HermiteOnAxis ts us ss ps ds =
    (i p q : ℕ) → suc i < length ss → 0 < q → get_or ss i 0 * q ≤ p → p ≤ get_or ss (suc i) 0 * q
    → Equals (exact_at 3 ts us p q) (hermite_coordinate ss ps ds i p q)

-- whenever joining is not refused, both axes of the curve that the call hands out are the Hermite cubics of the spline points
abbrev pub JoinIsHermite : Type 0
JoinIsHermite =
    (inner : ℕ) → EitherNumber inner → (s : SplinePoints) (lent : Lists) → join_number inner s lent ≡ accepted
    → HermiteOnAxis (joined_lists inner s).knots (joined_lists inner s).xs s.params s.xs s.dxs
    × HermiteOnAxis (joined_lists inner s).knots (joined_lists inner s).ys s.params s.ys s.dys

-- whenever joining is not refused, the curve that the call hands out passes through every spline point: at s_i it is P_i, on both axes
abbrev pub JoinMeetsPoints : Type 0
JoinMeetsPoints =
    (inner : ℕ) → EitherNumber inner → (s : SplinePoints) (lent : Lists) → join_number inner s lent ≡ accepted → (i : ℕ) → i < length s.params
    → Equals (exact_at 3 (joined_lists inner s).knots (joined_lists inner s).xs (get_or s.params i 0) 1) (whole (get_or s.xs i (pos 0)))
    × Equals (exact_at 3 (joined_lists inner s).knots (joined_lists inner s).ys (get_or s.params i 0) 1) (whole (get_or s.ys i (pos 0)))

-- ... and its lists are those that the scope tells of, entry by entry
abbrev pub JoinHasEntries : Type 0
JoinHasEntries =
    (inner : ℕ) → EitherNumber inner → (s : SplinePoints) (lent : Lists) → join_number inner s lent ≡ accepted
    → KnotsOf inner s.params (joined_lists inner s).knots
    × PointsOf inner s.params s.xs s.dxs (joined_lists inner s).xs
    × PointsOf inner s.params s.ys s.dys (joined_lists inner s).ys

-- whenever joining by default is not refused, inserting each inner parameter once more in its curve gives the curve with the meeting points: these, and
-- nothing else, dropped out
abbrev pub MeetingPointsInserted : Type 0
MeetingPointsInserted =
    (s : SplinePoints) (lent : Lists) → join_number inner_twice s lent ≡ accepted
    → InsertsEach 3 (inner_parameters s.params) (joined_lists inner_twice s) (joined_lists inner_thrice s)

-- ... so the two are one exact curve: they have the same domain and the same point at every fraction of it, on both axes
abbrev pub BothAreOneCurve : Type 0
BothAreOneCurve = (s : SplinePoints) (lent : Lists) → join_number inner_twice s lent ≡ accepted → SameCurve 3 (joined_lists inner_twice s) (joined_lists inner_thrice s)

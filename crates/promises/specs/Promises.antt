-- What Tsaghnobir promises beyond the contracts of its calls, a statement each. Every word stands in the definitions that those contracts
-- cite; `proofs/Proved.antt` proves each statement under the same name.
use Rattle.std.specs.Prelude.{true, List, [], Result, ◌≡◌, ℕ, suc, ◌-◌, ◌*◌, ◌≤◌, ℤ, length, get_or}
use Rattle.curve.specs.Lists.{Lists}
use Rattle.grid.specs.Check.{check_number, Passes}
use Rattle.refusal.specs.Chain.{AnswersFirst}
use Rattle.refusal.specs.declared.Refusal.{Refusal}
use Rattle.checked.specs.Sentences.{curve_rows}
use Rattle.curve.specs.Sentences.{RoomExactly, SuccessHandsOver, RefusalHandsNothing}
use Rattle.domain.specs.Sentences.{EightExactly, AcceptedExactly, CurveJudgedFirst}
use Rattle.span.specs.Span.{IsSpan, span_of, in_domain}
use Rattle.span.specs.Sentences.{CarryingEntries}
use Rattle.point_at.specs.Sentences.{FirstRowCarries, PointAnswered, RefusalAnswered}
use Rattle.carrying.specs.Sentences.{PartOfAskedAxis, RefusalHandsNoPart}
use Rattle.insertion.specs.Sentences.{InsertedByIndex, InsertionAnswersFirst}
use Rattle.removal.specs.Sentences.{InsertedIsRemoved, RemovalTakesOne}
use Rattle.removal.specs.Sentences.{RemovalAnswersFirst}
use Rattle.remove_knot.specs.Sentences.{InsertedIsHandedBack}
use Rattle.compaction.specs.Sentences.{PassLeaves, TurnEnds}
use Rattle.compaction.specs.Sentences.{CompactionAnswersFirst}
use Rattle.compact.specs.Sentences.{CompactionCounts}
use Rattle.joining.specs.Sentences.{JoinAnswersFirst}
use Rattle.span_walk.specs.Sentences.{ListedExactly, ListRises, KnotsOfEachSpan, SpanCountExactly}
use Rattle.spans_met.specs.Sentences.{ListAnswersFirst}
use Rattle.spans_met.specs.Outcome.{SuccessListsSpans, AcceptedListIsExact, RefusalListsNothing}
use Rattle.record.specs.Sentences.{WriteAnswersFirst, ReadAnswersFirst}
use Rattle.job.specs.Sentences.{JobFaultKept, JobAnswersFirst}
use Rattle.feed.specs.Sentences.{BurstAnswersFirst, BurstIsKept, ShortListKept, EmptyBurstChangesNothing}
use Rattle.bursts.specs.Bursts.{FedReadsAsJoined, FedIsHeld, EndDetermined}
use Rattle.fault.specs.Told.{FaultsTold}
use Rattle.fault.specs.Kinds.{lone_records}
use Rattle.job.specs.JobFormat.{jobs}
use Rattle.door_outcomes.specs.Exports as Door
use Rattle.point_at_exact.specs.PointNear.{PointNearExact}
use Rattle.spans_met_exact.specs.Crossing.{EveryCutReported, NoWidthIsThePoint, EveryCrossingReported}
use Rattle.remove_knot.specs.Outcome.{RemovalOutcome}
use Rattle.compact.specs.Outcome.{CompactOutcome}
use Rattle.round_trip.specs.RoundTrip as Trip
use Rattle.job_text.specs.Program.{PartsAreTheText, WrittenIsText, BrokenIsOneLine, OneText}
use Rattle.svg_text.specs.Program.{SomeSvgText, OneSvgText, BrokenRecordIsOneLine, FrontTellsText}
use Rattle.clear_is_clear.specs.Clear.{ClearIsClear, EveryClampTold, ElseListed}
use Rattle.worked.specs.Case.{AllHold}
use Rattle.worked.specs.Worked.{cases}
use Rattle.joining_exact.specs.JoinedCurve.{JoinPasses, JoinIsHermite, JoinMeetsPoints, JoinHasEntries, MeetingPointsInserted, BothAreOneCurve}
use Rattle.cut_whole.specs.Sentences.{CutPasses, CutsCounted, CutFull, CutSizes, CutKnots, SpansFollow, PieceKnots, CutNumberIs}
use Rattle.pieces_exact.specs.PieceCurve.{CutKeepsCurve, PieceIsCurve, PiecePoints, PiecesMeet, PiecesCoverDomain}
use Rattle.svg_whole.specs.Sentences.{SvgIsPathData, SvgWithinMost, SvgMostReached}
use Rattle.svg_whole.specs.Outcome.{SvgAnswersFirst, SuccessWritesText, RefusalWritesNothing}
use Rattle.drawn_exact.specs.Drawn.{DrawnIsCurve}
use Rattle.clamping.specs.Sentences.{ClampAnswersFirst, ClampedKnots, ClampedPasses, ClampedComesBack}
use Rattle.unclamping.specs.Sentences.{UnclampAnswersFirst, UnclampedByIndex}
use Rattle.same_polygon.specs.SamePolygon.{CurveFixesCarriers, CurveFixesPolygon}
use Rattle.ends_exact.specs.Clamping.{ClampKeepsCurve, ClampExactly}
use Rattle.ends_exact.specs.Unclamping.{UnclampKeepsCurve, UnclampExactly, UnclampedClampsBack}
use Rattle.knots_exact.specs.SameCurve.{InsertKeepsCurve, RemoveKeepsCurve, CompactKeepsCurve, EditingPasses}

-- "Numbers of refusal": the check answers n exactly when row n applies and no lower row does, and 0 exactly when no row does
abbrev pub CheckGivesLowestRow : Type 0
CheckGivesLowestRow = (m : ℕ) (ts : List ℕ) (xs ys : List ℤ) → AnswersFirst (check_number m ts xs ys) (curve_rows m ts xs ys [])

-- "Numbers of refusal": so does every other call, each in its own order: a number exactly when its row applies and none does that is judged before
-- it. Each row is a sentence over all entries.
abbrev pub RefusalsAnswerFirst : Type 0
RefusalsAnswerFirst =
    (EightExactly × AcceptedExactly × CurveJudgedFirst) × InsertionAnswersFirst × RemovalAnswersFirst × CompactionAnswersFirst
    × JoinAnswersFirst × ListAnswersFirst × WriteAnswersFirst × ReadAnswersFirst × JobAnswersFirst × BurstAnswersFirst × SvgAnswersFirst
    × ClampAnswersFirst × UnclampAnswersFirst

-- "Numbers of refusal": 15 exactly where some list has fewer places than its result; a result stands in front of what was there before, entry for
-- entry; a refusal leaves all three lists as they were
abbrev pub ResultsHandedOver : Type 0
ResultsHandedOver = RoomExactly × SuccessHandsOver × RefusalHandsNothing

-- "The point at a parameter": the carrying entries are P_{i-m} to P_i and row 0 of the triangle; the point call and the carrying call answer from
-- them, on the asked axis, and C's index finds that very part
abbrev pub CarryingPointsCarry : Type 0
CarryingPointsCarry =
    CarryingEntries × FirstRowCarries × (PointAnswered × RefusalAnswered) × (PartOfAskedAxis × RefusalHandsNoPart) × Door.FirstFindsCarrying

-- "The point at a parameter": every fraction p/q of the domain of a curve that passes has exactly one span, `span_of` is it, and it holds p/q
abbrev pub EveryParameterHasItsSpan : Type 0
EveryParameterHasItsSpan =
    (m : ℕ) (ts : List ℕ) (xs ys : List ℤ) (p q : ℕ) → Passes m ts xs ys → in_domain ts m (length xs - 1) p q ≡ true
    → IsSpan ts m (length xs - 1) p q (span_of ts m (length xs - 1) p q)
    × ((i : ℕ) → IsSpan ts m (length xs - 1) p q i → (i ≡ span_of ts m (length xs - 1) p q) × (get_or ts i 0 * q ≤ p) × (p ≤ get_or ts (suc i) 0 * q))

-- "The point at a parameter": at each whole parameter of the domain both computed coordinates are finite and less than 2 ^ -30 from the
-- exact point's
abbrev pub ComputedPointNearExact : Type 0
ComputedPointNearExact = PointNearExact

-- "Spans to check": where some point of an accepted clamp, its sides included, is at most the cutter's radius away from the exact point at any fraction of the
-- domain, a span that holds this parameter is on the list
abbrev pub CutsReported : Type 0
CutsReported = EveryCutReported

-- "Spans to check": a cutter of no width reaches what the exact point itself meets, and with radius 0 the spans whose boxes meet the clamp as it is hold every
-- parameter at which the exact point lies in or on it
abbrev pub CrossingsReported : Type 0
CrossingsReported = NoWidthIsThePoint × EveryCrossingReported

-- "Spans to check": a span is listed exactly when it is one of m to n, not empty, and some whole point of its box is at most the radius away, on each axis,
-- from some whole point of the clamp; the list rises, its knots are those of each very span, and the non-empty spans are one fewer than the different knots of
-- the domain
abbrev pub SpansListedExactly : Type 0
SpansListedExactly =
    (ListedExactly × ListRises × KnotsOfEachSpan × SpanCountExactly) × SuccessListsSpans × AcceptedListIsExact × RefusalListsNothing

-- "Inserting and removing a knot": each new knot and each new point, by its index
abbrev pub InsertedEntryByEntry : Type 0
InsertedEntryByEntry = InsertedByIndex

-- "Inserting and removing a knot": what was inserted can be removed again, which gives the old curve; a removal takes one knot and one point
abbrev pub InsertedThenRemoved : Type 0
InsertedThenRemoved = InsertedIsRemoved × InsertedIsHandedBack × RemovalTakesOne

-- "Inserting and removing a knot": right after the turn of a value its removal is not accepted; a pass takes inner knots alone, and the old points are the
-- new ones and as many more as were removed
abbrev pub CompactionTakesWhatItCounts : Type 0
CompactionTakesWhatItCounts = TurnEnds × PassLeaves × CompactionCounts

-- "Inserting and removing a knot": inserting a knot changes neither the domain nor the exact point at any fraction of it
abbrev pub InsertionKeepsCurve : Type 0
InsertionKeepsCurve = InsertKeepsCurve

-- "Inserting and removing a knot": nor does removing one: a polygon that gives the old points back has the old curve
abbrev pub RemovalKeepsCurve : Type 0
RemovalKeepsCurve = RemoveKeepsCurve

-- "Inserting and removing a knot": the cases of removal's contract leave no choice: two outcomes that it permits for one input are the same
abbrev pub RemovalDetermined : Type 0
RemovalDetermined =
    (m : ℕ) (c : Lists) (v : ℕ) (before : Lists) (a b : Result ℕ Refusal) (x y : Lists)
    → RemovalOutcome m c v before a x → RemovalOutcome m c v before b y → (a ≡ b) × (x ≡ y)

-- "Inserting and removing a knot": compacting keeps the curve too, and has one outcome
abbrev pub CompactionKeepsCurve : Type 0
CompactionKeepsCurve = CompactKeepsCurve

abbrev pub CompactionDetermined : Type 0
CompactionDetermined =
    (m : ℕ) (c before : Lists) (a b : Result ℕ Refusal) (x y : Lists) → CompactOutcome m c before a x → CompactOutcome m c before b y → (a ≡ b) × (x ≡ y)

-- "Inserting and removing a knot": what inserting, removing and compacting give passes the check again
abbrev pub EditedCurvePasses : Type 0
EditedCurvePasses = EditingPasses

-- "Joining spline points": a joined curve passes the check, whether an inner parameter stands twice in it or three times; so with all that follows
abbrev pub JoinedCurvePasses : Type 0
JoinedCurvePasses = JoinPasses

-- "Joining spline points": its exact curve is the Hermite cubic at every fraction of every interval, on both axes
abbrev pub JoinedCurveIsHermite : Type 0
JoinedCurveIsHermite = JoinIsHermite

-- "Joining spline points": it passes through each spline point at its parameter, and has its knots and points entry by entry: of each piece two inner
-- points, and the meeting points where inner parameters stand three times
abbrev pub JoinedCurveMeetsPoints : Type 0
JoinedCurveMeetsPoints = JoinMeetsPoints × JoinHasEntries

-- "Joining spline points": where they stand twice only the meeting points are gone: inserting each inner parameter once more gives the curve that has them,
-- and both are one exact curve
abbrev pub MeetingPointsDropOut : Type 0
MeetingPointsDropOut = MeetingPointsInserted × BothAreOneCurve

-- "Ends that are not clamped": two polygons on the same knots with the same exact curve over the domain agree in every point that carries a span of it, and are
-- one where the outer spans are not empty
abbrev pub CurveDeterminesPolygon : Type 0
CurveDeterminesPolygon = CurveFixesCarriers × CurveFixesPolygon

-- "Ends that are not clamped": the clamped curve is the old one over the domain; it is handed out exactly where some polygon of whole points on its knots is, and
-- is the only one
abbrev pub ClampingKeepsCurve : Type 0
ClampingKeepsCurve = ClampKeepsCurve × ClampExactly

-- "Ends that are not clamped": its knots are the inner ones as often as before and each end m+1 times; it passes the check; and a clamped curve comes back as it was
abbrev pub ClampedCurvePasses : Type 0
ClampedCurvePasses = ClampedKnots × ClampedPasses × ClampedComesBack

-- "Ends that are not clamped": the unclamped curve is the old one over the domain; it is handed out exactly where some polygon on the grid is, with all points but
-- the last m as they were, and is the only one
abbrev pub UnclampingKeepsCurve : Type 0
UnclampingKeepsCurve = UnclampKeepsCurve × UnclampExactly

-- "Ends that are not clamped": its knots and points, by their index; and clamping gives a curve with clamped ends back
abbrev pub UnclampedCurveClampsBack : Type 0
UnclampedCurveClampsBack = UnclampedByIndex × UnclampedClampsBack

-- "Out to SVG": of a curve with clamped ends each inner knot is inserted as often as it lacks of m times, from left to right, and no other value; the cut curve
-- passes the check, is the same exact curve, and has its knots, by their index, and so many points; the first insertion that fails gives the number, 10 or 11 and
-- no other
abbrev pub CurvesCutAtKnots : Type 0
CurvesCutAtKnots = CutsCounted × CutPasses × CutKeepsCurve × (CutFull × CutSizes × CutKnots) × CutNumberIs

-- "Out to SVG": of any curve that is not refused, with clamped ends or open ones, there is a piece for each span that is not empty, between its two knots; at every
-- fraction between these, both included, the Bezier point of the piece's own points is the exact point of the curve, on both axes; and neighbours meet
abbrev pub PiecesAreTheCurve : Type 0
PiecesAreTheCurve = DrawnIsCurve

-- "Out to SVG": the pieces of a curve with clamped ends, such as the copy that is drawn: one for each span that is not empty, with m + 1 points of the cut curve and
-- (0,0) in the other places; and all together go from end to end of the domain
abbrev pub PiecesCoverTheCurve : Type 0
PiecesCoverTheCurve = (PieceKnots × SpansFollow) × (PiecePoints × PieceIsCurve) × PiecesMeet × PiecesCoverDomain

-- "Out to SVG": what is written is of the grammar of path data and at most 18,431 bytes long, which some curve's is; it stands in front of what the list held,
-- and a refusal leaves the list as it was
abbrev pub PathDataWritten : Type 0
PathDataWritten = SvgIsPathData × (SvgWithinMost × SvgMostReached) × SuccessWritesText × RefusalWritesNothing

-- "Out to SVG": any bytes have one text of `curvesvg`, path data and a newline or one line on the refusal; that of bytes which are no record is one line with the
-- number and the place of their leftmost fault; and the first 10,262 bytes tell the text of longer ones
abbrev pub DrawingProgramHasOneText : Type 0
DrawingProgramHasOneText = SomeSvgText × OneSvgText × BrokenRecordIsOneLine × FrontTellsText

-- "The record on disk": reading what was written gives the curve back, writing what was read gives the bytes back, bytes that read to one
-- curve are equal, and a record has at most 10,261 bytes
abbrev pub RecordsGoRound : Type 0
RecordsGoRound = Trip.WrittenReadsBack × Trip.ReadWritesBack × Trip.OneRecordForEachCurve × Trip.RecordsShort

-- "Where bytes break": bytes are a lone record, or a job, or have a leftmost fault, never both and never two; 21 stands behind every whole record and
-- every job with 64 clamps; and of bytes longer than the longest job the first 11,483 tell the fault
abbrev pub FaultIsLeftmost : Type 0
FaultIsLeftmost = FaultsTold lone_records × FaultsTold jobs × JobFaultKept

-- "Where bytes break": reading a record, or a job, tells exactly the leftmost fault of its bytes, and has one outcome
abbrev pub ReadingIsExact : Type 0
ReadingIsExact = Trip.FaultsExactly × Trip.ReadingDetermined × Trip.JobFaultsExactly × Trip.JobReadingDetermined

-- "The record on disk": reading the job of some lists, radius and clamps reads these, and a job has at most 11,482 bytes
abbrev pub JobsReadBack : Type 0
JobsReadBack = Trip.JobReadsBack × Trip.JobsShort

-- "Jobs in bursts": from a fresh state on, any bursts that are fed one after the other and then the end answer and leave what reading all of them joined
-- does, and the state is fresh again; until then the work list holds them in order, as far as they fit; whatever the state, the end has one outcome
abbrev pub BurstsReadAsJoined : Type 0
BurstsReadAsJoined = FedReadsAsJoined × FedIsHeld × EndDetermined × Door.FedHandsBackAsJoined

-- "Jobs in bursts": what a burst leaves, entry by entry, and how it is counted; a work list that is too short takes none, and an empty burst changes
-- nothing
abbrev pub BurstsAreKept : Type 0
BurstsAreKept = BurstIsKept × ShortListKept × EmptyBurstChangesNothing

-- "`clampcheck`": for any bytes, each part that `clampcheck` writes is that part of their text, the parts in a row are the whole text, bytes have
-- one text, and that of bytes which are no job is one line with the number and the place of their leftmost fault
abbrev pub ProgramWritesItsText : Type 0
ProgramWritesItsText = PartsAreTheText × WrittenIsText × OneText × BrokenIsOneLine

-- "`clampcheck`": where the text says that a clamp is clear, every point of it is further than the radius from the exact point at every fraction of the domain;
-- every clamp of a job that is not refused is told of, and where no line says that it is clear the spans are listed on which the cutter may meet it
abbrev pub ClearMeansClear : Type 0
ClearMeansClear = ClearIsClear × EveryClampTold × ElseListed

-- "How much each contract says": where an export speaks of some answer of the call that it wraps, what it answers is determined
abbrev pub ExportsDetermined : Type 0
ExportsDetermined = Door.RemovalDetermined × Door.CompactionDetermined × Door.RecordDetermined × Door.JobDetermined × Door.FeedEndDetermined

-- "How much each contract says": of the exports that read, the number lent for the place is written with 16 and 19 to 21, with the place of the leftmost
-- fault, and with no other answer
abbrev pub PlacesToldWithFaults : Type 0
PlacesToldWithFaults = Door.RecordPlaceTold × Door.JobPlaceTold × Door.FeedEndPlaceTold

-- "Worked by hand": every worked case holds of the calls' own answers
abbrev pub WorkedCasesHold : Type 0
WorkedCasesHold = AllHold cases

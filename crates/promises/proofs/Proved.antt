-- Every promise of specs/Promises.antt, proved under its own name.
use native.Mathlib.Numerals.{add-one}
use lib.ListN.{length}
use Rattle.checked.proofs.CheckedLaws.{checked-of-passes}
use Rattle.checked.proofs.SentenceLaws.{check-answers}
use Rattle.curve.proofs.SentenceLaws.{room-exactly, success-hands-over, refusal-hands-nothing}
use Rattle.domain.proofs.OutsideLaws.{eight-exactly, accepted-exactly, curve-judged-first}
use Rattle.span.proofs.SentenceLaws.{carrying-entries}
use Rattle.point_at.proofs.SentenceLaws.{first-row-carries, point-answered, refusal-answered}
use Rattle.carrying.proofs.SentenceLaws.{part-of-asked-axis, refusal-hands-no-part}
use Rattle.insertion.proofs.SentenceLaws.{inserted-by-index, insertion-answers-first}
use Rattle.removal.proofs.SentenceLaws.{inserted-is-removed, removal-takes-one}
use Rattle.removal.proofs.SentenceLaws.{removal-answers-first}
use Rattle.remove_knot.proofs.SentenceLaws.{inserted-is-handed-back}
use Rattle.compaction.proofs.SentenceLaws.{pass-leaves, turn-ends}
use Rattle.compaction.proofs.SentenceLaws.{compaction-answers-first}
use Rattle.compact.proofs.SentenceLaws.{compaction-counts}
use Rattle.joining.proofs.SentenceLaws.{join-answers}
use Rattle.span_walk.proofs.SentenceLaws.{listed-exactly, list-rises, knots-of-each-span}
use Rattle.span_walk.proofs.CountLaws.{span-count-exactly}
use Rattle.spans_met.proofs.SentenceLaws.{list-answers}
use Rattle.spans_met.proofs.OutcomeLaws.{success-lists-spans, accepted-list-is-exact, refusal-lists-nothing}
use Rattle.record.proofs.SentenceLaws.{write-answers, read-answers}
use Rattle.job.proofs.SentenceLaws.{job-answers}
use Rattle.door_outcomes.proofs.OutcomeLaws as Door
use Rattle.door_outcomes.proofs.PlaceLaws.{record-place-told, job-place-told, feed-end-place-told}
use Rattle.door_outcomes.proofs.FeedLaws.{feed-end-determined, fed-hands-back-as-joined}
use Rattle.feed.proofs.SentenceLaws.{burst-answers-first, burst-is-kept, short-list-kept, empty-burst-changes-nothing}
use Rattle.bursts.proofs.JoinedLaws.{fed-reads-as-joined, fed-is-held}
use Rattle.bursts.proofs.OutcomeLaws.{end-determined}
use Rattle.breaks.proofs.LoneLaws.{records-told}
use Rattle.job.proofs.JobFaultLaws.{jobs-told, job-fault-kept}
use Rattle.door_outcomes.proofs.CarryingLaws.{first-finds-carrying}
use Rattle.span.specs.Span.{span_of}
use Rattle.span.proofs.SpanLaws.{span-unique, span-holds, in_domain-says}
use Rattle.exact.proofs.DomainLaws.{domain-span}
use Rattle.point_at_exact.proofs.PointNearLaws.{point-near-exact}
use Rattle.spans_met_exact.proofs.CrossingLaws.{every-cut-reported, every-crossing-reported}
use Rattle.spans_met_exact.proofs.DistanceLaws.{no-width-is-the-point}
use Rattle.knots_exact.proofs.InsertionLaws.{insert-keeps-curve}
use Rattle.knots_exact.proofs.RemovalLaws.{remove-keeps-curve}
use Rattle.joining_exact.proofs.EitherLaws.{join-passes, join-is-hermite, join-meets-points, join-has-entries, meeting-inserted, both-are-one-curve}
use Rattle.cut_whole.proofs.SentenceLaws.{cut-passes, cuts-counted, cut-full, cut-sizes, cut-knots, spans-follow, piece-knots, cut-number-is}
use Rattle.pieces_exact.proofs.KeptLaws.{cut-keeps-curve}
use Rattle.pieces_exact.proofs.PointLaws.{piece-points}
use Rattle.pieces_exact.proofs.PieceLaws.{piece-is-curve, pieces-meet, pieces-cover-domain}
use Rattle.svg_whole.proofs.LongestLaws.{svg-most-reached}
use Rattle.svg_whole.proofs.TextLaws.{svg-is-path-data, svg-within-most}
use Rattle.svg_whole.proofs.OutcomeLaws.{svg-answers-first, success-writes-text, refusal-writes-nothing}
use Rattle.clamping.proofs.ClampedLaws.{clamped-knots, clamped-passes}
use Rattle.clamping.proofs.StayLaws.{clamped-comes-back}
use Rattle.clamping.proofs.SentenceLaws.{clamp-answers-first}
use Rattle.unclamping.proofs.SentenceLaws.{unclamp-answers-first}
use Rattle.unclamping.proofs.IndexLaws.{unclamped-by-index}
use Rattle.same_polygon.proofs.PointLaws.{curve-fixes-carriers}
use Rattle.same_polygon.proofs.PolygonLaws.{curve-fixes-polygon}
use Rattle.ends_exact.proofs.ClampLaws.{clamp-keeps-curve, clamp-exactly}
use Rattle.ends_exact.proofs.UnclampedLaws.{unclamp-keeps-curve, unclamp-exactly, unclamped-clamps-back}
use Rattle.drawn_exact.proofs.DrawnLaws.{drawn-is-curve}
use Rattle.remove_knot.proofs.OutcomeLaws as Removal
use Rattle.round_trip.proofs.RecordTrip.{written-reads-back, read-writes-back, one-record-for-each-curve, records-short, faults-exactly, reading-determined}
use Rattle.round_trip.proofs.JobTrip.{job-reads-back, jobs-short, job-faults-exactly, job-reading-determined}
use Rattle.worked.proofs.WorkedLaws.{worked-hold}
use Rattle.job_text.proofs.TextLaws.{parts-are-the-text, written-is-text}
use Rattle.job_text.proofs.UniqueLaws.{one-text, broken-is-one-line}
use Rattle.svg_text.proofs.UniqueLaws.{some-svg-text, one-svg-text, broken-record-is-one-line, front-tells-text}
use Rattle.clear_is_clear.proofs.ClearLaws.{clear-is-clear, every-clamp-told, else-listed}
use Rattle.knots_exact.proofs.CompactionLaws.{compact-keeps-curve, editing-passes}
use Rattle.compact.proofs.OutcomeLaws as Compaction
use Rattle.promises.specs.Promises.{CheckGivesLowestRow, RefusalsAnswerFirst, ResultsHandedOver, CarryingPointsCarry, SpansListedExactly, InsertedEntryByEntry, InsertedThenRemoved, CompactionTakesWhatItCounts, JoinedCurveMeetsPoints, MeetingPointsDropOut, CurveDeterminesPolygon, ClampingKeepsCurve, ClampedCurvePasses, UnclampingKeepsCurve, UnclampedCurveClampsBack, CurvesCutAtKnots, PiecesAreTheCurve, PiecesCoverTheCurve, PathDataWritten, DrawingProgramHasOneText, ExportsDetermined, EveryParameterHasItsSpan, ComputedPointNearExact, CutsReported, CrossingsReported, InsertionKeepsCurve, RemovalKeepsCurve, RemovalDetermined, CompactionKeepsCurve, CompactionDetermined, EditedCurvePasses, JoinedCurvePasses, JoinedCurveIsHermite, RecordsGoRound, FaultIsLeftmost, PlacesToldWithFaults, ReadingIsExact, JobsReadBack, BurstsReadAsJoined, BurstsAreKept, ProgramWritesItsText, ClearMeansClear, WorkedCasesHold}

pub check-gives-lowest-row : CheckGivesLowestRow
check-gives-lowest-row = check-answers

pub every-parameter-has-its-span : EveryParameterHasItsSpan
every-parameter-has-its-span m ts xs ys p q passes inside =
    let n = Prim.Native.Nat.◌-◌ (length xs) 1 in
    let it = domain-span m ts xs ys (checked-of-passes m ts xs ys passes) p q inside in (
      it,
      λ i s.
          let holds = span-holds ts m n p q i s (in_domain-says ts m n p q inside).1 in
          (span-unique ts m n p q i (span_of ts m n p q) s it, holds.0, rw (add-one i) at holds.1),
    )

pub computed-point-near-exact : ComputedPointNearExact
computed-point-near-exact = point-near-exact

pub cuts-reported : CutsReported
cuts-reported = every-cut-reported

pub crossings-reported : CrossingsReported
crossings-reported = (no-width-is-the-point, every-crossing-reported)

pub insertion-keeps-curve : InsertionKeepsCurve
insertion-keeps-curve = insert-keeps-curve

pub removal-keeps-curve : RemovalKeepsCurve
removal-keeps-curve = remove-keeps-curve

pub joined-curve-passes : JoinedCurvePasses
joined-curve-passes = join-passes

pub joined-curve-is-hermite : JoinedCurveIsHermite
joined-curve-is-hermite = join-is-hermite

pub removal-determined : RemovalDetermined
removal-determined = Removal.removal-determined

pub records-go-round : RecordsGoRound
records-go-round = (written-reads-back, read-writes-back, one-record-for-each-curve, records-short)

pub reading-is-exact : ReadingIsExact
reading-is-exact = (faults-exactly, reading-determined, job-faults-exactly, job-reading-determined)

pub jobs-read-back : JobsReadBack
jobs-read-back = (job-reads-back, jobs-short)

pub worked-cases-hold : WorkedCasesHold
worked-cases-hold = worked-hold

pub program-writes-its-text : ProgramWritesItsText
program-writes-its-text = (parts-are-the-text, written-is-text, one-text, broken-is-one-line)

pub clear-means-clear : ClearMeansClear
clear-means-clear = (clear-is-clear, every-clamp-told, else-listed)

pub compaction-keeps-curve : CompactionKeepsCurve
compaction-keeps-curve = compact-keeps-curve

pub compaction-determined : CompactionDetermined
compaction-determined = Compaction.compact-determined

pub edited-curve-passes : EditedCurvePasses
edited-curve-passes = editing-passes

pub refusals-answer-first : RefusalsAnswerFirst
refusals-answer-first = (
  (eight-exactly, accepted-exactly, curve-judged-first),
  insertion-answers-first,
  removal-answers-first,
  compaction-answers-first,
  join-answers,
  list-answers,
  write-answers,
  read-answers,
  job-answers,
  burst-answers-first,
  svg-answers-first,
  clamp-answers-first,
  unclamp-answers-first,
)

pub results-handed-over : ResultsHandedOver
results-handed-over = (room-exactly, success-hands-over, refusal-hands-nothing)

pub carrying-points-carry : CarryingPointsCarry
carrying-points-carry = (
  carrying-entries,
  first-row-carries,
  (point-answered, refusal-answered),
  (part-of-asked-axis, refusal-hands-no-part),
  first-finds-carrying,
)

pub spans-listed-exactly : SpansListedExactly
spans-listed-exactly = (
  (listed-exactly, list-rises, knots-of-each-span, span-count-exactly),
  success-lists-spans,
  accepted-list-is-exact,
  refusal-lists-nothing,
)

pub inserted-entry-by-entry : InsertedEntryByEntry
inserted-entry-by-entry = inserted-by-index

pub inserted-then-removed : InsertedThenRemoved
inserted-then-removed = (inserted-is-removed, inserted-is-handed-back, removal-takes-one)

pub compaction-takes-what-it-counts : CompactionTakesWhatItCounts
compaction-takes-what-it-counts = (turn-ends, pass-leaves, compaction-counts)

pub joined-curve-meets-points : JoinedCurveMeetsPoints
joined-curve-meets-points = (join-meets-points, join-has-entries)

pub meeting-points-drop-out : MeetingPointsDropOut
meeting-points-drop-out = (meeting-inserted, both-are-one-curve)

pub fault-is-leftmost : FaultIsLeftmost
fault-is-leftmost = (records-told, jobs-told, job-fault-kept)

pub places-told-with-faults : PlacesToldWithFaults
places-told-with-faults = (record-place-told, job-place-told, feed-end-place-told)

pub exports-determined : ExportsDetermined
exports-determined = (Door.removal-determined, Door.compaction-determined, Door.record-determined, Door.job-determined, feed-end-determined)

pub bursts-read-as-joined : BurstsReadAsJoined
bursts-read-as-joined = (fed-reads-as-joined, fed-is-held, end-determined, fed-hands-back-as-joined)

pub bursts-are-kept : BurstsAreKept
bursts-are-kept = (burst-is-kept, short-list-kept, empty-burst-changes-nothing)

pub curve-determines-polygon : CurveDeterminesPolygon
curve-determines-polygon = (curve-fixes-carriers, curve-fixes-polygon)

pub clamping-keeps-curve : ClampingKeepsCurve
clamping-keeps-curve = (clamp-keeps-curve, clamp-exactly)

pub clamped-curve-passes : ClampedCurvePasses
clamped-curve-passes = (clamped-knots, clamped-passes, clamped-comes-back)

pub unclamping-keeps-curve : UnclampingKeepsCurve
unclamping-keeps-curve = (unclamp-keeps-curve, unclamp-exactly)

pub unclamped-curve-clamps-back : UnclampedCurveClampsBack
unclamped-curve-clamps-back = (unclamped-by-index, unclamped-clamps-back)

pub curves-cut-at-knots : CurvesCutAtKnots
curves-cut-at-knots = (cuts-counted, cut-passes, cut-keeps-curve, (cut-full, cut-sizes, cut-knots), cut-number-is)

pub pieces-are-the-curve : PiecesAreTheCurve
pieces-are-the-curve = drawn-is-curve

pub pieces-cover-the-curve : PiecesCoverTheCurve
pieces-cover-the-curve = ((piece-knots, spans-follow), (piece-points, piece-is-curve), pieces-meet, pieces-cover-domain)

pub path-data-written : PathDataWritten
path-data-written = (svg-is-path-data, (svg-within-most, svg-most-reached), success-writes-text, refusal-writes-nothing)

pub drawing-program-has-one-text : DrawingProgramHasOneText
drawing-program-has-one-text = (some-svg-text, one-svg-text, broken-record-is-one-line, front-tells-text)

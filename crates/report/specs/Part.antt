-- Part k of the text (heading "`clampcheck`"), from an answer and what was left in the lists: part 0 is the line on the curve or on the
-- refusal, part k from 1 on all lines on clamp k. Past the last clamp, and past a refusal's line, a part is empty.
use Rattle.std.specs.Prelude.{cond, List, [], Option, Some, None, Result, Ok, Err, ℕ, zero, suc, ◌+◌, leb, ℤ, length, take}
use Rattle.curve.specs.Lists.{Lists, lists}
use Rattle.curve.specs.HandingOver.{enough}
use Rattle.grid.specs.Limits.{job_most}
use Rattle.span_walk.specs.SpansMet.{span_count}
use Rattle.lines.specs.Lines.{curve_line, refused_line, broken_line}
use Rattle.clamp_lines.specs.Places.{text_most}
use Rattle.clamp_lines.specs.ClampPart.{where_checked, clamp_part}
use Rattle.refusal.specs.Answers.{number_of}
use Rattle.taken_field.specs.declared.Failure.{Failure}
use Rattle.taken_field.specs.declared.Failure.TheVariants.{Broken, Refused}
use Rattle.job.specs.declared.Job.{Job}
use Rattle.report.specs.declared.Fault.{Fault}

-- what is told of a reader's failure: its number, and the place where the bytes break
abbrev pub fault_of : Failure → Fault
fault_of (Broken broken) = record { number = number_of broken.refusal; place = Some broken.place }
fault_of (Refused refusal) = record { number = number_of refusal; place = None }

-- and of its answer
abbrev pub told : Result Job Failure → Result Job Fault
told (Ok job) = Ok job
told (Err failure) = Err (fault_of failure)

-- the line on a curve: degree, points, non-empty spans
abbrev pub curve_text : ℕ → Lists → List ℕ
curve_text m c = curve_line m (length c.xs) (span_count m c.knots (length c.xs))

-- part k of a refusal
unfoldable pub refused_part : ℕ → ℕ → List ℕ
refused_part number zero = refused_line number
refused_part number (suc k) = []

-- part k of bytes that are no job: their line tells the place too. No job breaks further on than the longest one is long; of such a place nothing is told
unfoldable pub broken_part : ℕ → ℕ → ℕ → List ℕ
broken_part number place zero = cond (leb place job_most) (broken_line number place) []
broken_part number place (suc k) = []

-- part k of a file with no curve to tell of: where a place is known its bytes break, and where none is they are refused
abbrev pub fault_part : ℕ → Option ℕ → ℕ → List ℕ
fault_part number (Some place) k = broken_part number place k
fault_part number None k = refused_part number k

-- part k of a curve with a cutter's radius and `count` clamps; in the text they are numbered from 1
unfoldable pub curve_part : ℕ → Lists → ℕ → ℕ → List ℤ → ℕ → List ℕ
curve_part m c radius count sides zero = curve_text m c
curve_part m c radius count sides (suc k) = clamp_part m c radius count sides k

-- the curve that was read: the fronts of the lists
abbrev pub curve_read : ℕ → ℕ → Lists → Lists
curve_read m points now = lists (take (points + m + 1) now.knots) (take points now.xs) (take points now.ys)

-- part k of a job that was read into lists with room for it
unfoldable pub job_part : ℕ → ℕ → ℕ → ℕ → Lists → List ℤ → ℕ → List ℕ
job_part m points radius count now sides k =
    cond (enough (points + m + 1) points points (length now.knots) (length now.xs) (length now.ys))
    (where_checked m (curve_read m points now) (curve_part m (curve_read m points now) radius count sides k))
    []

-- part k by an answer with any number
abbrev pub answer_part : Result Job Fault → Lists → List ℤ → ℕ → List ℕ
answer_part (Ok job) now sides k = job_part job.degree job.points job.radius job.clamps now sides k
answer_part (Err fault) now sides k = fault_part fault.number fault.place k

-- what a list with so many places receives of it: all, where it has places for the longest part, else nothing
abbrev pub part_put : Result Job Fault → Lists → List ℤ → ℕ → ℕ → List ℕ
part_put answer now sides k places = cond (leb text_most places) (answer_part answer now sides k) []

-- What the program is proved to write (heading "`clampcheck`"): it reads the bytes into its places, and part k that it puts is part k of their text.
use Rattle.std.specs.Prelude.{List, Result, ◌≡◌, ℕ, ◌+◌, ◌≤◌, ℤ, length}
use Rattle.curve.specs.Lists.{Lists}
use Rattle.grid.specs.Limits.{points_most, knots_most, clamps_most, sides_most}
use Rattle.lines.specs.Lines.{broken_line}
use Rattle.fault.specs.Fault.{Fault}
use Rattle.job.specs.JobFormat.{jobs}
use Rattle.job.specs.JobReading.{JobRead}
use Rattle.taken_field.specs.declared.Failure.{Failure}
use Rattle.job.specs.declared.Job.{Job}
use Rattle.clamp_lines.specs.Places.{text_most}
use Rattle.report.specs.Part.{told, part_put}
use Rattle.job_text.specs.Text.{PartOf, joined, TextOf}

-- lists with places for the longest job
pub record Places (lent : Lists) (sides : List ℤ) : Type 0 where
  pub on_knots : length lent.knots ≡ knots_most
  pub on_x : length lent.xs ≡ points_most
  pub on_y : length lent.ys ≡ points_most
  pub on_sides : length sides ≡ sides_most

-- the bytes were read into such lists, whatever these held: the reader's answer, and the lists afterwards
pub record ReadInPlaces (bytes : List ℕ) (answer : Result Job Failure) (now : Lists) (sides_now : List ℤ) : Type 0 where
  pub before : Lists
  pub sides_before : List ℤ
  pub places : Places before sides_before
  pub read : JobRead bytes before sides_before answer now sides_now

-- for any bytes, every part that is put into a list with places for the longest one is the part of their text
abbrev pub PartsAreTheText : Type 0
PartsAreTheText =
    (bytes : List ℕ) (answer : Result Job Failure) (now : Lists) (sides : List ℤ) (k places : ℕ)
    → ReadInPlaces bytes answer now sides → text_most ≤ places → PartOf bytes k (part_put (told answer) now sides k places)

-- so parts 0 to 64 in a row are the whole text
abbrev pub WrittenIsText : Type 0
WrittenIsText =
    (bytes : List ℕ) (answer : Result Job Failure) (now : Lists) (sides : List ℤ) (places : ℕ)
    → ReadInPlaces bytes answer now sides → text_most ≤ places → TextOf bytes (joined (λ k. part_put (told answer) now sides k places) (clamps_most + 1))

-- the text of bytes that are no job is one line, with the number and the place of their leftmost fault
abbrev pub BrokenIsOneLine : Type 0
BrokenIsOneLine =
    (bytes text : List ℕ) (number place : ℕ) → Fault jobs bytes number place → TextOf bytes text → text ≡ broken_line number place

-- bytes have one text, and one part k
abbrev pub OneText : Type 0
OneText =
    ((bytes : List ℕ) (k : ℕ) (a b : List ℕ) → PartOf bytes k a → PartOf bytes k b → a ≡ b)
    × ((bytes a b : List ℕ) → TextOf bytes a → TextOf bytes b → a ≡ b)

-- Where bytes that are no file of their kind first break (heading "Where bytes break"). It speaks of the files of a kind and of whole fields, with
-- no word of a reader.
use Rattle.std.specs.Prelude.{List, ◌++◌, ◌≡◌, ℕ, ◌+◌, ◌<◌, ◌≤◌, length, take}
use Rattle.refusal.specs.Numbers.{ended_refused, tag_refused, length_refused, left_over_refused}
use Rattle.fields.specs.Bytes.{each, field_bytes}

pub record FileKind : Type 1 where  -- a kind of file: which bytes are one, and which of these take no further field
  pub Is : List ℕ → Type 0
  pub Full : List ℕ → Type 0

abbrev pub Begins : FileKind → List ℕ → Type 0  -- bytes that can be completed to a file of the kind
Begins kind front = (rest : List ℕ) × kind.Is (front ++ rest)

pub record Field : Type 0 where  -- a field of any tag, its contents no longer than two bytes of length can tell
  pub tag : ℕ
  pub contents : List ℕ
  pub short : length contents < 65536

abbrev pub bytes_of : Field → List ℕ
bytes_of field = field_bytes field.tag field.contents

pub record WholeFields (front : List ℕ) : Type 0 where  -- some fields, none cut off, and nothing else
  pub fields : List Field
  pub same : front ≡ each bytes_of fields

-- behind whole fields, `at` bytes of them: the first `near` bytes begin some file of the kind, and the first `far` bytes begin none
pub record Stops (kind : FileKind) (bytes : List ℕ) (at near far : ℕ) : Type 0 where
  pub fields : WholeFields (take at bytes)
  pub begins : Begins kind (take near bytes)
  pub never : Begins kind (take far bytes) → ⊥
  pub inside : far ≤ length bytes

-- the leftmost fault: its number and its place
pub data Fault (kind : FileKind) (bytes : List ℕ) : ℕ → ℕ → Type 0 where
  -- 16: the bytes are no file yet, and could become one. The place is their number
  ends_early : (kind.Is bytes → ⊥) → Begins kind bytes → Fault kind bytes ended_refused (length bytes)
  -- 16 too where they end between the two bytes of a length and the first of these begins no right one
  ends_in_length : (at : ℕ) → Stops kind bytes at (at + 1) (at + 2) → length bytes ≡ at + 2 → Fault kind bytes ended_refused (length bytes)
  -- 19: a byte where a field would begin, and none can begin with it. The place is its own
  wrong_tag : (at : ℕ) → Stops kind bytes at at (at + 1) → (kind.Full (take at bytes) → ⊥) → Fault kind bytes tag_refused at
  -- 20: a length that no field can have here, its tag being right. The place is that of the length's first byte
  wrong_length : (at : ℕ) → Stops kind bytes at (at + 1) (at + 3) → Fault kind bytes length_refused (at + 1)
  -- 21: a byte behind a file that takes no further field
  left_over : (at : ℕ) → Stops kind bytes at at (at + 1) → kind.Full (take at bytes) → Fault kind bytes left_over_refused at

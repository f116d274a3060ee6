-- Files whose first field has a given tag and a length that passes a test, and then go on as files of another kind.
use mathlib.Core.Bool.{Bool, true, ◌&&◌}
use mathlib.Core.Path.{◌≡◌, ap}
use mathlib.Core.List.{List, [], ◌∷◌, ◌++◌}
use Prim.Native.Nat.{ℕ, zero, suc, ◌+◌, ◌*◌, ◌/◌, ◌%◌, ◌<◌, ◌≤◌}
use native.Mathlib.Omega.{arith}
use lib.Dec.{ltb}
use lib.ListN.{length, get_or, length-append}
use borrow.Author.Tests.{ltb-true}
use Rattle.refusal.proofs.JudgingLaws.{both}
use Rattle.fields.specs.Bytes.{each, field_bytes, Octets}
use Rattle.fault.specs.Fault.{FileKind}

-- a field, and behind it bytes of which something holds
pub record FieldThen (tag : ℕ) (ok : ℕ → Bool) (Next : List ℕ → Type 0) (bytes : List ℕ) : Type 0 where
  pub contents : List ℕ
  pub rest : List ℕ
  pub same : bytes ≡ field_bytes tag contents ++ rest
  pub short : length contents < 65536
  pub right : ok (length contents) ≡ true
  pub octets : Octets contents
  pub next : Next rest

-- a kind whose files, but perhaps for the empty one, are such a field and then a file of the next kind
pub record FirstField (tag : ℕ) (ok : ℕ → Bool) (kind next : FileKind) : Type 0 where
  pub into : (b : ℕ) (bs : List ℕ) → kind.Is (b ∷ bs) → FieldThen tag ok next.Is (b ∷ bs)
  pub from : (bytes : List ℕ) → FieldThen tag ok next.Is bytes → kind.Is bytes
  pub full_into : (bytes : List ℕ) → kind.Full bytes → FieldThen tag ok next.Full bytes
  pub full_from : (bytes : List ℕ) → FieldThen tag ok next.Full bytes → kind.Full bytes
  pub file : List ℕ
  pub is_file : next.Is file
  pub size : ℕ
  pub short : size < 65536
  pub right : ok size ≡ true

module _ {tag : ℕ} {ok : ℕ → Bool} {Next : List ℕ → Type 0} where
  -- a field has three bytes at least
  pub then-long : (bytes : List ℕ) (f : FieldThen tag ok Next bytes) → 3 + length f.contents ≤ length bytes
  then-long bytes f = omega (arith, ap length f.same, length-append (field_bytes tag f.contents) f.rest)

  -- its first byte is the tag
  pub then-tag : (t : ℕ) (bytes : List ℕ) → FieldThen tag ok Next (t ∷ bytes) → t ≡ tag
  then-tag t bytes f = ap (λ (l : List ℕ). get_or l 0 0) f.same

  -- the next two are the length of its contents
  pub then-low : (t low : ℕ) (bytes : List ℕ) (f : FieldThen tag ok Next (t ∷ low ∷ bytes)) → low ≡ length f.contents % 256
  then-low t low bytes f = ap (λ (l : List ℕ). get_or l 1 0) f.same

  pub then-length : (t low high : ℕ) (bytes : List ℕ) (f : FieldThen tag ok Next (t ∷ low ∷ high ∷ bytes)) → low + 256 * high ≡ length f.contents
  then-length t low high bytes f =
      let is_low : low ≡ length f.contents % 256 = then-low t low (high ∷ bytes) f in
      let is_high : high ≡ length f.contents / 256 % 256 = ap (λ (l : List ℕ). get_or l 2 0) f.same in
      let short : length f.contents < 65536 = f.short in
      omega arith

-- bytes behind bytes
pub octets-append : (a b : List ℕ) → Octets a → Octets b → Octets (a ++ b)
octets-append [] b ha hb i = hb i
octets-append (x ∷ a) b ha hb zero = ha 0
octets-append (x ∷ a) b ha hb (suc i) = octets-append a b (λ i. ha (suc i)) hb i

-- the bytes of each entry, in a row
pub octets-each : {A : Type 0} (bytes_of : A → List ℕ) → ((x : A) → Octets (bytes_of x)) → (xs : List A) → Octets (each bytes_of xs)
octets-each bytes_of h [] i = omega arith
octets-each bytes_of h (x ∷ xs) i = octets-append (bytes_of x) (each bytes_of xs) (h x) (octets-each bytes_of h xs) i

-- bytes of a closed case, by a test that computes
abbrev pub all_bytes : List ℕ → Bool
all_bytes [] = true
all_bytes (b ∷ bytes) = ltb b 256 && all_bytes bytes

pub octets-by : (bytes : List ℕ) → all_bytes bytes ≡ true → Octets bytes
octets-by [] h i = omega arith
octets-by (b ∷ bytes) h zero = ltb-true b 256 (both (ltb b 256) (all_bytes bytes) h).0
octets-by (b ∷ bytes) h (suc i) = octets-by bytes (both (ltb b 256) (all_bytes bytes) h).1 i

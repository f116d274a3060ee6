-- No fault lies further on than the longest file is long; so the front of longer bytes has the fault of them all.
use mathlib.Core.Path.{◌≡◌, sym, ◌∙◌, subst}
use mathlib.Core.List.{List, [], ◌∷◌, ◌++◌, append-nil}
use Prim.Native.Nat.{ℕ, ◌+◌, ◌<◌, ◌≤◌}
use native.Mathlib.Omega.{arith}
use lib.ListN.{length, take, length-append}
use lib.Seq.{take-take, take-length, take-append-le, length-take-le}
use Rattle.fault.specs.Fault.{FileKind, Begins, WholeFields, Stops, Fault, ends_early, ends_in_length, wrong_tag, wrong_length, left_over}
use Rattle.fault.proofs.OneFaultLaws.{fields-apart}

module _ (kind : FileKind) (most : ℕ) (short : (file : List ℕ) → kind.Is file → length file ≤ most) (fields_of : (file : List ℕ) → kind.Is file → WholeFields file) (bytes : List ℕ) where
  begins-most : (i : ℕ) → i ≤ length bytes → Begins kind (take i bytes) → i ≤ most
  begins-most i inside (rest, is) = omega (arith, short (take i bytes ++ rest) is, length-append (take i bytes) rest, length-take-le i bytes inside)

  -- a file that begins with whole fields and a tag has two bytes more at least
  pub in-length-most : (at : ℕ) → at + 2 ≤ length bytes → Stops kind bytes at (at + 1) (at + 2) → at + 3 ≤ most
  in-length-most at inside stops =
      let rest : List ℕ = stops.begins.0 in
      let file : List ℕ = take (at + 1) bytes ++ rest in
      let long : length (take (at + 1) bytes) ≡ at + 1 = length-take-le (at + 1) bytes (omega arith) in
      let all : length file ≡ length (take (at + 1) bytes) + length rest = length-append (take (at + 1) bytes) rest in
      let front : take at file ≡ take at bytes = take-append-le at (take (at + 1) bytes) rest (omega arith) ∙ take-take at (at + 1) bytes (omega arith) in
      let apart : at + 3 ≤ length file =
      fields-apart kind file at (length file) (omega arith) (omega arith) (subst WholeFields (sym front) stops.fields)
      (subst WholeFields (sym (take-length file)) (fields_of file stops.begins.1)) in
      omega (arith, short file stops.begins.1)

  pub fault-most : {n p : ℕ} → Fault kind bytes n p → p ≤ most
  fault-most (ends_early none begins) = omega (arith, short (bytes ++ begins.0) begins.1, length-append bytes begins.0)
  fault-most (ends_in_length at stops e) = omega (arith, in-length-most at (omega arith) stops)
  fault-most (wrong_tag at stops more) = begins-most at (omega (arith, stops.inside)) stops.begins
  fault-most (wrong_length at stops) = begins-most (at + 1) (omega (arith, stops.inside)) stops.begins
  fault-most (left_over at stops full) = begins-most at (omega (arith, stops.inside)) stops.begins

-- bytes no shorter than the longest file: a front of them that is no shorter either, and has a fault, has theirs
module _ (kind : FileKind) (most : ℕ) (short : (file : List ℕ) → kind.Is file → length file ≤ most) (fields_of : (file : List ℕ) → kind.Is file → WholeFields file)
    (bytes : List ℕ) (kept : ℕ) (more : most ≤ kept) (enough : kept ≤ length bytes) where
  long : length (take kept bytes) ≡ kept
  long = length-take-le kept bytes enough

  stops-kept : {at near far : ℕ} → at ≤ far → near ≤ far → Stops kind (take kept bytes) at near far → Stops kind bytes at near far
  stops-kept {at} {near} {far} h k stops =
      let cut : (i : ℕ) → i ≤ far → take i (take kept bytes) ≡ take i bytes = λ i l. take-take i kept bytes (omega (arith, stops.inside, long)) in
      record {
        fields = subst WholeFields (cut at h) stops.fields;
        begins = subst (Begins kind) (cut near k) stops.begins;
        never = λ begins. stops.never (subst (Begins kind) (sym (cut far (omega arith))) begins);
        inside = omega (arith, stops.inside, long);
      }

  full-kept : {at : ℕ} → at < kept → take at (take kept bytes) ≡ take at bytes
  full-kept {at} h = take-take at kept bytes (omega arith)

  -- what such a front begins is the front itself
  whole : (rest : List ℕ) → kind.Is (take kept bytes ++ rest) → kind.Is (take kept bytes)
  whole [] is = subst kind.Is (append-nil (take kept bytes)) is
  whole (b ∷ rest) is = absurd (omega (arith, short (take kept bytes ++ b ∷ rest) is, length-append (take kept bytes) (b ∷ rest), long))

  pub fault-kept : {n p : ℕ} → Fault kind (take kept bytes) n p → Fault kind bytes n p
  fault-kept (ends_early none (rest, is)) = absurd (none (whole rest is))
  fault-kept (ends_in_length at stops e) =
      absurd (omega (arith, in-length-most kind most short fields_of (take kept bytes) at (omega arith) stops, long))
  fault-kept (wrong_tag at stops others) =
      wrong_tag at (stops-kept (omega arith) (omega arith) stops) (λ full. others (subst kind.Full (sym (full-kept {at = at} (omega (arith, stops.inside, long)))) full))
  fault-kept (wrong_length at stops) = wrong_length at (stops-kept (omega arith) (omega arith) stops)
  fault-kept (left_over at stops full) =
      left_over at (stops-kept (omega arith) (omega arith) stops) (subst kind.Full (full-kept {at = at} (omega (arith, stops.inside, long))) full)

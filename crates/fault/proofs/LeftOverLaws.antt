-- A byte behind a file that takes no further field is left over; and what the rows of a fault say.
use mathlib.Core.Bool.{false}
use mathlib.Core.Path.{◌≡◌, refl, sym, ap, ◌∙◌, subst}
use mathlib.Core.List.{List, [], ◌∷◌, ◌++◌, append-nil, append_assoc}
use Prim.Native.Nat.{ℕ, ◌+◌, ◌<◌}
use native.Mathlib.Numerals.{add-one}
use native.Mathlib.Omega.{arith}
use lib.Dec.{eqb}
use lib.ListN.{length, get_or, take}
use lib.Seq.{take-suc}
use borrow.Author.Tests.{eqb-false}
use Rattle.refusal.specs.Numbers.{left_over_refused}
use Rattle.refusal.specs.Chain.{Row}
use Rattle.refusal.proofs.ChainLaws.{Judges, refuses, passes}
use Rattle.fault.specs.Fault.{FileKind, Begins, WholeFields, Fault, ends_early, ends_in_length, wrong_tag, wrong_length, left_over}
use Rattle.fault.specs.Sentences.{HasFault, fault_rows}
use Rattle.fault.proofs.OneFaultLaws.{one-fault, file-no-fault}

pub left-over-there : (kind : FileKind) (bytes : List ℕ) (at : ℕ) → at < length bytes → kind.Full (take at bytes) → kind.Is (take at bytes) → WholeFields (take at bytes)
    → ((b : ℕ) (rest : List ℕ) → kind.Is (take at bytes ++ b ∷ rest) → ⊥) → Fault kind bytes left_over_refused at
left-over-there kind bytes at inside full is fields never =
    left_over at
    (record {
      fields = fields;
      begins = ([], subst kind.Is (sym (append-nil (take at bytes))) is);
      never = further;
      inside = omega arith;
    })
    full
  where
    further : Begins kind (take (at + 1) bytes) → ⊥
    further (rest, longer) =
        let byte : ℕ = get_or bytes at 0 in
        let one : take (at + 1) bytes ≡ take at bytes ++ (byte ∷ []) = rw (add-one at) (take-suc bytes at 0 inside) in
        never byte rest (subst kind.Is (ap (λ (l : List ℕ). l ++ rest) one ∙ append_assoc (take at bytes) (byte ∷ []) rest) longer)

module _ (kind : FileKind) (bytes : List ℕ) where
  -- another number than that of the fault
  other : {n p : ℕ} (k : ℕ) → Fault kind bytes n p → eqb n k ≡ false → HasFault kind bytes k → ⊥
  other {n} k fault differ (place, found) = eqb-false n k differ (one-fault kind bytes fault found).0

  pub fault-judged : {n p : ℕ} (rows : List Row) → Fault kind bytes n p → Judges n (fault_rows kind bytes rows)
  fault-judged rows (ends_early none begins) = let has : HasFault kind bytes 16 = (length bytes, ends_early none begins) in refuses has
  fault-judged rows (ends_in_length at stops e) = let has : HasFault kind bytes 16 = (length bytes, ends_in_length at stops e) in refuses has
  fault-judged rows (wrong_tag at stops more) =
      let has : HasFault kind bytes 19 = (at, wrong_tag at stops more) in
      passes (other 16 has.1 refl) (refuses has)
  fault-judged rows (wrong_length at stops) =
      let has : HasFault kind bytes 20 = (at + 1, wrong_length at stops) in
      passes (other 16 has.1 refl) (passes (other 19 has.1 refl) (refuses has))
  fault-judged rows (left_over at stops full) =
      let has : HasFault kind bytes 21 = (at, left_over at stops full) in
      passes (other 16 has.1 refl) (passes (other 19 has.1 refl) (passes (other 20 has.1 refl) (refuses has)))

  -- a file has none of them
  pub file-judged : {n : ℕ} {rows : List Row} → kind.Is bytes → Judges n rows → Judges n (fault_rows kind bytes rows)
  file-judged is rest =
      let none : (k : ℕ) → HasFault kind bytes k → ⊥ = λ k found. file-no-fault kind bytes found.1 is in
      passes (none 16) (passes (none 19) (passes (none 20) (passes (none 21) rest)))

-- The definitions of keeping and counting say what their sentences say, entry by entry and count by count.
use mathlib.Core.List.{List, [], ◌++◌}
use mathlib.Core.Logic.{◌⊎◌, inl, inr}
use mathlib.Core.Path.{◌≡◌, ◌∙◌}
use Prim.Native.Nat.{ℕ, ◌+◌, ◌<◌, ◌≤◌, min}
use native.Mathlib.Decide.{dec_le}
use native.Mathlib.Omega.{arith}
use lib.ListN.{length, get_or, take, length-take, length-append, get_or-append}
use lib.Seq.{get_or-take, get_or-append-add, ext_get_or}
use Rattle.lent.specs.Lent.{over}
use Rattle.lent.specs.Sentences.{ResultThenRest}
use Rattle.lent.proofs.SentenceLaws.{over-holds}
use Rattle.keeping.specs.Kept.{kept_with, received_with}
use Rattle.keeping.specs.Sentences.{BurstKept}
use Rattle.keeping.proofs.KeptLaws.{kept-room}

module _ (received : ℕ) (burst work : List ℕ) where
  abbrev kept : List ℕ
  kept = kept_with received burst work

  holds : ResultThenRest kept work (over kept work)
  holds = over-holds kept work (kept-room received burst work)

  -- how many bytes are kept, and which
  kept-many : length kept ≡ min (length work) (min received (length work) + length burst)
  unfolding kept_with
  kept-many = rw (length-take (length work) (take received work ++ burst), length-append (take received work) burst, length-take received work)

  kept_entry : (k d : ℕ) → k < length work → get_or kept k d ≡ get_or (take received work ++ burst) k d
  unfolding kept_with
  kept_entry k d inside = get_or-take (length work) (take received work ++ burst) k d inside

  front-stays : (k d : ℕ) → k < received → get_or (over kept work) k d ≡ get_or work k d
  front-stays k d before = by (dec_le (length work) k)
    where
      by : Dec (length work ≤ k) → get_or (over kept work) k d ≡ get_or work k d
      by (yes outside) = holds.others k d (omega (arith, kept-room received burst work))
      by (no inside) =
          holds.first k d (omega (arith, kept-many)) ∙ kept_entry k d (omega arith)
          ∙ get_or-append (take received work) burst d k (rw (length-take received work) (omega arith))
          ∙ get_or-take received work k d before

  behind : (k d : ℕ) → k < length burst → received + k < length work → get_or (over kept work) (received + k) d ≡ get_or burst k d
  behind k d inside place =
      let front : length (take received work) ≡ received = length-take received work ∙ omega arith in
      holds.first (received + k) d (omega (arith, kept-many)) ∙ kept_entry (received + k) d place ∙ (rw front at (get_or-append-add (take received work) burst k d))

  pub burst-kept : BurstKept received burst work (received_with received burst work) (over kept work)
  unfolding received_with
  burst-kept =
      record {
        places = holds.places;
        front = front-stays;
        burst-behind = behind;
        rest = λ k d after. holds.others k d (omega (arith, kept-many));
        exact = λ fits. omega arith;
        above = λ more. omega arith;
        stops = by (dec_le received (length work + 1));
      }
    where
      by : Dec (received ≤ length work + 1) → (received_with received burst work ≤ length work + 1) ⊎ (received_with received burst work ≡ received)
      by (yes inside) = inl (omega arith)
      by (no past) = inr (omega arith)

-- nothing comes
module _ (received : ℕ) (work : List ℕ) where
  pub none-counted : received_with received [] work ≡ received
  unfolding received_with
  none-counted = omega arith

  pub none_kept : over (kept_with received [] work) work ≡ work
  none_kept = ext_get_or 0 (over (kept_with received [] work) work) work (burst-kept received [] work).places (λ k inside. by k (dec_le received k))
    where
      by : (k : ℕ) → Dec (received ≤ k) → get_or (over (kept_with received [] work) work) k 0 ≡ get_or work k 0
      by k (yes after) = (burst-kept received [] work).rest k 0 (omega arith)
      by k (no before) = (burst-kept received [] work).front k 0 (omega arith)

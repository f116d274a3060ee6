-- A burst that is kept, over all entries of the list, and how it is counted (heading "Jobs in bursts").
use Rattle.std.specs.Prelude.{List, ◌⊎◌, ◌≡◌, ℕ, ◌+◌, ◌<◌, ◌≤◌, length, get_or}

-- after a burst that was taken: no place of the work list more or fewer; from the bytes received on, the burst's, as far as there are places; all
-- others as before. The count is exact while the bytes fit, else above the list's places; there it stops
pub record BurstKept (received : ℕ) (burst work : List ℕ) (counted : ℕ) (now : List ℕ) : Type 0 where
  pub places : length now ≡ length work
  pub front : (k d : ℕ) → k < received → get_or now k d ≡ get_or work k d
  pub burst-behind : (k d : ℕ) → k < length burst → received + k < length work → get_or now (received + k) d ≡ get_or burst k d
  pub rest : (k d : ℕ) → received + length burst ≤ k → get_or now k d ≡ get_or work k d
  pub exact : received + length burst ≤ length work → counted ≡ received + length burst
  pub above : length work < received + length burst → length work < counted
  pub stops : (counted ≤ length work + 1) ⊎ (counted ≡ received)

-- What a work list keeps of a burst, and how the bytes received are counted (heading "Jobs in bursts").
use Rattle.std.specs.Prelude.{List, ◌++◌, ℕ, ◌+◌, ◌-◌, min, length, take}

-- the bytes kept: those received, and the burst behind them, as many as the list has places
unfoldable pub kept_with : ℕ → List ℕ → List ℕ → List ℕ
kept_with received burst work = take (length work) (take received work ++ burst)

-- the number of bytes received, the burst's among them; one past the places of the list it stops
unfoldable pub received_with : ℕ → List ℕ → List ℕ → ℕ
received_with received burst work = received + min (length burst) (length work + 1 - received)

-- A burst kept in the work list, and counted: what the code does in its parts is what the definitions say.
use mathlib.Core.List.{List, [], ◌++◌, append-nil}
use mathlib.Core.Path.{◌≡◌, sym, ap, ◌∙◌}
use Prim.Native.Nat.{ℕ, ◌+◌, ◌-◌, ◌<◌, ◌≤◌}
use native.Mathlib.Omega.{arith}
use lib.ListN.{length, take, drop, length-drop, length-take, drop_of_length-le}
use lib.Seq.{take_all, take-append_seam, take-append-add, length-take-le}
use Rattle.lent.specs.Lent.{over}
use Rattle.lent.proofs.ListLaws.{take_rest}
use Rattle.lent.proofs.OverLaws.{over-whole, over-append, over-length}
use Rattle.keeping.specs.Kept.{kept_with, received_with}

module _ (received : ℕ) (burst work : List ℕ) where
  -- a list has room for what it keeps
  pub kept-room : length (kept_with received burst work) ≤ length work
  unfolding kept_with
  kept-room = rw (length-take (length work) (take received work ++ burst)) (omega arith)

  pub kept-length : length (over (kept_with received burst work) work) ≡ length work
  kept-length = over-length (kept_with received burst work) work kept-room

  -- more was received than the list has places: it stays as it is
  pub kept_full : length work < received → work ≡ over (kept_with received burst work) work
  unfolding kept_with
  kept_full full =
      let all : kept_with received burst work ≡ work =
      ap (λ (l : List ℕ). take (length work) (l ++ burst)) (take_all received work (omega arith)) ∙ take-append_seam work burst in
      sym (ap (λ (l : List ℕ). over l work) all ∙ over-whole work work (omega arith))

  -- else the burst goes behind the bytes received
  pub kept-parts : received ≤ length work → kept_with received burst work ≡ take received work ++ take (length work - received) burst
  unfolding kept_with
  kept-parts inside =
      let front : length (take received work) ≡ received = length-take-le received work inside in
      let places : length (take received work) + (length work - received) ≡ length work = omega arith in
      rw places at (take-append-add (take received work) burst (length work - received))

  pub kept-behind : received ≤ length work → (last : List ℕ)
      → last ≡ over (take (length (take (length work - received) (drop received work))) burst) (take (length work - received) (drop received work))
      → take received work ++ (last ++ drop (length work - received) (drop received work)) ≡ over (kept_with received burst work) work
  kept-behind inside last copied =
      let short : length (drop received work) ≤ length work - received = rw (length-drop received work) (omega arith) in
      let none : drop (length work - received) (drop received work) ≡ [] = drop_of_length-le (drop received work) short in
      let given : last ≡ over (take (length work - received) burst) (drop received work) = copied ∙ rw (take_rest received work, length-drop received work) in
      rw (none, given, append-nil (over (take (length work - received) burst) (drop received work)), kept-parts inside)
      (sym (over-append (take received work) (take (length work - received) burst) work
      ∙ ap (λ (n : ℕ). take received work ++ over (take (length work - received) burst) (drop n work)) (length-take-le received work inside)))

  -- the count
  pub counted-full : length work < received → received ≡ received_with received burst work
  unfolding received_with
  counted-full full = omega arith

  pub counted-over : received ≤ length work → length work - received < length burst → length work + 1 ≡ received_with received burst work
  unfolding received_with
  counted-over inside more = omega arith

  pub counted-all : received ≤ length work → length burst ≤ length work - received → received + length burst ≡ received_with received burst work
  unfolding received_with
  counted-all inside fits = omega arith

-- what the code does in its parts
pub ruleset kept_and_counted = (kept_full, kept-behind, counted-full, counted-over, counted-all)

-- Parts of a list, as the program's parts of a slice are read.
use mathlib.Core.List.{List}
use mathlib.Core.Path.{◌≡◌}
use Prim.Native.Nat.{ℕ, ◌-◌}
use native.Mathlib.Nat.{le_refl}
use lib.ListN.{length, take, drop, length-drop}
use lib.Seq.{take_all}

-- the part from s on, `&l[s..]`, is the rest
pub take_rest : {A : Type 0} (s : ℕ) (l : List A) → take (length l - s) (drop s l) ≡ drop s l
take_rest s l = take_all (length l - s) (drop s l) (rw (length-drop s l) (le_refl (length l - s)))

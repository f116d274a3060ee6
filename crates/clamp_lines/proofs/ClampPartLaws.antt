-- Where the lines on a clamp are written and where nothing is.
use mathlib.Core.Bool.{true, false}
use mathlib.Core.List.{List, []}
use mathlib.Core.Path.{◌≡◌}
use Prim.Native.Nat.{ℕ, suc}
use lib.IntN.{ℤ}
use Rattle.curve.specs.Lists.{Lists}
use Rattle.digits.specs.Put.{Put}
use Rattle.digits.proofs.PutLaws.{put-none}
use Rattle.clamp_lines.specs.ClampPart.{where_sound, clamp_at, clamp_lines, standing, clamp_part}

-- an empty part
pub put-nothing : {part : List ℕ} (before : List ℕ) (at : ℕ) → part ≡ [] → Put before at part before at
put-nothing before at e = rw e (put-none before at)

module _ (m : ℕ) (c : Lists) (radius count : ℕ) (sides : List ℤ) (k : ℕ) where
  pub no-clamp : standing count sides k ≡ false → clamp_part m c radius count sides k ≡ []
  unfolding clamp_part
  no-clamp e = rw e

  -- a clamp that is there
  pub clamp-there : standing count sides k ≡ true → clamp_part m c radius count sides k ≡ where_sound radius (clamp_at sides k) (clamp_lines m c radius (suc k) (clamp_at sides k))
  unfolding clamp_part
  clamp-there e = rw e

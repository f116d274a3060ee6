-- A lent list that receives one number of each listed span, and one span more.
use mathlib.Core.List.{List, [], ◌∷◌, ◌++◌, map, map-append}
use mathlib.Core.Path.{◌≡◌, refl, sym, ◌∙◌, ap}
use Prim.Native.Nat.{ℕ, ◌<◌}
use lib.ListN.{length, set, length-map, length-set}
use Rattle.lent.specs.Lent.{over}
use Rattle.lent.proofs.OverLaws.{over-more}

-- the list holds f of each span so far, and the rest is as before
pub record Written (f : ℕ → ℕ) (spans before now : List ℕ) : Type 0 where
  pub holds : now ≡ over (map f spans) before
  pub long : length now ≡ length before

pub written_none : (f : ℕ → ℕ) (before : List ℕ) → Written f [] before before
written_none f before = record { holds = refl; long = refl }

-- span i is listed next, at the place behind the others
pub written_next : {f : ℕ → ℕ} {spans before now : List ℕ} → Written f spans before now → (i at : ℕ) (later : List ℕ)
    → later ≡ set now at (f i) → at ≡ length spans → at < length before → Written f (spans ++ (i ∷ [])) before later
written_next {f} {spans} {before} {now} w i at later e n room =
    record {
      holds =
          e
          ∙ rw (map-append f spans (i ∷ []), w.holds) (over-more (map f spans) before (f i) 0 at (length-map spans f ∙ sym n) room);
      long = ap length e ∙ length-set now at (f i) ∙ w.long;
    }

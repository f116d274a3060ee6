-- A list given entry by entry: its length, and the entry at a place.
use mathlib.Core.Path.{◌≡◌, refl, ◌∙◌}
use mathlib.Core.List.{[], ◌∷◌}
use Prim.Native.Nat.{ℕ, zero, suc, ◌<◌}
use native.Mathlib.Numerals.{add-one}
use native.Mathlib.Omega.{arith}
use lib.ListN.{length, get_or, length-append, get_or-append}
use lib.Seq.{get_or_at}
use Rattle.insertion.specs.Insertion.{entries}
use Rattle.insertion.proofs.OrderLaws.{either}

pub entries-length : {A : Type 0} (f : ℕ → A) (count : ℕ) → length (entries f count) ≡ count
unfolding entries
entries-length f zero = refl
entries-length f (suc count) = rw (length-append, entries-length f count) (add-one count)

pub entries_at : {A : Type 0} (f : ℕ → A) (count j : ℕ) (d : A) → j < count → get_or (entries f count) j d ≡ f j
unfolding entries
entries_at f zero j d h = absurd (omega arith)
entries_at f (suc count) j d h =
    either j count
    (λ below. get_or-append (entries f count) (f count ∷ []) d j (rw (entries-length f count) below) ∙ entries_at f count j d below)
    (λ above.
    let last : j ≡ count = omega arith in
    rw last (get_or_at (entries f count) (f count) [] d count (entries-length f count)))

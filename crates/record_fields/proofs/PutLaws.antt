-- Parts put one behind the other: a head and its contents are a field, and four fields are a record.
use mathlib.Core.Path.{◌≡◌, refl, sym, ap, ◌∙◌}
use mathlib.Core.List.{List, ◌++◌, append_assoc}
use Prim.Native.Nat.{ℕ, ◌+◌, ◌≤◌}
use native.Mathlib.Omega.{arith}
use lib.ListN.{length, length-append}
use Rattle.grid.specs.Limits.{head_bytes}
use Rattle.fields.specs.Bytes.{field_head, field_bytes}
use Rattle.fields.specs.Places.{put_at}
use Rattle.fields.proofs.PlaceLaws.{put_at-join}

-- a part put behind another
pub put-behind : (before now next : List ℕ) (at place : ℕ) (a b : List ℕ) → place ≡ at + length a → at + length a + length b ≤ length before
    → now ≡ put_at before at a → next ≡ put_at now place b → next ≡ put_at before at (a ++ b)
put-behind before now next at place a b p room e f =
    f
    ∙ ap (λ (l : List ℕ). put_at l place b) e
    ∙ ap (λ (k : ℕ). put_at (put_at before at a) k b) p
    ∙ put_at-join before at a b room

-- contents put behind their head
pub put-field : (before now next : List ℕ) (at tag len : ℕ) (contents : List ℕ) → length contents ≡ len → at + head_bytes + len ≤ length before
    → now ≡ put_at before at (field_head tag len) → next ≡ put_at now (at + head_bytes) contents → next ≡ put_at before at (field_bytes tag contents)
put-field before now next at tag len contents n room e f =
    put-behind before now next at (at + head_bytes) (field_head tag len) contents refl (omega arith) e f
    ∙ ap (λ (k : ℕ). put_at before at (field_head tag k ++ contents)) (sym n)

-- four parts put one behind the other from the front on
pub put_four : (before one two three four : List ℕ) (a b c d : List ℕ) (on_b on_c on_d : ℕ)
    → on_b ≡ length a → on_c ≡ on_b + length b → on_d ≡ on_c + length c → on_d + length d ≤ length before
    → one ≡ put_at before 0 a → two ≡ put_at one on_b b → three ≡ put_at two on_c c → four ≡ put_at three on_d d
    → four ≡ put_at before 0 (a ++ (b ++ (c ++ d)))
put_four before one two three four a b c d on_b on_c on_d pb pc pd room e f g h =
    let ab : length (a ++ b) ≡ length a + length b = length-append a b in
    let abc : length (a ++ b ++ c) ≡ length (a ++ b) + length c = length-append (a ++ b) c in
    let second : two ≡ put_at before 0 (a ++ b) = put-behind before one two 0 on_b a b (omega arith) (omega arith) e f in
    let third : three ≡ put_at before 0 (a ++ b ++ c) = put-behind before two three 0 on_c (a ++ b) c (omega arith) (omega arith) second g in
    let fourth : four ≡ put_at before 0 (a ++ b ++ c ++ d) = put-behind before three four 0 on_d (a ++ b ++ c) d (omega arith) (omega arith) third h in
    let grouped : a ++ b ++ c ++ d ≡ a ++ (b ++ (c ++ d)) = simp append_assoc in
    fourth ∙ ap (put_at before 0) grouped

-- Two lists of knots are equal where each is.
use mathlib.Core.List.{List}
use mathlib.Core.Path.{◌≡◌}
use Prim.Native.Nat.{ℕ}
use Rattle.span_walk.specs.SpanLists.{span_lists}

pub span-lists-same : {lows us highs ws : List ℕ} → lows ≡ us → highs ≡ ws → span_lists lows highs ≡ span_lists us ws
span-lists-same {lows} {us} {highs} {ws} a b = rw (a, b)

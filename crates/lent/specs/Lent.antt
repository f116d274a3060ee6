-- What a lent result list holds after a call (heading "Numbers of refusal"): on success its first entries are the result
-- and the rest is as before; on a refusal nothing has changed.
use Rattle.std.specs.Prelude.{cond, List, ◌++◌, ℕ, eqb, length, drop}

abbrev pub over : {A : Type 0} → List A → List A → List A  -- the result at the front, the rest as before
over result before = result ++ drop (length result) before

-- a call's list at the end: the result over it where the refusal number is 0, else as it was found
abbrev pub after : {A : Type 0} → ℕ → List A → List A → List A
after number result before = cond (eqb number 0) (over result before) before

-- What an answer says to its reader: a value, or a refusal by its number and the values that it carries.
use Rattle.std.specs.Prelude.{ℕ, None, Ok, Err, Result}
use Rattle.told.specs.declared.Told.{Told}

pub data Answer (X : Type 0) : Type 0 where
  given : X → Answer X
  refused : Told → Answer X

-- a result as its reader is told it, where `f` says what each error stands for
abbrev pub as_told : {X E : Type 0} → (E → Told) → Result X E → Answer X
as_told f (Ok x) = given x
as_told f (Err e) = refused (f e)

-- a refusal that carries nothing
abbrev pub bare : ℕ → Told
bare n = record { number = n; line = None; row = None; place = None; pieces = None; lost = None; layers = None }

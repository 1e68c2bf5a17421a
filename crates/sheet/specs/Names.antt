-- The names of a record's fields, one after the other.
use Rattle.std.specs.Prelude.{ℕ, List}
use Rattle.sheet.specs.Fields.{chain_names}
use Rattle.sheet.specs.declared.names.Names.{Names}

-- the names that are still to come
abbrev pub names_left : Names → List (List ℕ)
names_left s = chain_names s.left s.draft.text.now s.draft.rows.now s.column

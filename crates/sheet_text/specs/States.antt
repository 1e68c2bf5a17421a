-- What it means that the lines of a text state rows.
use Rattle.std.specs.Prelude.{◌≡◌, ℕ, ◌+◌, ◌-◌, ◌^◌, ◌<◌, ◌≤◌, List, [], ◌∷◌, ◌++◌, length, take, drop, ◌≢◌, slice_index}
use Rattle.sheet_text.specs.Plain.{Digit, ProperName}
use Rattle.sheet_text.specs.Values.{Value, decimal_after}
use Rattle.sheet_text.specs.Values as value
use Rattle.sheet_text.specs.Table.{spelling}
use Rattle.sheet_text.specs.Lines.{column_from}
use Rattle.sheet_text.specs.Rows.{header}
use Rattle.sheet_text.specs.declared.row.Row.{Row}

-- digits that write the number: no leading zero, and at most 2^63 - 1
pub record Decimal (bytes : List ℕ) (n : ℕ) : Type 0 where
  pub some : 1 ≤ length bytes
  pub digits : (i : ℕ) → i < length bytes → Digit (slice_index bytes i)
  pub leading : 1 < length bytes → slice_index bytes 0 ≢ 48
  pub value : decimal_after 0 bytes ≡ n
  pub small : n ≤ 2 ^ 63 - 1

-- the bytes write the value
abbrev pub Writes : List ℕ → Value → Type 0
Writes bytes (value.name x) = (x ≡ bytes) × ProperName bytes
Writes bytes (value.number n) = Decimal bytes n
Writes bytes value.blank = bytes ≡ 45 ∷ []

-- the value stands at a place of the text, the byte stop follows it, and then comes what begins at next
pub record ValueAt (text : List ℕ) (at : ℕ) (v : Value) (stop next : ℕ) : Type 0 where
  pub bytes : List ℕ
  pub writes : Writes bytes v
  pub stands : drop at text ≡ bytes ++ (stop ∷ drop next text)
  pub follows : next ≡ at + length bytes + 1

-- six values with commas between and a line feed, from a place on
pub record SixValues (text : List ℕ) (at : ℕ) : Type 0 where
  pub second : ℕ
  pub third : ℕ
  pub fourth : ℕ
  pub fifth : ℕ
  pub sixth : ℕ
  pub next : ℕ
  pub own : Value
  pub word : Value
  pub name : Value
  pub one : Value
  pub two : Value
  pub three : Value
  pub own_at : ValueAt text at own 44 second
  pub word_at : ValueAt text second word 44 third
  pub name_at : ValueAt text third name 44 fourth
  pub one_at : ValueAt text fourth one 44 fifth
  pub two_at : ValueAt text fifth two 44 sixth
  pub three_at : ValueAt text sixth three 10 next

-- the line at a place states row k: its own number stands first, then its word, and its columns keep the other values,
-- a number or a blank as it is and a name by its place
pub record LineAt (text : List ℕ) (at k : ℕ) (r : Row) (next : ℕ) : Type 0 where
  pub six : SixValues text at
  pub own : six.own ≡ value.number k
  pub word : six.word ≡ value.name (spelling r.word)
  pub name : r.name ≡ column_from six.third six.name
  pub one : r.one ≡ column_from six.fourth six.one
  pub two : r.two ≡ column_from six.fifth six.two
  pub three : r.three ≡ column_from six.sixth six.three
  pub follows : six.next ≡ next

-- the lines from a place on state the rows, the first of them as row k, and end where a further place begins
abbrev pub LinesTo : List ℕ → ℕ → ℕ → List Row → ℕ → Type 0
LinesTo text at k [] further = at ≡ further
LinesTo text at k (r ∷ rs) further = (next : ℕ) × (LineAt text at k r next × LinesTo text next (k + 1) rs further)

-- the text is the first line of every sheet, and then at least one line, and these state the rows
pub record States (text : List ℕ) (rows : List Row) : Type 0 where
  pub some : 1 ≤ length rows
  pub headed : take 28 text ≡ header
  pub lines : LinesTo text 28 0 rows (length text)

-- the text states the rows, and there is room for them: at most 256, and a place of the table for each
pub record Fits (text : List ℕ) (places : ℕ) (rows : List Row) : Type 0 where
  pub stated : States text rows
  pub room : length rows ≤ places
  pub few : length rows ≤ 256

-- The lines of a sheet.
use Rattle.std.specs.Prelude.{ℕ, suc, ◌+◌, Bool, false, cond, ◌||◌, List, [], ◌∷◌, length, take, drop, Some, None, Option, ◌==◌}
use Rattle.std.specs.Option.{option_map}
use Rattle.sheet_text.specs.Values.{Value, name, number, blank, meaning, value_of}
use Rattle.sheet_text.specs.declared.line.Part.{Part}
use Rattle.sheet_text.specs.declared.line.Line.{Line}
use Rattle.sheet_text.specs.declared.row.Column.{Column}
use Rattle.sheet_text.specs.declared.row.Column.TheVariants.{Blank, Number, Name}

abbrev pub is_stop : ℕ → Bool
is_stop b = b == 44 || b == 10

-- the bytes ahead of the first comma or line feed
abbrev pub part_len : List ℕ → ℕ
part_len [] = 0
part_len (b ∷ bs) = cond (is_stop b) 0 (suc (part_len bs))

-- a value in the text: where it stands, and where the next one does
pub record Placed : Type 0 where
  pub value : Value
  pub at : ℕ
  pub next : ℕ

-- a part, where a cursor then stands at next
abbrev pub viewed : ℕ → Part → Placed
viewed next p = record { value = meaning p.token; at = p.at; next = next }

abbrev pub begins : ℕ → List ℕ → Bool
begins stop [] = false
begins stop (b ∷ bs) = b == stop

-- the first n bytes of what stands at a place as a value, if the byte stop follows
abbrev pub part_by : ℕ → List ℕ → ℕ → ℕ → Option Placed
part_by n rest at stop =
    cond (begins stop (drop n rest)) (option_map (λ v. record { value = v; at = at; next = at + n + 1 }) (value_of (take n rest))) None

-- the value at the front of what stands at a place, if the byte stop ends it
abbrev pub part_from : List ℕ → ℕ → ℕ → Option Placed
part_from rest at stop = part_by (part_len rest) rest at stop

-- a value as a row keeps it
abbrev pub column_from : ℕ → Value → Column
column_from at (name bs) = Name (record { at = at; len = length bs })
column_from at (number n) = Number n
column_from at blank = Blank

abbrev pub column_of : Placed → Column
column_of p = column_from p.at p.value

unfoldable pub part_at : List ℕ → ℕ → ℕ → Option Placed
part_at text at stop = part_from (drop at text) at stop

-- what a line holds, and where the next one begins
pub record Held : Type 0 where
  pub number : Value
  pub word : Value
  pub name : Column
  pub one : Column
  pub two : Column
  pub three : Column
  pub next : ℕ

-- a line, where a cursor then stands at next
abbrev pub line_view : ℕ → Line → Held
line_view next l = record {
  number = meaning l.number;
  word = meaning l.word;
  name = l.name;
  one = l.one;
  two = l.two;
  three = l.three;
  next = next;
}

-- what follows from a value that is there
abbrev pub and_then : {A B : Type 0} → Option A → (A → Option B) → Option B
and_then None f = None
and_then (Some x) f = f x

-- the line at a place: six values with commas between, and a line feed
abbrev pub line_at : List ℕ → ℕ → Option Held
line_at text at =
    and_then (part_at text at 44) (λ number.
    and_then (part_at text number.next 44) (λ word.
    and_then (part_at text word.next 44) (λ name.
    and_then (part_at text name.next 44) (λ one.
    and_then (part_at text one.next 44) (λ two.
    and_then (part_at text two.next 10) (λ three.
    Some (record {
      number = number.value;
      word = word.value;
      name = column_of name;
      one = column_of one;
      two = column_of two;
      three = column_of three;
      next = three.next;
    })))))))

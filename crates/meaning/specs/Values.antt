-- The values of numbers, truths and locations after a list of pieces, with some records open.
use Rattle.std.specs.Prelude.{ℕ, zero, suc, ◌+◌, ◌*◌, Bool, true, false, cond, ◌&&◌, ◌||◌, List, []}
use Rattle.std.specs.Prelude.{◌∷◌, ◌++◌}
use Rattle.std.specs.Prelude.{length, drop, Some, None, Option, Ok, Err, Result, ◌==◌, nat_le}
use Rattle.std.specs.Prelude.{nat_lt}
use Rattle.std.specs.List.{slice_get}
use Rattle.std.proofs.Math.Bool
use Rattle.list.specs.Contents.{last_of}
use Rattle.cells.specs.declared.cell.Cell.{Cell}
use Rattle.cells.specs.declared.cell.Cell.TheVariants.{Byte, Lost}
use Rattle.path.specs.Meaning.{Downward, field, element, same_path}
use Rattle.sheet_text.specs.declared.row.Row.{Row}
use Rattle.sheet_text.specs.declared.word.Base.{Base}
use Rattle.sheet_text.specs.declared.word.Base.TheVariants as base
use Rattle.meaning.specs.declared.fault.EvalFault.{EvalFault}
use Rattle.meaning.specs.declared.fault.EvalFault.TheVariants as fault
use Rattle.meaning.specs.Terms.{Path, PieceSpec, Number}
use Rattle.meaning.specs.Terms.{Num, no_number, lit, loc, add, mul, Steps, no_steps, end, dot, idx}
use Rattle.meaning.specs.Terms.{Truth, no_truth, yea, nay, bloc, not, both, either, eq, lt}
use Rattle.meaning.specs.Stands.{base_at}

-- a value, or the first refusal met
abbrev pub Outcome : Type 0 → Type 0
Outcome A = Result A EvalFault

abbrev pub unknown : {A : Type 0} → Outcome A
unknown = Err fault.NoValue

-- with the value, if there is one
abbrev pub ◌then◌ : {A B : Type 0} → Outcome A → (A → Outcome B) → Outcome B
◌then◌ (Ok a) f = f a
◌then◌ (Err e) f = Err e

infixl 30 ◌then◌
-- numbers up to 2^63 - 1 have a value
abbrev pub limited : Number → Outcome Number
limited n = cond (nat_le n 0x7fff_ffff_ffff_ffff) (Ok n) (Err fault.Limit)

-- what is there, if it is
abbrev pub known : {A : Type 0} → Option A → Outcome A
known (Some a) = Ok a
known None = unknown

-- the piece placed with a path, the last if there were several; those of a checked sheet all have
-- different paths
abbrev pub placed : List PieceSpec → Path → Outcome PieceSpec
placed A q = known (last_of (λ p. same_path p.path q) A)

-- the number that the first k cells write, most significant first, behind what was read so far
abbrev pub unsigned : Number → ℕ → List Cell → Outcome Number
unsigned acc zero cs = Ok acc
unsigned acc (suc k) [] = unknown
unsigned acc (suc k) (Byte b ∷ cs) = unsigned (acc * 256 + b) k cs
unsigned acc (suc k) (Lost m ∷ cs) = Err (fault.Lost m)

-- the number that the cells of a piece write
abbrev pub content : List Cell → PieceSpec → Outcome Number
content cells p = unsigned 0 p.width (drop p.place cells)

-- 0 is false, and every other number true
abbrev pub is_true : Number → Bool
is_true n = Bool.not (n == 0)

-- how many elements an array has by its number, if it can: at most 65,535
abbrev pub elements_of : Number → Option ℕ
elements_of n = cond (nat_le n 65535) (Some n) None

-- the step into the element that a number gives
abbrev pub element_of : Number → Downward
element_of n = element n

-- the piece that a location names: the open record that it starts at, the innermost or one further
-- out for each climb, comes first, then the numbers of its steps, then whether the piece is placed
abbrev pub located : List PieceSpec → List Path → ℕ → Outcome Path → Outcome PieceSpec
located A open' climb steps =
    known (slice_get open' climb) then λ from. steps then λ q. placed A (from ++ q)

-- what values are worked out from: how many cells there are, and what a placed piece gives as a
-- number and as a truth
pub record Message : Type 0 where
  pub len : ℕ
  pub piece_number : PieceSpec → Outcome Number
  pub piece_truth : PieceSpec → Outcome Bool

-- what the cells of a piece give as a number, whatever its base word
abbrev pub value_in : List Cell → Option Base → PieceSpec → Outcome Number
value_in cells w p = content cells p then limited

-- and as a truth: that it is a bool comes before its cells
abbrev pub flag_in : List Cell → Option Base → PieceSpec → Outcome Bool
flag_in cells (Some base.Bool) p = content cells p then λ n. Ok (is_true n)
flag_in cells _ p = Err fault.Word

-- the message of cells, by the base words of a sheet's rows
abbrev pub over : List Row → List Cell → Message
over rows cells =
    record {
      len = length cells;
      piece_number = λ p. value_in cells (base_at rows p.row) p;
      piece_truth = λ p. flag_in cells (base_at rows p.row) p;
    }

module _ (m : Message) (A : List PieceSpec) (open' : List Path) where
  abbrev mutual
    pub number : Num → Outcome Number
    number no_number = unknown
    number (lit n) = Ok n
    number (loc c s) = located A open' c (resolved s) then m.piece_number
    number (add a b) = number a then λ x. number b then λ y. limited (x + y)
    number (mul a b) = number a then λ x. number b then λ y. limited (x * y)

    -- an index step holds a number, worked out with the same pieces and open records
    pub resolved : Steps → Outcome Path
    resolved no_steps = unknown
    resolved end = Ok []
    resolved (dot n s) = resolved s then λ q. Ok (field n ∷ q)
    resolved (idx n s) = number n then λ i. resolved s then λ q. Ok (element_of i ∷ q)

  -- both sides of `and` and `or` are always worked out
  abbrev pub truth : Truth → Outcome Bool
  truth no_truth = unknown
  truth yea = Ok true
  truth nay = Ok false
  truth (bloc c s) = located A open' c (resolved s) then m.piece_truth
  truth (not t) = truth t then λ b. Ok (Bool.not b)
  truth (both t u) = truth t then λ a. truth u then λ b. Ok (a && b)
  truth (either t u) = truth t then λ a. truth u then λ b. Ok (a || b)
  truth (eq a b) = number a then λ x. number b then λ y. Ok (x == y)
  truth (lt a b) = number a then λ x. number b then λ y. Ok (nat_lt x y)

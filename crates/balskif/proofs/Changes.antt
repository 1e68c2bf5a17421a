-- Values that are put into messages.
use Rattle.std.proofs.Common.{◌≡◌, ℕ, ◌+◌, ◌≤◌, Bool, true, false, cond, List, length, ◌==◌, Some}
use Rattle.std.proofs.Common.{None, Option, Ok, Err, Result, sym, ap, ◌∙◌, subst, arith, refl}
use Rattle.told.specs.declared.Told.{Told}
use Rattle.told.specs.Answers.{Answer, given, refused, as_told, bare}
use Rattle.cells.specs.declared.cell.Cell.{Cell}
use Rattle.cells.specs.Cells.{byte_cells, byte_spares}
use Rattle.cells.specs.Changed.{with_bytes}
use Rattle.sheet_text.specs.Refusals.{sheet_told}
use Rattle.sheet_text.specs.declared.refusal.SheetRefusal.{SheetRefusal}
use Rattle.sheet_text.specs.declared.row.Row.{Row}
use Rattle.sheet.specs.Sheets.{read_of, rows_of, text_of}
use Rattle.sheet.specs.declared.checked.CheckedSheet.{CheckedSheet}
use Rattle.meaning.specs.declared.fault.EvalFault.TheVariants.{NoValue, Limit, Word, Lost}
use Rattle.meaning.specs.declared.fault.LayFault.{LayFault}
use Rattle.meaning.specs.declared.fault.LayFault.TheVariants as fault
use Rattle.meaning.specs.Matcher.{Laid, accepted}
use Rattle.meaning.specs.Matcher
use Rattle.meaning.specs.Readings.{Reads}
use Rattle.meaning.specs.Refusals.{fault_told}
use Rattle.meaning.specs.Laying.{laid_in}
use Rattle.meaning.specs.Terms.{PieceSpec}
use Rattle.laws.specs.Rereads.{reread}
use Rattle.reading.specs.Outcomes.{or_refused, put_as, with_piece}
use Rattle.reading.specs.States.{named}
use Rattle.balskif.specs.Calls.{Altered, Puts, Stated, itself, put_after, put_by, put_told}
use Rattle.balskif.specs.Calls.{number_of}
use Rattle.balskif.specs.Puts.{PutsCells, PutEnds}
use Rattle.balskif.specs.Sheets.{IsSheet}
use Rattle.balskif.proofs.Bytes.{cells_tell, cells_of_put, spares_of_put}
use Rattle.balskif.proofs.Inside.{named_inside}
use Rattle.balskif.proofs.Reading.{some_number}
use Rattle.meaning.specs.Bars.{only}

-- the same in a message of bytes, by the text of a sheet
abbrev pub PutLeaves : List ℕ → List ℕ → ℕ → List ℕ → List ℕ → List ℕ → Result (Unit {0}) Told
    → Type 0
PutLeaves text message room path value after (Ok u) = (rows : List Row)
    × (Stated text rows × Puts text rows room message path value after)
PutLeaves text message room path value after (Err t) = (after ≡ message)
    × ((rows : List Row) (other : List ℕ) → Stated text rows
    → ¬ Puts text rows room message path value other)

-- no refusal has the number 0
abbrev NotZero : {X : Type 0} → Answer X → Type 0
NotZero (given x) = Unit {0}
NotZero (refused t) = ¬ (t.number ≡ 0)

lay_number : (e : LayFault) → ¬ ((fault_told e).number ≡ 0)
lay_number fault.PastEnd z = absurd (omega (arith, z))
lay_number fault.Void z = absurd (omega (arith, z))
lay_number fault.Full z = absurd (omega (arith, z))
lay_number fault.NotKept z = absurd (omega (arith, z))
lay_number fault.TooMany z = absurd (omega (arith, z))
lay_number (fault.Eval NoValue) z = absurd (omega (arith, z))
lay_number (fault.Eval Limit) z = absurd (omega (arith, z))
lay_number (fault.Eval Word) z = absurd (omega (arith, z))
lay_number (fault.Eval (Lost m)) z = absurd (omega (arith, z))

tried_number : (b c : Bool)
    → NotZero {X = Unit {0}} (cond b (cond c (given tt) (refused (bare 24))) (refused (bare 23)))
tried_number true true = tt
tried_number true false = λ z. absurd (omega (arith, z))
tried_number false c = λ z. absurd (omega (arith, z))

module _ (text : List ℕ) (rows : List Row) (cells : List Cell) (path value : List ℕ) where
  piece_number : (T : List PieceSpec) (p : Option PieceSpec)
      → NotZero (with_piece (or_refused (bare 22) p) (put_as text rows cells T value))
  piece_number T None = λ z. absurd (omega (arith, z))
  piece_number T (Some p) = tried_number (length value == p.width)
      (reread text rows (with_bytes cells p.place value) T)

  after_number : (m : Laid) → NotZero (put_after text rows cells m path value)
  after_number (accepted T) = piece_number T (named T path)
  after_number (Matcher.refused e r A) = lay_number e

  by_number : (room : ℕ) (r : Result ℕ SheetRefusal)
      → NotZero (put_by text rows cells room (as_told sheet_told r) path value)
  by_number room (Ok n) = after_number (laid_in text rows cells room)
  by_number room (Err e) = some_number e.reason

module _ (text message : List ℕ) (room : ℕ) (path value after : List ℕ) where
  -- as C is told it
  pub altered_is : (r : Result (Unit {0}) Told)
      → as_told itself r ≡ put_told text message room path value
      → PutLeaves text message room path value after r
      → Altered text message room path value (number_of (as_told itself r)) after
  altered_is (Ok u) told leaves = record {
    puts = λ z. leaves;
    stays = λ n. absurd (n refl);
    only = λ rows other stated puts. refl;
  }
  altered_is (Err t) told leaves =
      let some : ¬ (t.number ≡ 0) =
      subst NotZero (sym told)
      (by_number text (read_of text 256).rows (byte_cells message) path value room
      (read_of text 256).result) in
      record {
        puts = λ z. absurd (some z);
        stays = λ n. leaves.0;
        only = λ rows other stated puts. absurd (leaves.1 rows other stated puts);
      }

  module _ (s : CheckedSheet) (is : IsSheet text s) where
    -- a put in the cells of a message is a put in its bytes
    puts_bytes : byte_spares after ≡ byte_spares message
        → PutsCells (text_of s) (rows_of s) room (byte_cells message) path value (byte_cells after)
        → Puts text (rows_of s) room message path value after
    puts_bytes spares p =
        let reads : Reads text (rows_of s) (byte_cells message) p.pieces =
        subst (λ t. Reads t (rows_of s) (byte_cells message) p.pieces) is.text_is p.reads in
        let inside : p.piece.place + length value ≤ length (byte_cells message)
        = let ends = named_inside text (rows_of s) (byte_cells message) p.pieces path p.piece reads
        p.found in omega (arith, ends, p.wide) in
        record {
          pieces = p.pieces;
          piece = p.piece;
          reads = reads;
          fits = p.fits;
          found = p.found;
          wide = p.wide;
          keeps = subst (λ t. Reads t (rows_of s) (byte_cells after) p.pieces) is.text_is p.keeps;
          written = cells_tell after _
              (p.written ∙ sym (cells_of_put message p.piece.place value inside))
              (spares ∙ sym (spares_of_put message p.piece.place value inside));
        }

    -- and the other way round
    puts_cells : (rows : List Row) → rows ≡ rows_of s → Puts text rows room message path value after
        → PutsCells (text_of s) (rows_of s) room (byte_cells message) path value (byte_cells after)
    puts_cells rows same p =
        let here : (cells : List Cell) → Reads text rows cells p.pieces
        → Reads (text_of s) (rows_of s) cells p.pieces
        = λ cells reads. subst (λ t. Reads t (rows_of s) cells p.pieces) (sym is.text_is)
        (subst (λ rs. Reads text rs cells p.pieces) same reads) in
        let inside : p.piece.place + length value ≤ length (byte_cells message)
        = let ends = named_inside text rows (byte_cells message) p.pieces path p.piece p.reads
        p.found in omega (arith, ends, p.wide) in
        record {
          pieces = p.pieces;
          piece = p.piece;
          reads = here (byte_cells message) p.reads;
          fits = p.fits;
          found = p.found;
          wide = p.wide;
          keeps = here (byte_cells after) p.keeps;
          written = ap byte_cells p.written ∙ cells_of_put message p.piece.place value inside;
        }

-- what a put leaves in the bytes by what it leaves in their cells
pub leaves_bytes : (text message : List ℕ) (room : ℕ) (path value after : List ℕ) (s : CheckedSheet)
    → IsSheet text s → (r : Result (Unit {0}) Told)
    → PutEnds (text_of s) (rows_of s) room (byte_cells message) path value (byte_cells after) r
    → byte_spares after ≡ byte_spares message
    → PutLeaves text message room path value after r
leaves_bytes text message room path value after s is (Ok u) ends spares =
    (rows_of s, (is.stated, puts_bytes text message room path value after s is spares ends))
leaves_bytes text message room path value after s is (Err t) ends spares = (
  cells_tell after message ends.0 spares,
  λ rows other stated puts. ends.1 (byte_cells other)
      (puts_cells text message room path value other s is rows (is.only rows stated) puts),
)

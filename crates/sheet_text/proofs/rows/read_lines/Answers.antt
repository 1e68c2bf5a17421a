use Rattle.std.proofs.Common.{◌≡◌, ℕ, ◌<◌, ◌≤◌, min, ◌++◌, IfOk, Bool, true, false, eqb, List, length, take, drop, Ok, Err, sym, ap, ◌∙◌, subst, arith, rules, eqb-true, false-eqb}
use Rattle.std.proofs.lemmas.List.{set-get_or, length-take-le}
use Rattle.sheet_text.specs.Rows.{stated, row_at}
use Rattle.sheet_text.specs.Refusals.{at_row}
use Rattle.sheet_text.specs.declared.refusal.Reason.{Reason}
use Rattle.sheet_text.specs.declared.refusal.Reason.TheVariants as reason
use Rattle.sheet_text.specs.declared.row.Row.{Row}
use Rattle.sheet_text.proofs.Reading.{ends, overflows, refuses, goes_on, in_table}
use Rattle.sheet_text.proofs.rows.read_lines.Goals as goal

-- a cursor is done exactly at the end of its text
at_end : (text seen : List ℕ) (at : ℕ) (t : Bool) → seen ≡ text → t ≡ eqb at (length seen) → t ≡ true → length text ≤ at
at_end text seen at t s e h = let is = eqb-true at (length seen) (sym e ∙ h) in omega (arith, ap length s)

short_of_end : (text seen : List ℕ) (at : ℕ) (t : Bool) → seen ≡ text → t ≡ eqb at (length seen) → t ≡ false → at ≤ length seen → at < length text
short_of_end text seen at t s e h l = let not = false-eqb at (length seen) (sym (sym e ∙ h)) in omega (arith, ap length s)

-- the places that may be filled are as many as there is room for
places : (room : ℕ) (table : List Row) → room ≡ min (length table) 256 → length (take room table) ≡ room
places room table e = length-take-le room table (omega arith)

pub returns-then-is_done : goal.returns-then-is_done
returns-then-is_done c =
    let d = c.loop-k.invariant.going in
    let end = at_end _ _ _ _ c.loop-k.invariant.same c.is_done.ensures c.if-is_done.true in
    let h = in_table _ _ _ _ _ _ c.min-room.ensures (ends d end) in
    let room = places _ _ c.min-room.ensures in
    record { result = h.0; rows = ap (λ xs. xs ++ drop c.min-room.result c.args.table.now) (set-get_or _ _ _) ∙ h.1; within = omega arith }

pub returns-in_err-place : goal.returns-in_err-place
returns-in_err-place c =
    let at = c.loop-k.lines.at in
    let k = c.loop-k.k-counter in
    let same = c.loop-k.invariant.same in
    let more = short_of_end _ _ _ _ same c.is_done.ensures c.if-is_done.false c.loop-k.lines.inside in
    let room = places _ _ c.min-room.ensures in
    let space : k < c.min-room.result = omega arith in
    let fault : (e : Reason) × (c.row.result ≡ Err e) × (c.from_residual.result ≡ Err (at_row e k)) = search rules in
    let bad = sym (ap (λ t. row_at t at k) same) ∙ sym c.row.ensures.is ∙ ap (stated c.row.new.self.at) fault.1 in
    let h = in_table _ _ _ _ _ _ c.min-room.ensures (refuses c.loop-k.invariant.going more space fault.0 bad) in
    record {
      result = fault.2 ∙ h.0;
      rows = ap (λ xs. xs ++ drop c.min-room.result c.args.table.now) (set-get_or _ _ _) ∙ h.1;
      within = subst (λ r. IfOk r (λ n. n ≤ length c.args.table.now)) (sym fault.2) tt;
    }

pub loop-k-preserved : goal.loop-k-preserved
loop-k-preserved c =
    let at = c.loop-k.lines.at in
    let k = c.loop-k.k-counter in
    let same = c.loop-k.invariant.same in
    let more = short_of_end _ _ _ _ same c.is_done.ensures c.if-is_done.false c.loop-k.lines.inside in
    let room = places _ _ c.min-room.ensures in
    let space : k < c.min-room.result = omega arith in
    let row : c.row.result ≡ Ok c.in_ok-place.field-0 = search rules in
    let good = sym (ap (λ t. row_at t at k) same) ∙ sym c.row.ensures.is ∙ ap (stated c.row.new.self.at) row in
    let inside = c.row.new.self.inside in
    record {
      same = c.row.ensures.text ∙ same;
      going = goes_on c.loop-k.invariant.going more space _ good (omega (arith, ap length (c.row.ensures.text ∙ same)));
    }

pub returns-then-is_done-2 : goal.returns-then-is_done-2
returns-then-is_done-2 c =
    let d = c.loop-k.invariant.going in
    let end = at_end _ _ _ _ c.loop-k.invariant.same c.is_done-2.ensures c.if-is_done-2.true in
    let room = places _ _ c.min-room.ensures in
    let full : c.loop-k.k-counter ≡ c.min-room.result = omega (arith, d.fits) in
    let h = in_table _ _ _ _ _ _ c.min-room.ensures (ends d end) in
    record { result = ap Ok (sym full) ∙ h.0; rows = h.1; within = omega arith }

pub returns-else-is_done-2 : goal.returns-else-is_done-2
returns-else-is_done-2 c =
    let d = c.loop-k.invariant.going in
    let more = short_of_end _ _ _ _ c.loop-k.invariant.same c.is_done-2.ensures c.if-is_done-2.false c.loop-k.lines.inside in
    let room = places _ _ c.min-room.ensures in
    let full : c.loop-k.k-counter ≡ c.min-room.result = omega (arith, d.fits) in
    let h = in_table _ _ _ _ _ _ c.min-room.ensures (overflows d more full) in
    record { result = ap Err (c.at_row.ensures ∙ ap (at_row reason.Count) (sym full)) ∙ h.0; rows = h.1; within = tt }

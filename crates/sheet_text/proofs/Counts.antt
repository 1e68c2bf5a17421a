-- The number that is answered is the number of rows.
use Rattle.std.proofs.Common.{◌≡◌, ℕ, zero, suc, ◌+◌, ◌≤◌, min, Bool, true, false, cond, eqb, leb, List, [], length, Ok, Err, Result, arith}
use Rattle.sheet_text.specs.Rows.{Read, row_at, refused, with_row, lines_from, headed, lines_of}
use Rattle.sheet_text.specs.declared.refusal.Reason.{Reason}
use Rattle.sheet_text.specs.declared.refusal.Reason.TheVariants as reason
use Rattle.sheet_text.specs.Rows.{Stated}

-- the answer counts the rows, k of them ahead
abbrev pub Counts : ℕ → Read → Type 0
Counts k read = (n : ℕ) → read.result ≡ Ok n → n ≡ k + length read.rows

refused_counts : (k : ℕ) (e : Reason) (line : ℕ) → Counts k (refused e line)
refused_counts k e line n h = let z : ◌≡◌ {A = ℕ} 0 1 = cc in absurd (omega arith)

row_counts : (k : ℕ) (r : Result Stated Reason) (later : ℕ → Read) → ((next : ℕ) → Counts (k + 1) (later next)) → Counts k (with_row k r later)
row_counts k (Err e) later each n h = refused_counts k e (k + 2) n h
row_counts k (Ok s) later each n h = let l = each s.next n h in omega arith

either_counts : (k : ℕ) (t : Bool) (a b : Read) → Counts k a → Counts k b → Counts k (cond t a b)
either_counts k true a b f g = f
either_counts k false a b f g = g

end_counts : (k : ℕ) → Counts k (record { rows = []; result = Ok k })
end_counts k n h = let e : k ≡ n = cc in omega arith

lines_count : (room : ℕ) (text : List ℕ) (at k : ℕ) → Counts k (lines_from room text at k)
unfolding lines_from
lines_count zero text at k = either_counts k (leb (length text) at) _ _ (end_counts k) (refused_counts k reason.Count (k + 2))
lines_count (suc room) text at k =
    either_counts k (leb (length text) at) _ _ (end_counts k)
    (row_counts k (row_at text at k) (λ next. lines_from room text next (k + 1)) (λ next. lines_count room text next (k + 1)))

pub read_counts : (text : List ℕ) (places : ℕ) → Counts 0 (lines_of text places)
read_counts text places =
    either_counts 0 (headed text) _ _
    (either_counts 0 (eqb (length text) 28) _ _ (refused_counts 0 reason.Count 1) (lines_count (min places 256) text 28 0))
    (refused_counts 0 reason.Header 1)

-- no more rows are read than there is room for
either_few : (room : ℕ) (t : Bool) (a b : Read) → length a.rows ≤ room → length b.rows ≤ room → length (cond t a b).rows ≤ room
either_few room true a b f g = f
either_few room false a b f g = g

row_few : (room k : ℕ) (r : Result Stated Reason) (later : ℕ → Read) → ((next : ℕ) → length (later next).rows ≤ room) → length (with_row k r later).rows ≤ suc room
row_few room k (Err e) later each = omega arith
row_few room k (Ok s) later each = let l = each s.next in omega arith

pub lines_few : (room : ℕ) (text : List ℕ) (at k : ℕ) → length (lines_from room text at k).rows ≤ room
unfolding lines_from
lines_few zero text at k = either_few 0 (leb (length text) at) _ _ (omega arith) (omega arith)
lines_few (suc room) text at k =
    either_few (suc room) (leb (length text) at) _ _ (omega arith)
    (row_few room k (row_at text at k) (λ next. lines_from room text next (k + 1)) (λ next. lines_few room text next (k + 1)))

pub read_few : (text : List ℕ) (places : ℕ) → length (lines_of text places).rows ≤ min places 256
read_few text places =
    either_few (min places 256) (headed text) _ _
    (either_few (min places 256) (eqb (length text) 28) _ _ (omega arith) (lines_few (min places 256) text 28 0))
    (omega arith)

-- The elements of an array of a base row.
use Rattle.meaning.specs.Values.{Message}
use Rattle.std.proofs.Common.{◌≡◌, ℕ, zero, suc, ◌-◌, ◌<◌, true, List, [], ◌∷◌, ◌++◌, length, set}
use Rattle.std.proofs.Common.{length-append, refl, sym, ap, ◌∙◌, arith, Some}
use Rattle.std.proofs.Math.Seq.{set-append_seam}
use Rattle.path.specs.Meaning.{Downward, element}
use Rattle.sheet.specs.Verdict.{lawful}
use Rattle.sheet_text.specs.declared.row.Row.{Row}
use Rattle.sheet_text.specs.declared.word.Base.{Base}
use Rattle.sheet_text.specs.declared.word.Word.{Word}
use Rattle.sheet_text.specs.declared.word.Word.TheVariants as word
use Rattle.sheet_text.specs.declared.word.TypeWord.TheVariants as type
use Rattle.meaning.specs.Terms.{Path, PieceSpec}
use Rattle.meaning.specs.Stands.{type_at, base_of, base_at}
use Rattle.meaning.specs.Layouts.{◌▸◌}
use Rattle.meaning.specs.Matcher.{Laid, accepted, refused, ◌onward◌, repeated, put_piece, lay}
use Rattle.walk.specs.Frames.{in_array, through}
use Rattle.walk.proofs.Opens.{front_base}
use Rattle.sheet.specs.Checks.{row_at}
use Rattle.meaning.specs.Bars.{Bars}
use Rattle.meaning.specs.declared.fault.LayFault.{LayFault}

-- another last step
pub other_last : (P : Path) (e d : Downward) (R Q : Path) → R ≡ P ++ e ∷ []
    → Q ≡ set R (length R - 1) d → Q ≡ P ++ d ∷ []
other_last P e d R Q r q =
    let last : length R - 1 ≡ length P = omega (arith, ap length r, length-append P (e ∷ [])) in
    q ∙ ap (λ k. set R k d) last ∙ ap (λ l. set l (length P) d) r ∙ set-append_seam P e [] d

-- a word that is a base
base_word : (w : Word) (b : Base) → base_of w ≡ Some b → w ≡ word.Type (type.Base b)
base_word (word.Type (type.Base c)) b e = let s : c ≡ b = cc in ap (λ x. word.Type (type.Base x)) s
base_word (word.Type type.Void) b e = absurd (let z : ◌≡◌ {A = ℕ} 0 1 = cc in omega arith)
base_word (word.Type type.Rec) b e = absurd (let z : ◌≡◌ {A = ℕ} 0 1 = cc in omega arith)
base_word (word.Type type.Arr) b e = absurd (let z : ◌≡◌ {A = ℕ} 0 1 = cc in omega arith)
base_word (word.Type type.Alt) b e = absurd (let z : ◌≡◌ {A = ℕ} 0 1 = cc in omega arith)
base_word word.Field b e = absurd (let z : ◌≡◌ {A = ℕ} 0 1 = cc in omega arith)
base_word (word.Number w) b e = absurd (let z : ◌≡◌ {A = ℕ} 0 1 = cc in omega arith)
base_word (word.Truth w) b e = absurd (let z : ◌≡◌ {A = ℕ} 0 1 = cc in omega arith)
base_word word.From b e = absurd (let z : ◌≡◌ {A = ℕ} 0 1 = cc in omega arith)
base_word (word.Step w) b e = absurd (let z : ◌≡◌ {A = ℕ} 0 1 = cc in omega arith)

module _ (text : List ℕ) (rows : List Row) (message : Message) (bars : Bars) (P : Path)
    (t : ℕ) where
  -- what the elements from one on come to, so many of them, whatever records are open
  abbrev pub elements : ℕ → ℕ → List PieceSpec → List Path → Laid
  elements i k A O = through text rows message bars (in_array P O t i k) A

  module _ (ok : lawful text rows ≡ true) (b : Base) (is : base_at rows t ≡ Some b) (Q : Path)
      (i : ℕ) (here : Q ≡ P ▸ element i) where
    first : (O : List Path) (A : List PieceSpec)
        → lay message bars (type_at text rows t) (P ▸ element i) O A ≡ put_piece bars Q t b A
    first O A = front_base text rows ok t (row_at rows t) refl message bars (P ▸ element i) O A b
        (base_word (row_at rows t).word b is) ∙ ap (λ R. put_piece bars R t b A) (sym here)

    -- the first of them is taken
    pub one_more : (j k n : ℕ) (A B : List PieceSpec) (O : List Path) → j ≡ suc i → k ≡ suc n
        → put_piece bars Q t b A ≡ accepted B → elements i k A O ≡ elements j n B O
    one_more j k n A B O e f h =
        ap (λ m. elements i m A O) f
        ∙ ap (λ x. x onward repeated
        (λ m C. lay message bars (type_at text rows t) (P ▸ element m) O C) (suc i) n)
        (first O A ∙ h)
        ∙ ap (λ m. elements m n B O) (sym e)

    -- or stops them
    pub stopped : (k : ℕ) (A : List PieceSpec) (O : List Path) (e : LayFault) (r : ℕ) → 0 < k
        → put_piece bars Q t b A ≡ refused e r A → elements i k A O ≡ refused e r A
    stopped zero A O e r some h = absurd (omega (arith, some))
    stopped (suc n) A O e r some h =
        ap (λ x. x onward repeated (λ m C.
        lay message bars (type_at text rows t) (P ▸ element m) O C) (suc i) n) (first O A ∙ h)

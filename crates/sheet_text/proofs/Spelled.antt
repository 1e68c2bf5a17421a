-- The words and their texts.
use Rattle.std.proofs.Common.{◌≡◌, ℕ, ◌≤◌, Bool, true, false, cond, List, [], ◌∷◌, length, Some, sym, refl, ap, ◌∙◌, arith}
use Rattle.std.specs.Str.{bytes_eq}
use Rattle.std.proofs.lemmas.Slice.Eq.{bytes_eq-Decides}
use Rattle.sheet_text.specs.Table.{spelling, words, spelled}
use Rattle.sheet_text.specs.declared.word.Word.{Word}
use Rattle.sheet_text.specs.declared.word.Word.TheVariants as word
use Rattle.sheet_text.specs.declared.word.Base.TheVariants as base
use Rattle.sheet_text.specs.declared.word.TypeWord.TheVariants as type
use Rattle.sheet_text.specs.declared.word.NumberWord.TheVariants as number
use Rattle.sheet_text.specs.declared.word.TruthWord.TheVariants as truth
use Rattle.sheet_text.specs.declared.word.StepWord.TheVariants as step

-- a word that was found has the text
pub spelled_is : (ws : List Word) (bs : List ℕ) (w : Word) → spelled ws bs ≡ Some w → spelling w ≡ bs
spelled_is [] bs w e = let z : ◌≡◌ {A = ℕ} 0 1 = cc in absurd (omega arith)
spelled_is (v ∷ ws) bs w e = by_test (bytes_eq (spelling v) bs) refl e (spelled_is ws bs w)
  where
    by_test : (t : Bool) → bytes_eq (spelling v) bs ≡ t → cond t (Some v) (spelled ws bs) ≡ Some w → (spelled ws bs ≡ Some w → spelling w ≡ bs) → spelling w ≡ bs
    by_test true s h later = let same : v ≡ w = cc in ap spelling (sym same) ∙ (bytes_eq-Decides (spelling v) bs).0 s
    by_test false s h later = later h

-- every word is found by its text
pub spelled_words : (w : Word) → spelled words (spelling w) ≡ Some w
spelled_words (word.Type (type.Base base.Bool)) = refl
spelled_words (word.Type (type.Base base.Char)) = refl
spelled_words (word.Type (type.Base base.U8)) = refl
spelled_words (word.Type (type.Base base.U16)) = refl
spelled_words (word.Type (type.Base base.I16)) = refl
spelled_words (word.Type (type.Base base.U32)) = refl
spelled_words (word.Type (type.Base base.I32)) = refl
spelled_words (word.Type (type.Base base.Float)) = refl
spelled_words (word.Type (type.Base base.U64)) = refl
spelled_words (word.Type (type.Base base.I64)) = refl
spelled_words (word.Type (type.Base base.Double)) = refl
spelled_words (word.Type type.Void) = refl
spelled_words (word.Type type.Rec) = refl
spelled_words (word.Type type.Arr) = refl
spelled_words (word.Type type.Alt) = refl
spelled_words word.Field = refl
spelled_words (word.Number number.Lit) = refl
spelled_words (word.Number number.Loc) = refl
spelled_words (word.Number number.Add) = refl
spelled_words (word.Number number.Mul) = refl
spelled_words (word.Truth truth.True) = refl
spelled_words (word.Truth truth.False) = refl
spelled_words (word.Truth truth.Bloc) = refl
spelled_words (word.Truth truth.Not) = refl
spelled_words (word.Truth truth.And) = refl
spelled_words (word.Truth truth.Or) = refl
spelled_words (word.Truth truth.Eq) = refl
spelled_words (word.Truth truth.Lt) = refl
spelled_words word.From = refl
spelled_words (word.Step step.Dot) = refl
spelled_words (word.Step step.Idx) = refl

-- no word is longer
pub spelling_short : (w : Word) → length (spelling w) ≤ 6
spelling_short (word.Type (type.Base base.Bool)) = omega arith
spelling_short (word.Type (type.Base base.Char)) = omega arith
spelling_short (word.Type (type.Base base.U8)) = omega arith
spelling_short (word.Type (type.Base base.U16)) = omega arith
spelling_short (word.Type (type.Base base.I16)) = omega arith
spelling_short (word.Type (type.Base base.U32)) = omega arith
spelling_short (word.Type (type.Base base.I32)) = omega arith
spelling_short (word.Type (type.Base base.Float)) = omega arith
spelling_short (word.Type (type.Base base.U64)) = omega arith
spelling_short (word.Type (type.Base base.I64)) = omega arith
spelling_short (word.Type (type.Base base.Double)) = omega arith
spelling_short (word.Type type.Void) = omega arith
spelling_short (word.Type type.Rec) = omega arith
spelling_short (word.Type type.Arr) = omega arith
spelling_short (word.Type type.Alt) = omega arith
spelling_short word.Field = omega arith
spelling_short (word.Number number.Lit) = omega arith
spelling_short (word.Number number.Loc) = omega arith
spelling_short (word.Number number.Add) = omega arith
spelling_short (word.Number number.Mul) = omega arith
spelling_short (word.Truth truth.True) = omega arith
spelling_short (word.Truth truth.False) = omega arith
spelling_short (word.Truth truth.Bloc) = omega arith
spelling_short (word.Truth truth.Not) = omega arith
spelling_short (word.Truth truth.And) = omega arith
spelling_short (word.Truth truth.Or) = omega arith
spelling_short (word.Truth truth.Eq) = omega arith
spelling_short (word.Truth truth.Lt) = omega arith
spelling_short word.From = omega arith
spelling_short (word.Step step.Dot) = omega arith
spelling_short (word.Step step.Idx) = omega arith

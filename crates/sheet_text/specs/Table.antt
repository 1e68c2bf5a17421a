-- The words by their text.
use Rattle.std.specs.Prelude.{ℕ, cond, List, [], ◌∷◌, Some, None, codes, Option}
use Rattle.std.specs.Str.{bytes_eq}
use Rattle.sheet_text.specs.declared.word.Word.{Word}
use Rattle.sheet_text.specs.declared.word.Word.TheVariants as word
use Rattle.sheet_text.specs.declared.word.Base.{Base}
use Rattle.sheet_text.specs.declared.word.Base.TheVariants as base
use Rattle.sheet_text.specs.declared.word.TypeWord.{TypeWord}
use Rattle.sheet_text.specs.declared.word.TypeWord.TheVariants as type
use Rattle.sheet_text.specs.declared.word.NumberWord.{NumberWord}
use Rattle.sheet_text.specs.declared.word.NumberWord.TheVariants as number
use Rattle.sheet_text.specs.declared.word.TruthWord.{TruthWord}
use Rattle.sheet_text.specs.declared.word.TruthWord.TheVariants as truth
use Rattle.sheet_text.specs.declared.word.StepWord.{StepWord}
use Rattle.sheet_text.specs.declared.word.StepWord.TheVariants as step

abbrev pub base_spelling : Base → List ℕ
base_spelling base.Bool = codes "bool"
base_spelling base.Char = codes "char"
base_spelling base.U8 = codes "u8"
base_spelling base.U16 = codes "u16"
base_spelling base.I16 = codes "i16"
base_spelling base.U32 = codes "u32"
base_spelling base.I32 = codes "i32"
base_spelling base.Float = codes "float"
base_spelling base.U64 = codes "u64"
base_spelling base.I64 = codes "i64"
base_spelling base.Double = codes "double"

abbrev pub type_spelling : TypeWord → List ℕ
type_spelling (type.Base b) = base_spelling b
type_spelling type.Void = codes "void"
type_spelling type.Rec = codes "rec"
type_spelling type.Arr = codes "arr"
type_spelling type.Alt = codes "alt"

abbrev pub number_spelling : NumberWord → List ℕ
number_spelling number.Lit = codes "lit"
number_spelling number.Loc = codes "loc"
number_spelling number.Add = codes "add"
number_spelling number.Mul = codes "mul"

abbrev pub truth_spelling : TruthWord → List ℕ
truth_spelling truth.True = codes "true"
truth_spelling truth.False = codes "false"
truth_spelling truth.Bloc = codes "bloc"
truth_spelling truth.Not = codes "not"
truth_spelling truth.And = codes "and"
truth_spelling truth.Or = codes "or"
truth_spelling truth.Eq = codes "eq"
truth_spelling truth.Lt = codes "lt"

abbrev pub step_spelling : StepWord → List ℕ
step_spelling step.Dot = codes "dot"
step_spelling step.Idx = codes "idx"

abbrev pub spelling : Word → List ℕ
spelling (word.Type w) = type_spelling w
spelling word.Field = codes "fld"
spelling (word.Number w) = number_spelling w
spelling (word.Truth w) = truth_spelling w
spelling word.From = codes "from"
spelling (word.Step w) = step_spelling w

-- how many bytes a piece of a base type has
abbrev pub width_of : Base → ℕ
width_of base.Bool = 1
width_of base.Char = 1
width_of base.U8 = 1
width_of base.U16 = 2
width_of base.I16 = 2
width_of base.U32 = 4
width_of base.I32 = 4
width_of base.Float = 4
width_of base.U64 = 8
width_of base.I64 = 8
width_of base.Double = 8

-- every word once
abbrev pub words : List Word
words =
    word.Type (type.Base base.Bool) ∷ word.Type (type.Base base.Char) ∷ word.Type (type.Base base.U8) ∷ word.Type (type.Base base.U16) ∷ word.Type (type.Base base.I16) ∷ word.Type (type.Base base.U32) ∷ word.Type (type.Base base.I32) ∷ word.Type (type.Base base.Float) ∷ word.Type (type.Base base.U64) ∷ word.Type (type.Base base.I64) ∷ word.Type (type.Base base.Double) ∷ word.Type type.Void ∷ word.Type type.Rec ∷ word.Type type.Arr ∷ word.Type type.Alt ∷ word.Field ∷ word.Number number.Lit ∷ word.Number number.Loc ∷ word.Number number.Add ∷ word.Number number.Mul ∷ word.Truth truth.True ∷ word.Truth truth.False ∷ word.Truth truth.Bloc ∷ word.Truth truth.Not ∷ word.Truth truth.And ∷ word.Truth truth.Or ∷ word.Truth truth.Eq ∷ word.Truth truth.Lt ∷ word.From ∷ word.Step step.Dot ∷ word.Step step.Idx ∷ []

-- the first word of the list whose text is bs
abbrev pub spelled : List Word → List ℕ → Option Word
spelled [] bs = None
spelled (w ∷ ws) bs = cond (bytes_eq (spelling w) bs) (Some w) (spelled ws bs)

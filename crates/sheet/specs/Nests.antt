-- The depth of a type by the depths of its parts.
use Rattle.std.specs.Prelude.{◌≡◌, ℕ, ◌+◌, max, List}
use Rattle.sheet_text.specs.declared.row.Row.{Row}
use Rattle.sheet_text.specs.declared.row.Column.TheVariants as column
use Rattle.sheet_text.specs.declared.word.Base.{Base}
use Rattle.sheet_text.specs.declared.word.Word.TheVariants as word
use Rattle.sheet_text.specs.declared.word.TypeWord.TheVariants as type
use Rattle.sheet.specs.Checks.{word_at, row_at}

module _ (rows : List Row) where
  mutual
    -- `Depth k d`: the type in row k is d deep
    pub data Depth : ℕ → ℕ → Type 0 where
      -- base types and void are not deep at all
      base : {k : ℕ} {b : Base} → word_at rows k ≡ word.Type (type.Base b) → Depth k 0
      void : {k : ℕ} → word_at rows k ≡ word.Type type.Void → Depth k 0
      -- a record without fields is neither, and one with fields is one deeper than the deepest type
      -- of a field
      fieldless : {k : ℕ} → word_at rows k ≡ word.Type type.Rec → (row_at rows k).one ≡ column.Blank
          → Depth k 0
      fields : {k n d : ℕ} → word_at rows k ≡ word.Type type.Rec
          → (row_at rows k).one ≡ column.Number n → Deepest n d → Depth k (d + 1)
      -- an array is one deeper than its element
      array : {k n d : ℕ} → word_at rows k ≡ word.Type type.Arr
          → (row_at rows k).one ≡ column.Number n → Depth n d → Depth k (d + 1)
      -- an alternative is as deep as the deeper of its two types
      choice : {k m n d e : ℕ} → word_at rows k ≡ word.Type type.Alt
          → (row_at rows k).two ≡ column.Number m → (row_at rows k).three ≡ column.Number n
          → Depth m d → Depth n e → Depth k (max d e)

    -- `Deepest k d`: d is the largest depth of the types of field k and of the fields after it
    pub data Deepest : ℕ → ℕ → Type 0 where
      last : {k n d : ℕ} → word_at rows k ≡ word.Field → (row_at rows k).one ≡ column.Number n
          → (row_at rows k).two ≡ column.Blank → Depth n d → Deepest k d
      more : {k m n d e : ℕ} → word_at rows k ≡ word.Field → (row_at rows k).one ≡ column.Number n
          → (row_at rows k).two ≡ column.Number m → Depth n d → Deepest m e → Deepest k (max d e)

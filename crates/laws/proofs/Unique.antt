use Rattle.std.proofs.Common.{◌≡◌, ℕ, List, ◌++◌, sym, refl, ap₂}
use Rattle.sheet_text.specs.declared.row.Row.{Row}
use Rattle.meaning.specs.Terms.{Path, PieceSpec}
use Rattle.meaning.specs.Terms.{Ty, Fields}
use Rattle.meaning.specs.Values.{Message}
use Rattle.meaning.specs.Layouts.{Layout, base', rec', arr', alt', LayFields, none', fld'}
use Rattle.meaning.specs.Layouts.{LayElements, done', elem'}
use Rattle.meaning.specs.Readings.{OneReading}

module _ {m : Message} where
  mutual
    pub one : {τ : Ty} {P : Path} {open' : List Path} {A T U : List PieceSpec}
        → Layout m τ P open' A T → Layout m τ P open' A U → T ≡ U
    one (base' h) (base' k) = refl
    one (rec' f) (rec' g) = one_fields f g
    one (arr' {d = d} e k f) (arr' {d = d'} e' k' g) =
        let same : d' ≡ d = cc in
        one_elements f (rw same at g)
    one (alt' {b = b} e f) (alt' {b = b'} e' g) =
        let same : b' ≡ b = cc in
        one f (rw same at g)

    one_fields : {fs : Fields} {P : Path} {open' : List Path} {A T U : List PieceSpec}
        → LayFields m fs P open' A T → LayFields m fs P open' A U → T ≡ U
    one_fields none' none' = refl
    one_fields (fld' {T = T} f fs) (fld' {T = T'} g gs) =
        let same : T' ≡ T = sym (one f g) in
        ap₂ ◌++◌ (sym same) (one_fields fs (rw same at gs))

    one_elements : {τ : Ty} {P : Path} {open' : List Path} {i k : ℕ} {A T U : List PieceSpec}
        → LayElements m τ P open' i k A T → LayElements m τ P open' i k A U → T ≡ U
    one_elements done' done' = refl
    one_elements (elem' {T = T} f fs) (elem' {T = T'} g gs) =
        let same : T' ≡ T = sym (one f g) in
        ap₂ ◌++◌ (sym same) (one_elements fs (rw same at gs))

pub one_reading : (text : List ℕ) (rows : List Row) → OneReading text rows
one_reading text rows cells T U r s = one r s

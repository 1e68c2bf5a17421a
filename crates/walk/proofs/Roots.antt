-- Row 0 at the root, with nothing open.
use Rattle.std.proofs.Common.{◌≡◌, ℕ, true, List, [], ◌∷◌, sym, ◌∙◌, subst, arith}
use Rattle.sheet.specs.Verdict.{lawful}
use Rattle.sheet.proofs.Keeping.{keeps}
use Rattle.sheet_text.specs.declared.row.Row.{Row}
use Rattle.meaning.specs.Terms.{Path}
use Rattle.laws.proofs.Nested.{types_shallow}
use Rattle.walk.specs.Frames.{Open, in_front}
use Rattle.walk.specs.Turns.{AllShallow}

module _ (text : List ℕ) (rows : List Row) (ok : lawful text rows ≡ true) where
  at_root : AllShallow text rows (in_front [] [] 0 ∷ [])
  at_root =
      let k = keeps text rows ok in
      ((omega (arith, types_shallow text rows ok 0 (omega (arith, k.some)) k.first), omega arith, omega arith, (omega (arith, k.some), k.first)), tt)

  pub root_shallow : (P : Path) (O : List Path) (K L : List Open) → P ≡ [] → O ≡ [] → K ≡ [] → L ≡ in_front P O 0 ∷ K → AllShallow text rows L
  root_shallow P O K L p o k e =
      subst (AllShallow text rows) (sym (e ∙ (let s : in_front P O 0 ∷ K ≡ in_front [] [] 0 ∷ [] = cc in s))) at_root

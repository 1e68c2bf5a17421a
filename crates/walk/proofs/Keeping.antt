-- What placing keeps, over no placing and over one after another.
use Rattle.std.proofs.Common.{◌≡◌, List, sym, refl, ◌∙◌, subst}
use Rattle.list.specs.declared.BoundedList.{BoundedList}
use Rattle.path.specs.declared.Piece.{Piece}
use Rattle.walk.specs.Placers.{Keeps}
use Rattle.meaning.specs.Bars.{Bars}

module _ (bars : List Piece → Bars) (leaves : List Piece → BoundedList Piece → Type 0) where
  keeps_all : (l : BoundedList Piece) → Keeps bars leaves l l
  keeps_all l = record { bars_same = refl; leaves_more = λ entries h. h; lender = refl }

  pub keeps_same : (l m : BoundedList Piece) → m ≡ l → Keeps bars leaves l m
  keeps_same l m e = subst (Keeps bars leaves l) (sym e) (keeps_all l)

  pub keeps_further : (l m n : BoundedList Piece) → Keeps bars leaves l m → Keeps bars leaves m n
      → Keeps bars leaves l n
  keeps_further l m n a b =
      record {
        bars_same = b.bars_same ∙ a.bars_same;
        leaves_more = λ entries h. b.leaves_more entries (a.leaves_more entries h);
        lender = b.lender ∙ a.lender;
      }

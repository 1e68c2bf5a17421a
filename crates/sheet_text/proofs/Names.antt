use Rattle.std.proofs.Common.{◌≡◌, ℕ, ◌-◌, ◌≤◌, Bool, true, ◌&&◌, List, [], ◌∷◌, length, get_or, take, drop, refl, sym, ap, ◌∙◌, arith, le-leb}
use Rattle.std.proofs.lemmas.List.{take_all}
use Rattle.std.proofs.lemmas.List.Recursion.{same_from_clauses}
use Rattle.std.specs.List.{list_all}
use Rattle.sheet_text.specs.Chars.{class_of, leads, follows, name_bytes, is_name}

every : (xs : List ℕ) → list_all (λ b. follows (class_of b)) xs ≡ name_bytes xs
every = same_from_clauses (list_all (λ b. follows (class_of b))) name_bytes (λ b t. follows (class_of b) && t) refl (λ _ _. refl) (λ _ _. refl)

pub name_from : (xs : List ℕ) (r : Bool) → length xs ≤ 16 → leads (class_of (get_or xs 0 0)) ≡ true → r ≡ list_all (λ b. follows (class_of b)) (take (length xs - 1) (drop 1 xs)) → r ≡ is_name xs
name_from [] r short led e = let z : ◌≡◌ {A = ℕ} 0 1 = cc in absurd (omega arith)
name_from (b ∷ bs) r short led e =
    let all : take (length (b ∷ bs) - 1) bs ≡ bs = take_all _ bs (omega arith) in
    e ∙ ap (list_all (λ b. follows (class_of b))) all ∙ every bs ∙ sym (ap (λ t. t && name_bytes bs) led)
    ∙ sym (ap (λ t. t && (leads (class_of b) && name_bytes bs)) (le-leb _ _ short))

-- The steps of a path, one by one.
use Rattle.std.proofs.Common.{◌≡◌, Bool, true, false, cond, ◌&&◌, List, [], ◌∷◌, map, length, take, refl, ap, ◌∙◌, arith}
use Rattle.std.specs.Cmp.Lexicographic.{pointwise}
use Rattle.std.specs.List.{AllByRecursion}
use Rattle.std.proofs.lemmas.List.{length-map, length-take-le}
use Rattle.sheet_text.proofs.Plain.{name_is}
use Rattle.path.specs.declared.Path.{Path}
use Rattle.path.specs.declared.Step.{Step}
use Rattle.path.specs.declared.Step.TheVariants.{Field, Index}
use Rattle.path.specs.Lawful.{Lawful, LawfulPath}
use Rattle.std.specs.Ordering.{on}
use Rattle.path.specs.Meaning.{name_of, step_of, path_of, same_step, same_path}

pub lawful_step : (s : Step) → Lawful (step_of s)
lawful_step (Field n) = name_is (name_of n) n.proper
lawful_step (Index i) = i.small

all_lawful : (ss : List Step) → AllByRecursion Lawful (map step_of ss)
all_lawful [] = tt
all_lawful (s ∷ ss) = (lawful_step s, all_lawful ss)

module _ (p : Path) where
  steps_length : length (take p.len p.steps) ≡ p.len
  steps_length = length-take-le p.len p.steps (omega (arith, p.full, p.short))

  pub path_length : length (path_of p) ≡ p.len
  path_length = length-map (take p.len p.steps) step_of ∙ steps_length

  pub lawful_path : LawfulPath (path_of p)
  lawful_path = record { few = omega (arith, path_length, p.short); each = all_lawful (take p.len p.steps) }

and_cond : (a b : Bool) → (a && b) ≡ cond a b false
and_cond true b = refl
and_cond false b = refl

-- step by step
pub same_steps : (xs ys : List Step) → pointwise (on step_of same_step) xs ys ≡ same_path (map step_of xs) (map step_of ys)
same_steps [] [] = refl
same_steps [] (y ∷ ys) = refl
same_steps (x ∷ xs) [] = refl
same_steps (x ∷ xs) (y ∷ ys) =
    and_cond (same_step (step_of x) (step_of y)) (pointwise (on step_of same_step) xs ys)
    ∙ ap (λ b. cond (same_step (step_of x) (step_of y)) b false) (same_steps xs ys)

pub same_paths : (p q : Path) → pointwise (on step_of same_step) (take p.len p.steps) (take q.len q.steps) ≡ same_path (path_of p) (path_of q)
same_paths p q = same_steps (take p.len p.steps) (take q.len q.steps)

-- Paths in print, step by step, and how long they are.
use Rattle.std.proofs.Common.{◌≡◌, ℕ, ◌+◌, ◌*◌, ◌<◌, ◌≤◌, List, [], ◌∷◌, ◌++◌, map, length, get_or, take, codes, decimal, sym, ap, ◌∙◌, arith, length-append}
use Rattle.std.specs.List.{AllByRecursion, flat_map}
use Rattle.std.proofs.lemmas.Fmt.{length-decimal-le}
use Rattle.std.proofs.lemmas.List.{flat_map_more, map_more}
use Rattle.path.specs.declared.Path.{Path}
use Rattle.path.specs.declared.Step.{Step}
use Rattle.path.specs.Lawful.{Lawful, LawfulPath}
use Rattle.path.specs.Meaning.{Downward, field, element, step_of, path_of}
use Rattle.path.specs.Printed.{step_text, printed}
use Rattle.path.proofs.Laws.{lawful_path, lawful_step}

-- one step more
pub printed_more : (ss : List Step) (i : ℕ) (s : Step) → i < length ss → s ≡ get_or ss i s
    → printed (map step_of (take i ss)) ++ step_text (step_of s) ≡ printed (map step_of (take (i + 1) ss))
printed_more ss i s h e =
    let front = map step_of (take i ss) in
    ap (λ x. printed front ++ step_text (step_of x)) e
    ∙ flat_map_more step_text (codes "root") front (step_of (get_or ss i s))
    ∙ ap printed (sym (map_more step_of ss i s h))

step_short : (d : Downward) → Lawful d → length (step_text d) ≤ 17
step_short (field n) h = omega (arith, h.few)
step_short (element i) h = omega (arith, length-append (decimal i) (93 ∷ []), length-decimal-le 5 i (omega arith) (omega arith))

steps_short : (ds : List Downward) → AllByRecursion Lawful ds → length (flat_map step_text ds) ≤ 17 * length ds
steps_short [] h = omega arith
steps_short (d ∷ ds) h = omega (arith, step_short d h.0, steps_short ds h.1, length-append (step_text d) (flat_map step_text ds))

pub each_short : (s : Step) → length (step_text (step_of s)) ≤ 17
each_short s = step_short (step_of s) (lawful_step s)

-- `root` and 8 steps of at most 17 bytes
pub printed_short : (ds : List Downward) → LawfulPath ds → length (printed ds) ≤ 140
printed_short ds h = omega (arith, h.few, steps_short ds h.each, length-append (codes "root") (flat_map step_text ds))

pub path_short : (p : Path) → length (printed (path_of p)) ≤ 140
path_short p = printed_short (path_of p) (lawful_path p)

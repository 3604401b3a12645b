-- Laws of what Replaced defines, for this crate and those above it.
use Rattle.std.proofs.Common.{List, ℕ, ◌≡◌, [], refl, ◌∷◌, ap}
use Rattle.cm_types.specs.TypeTrees.{plain_from}
use Rattle.cm_types.specs.Types.{plain}
use Rattle.cm_types_arena.specs.Replaced.{Standing, replaced_cases}

pub plain_by : (s : Standing) (ls : List (List ℕ)) → replaced_cases s (plain_from ls) ≡ plain_from ls
plain_by s [] = refl
plain_by s (l ∷ ls) = ap (plain l) (plain_by s ls)

-- Laws of what Instances defines, for this crate and those above it.
use Rattle.std.proofs.Common.{List, map, ◌≡◌, [], refl, ◌∷◌, ap, ℕ}
use Rattle.cm_types.specs.Types.{Ty, FuncTy}
use Rattle.cm_types_arena.specs.Instances.{replaced_item, item_of}
use Rattle.cm_types_arena.specs.Replaced.{Standing}
use Rattle.cm_types_arena.specs.declared.instances.Item.{Item}

-- items keep their names where they are placed and replaced
pub placed_names : (types : List Ty) (funcs : List FuncTy) (s : Standing) (items : List Item) → map (λ i. i.name) (map (replaced_item s) (map (item_of types funcs) items)) ≡ map (λ (i : Item). i.name) items
placed_names types funcs s [] = refl
placed_names types funcs s (i ∷ items) = ap (λ (l : List (List ℕ)). i.name ∷ l) (placed_names types funcs s items)

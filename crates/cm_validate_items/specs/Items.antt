-- The items of the type of an instance: by name, and those that bring a resource.
use Rattle.std.specs.Prelude.{◌≡◌, ℕ, ◌+◌, List, [], ◌∷◌, ◌++◌, Option, Some, None}
use Rattle.std.specs.Prelude.{if◌then◌else◌}
use Rattle.std.specs.BTreeMap.{BTreeMap, get_by_text}
use Rattle.std.specs.Str.{bytes_eq}
use Rattle.std.specs.declared.alloc.Global.{Global}
use Rattle.std.specs.declared.string.String.{String}
use Rattle.cm_types_arena.specs.declared.instances.InstanceType.{InstanceType}
use Rattle.cm_types_arena.specs.declared.instances.Item.{Item}
use Rattle.cm_types_arena.specs.declared.instances.ItemDesc.{ItemDesc}
use Rattle.cm_types_arena.specs.declared.instances.ItemDesc.TheVariants as item

-- the first item of this name, with its number, which are counted from `next` on
abbrev pub item_named : ℕ → List Item → List ℕ → Option (ℕ × ItemDesc)
item_named next [] name = None
item_named next (x ∷ xs) name =
    if bytes_eq x.name name then Some (next, x.desc) else item_named (next + 1) xs name

-- a map tells them
abbrev pub AreFound : BTreeMap (String Global) (ℕ × ItemDesc) → ℕ → List Item → Type 0
AreFound named next items =
    (name : List ℕ) → get_by_text named name ≡ item_named next items name

-- the numbers of the items that bring a resource, counted from `next` on
abbrev pub fresh_at : ℕ → ItemDesc → List ℕ
fresh_at number (item.FreshResource n) = number ∷ []
fresh_at number _ = []

abbrev pub fresh_from : ℕ → List Item → List ℕ
fresh_from next [] = []
fresh_from next (x ∷ xs) = fresh_at next x.desc ++ fresh_from (next + 1) xs

abbrev pub fresh_of : InstanceType → List ℕ
fresh_of i = fresh_from 0 i.items.items

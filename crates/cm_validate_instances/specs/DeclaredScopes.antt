-- The scope that declarations were read into.
use Rattle.std.specs.Prelude.{ℕ, List, [], ◌∷◌, ◌++◌}
use Rattle.cm_types.specs.Signatures.{NamedItem}
use Rattle.cm_types_arena.specs.Instances.{desc_of, items_of}
use Rattle.cm_types_arena.specs.declared.instances.ItemDesc.{ItemDesc}
use Rattle.cm_validate_model.specs.Declarations.{Scope}
use Rattle.cm_validate_types.specs.Entries.{def_of}
use Rattle.cm_validate_types.specs.declared.entries.TypeEntry.{TypeEntry}
use Rattle.cm_validate_types.specs.declared.scope.TypeScope.{TypeScope}
use Rattle.cm_validate_types.specs.TypeScopes.{arena_funcs, arena_types, own_types, types_around}
use Rattle.cm_validate_instances.specs.declared.declarations.Declarations.{Declarations}

-- the items so far
abbrev pub items_so_far : Declarations → List NamedItem
items_so_far d = items_of (arena_types d.scope) (arena_funcs d.scope) d.items.items

-- the scope of the declarations so far: its types, those around, its items, and the next resource's
-- number
abbrev pub scope_so_far : Declarations → Scope
scope_so_far d =
    record {
      types = own_types d.scope;
      around = types_around d.scope;
      next = d.next;
      items = items_so_far d;
    }

-- the scope whose arena the types stand in
abbrev pub scope_of : Declarations → TypeScope
scope_of d = d.scope

-- the number of the first resource of the instance's own
abbrev pub first_resource : Declarations → ℕ
first_resource d = d.first

-- with another item, and with a type beside it
abbrev pub with_desc : Declarations → List ℕ → ItemDesc → Scope
with_desc d name i =
    record (scope_so_far d) {
      items =
          items_so_far d
          ++ record { name = name; desc = desc_of (arena_types d.scope) (arena_funcs d.scope) i }
          ∷ [];
    }

abbrev pub with_both : Declarations → List ℕ → ItemDesc → TypeEntry → Scope
with_both d name i e =
    record (with_desc d name i) {
      types = own_types d.scope ++ def_of (arena_types d.scope) (arena_funcs d.scope) e ∷ [];
    }

-- The types of the instances that a component exports, each made once: an instance that is exported
-- under several names has one number (Explainer.md, "Index Spaces", "Import and Export
-- Definitions").
use Rattle.std.specs.Prelude.{◌≡◌, ℕ, true, List, Option, Some, IfSome, length, map, slice_get}
use Rattle.std.specs.BTreeMap.{get}
use Rattle.std.specs.List.{list_all}
use Rattle.std.specs.Ordering.{nat_cmp}
use Rattle.std.specs.declared.alloc.Global.{Global}
use Rattle.std.specs.declared.rc.Rc.{Rc}
use Rattle.cm_types.specs.Types.{FuncTy, Ty}
use Rattle.cm_types_arena.specs.Instances.{are_items_there, items_of}
use Rattle.cm_types_arena.specs.declared.instances.InstanceType.{InstanceType}
use Rattle.cm_types_arena.specs.Externs.{extern_desc_of, extern_of, is_extern_there}
use Rattle.cm_types_arena.specs.declared.externs.Extern.{Extern}
use Rattle.cm_types_arena.specs.declared.externs.ExternDesc.{ExternDesc}
use Rattle.cm_validate_model.specs.Definitions.{NamedMember, exported_instance}
use Rattle.cm_validate_model.specs.Spaces.{Spaces, items_of_members}
use Rattle.cm_validate_entries.specs.ComponentSpaces.{export_def, exported_def, is_exported_there}
use Rattle.cm_validate_entries.specs.declared.spaces.ExportEntry.{ExportEntry}
use Rattle.cm_validate_entries.specs.declared.spaces.ExportedEntry.{ExportedEntry}
use Rattle.cm_validate.specs.Exports.{exported_extern, exported_type}
use Rattle.cm_validate.specs.declared.made.Made.{Made}

-- ---- what exports are, among the types of an arena

-- these are the exports of a component, their places in the arena
pub record AreExportsOf (types : List Ty) (funcs : List FuncTy) (s : Spaces)
    (exports : List ExportEntry) : Type 0 where
  pub are : s.exports ≡ map (export_def types funcs) exports
  pub there :
      list_all (λ e. is_exported_there (length types) (length funcs) e.def) exports ≡ true

-- the number of an export, if it has one, is that of the instance that it is
pub record IsInstanceNumber (types : List Ty) (funcs : List FuncTy) (s : Spaces) (number : Option ℕ)
    (def : ExportedEntry) : Type 0 where
  pub is : IfSome number (λ r. (ms : List NamedMember) × (slice_get s.instances r ≡ Some ms)
      × (exported_def types funcs def ≡ exported_instance ms))
  pub there : is_exported_there (length types) (length funcs) def ≡ true

-- ---- what was made

-- the items of this type are what these members are, their places in the arena
pub record IsTypeOf (types : List Ty) (funcs : List FuncTy) (ms : List NamedMember)
    (t : InstanceType) : Type 0 where
  pub are : items_of types funcs t.items.items ≡ items_of_members ms
  pub there : are_items_there (length types) (length funcs) t.items.items ≡ true

-- each type that was made is that of the instance of its number
pub record AreMade (types : List Ty) (funcs : List FuncTy) (s : Spaces) (m : Made) : Type 0 where
  pub each : (number : ℕ) (t : Rc InstanceType Global) (ms : List NamedMember)
      → get nat_cmp m.types number ≡ Some t → slice_get s.instances number ≡ Some ms
      → IsTypeOf types funcs ms t.value

-- this holds in each arena that has the export, and for which what was made is right
abbrev pub InEachArena : Made → Option ℕ → ExportedEntry
    → (List Ty → List FuncTy → Spaces → Type 0) → Type 0
InEachArena m number def P =
    (types : List Ty) (funcs : List FuncTy) (s : Spaces) → AreMade types funcs s m
    → IsInstanceNumber types funcs s number def → P types funcs s

-- ---- what is shown

-- what is exported, with its name and without, is this, its places in the arena
pub record IsDescOf (types : List Ty) (funcs : List FuncTy) (def : ExportedEntry)
    (d : ExternDesc) : Type 0 where
  pub is : extern_desc_of types funcs d ≡ exported_type (exported_def types funcs def)
  pub there : is_extern_there (length types) (length funcs) d ≡ true

pub record IsExternOf (types : List Ty) (funcs : List FuncTy) (export : ExportEntry)
    (e : Extern) : Type 0 where
  pub is : extern_of types funcs e ≡ exported_extern (export_def types funcs export)
  pub there : is_extern_there (length types) (length funcs) e.desc ≡ true

-- what several exports are, in order, with their names and without, their places in the arena
pub record AreExternsOf (types : List Ty) (funcs : List FuncTy) (exports : List ExportEntry)
    (es : List Extern) : Type 0 where
  pub are : map (extern_of types funcs) es
      ≡ map exported_extern (map (export_def types funcs) exports)
  pub there : list_all (λ e. is_extern_there (length types) (length funcs) e.desc) es ≡ true

-- What is kept of a component, to find its core functions.
use Rattle.std.specs.Prelude.{◌≡◌, ◌||◌, ℕ, Bool, true, false, List, Option, Some, IfSome, map}
use Rattle.std.specs.Prelude.{is_some, slice_get}
use Rattle.std.specs.BTreeSet.{BTreeSet, contains}
use Rattle.std.specs.List.{find}
use Rattle.std.specs.Option.{option_map, option_map_or}
use Rattle.std.specs.Ordering.{nat_cmp}
use Rattle.cm_names.specs.Listed.{listed}
use Rattle.cm_types.specs.Types.{FuncTy}
use Rattle.cm_types_arena.specs.Placed.{placed_func}
use Rattle.cm_validate_model.specs.Definitions.{ExportDef, exported_instance, NamedMember}
use Rattle.cm_validate_model.specs.Spaces.{Spaces}
use Rattle.cm_validate_functions.specs.Lifts.{LiftDef, Purpose, lifting, post_return, allocating}
use Rattle.cm_validate_functions.specs.Lifts.{lifts_of_members, uses}
use Rattle.cm_validate_functions.specs.Options.{is_number}
use Rattle.cm_validate_functions.specs.Tables.{export_keys, import_key, import_keys, item_key}
use Rattle.cm_validate_functions.specs.Tables.{allocator_key, destructor_key, use_key}
use Rattle.cm_validate_functions.specs.declared.leading.Names.{Names}
use Rattle.cm_validate_functions.specs.declared.lifts.Lift.{Lift}
use Rattle.cm_validate_functions.specs.declared.lift_tables.LiftTables.{LiftTables}
use Rattle.cm_validate_functions.specs.declared.using.Uses.{Uses}

-- these are the names of a component with these index spaces
pub record AreNamesOf (s : Spaces) (n : Names) : Type 0 where
  pub exports_are : listed n.exports ≡ export_keys s.exports
  pub imports_are : listed n.imports ≡ import_keys s.imports
  pub lowered_are : listed n.lowered ≡ map import_key s.core_funcs
  pub items_are : listed n.items ≡ map (item_key s.imports) s.core_funcs

-- ---- lifts

-- what a lift is, among the types of functions of an arena
abbrev pub lift_def : List FuncTy → Lift → LiftDef
lift_def funcs l =
    record {
      export = l.export;
      item = option_map (λ n. n.now) l.item;
      func = l.core_func;
      ty = placed_func funcs l.ty;
      options = l.options.now;
    }

-- Among some lifts the first for each use of a core function is the same as among others.
abbrev pub AreFirstOf : List LiftDef → List LiftDef → Type 0
AreFirstOf all lifts = (p : Purpose) (f : ℕ) → find (uses p f) lifts ≡ find (uses p f) all

-- each core function that some lifts use is used so by others
abbrev pub AreUsedBy : List LiftDef → List LiftDef → Type 0
AreUsedBy lifts others = (p : Purpose) (f : ℕ) → is_some (find (uses p f) lifts) ≡ true
    → is_some (find (uses p f) others) ≡ true

-- an export, if it has a number, is the instance of this number
abbrev pub IsOfNumber : Spaces → Option ℕ → ExportDef → Type 0
IsOfNumber s number def = IfSome number (λ r. (ms : List NamedMember)
    × (slice_get s.instances r ≡ Some ms) × (def ≡ exported_instance ms))

-- whether an instance was met before, by its number, if it has one
abbrev pub was_met : Option ℕ → BTreeSet ℕ → Bool
was_met number met = option_map_or (contains nat_cmp met) number false

-- an instance was met now, and no other one
abbrev pub Meets : Option ℕ → BTreeSet ℕ → BTreeSet ℕ → Type 0
Meets number old new = (r : ℕ)
    → contains nat_cmp new r ≡ (is_number r number || contains nat_cmp old r)

-- Of the lifts so far, some are kept: the first ones, and those of each instance that was met.
pub record AreKept (funcs : List FuncTy) (s : Spaces) (all : List LiftDef) (met : BTreeSet ℕ)
    (lifts : List Lift) : Type 0 where
  pub firsts : AreFirstOf all (map (lift_def funcs) lifts)
  pub used : (r : ℕ) (ms : List NamedMember) → contains nat_cmp met r ≡ true
      → slice_get s.instances r ≡ Some ms
      → AreUsedBy (lifts_of_members 0 ms) (map (lift_def funcs) lifts)

-- the lifts that are kept, and those that use a core function so
abbrev pub lifts_in : List FuncTy → LiftTables → List LiftDef
lifts_in funcs t = map (lift_def funcs) t.lifts.items

-- Those that are kept are found by the core functions that they use, and the first of each use is
-- the first among the lifts of the component.
pub record AreLiftsOf (funcs : List FuncTy) (all : List LiftDef) (t : LiftTables) : Type 0 where
  pub firsts : AreFirstOf all (lifts_in funcs t)
  pub lifted_are : listed t.lifted ≡ map (use_key lifting) (lifts_in funcs t)
  pub post_returns_are : listed t.post_returns ≡ map (use_key post_return) (lifts_in funcs t)
  pub allocators_are : listed t.allocators ≡ map (use_key allocating) (lifts_in funcs t)

-- ---- the other uses

-- the allocators of lowers, and the destructors of resources
pub record AreUsesOf (s : Spaces) (u : Uses) : Type 0 where
  pub allocators_are : listed u.allocators ≡ map allocator_key s.core_funcs
  pub destructors_are : listed u.destructors ≡ map destructor_key s.resources

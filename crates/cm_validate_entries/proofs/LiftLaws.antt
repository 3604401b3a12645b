-- Functions that are lifted.
use Rattle.std.proofs.Common.{◌≡◌, ℕ, List, length, Option, Some, refl, ap, sym, ◌∙◌, Result, Ok, Err, IfOk, IfErr}
use Rattle.std.specs.Borrow.{Bor}
use Rattle.std.specs.List.{slice_get}
use Rattle.std.specs.Prelude.{map, option_to_list}
use Rattle.std.specs.Option.{option_and_then}
use Rattle.cm_types.specs.Types.{Ty, FuncTy}
use Rattle.cm_binary_model.specs.Trees.{lift}
use Rattle.cm_binary_model.specs.declared.canons.CanonOption.{CanonOption}
use Rattle.cm_types_arena.specs.Placed.{placed_func}
use Rattle.cm_types_arena.specs.declared.placed.Placed.{Placed}
use Rattle.cm_validate_model.specs.declared.fault.ValidReason.{ValidReason}
use Rattle.cm_validate_model.specs.Definitions.{TypeDef}
use Rattle.cm_validate_model.specs.Items.{canon_item}
use Rattle.cm_validate_model.specs.Reasons.{index_broken, least}
use Rattle.cm_validate_model.specs.Rules.{func_ty_at, type_index_broken}
use Rattle.cm_validate_model.specs.Spaces.{Spaces, after_item, func_ty_in, lifted_func}
use Rattle.cm_validate_model.specs.TypeRules.{has_sort}
use Rattle.cm_validate_model.specs.declared.sorts.TypeSort.TheVariants as sort
use Rattle.cm_validate_types.specs.Entries.{entry_sort, is_entry_there}
use Rattle.cm_validate_types.specs.declared.entries.TypeEntry.{TypeEntry}
use Rattle.cm_validate_types.specs.declared.entries.TypeEntry.TheVariants as entry
use Rattle.cm_validate_entries.specs.ComponentSpaces.{AreTypesOf, IsComponentOf}
use Rattle.cm_validate_entries.specs.Steps.{PushesFunc}
use Rattle.cm_validate_entries.specs.declared.entries.FuncEntry.TheVariants as func
use Rattle.cm_validate_entries.specs.declared.spaces.ComponentSpaces.{ComponentSpaces}
use Rattle.cm_validate_entries.proofs.ImportLaws.{sorts_are, type_at_index}
use Rattle.cm_validate_entries.proofs.StepLaws.{func_pushed}
use Rattle.cm_lemmas.proofs.Lists.{all_found}

-- ---- the type of a function under an index

pub type_told : (es : List TypeEntry) (i : ℕ) (p : Placed) → slice_get es i ≡ Some (entry.Func p)
    → (types : List Ty) (funcs : List FuncTy) (s : Spaces) → AreTypesOf types funcs es s → func_ty_at s i ≡ Some (placed_func funcs p)
type_told es i p is types funcs s t = ap (option_and_then func_ty_in) (type_at_index types funcs s es i (entry.Func p) t is)

pub sort_told : (es : List TypeEntry) (i : ℕ) (q : ValidReason) → Some q ≡ least (index_broken (has_sort sort.Func) (map entry_sort es) i)
    → (types : List Ty) (funcs : List FuncTy) (s : Spaces) → AreTypesOf types funcs es s → Some q ≡ least (type_index_broken s (has_sort sort.Func) i)
sort_told es i q e types funcs s t = e ∙ ap (λ v. least (index_broken (has_sort sort.Func) v i)) (sym (sorts_are types funcs es s t))

pub where_ok : {A E : Type 0} {P Q : A → Type 0} (r : Result A E) → ((x : A) → P x → Q x) → IfOk r P → IfOk r Q
where_ok (Ok x) f p = f x p
where_ok (Err e) f p = tt

pub where_err : {A E : Type 0} {P Q : E → Type 0} (r : Result A E) → ((e : E) → P e → Q e) → IfErr r P → IfErr r Q
where_err (Ok x) f p = tt
where_err (Err e) f p = f e p

-- ---- after a lift

pub func_lifted : (types : List Ty) (funcs : List FuncTy) (old new : ComponentSpaces) (s : Spaces) (es : List TypeEntry) (i core_func : ℕ) (options : Bor (List CanonOption)) (p : Placed)
    → IsComponentOf types funcs old s → AreTypesOf types funcs es s → slice_get es i ≡ Some (entry.Func p) → PushesFunc (func.Lifted core_func p options) old new
    → IsComponentOf types funcs new (after_item s (canon_item (lift core_func options.now i)))
func_lifted types funcs old new s es i core_func options p r t is pushes =
    func_pushed types funcs old new s (canon_item (lift core_func options.now i)) (func.Lifted core_func p options)
    (ap (λ (o : Option TypeDef). option_to_list (option_and_then (lifted_func core_func options.now) o)) (type_at_index types funcs s es i (entry.Func p) t is)) refl refl refl refl
    (all_found (is_entry_there (length types) (length funcs)) es i (entry.Func p) t.types_there is) r pushes

-- The names of items, by the places of imports and exports.
use Rattle.std.proofs.Common.{◌≡◌, ℕ, List, map, Option, Some, None, refl, sym, ap, ◌∙◌}
use Rattle.std.specs.List.{slice_get}
use Rattle.std.specs.Option.{option_map}
use Rattle.std.proofs.lemmas.Option.{slice_get-map}
use Rattle.cm_types.specs.Types.{FuncTy, Ty}
use Rattle.cm_types_arena.specs.Places.{funcs_of, types_of}
use Rattle.cm_types_arena.specs.declared.types.Types.{Types}
use Rattle.cm_types_arena.specs.Externs.{extern_desc_of, extern_of}
use Rattle.cm_types_arena.specs.Placed.{moved_by}
use Rattle.cm_types_arena.specs.declared.externs.Extern.{Extern}
use Rattle.cm_types_arena.specs.declared.externs.ExternDesc.{ExternDesc}
use Rattle.cm_types_arena.specs.declared.externs.ExternDesc.TheVariants as extern
use Rattle.cm_types_arena.specs.Listed.{names_at, names_of_desc, names_of_named, number_at}
use Rattle.cm_types_arena.specs.Numbered.{names_of_extern, names_of_items}
use Rattle.cm_types_arena.specs.declared.named_externs.Externs.{Externs}
use Rattle.cm_types_arena.specs.declared.named_externs.Externs.TheVariants as externs
use Rattle.cm_types_arena.proofs.InstancesLaws.{placed_names}

pub desc_names : (types : List Ty) (funcs : List FuncTy) (d : ExternDesc) → names_of_desc (extern_desc_of types funcs d) ≡ names_of_items d
desc_names types funcs (extern.Func p) = refl
desc_names types funcs (extern.Instance ty by) = placed_names types funcs (moved_by by) ty.value.items.items

pub of_one : (types : List Ty) (funcs : List FuncTy) (e : Option Extern) → names_of_named (option_map (extern_of types funcs) e) ≡ names_of_extern e
of_one types funcs None = refl
of_one types funcs (Some e) = desc_names types funcs e.desc

pub names_there : (types : List Ty) (funcs : List FuncTy) (es : List Extern) (place : ℕ) → names_of_named (slice_get (map (extern_of types funcs) es) place) ≡ names_of_extern (slice_get es place)
names_there types funcs es place = ap names_of_named (slice_get-map (extern_of types funcs) es place) ∙ of_one types funcs (slice_get es place)

pub equal_names : (t : Types) (es : Externs) (a b n : ℕ) → number_at es a ≡ Some n → number_at es b ≡ Some n → names_at t es a ≡ names_at t es b
equal_names t (externs.OfComponent es) a b n x y =
    names_there (types_of t) (funcs_of t) es.externs.items a
    ∙ (es.alike a b n x y ∙ sym (names_there (types_of t) (funcs_of t) es.externs.items b))
equal_names t (externs.OfWorld s) a b n x y = absurd cc

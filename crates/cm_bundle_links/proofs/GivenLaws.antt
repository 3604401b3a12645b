-- What stands in a place, as the code reads it.
use Rattle.std.proofs.Common.{◌≡◌, ◌∙◌, ℕ, List, Option, None, Some, ap, map, refl, slice_get, sym}
use Rattle.std.proofs.lemmas.Option.{slice_get-map}
use Rattle.std.specs.Borrow.{Bor}
use Rattle.std.specs.Option.{option_map}
use Rattle.std.specs.Slice.{IsItemAt}
use Rattle.cm_lemmas.proofs.Lists.{get_map, got}
use Rattle.cm_types.specs.Types.{FuncTy, Ty}
use Rattle.cm_types_arena.specs.Externs.{extern_of}
use Rattle.cm_types_arena.specs.declared.externs.Extern.{Extern}
use Rattle.cm_bundle.specs.Trees.{supply_tree}
use Rattle.cm_bundle.specs.declared.form.Supply.{Supply}

pub import_there : (types : List Ty) (funcs : List FuncTy) (is : List Extern) (n : ℕ) (i : Extern) → slice_get is n ≡ Some i → slice_get (map (extern_of types funcs) is) n ≡ Some (extern_of types funcs i)
import_there types funcs is n i there = get_map (extern_of types funcs) is n i there

twice : (o : Option (Bor Supply)) → option_map supply_tree (option_map (λ x. x.now) o) ≡ option_map (λ x. supply_tree x.now) o
twice None = refl
twice (Some x) = refl

pub given_there : (xs : List Supply) (n : ℕ) (o : Option (Bor Supply)) → IsItemAt xs n o → slice_get (map supply_tree xs) n ≡ option_map (λ x. supply_tree x.now) o
given_there xs n o lookup = slice_get-map supply_tree xs n ∙ ap (option_map supply_tree) (sym (got xs n o lookup)) ∙ twice o

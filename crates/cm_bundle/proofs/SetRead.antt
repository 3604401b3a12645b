-- What is read of the components of a set.
use Rattle.std.proofs.Common.{◌≡◌, ◌∙◌, ℕ, List, [], Option, Some, None, map, slice_get, refl, sym, ap, option_and_then}
use Rattle.std.proofs.lemmas.Option.{slice_get-map}
use Rattle.std.specs.Borrow.{Bor}
use Rattle.std.specs.Option.{option_map, option_map_or}
use Rattle.std.specs.Slice.{IsItemAt}
use Rattle.cm_lemmas.proofs.Lists.{got, mapped_twice}
use Rattle.cm_types_arena.specs.Externs.{extern_of}
use Rattle.cm_types_arena.specs.declared.externs.Extern.{Extern}
use Rattle.cm_validate_entries.specs.ComponentSpaces.{export_def}
use Rattle.cm_validate_entries.specs.declared.spaces.ExportEntry.{ExportEntry}
use Rattle.cm_match_model.specs.Imports.{import_in}
use Rattle.cm_match_serving.specs.Sets.{funcs_at, spaces_of_all, types_at}
use Rattle.cm_match_serving.specs.cm_validate_spaces.Checked.{funcs_in, spaces_in, types_in}
use Rattle.cm_match_serving.specs.cm_validate_spaces.declared.checked.Checked.{Checked}
use Rattle.cm_match.proofs.Follow.{space_at}
use Rattle.cm_bundle.specs.Trees.{SupplyTree}
use Rattle.cm_bundle.specs.Bundled.{export_at, exported, exports_of}

got_by : {X Y : Type 0} (f : X → Y) (xs : List X) (i : ℕ) (r : Option (Bor X)) → IsItemAt xs i r → option_map (λ x. f x.now) r ≡ option_map f (slice_get xs i)
got_by f xs i r h = twice r ∙ ap (option_map f) (got xs i r h)
  where
    twice : (o : Option (Bor _)) → option_map (λ x. f x.now) o ≡ option_map f (option_map (λ x. x.now) o)
    twice None = refl
    twice (Some x) = refl

-- an export of a component, as a bundle has it
abbrev pub shown : List Checked → ℕ → ExportEntry → SupplyTree
shown cs c e = exported c (export_def (types_at cs c) (funcs_at cs c) e)

-- there is no such component
module _ (cs : List Checked) (c : ℕ) (there : slice_get cs c ≡ None) where
  none_there : slice_get (spaces_of_all cs) c ≡ None
  none_there = space_at cs c ∙ ap (option_map spaces_in) there

  pub import_none : (i : ℕ) → import_in (spaces_of_all cs) c i ≡ None
  import_none i = ap (option_and_then (λ s. slice_get s.imports i)) none_there

  pub export_none : (i : ℕ) → export_at (spaces_of_all cs) c i ≡ None
  export_none i = ap (option_and_then (λ s. slice_get s.exports i)) none_there

  pub exports_none : [] ≡ exports_of (spaces_of_all cs) c
  exports_none = sym (ap (λ o. option_map_or (λ s. map (exported c) s.exports) o []) none_there)

module _ (cs : List Checked) (c : ℕ) (x : Checked) (there : slice_get cs c ≡ Some x) where
  types_there : types_at cs c ≡ types_in x
  types_there = ap (λ o. option_map_or types_in o []) there

  funcs_there : funcs_at cs c ≡ funcs_in x
  funcs_there = ap (λ o. option_map_or funcs_in o []) there

  pub space_there : slice_get (spaces_of_all cs) c ≡ Some (spaces_in x)
  space_there = space_at cs c ∙ ap (option_map spaces_in) there

  pub import_read : (i : ℕ) (es : List Extern) (r : Option (Bor Extern)) → (spaces_in x).imports ≡ map (extern_of (types_in x) (funcs_in x)) es → IsItemAt es i r
      → option_map (λ e. extern_of (types_at cs c) (funcs_at cs c) e.now) r ≡ import_in (spaces_of_all cs) c i
  import_read i es r are h =
      got_by (extern_of (types_at cs c) (funcs_at cs c)) es i r h
      ∙ ap (λ ts. option_map (extern_of ts (funcs_at cs c)) (slice_get es i)) types_there
      ∙ ap (λ fs. option_map (extern_of (types_in x) fs) (slice_get es i)) funcs_there
      ∙ sym (slice_get-map (extern_of (types_in x) (funcs_in x)) es i)
      ∙ ap (λ ys. slice_get ys i) (sym are)
      ∙ sym (ap (option_and_then (λ s. slice_get s.imports i)) space_there)

  pub name_read : (i : ℕ) (es : List ExportEntry) (r : Option (Bor ExportEntry)) → (spaces_in x).exports ≡ map (export_def (types_in x) (funcs_in x)) es → IsItemAt es i r
      → option_map (λ e. e.now.name.now) r ≡ option_map (λ e. e.name) (export_at (spaces_of_all cs) c i)
  name_read i es r are h =
      got_by (λ e. e.name.now) es i r h
      ∙ names (slice_get es i)
      ∙ ap (option_map (λ e. e.name)) (sym (slice_get-map (export_def (types_in x) (funcs_in x)) es i) ∙ ap (λ ys. slice_get ys i) (sym are) ∙ sym (ap (option_and_then (λ s. slice_get s.exports i)) space_there))
    where
      names : (o : Option ExportEntry) → option_map (λ e. e.name.now) o ≡ option_map (λ e. e.name) (option_map (export_def (types_in x) (funcs_in x)) o)
      names None = refl
      names (Some e) = refl

  pub exports_told : (es : List ExportEntry) (out : List SupplyTree) → (spaces_in x).exports ≡ map (export_def (types_in x) (funcs_in x)) es → out ≡ map (shown cs c) es → out ≡ exports_of (spaces_of_all cs) c
  exports_told es out are told =
      told
      ∙ ap (λ ts. map (λ e. exported c (export_def ts (funcs_at cs c) e)) es) types_there
      ∙ ap (λ fs. map (λ e. exported c (export_def (types_in x) fs e)) es) funcs_there
      ∙ mapped_twice (exported c) (export_def (types_in x) (funcs_in x)) es
      ∙ ap (map (exported c)) (sym are)
      ∙ sym (ap (λ o. option_map_or (λ s. map (exported c) s.exports) o []) space_there)

-- What is read of the components of a set.
use Rattle.std.proofs.Common.{◌≡◌, ◌∙◌, ℕ, List, [], Option, Some, None, map, slice_get, refl, sym, ap, option_and_then}
use Rattle.std.proofs.lemmas.Option.{slice_get-map}
use Rattle.std.specs.Borrow.{Bor}
use Rattle.std.specs.declared.alloc.Global.{Global}
use Rattle.std.specs.declared.rc.Rc.{Rc}
use Rattle.std.specs.Option.{option_map, option_map_or}
use Rattle.std.specs.Slice.{IsItemAt}
use Rattle.cm_types.specs.Signatures.{NamedExtern, NamedItem}
use Rattle.cm_types.specs.Types.{FuncTy, Ty}
use Rattle.cm_types_arena.specs.declared.moves.Move.{Move}
use Rattle.cm_types_arena.specs.Placed.{moved_by}
use Rattle.cm_types_arena.specs.Instances as instances
use Rattle.cm_types_arena.specs.declared.instances.Item.{Item}
use Rattle.cm_types_arena.specs.declared.instances.InstanceType.{InstanceType}
use Rattle.cm_types_arena.specs.Externs.{extern_desc_of, extern_of}
use Rattle.cm_types_arena.specs.declared.externs.ExternDesc.TheVariants as extern
use Rattle.cm_types_arena.specs.declared.externs.Extern.{Extern}
use Rattle.cm_validate_model.specs.Definitions.{NamedExport}
use Rattle.cm_validate_model.specs.Spaces.{Spaces, member_named}
use Rattle.cm_validate_items.specs.Ranges.{resource_def}
use Rattle.cm_validate_items.specs.declared.ranges.Resource.{Resource}
use Rattle.cm_validate_spaces.specs.cm_validate_entries.ComponentSpaces.{export_def}
use Rattle.cm_validate_spaces.specs.cm_validate_entries.declared.spaces.ExportEntry.{ExportEntry}
use Rattle.cm_validate_spaces.specs.Checked.{funcs_in, spaces_in, types_in}
use Rattle.cm_validate_spaces.specs.declared.checked.Checked.{Checked}
use Rattle.cm_match_model.specs.Origins.{exported_resource, item_name, items_of, members_of, resource_member, resource_of}
use Rattle.cm_match_serving.specs.ToldSets.{member_of, source_by, source_of}
use Rattle.cm_match_model.specs.declared.component.Link.{Link}
use Rattle.cm_match_model.specs.Imports.{export_in, import_in}
use Rattle.cm_match_serving.specs.Sets.{funcs_at, spaces_of_all, types_at}
use Rattle.cm_match_serving.proofs.Rows.{set_at}
use Rattle.cm_lemmas.proofs.Lists.{got}

pub got_by : {X Y : Type 0} (f : X → Y) (xs : List X) (i : ℕ) (r : Option (Bor X)) → IsItemAt xs i r → option_map (λ x. f x.now) r ≡ option_map f (slice_get xs i)
got_by f xs i r h = twice r ∙ ap (option_map f) (got xs i r h)
  where
    twice : (o : Option (Bor _)) → option_map (λ x. f x.now) o ≡ option_map f (option_map (λ x. x.now) o)
    twice None = refl
    twice (Some x) = refl

module _ (cs : List Checked) (c : ℕ) (x : Checked) (there : slice_get cs c ≡ Some x) where
  types_there : types_at cs c ≡ types_in x
  types_there = ap (λ o. option_map_or types_in o []) there

  funcs_there : funcs_at cs c ≡ funcs_in x
  funcs_there = ap (λ o. option_map_or funcs_in o []) there

  pub space_there : slice_get (spaces_of_all cs) c ≡ Some (spaces_in x)
  space_there = set_at cs c ∙ ap (option_map spaces_in) there

  pub import_read : (i : ℕ) (es : List Extern) (r : Option (Bor Extern)) → (spaces_in x).imports ≡ map (extern_of (types_in x) (funcs_in x)) es → IsItemAt es i r
      → option_map (λ e. extern_of (types_at cs c) (funcs_at cs c) e.now) r ≡ import_in (spaces_of_all cs) c i
  import_read i es r are h =
      got_by (extern_of (types_at cs c) (funcs_at cs c)) es i r h
      ∙ ap (λ ts. option_map (extern_of ts (funcs_at cs c)) (slice_get es i)) types_there
      ∙ ap (λ fs. option_map (extern_of (types_in x) fs) (slice_get es i)) funcs_there
      ∙ sym (slice_get-map (extern_of (types_in x) (funcs_in x)) es i)
      ∙ ap (λ ys. slice_get ys i) (sym are)
      ∙ sym (ap (option_and_then (λ s. slice_get s.imports i)) space_there)

  pub export_read : (i : ℕ) (es : List ExportEntry) (r : Option (Bor ExportEntry)) → (spaces_in x).exports ≡ map (export_def (types_in x) (funcs_in x)) es → IsItemAt es i r
      → option_map (λ e. (export_def (types_at cs c) (funcs_at cs c) e.now).def) r ≡ export_in (spaces_of_all cs) c i
  export_read i es r are h =
      got_by (λ e. (export_def (types_at cs c) (funcs_at cs c) e).def) es i r h
      ∙ ap (λ ts. option_map (λ e. (export_def ts (funcs_at cs c) e).def) (slice_get es i)) types_there
      ∙ ap (λ fs. option_map (λ e. (export_def (types_in x) fs e).def) (slice_get es i)) funcs_there
      ∙ defs (slice_get es i)
      ∙ ap (option_map (λ e. e.def)) (sym (slice_get-map (export_def (types_in x) (funcs_in x)) es i) ∙ ap (λ ys. slice_get ys i) (sym are))
      ∙ sym (ap (option_and_then (λ s. option_map (λ e. e.def) (slice_get s.exports i))) space_there)
    where
      defs : (o : Option ExportEntry) → option_map (λ e. (export_def (types_in x) (funcs_in x) e).def) o ≡ option_map (λ e. e.def) (option_map (export_def (types_in x) (funcs_in x)) o)
      defs None = refl
      defs (Some e) = refl

  -- the name of an export
  pub name_read : (i : ℕ) (es : List ExportEntry) (r : Option (Bor ExportEntry)) → (spaces_in x).exports ≡ map (export_def (types_in x) (funcs_in x)) es → IsItemAt es i r
      → option_map (λ (e : Bor ExportEntry). e.now.name.now) r ≡ option_map (λ (e : NamedExport). e.name) (option_and_then (λ s. slice_get s.exports i) (slice_get (spaces_of_all cs) c))
  name_read i es r are h =
      got_by (λ (e : ExportEntry). e.name.now) es i r h
      ∙ names (slice_get es i)
      ∙ ap (option_map (λ (e : NamedExport). e.name)) (sym (slice_get-map (export_def (types_in x) (funcs_in x)) es i) ∙ ap (λ ys. slice_get ys i) (sym are) ∙ sym (ap (option_and_then (λ s. slice_get s.exports i)) space_there))
    where
      names : (o : Option ExportEntry) → option_map (λ (e : ExportEntry). e.name.now) o ≡ option_map (λ (e : NamedExport). e.name) (option_map (export_def (types_in x) (funcs_in x)) o)
      names None = refl
      names (Some e) = refl

  -- where a resource comes from
  pub source_told : (n : ℕ) (r : Option Resource) → option_map resource_def r ≡ slice_get (spaces_in x).resources n → source_of (spaces_of_all cs) (resource_of c n) ≡ option_map (source_by (spaces_of_all cs) c) (option_map resource_def r)
  source_told n r is =
      ap (λ o. option_map (source_by (spaces_of_all cs) c) (option_and_then (λ s. slice_get s.resources n) o)) space_there ∙ ap (option_map (source_by (spaces_of_all cs) c)) (sym is)

-- the resource that an export has under a name
pub member_told : (set : List Spaces) (l : Link) (name : List ℕ) → member_of set l name ≡ option_and_then resource_member (option_and_then (λ e. member_named (members_of e) name) (export_in set l.component l.export))
member_told set l name = by_space (slice_get set l.component)
  where
    by_export : (o : Option NamedExport) → option_and_then (λ e. option_and_then resource_member (member_named (members_of e.def) name)) o
        ≡ option_and_then resource_member (option_and_then (λ e. member_named (members_of e) name) (option_map (λ e. e.def) o))
    by_export None = refl
    by_export (Some e) = refl

    by_space : (o : Option Spaces) → option_and_then (λ s. exported_resource s l.export name) o
        ≡ option_and_then resource_member (option_and_then (λ e. member_named (members_of e) name) (option_and_then (λ s. option_map (λ e. e.def) (slice_get s.exports l.export)) o))
    by_space None = refl
    by_space (Some s) = by_export (slice_get s.exports l.export)

-- ---- items of imports

named_item : Option NamedExtern → ℕ → Option (List ℕ)
named_item o k = option_and_then (λ i. option_map (λ x. x.name) (slice_get (items_of i.desc) k)) o

item_named : (o : Option Spaces) (import k : ℕ) → option_and_then (λ s. item_name s import k) o ≡ named_item (option_and_then (λ s. slice_get s.imports import) o) k
unfolding named_item
item_named None import k = refl
item_named (Some s) import k = refl

pub item_read : (set : List Spaces) (c import k : ℕ) (types : List Ty) (funcs : List FuncTy) (e : Extern) (ty : Rc InstanceType Global) (by : Option Move) (it : Item)
    → Some (extern_of types funcs e) ≡ import_in set c import → e.desc ≡ extern.Instance ty by → slice_get ty.value.items.items k ≡ Some it
    → Some it.name ≡ option_and_then (λ s. item_name s import k) (slice_get set c)
unfolding named_item
item_read set c import k types funcs e ty by it is desc at =
    let items = ty.value.items.items in
    let R = instances.replaced_item (moved_by by) in
    let I = instances.item_of types funcs in
    sym (item_named (slice_get set c) import k ∙ sym (ap (λ o. named_item o k) is)
    ∙ ap (λ d. option_map (λ (x : NamedItem). x.name) (slice_get (items_of (extern_desc_of types funcs d)) k)) desc
    ∙ ap (option_map (λ (x : NamedItem). x.name)) (slice_get-map R (map I items) k ∙ ap (option_map R) (slice_get-map I items k ∙ ap (option_map I) at)))

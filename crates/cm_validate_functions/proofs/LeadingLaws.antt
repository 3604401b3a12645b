-- Names that lead to core functions.
use Rattle.std.proofs.Common.{◌≡◌, ◌∙◌, ◌<◌, ℕ, List, Option, Some, None, ap, sym, length, map, slice_get, arith, refl}
use Rattle.std.specs.List.{position_from}
use Rattle.std.specs.Option.{option_and_then, option_map}
use Rattle.std.specs.Str.{bytes_eq}
use Rattle.cm_lemmas.proofs.Lists.{mapped_twice, position_below}
use Rattle.cm_lemmas.proofs.Options.{stepped}
use Rattle.cm_names.specs.Keys.{Key, first_key}
use Rattle.cm_names.specs.Listed.{listed}
use Rattle.cm_types.specs.Signatures.{NamedExtern, NamedItem}
use Rattle.cm_types_arena.specs.Externs.{extern_of}
use Rattle.cm_types_arena.specs.declared.externs.Extern.{Extern}
use Rattle.cm_validate_model.specs.Definitions.{NamedExport}
use Rattle.cm_validate_spaces.specs.cm_validate_entries.ComponentSpaces.{export_def}
use Rattle.cm_validate_spaces.specs.cm_validate_entries.declared.spaces.ExportEntry.{ExportEntry}
use Rattle.cm_validate_functions.specs.Tables.{export_keys, import_keys}
use Rattle.cm_types.specs.Types.{FuncTy, Ty}
use Rattle.cm_types_arena.specs.Instances.{item_of, items_of, replaced_item}
use Rattle.cm_types_arena.specs.Placed.{moved_by}
use Rattle.cm_types_arena.specs.declared.instances.Item.{Item}
use Rattle.cm_types_arena.specs.declared.moves.Move.{Move}
use Rattle.std.proofs.lemmas.Option.{slice_get-map}
use Rattle.cm_validate_model.specs.Spaces.{Spaces}
use Rattle.cm_validate_functions.specs.Kept.{AreNamesOf}
use Rattle.cm_validate_functions.specs.Leading.{import_named, lowered_import, lowered_in, lowers_item}
use Rattle.cm_validate_functions.specs.Options.{is_number}
use Rattle.cm_validate_functions.specs.declared.leading.Names.{Names}
use Rattle.cm_validate_functions.proofs.KeyLaws.{found_by_name}

-- the number of an import, by the table of names
pub number_found : (s : Spaces) (n : Names) (name : List ℕ) → AreNamesOf s n → first_key (listed n.imports) 0 name ≡ import_named s name
number_found s n name are = ap (λ (ks : List Key). first_key ks 0 name) are.imports_are ∙ found_by_name (λ i. i.name) name s.imports

pub lowered_none : (s : Spaces) (name : List ℕ) → import_named s name ≡ None → lowered_in s None name ≡ None
lowered_none s name e = ap (option_and_then (λ n. position_from (λ d. is_number n (lowered_import d)) 0 s.core_funcs)) e

pub lowered_some : (s : Spaces) (name : List ℕ) (n : ℕ) → import_named s name ≡ Some n → lowered_in s None name ≡ position_from (λ d. is_number n (lowered_import d)) 0 s.core_funcs
lowered_some s name n e = ap (option_and_then (λ n. position_from (λ d. is_number n (lowered_import d)) 0 s.core_funcs)) e

pub item_none : (s : Spaces) (interface name : List ℕ) → import_named s interface ≡ None → lowered_in s (Some interface) name ≡ None
item_none s interface name e = ap (option_and_then (λ n. position_from (lowers_item s.imports n name) 0 s.core_funcs)) e

pub item_some : (s : Spaces) (interface name : List ℕ) (n : ℕ) → import_named s interface ≡ Some n → lowered_in s (Some interface) name ≡ position_from (lowers_item s.imports n name) 0 s.core_funcs
item_some s interface name n e = ap (option_and_then (λ n. position_from (lowers_item s.imports n name) 0 s.core_funcs)) e

pub import_there : (s : Spaces) (name : List ℕ) (n : ℕ) → import_named s name ≡ Some n → n < length s.imports
import_there s name n e = let below = position_below (λ i. bytes_eq name i.name) 0 s.imports n e in omega (arith, below)

-- where a name leads there is a core function
pub lowered_there : (s : Spaces) (interface : Option (List ℕ)) (name : List ℕ) (k : ℕ) → lowered_in s interface name ≡ Some k → k < length s.core_funcs
lowered_there s None name k e =
    let h = stepped (import_named s name) (λ n. position_from (λ d. is_number n (lowered_import d)) 0 s.core_funcs) k e in
    let below = position_below (λ d. is_number h.0 (lowered_import d)) 0 s.core_funcs k h.2 in
    omega (arith, below)
lowered_there s (Some interface) name k e =
    let h = stepped (import_named s interface) (λ n. position_from (lowers_item s.imports n name) 0 s.core_funcs) k e in
    let below = position_below (lowers_item s.imports h.0 name) 0 s.core_funcs k h.2 in
    omega (arith, below)

-- ---- the names of items

same_name : (types : List Ty) (funcs : List FuncTy) (by : Option Move) (o : Option Item)
    → option_map (λ (i : NamedItem). i.name) (option_map (replaced_item (moved_by by)) (option_map (item_of types funcs) o)) ≡ option_map (λ (x : Item). x.name) o
same_name types funcs by None = refl
same_name types funcs by (Some x) = refl

pub name_of_item : (types : List Ty) (funcs : List FuncTy) (by : Option Move) (xs : List Item) (n : ℕ)
    → option_map (λ (i : NamedItem). i.name) (slice_get (map (replaced_item (moved_by by)) (items_of types funcs xs)) n) ≡ option_map (λ (x : Item). x.name) (slice_get xs n)
name_of_item types funcs by xs n =
    ap (option_map (λ (i : NamedItem). i.name)) (slice_get-map (replaced_item (moved_by by)) (items_of types funcs xs) n ∙ ap (option_map (replaced_item (moved_by by))) (slice_get-map (item_of types funcs) xs n))
    ∙ same_name types funcs by (slice_get xs n)

-- ---- the names of exports and of imports, as keys

pub exports_keyed : (s : Spaces) (types : List Ty) (funcs : List FuncTy) (es : List ExportEntry) → s.exports ≡ map (export_def types funcs) es → map (λ (e : ExportEntry). (0, e.name.now)) es ≡ export_keys s.exports
exports_keyed s types funcs es are = mapped_twice (λ (e : NamedExport). (0, e.name)) (export_def types funcs) es ∙ sym (ap export_keys are)

pub imports_keyed : (s : Spaces) (types : List Ty) (funcs : List FuncTy) (is : List Extern) → s.imports ≡ map (extern_of types funcs) is → map (λ (i : Extern). (0, i.name)) is ≡ import_keys s.imports
imports_keyed s types funcs is are = mapped_twice (λ (i : NamedExtern). (0, i.name)) (extern_of types funcs) is ∙ sym (ap import_keys are)

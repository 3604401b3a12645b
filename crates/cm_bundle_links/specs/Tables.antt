-- What is looked up in tables of exports, by sort and name, and what the code makes of it.
use Rattle.std.specs.Prelude.{◌≡◌, ◌==◌, ◌&&◌, ℕ, Bool, List, Option, None, Some, Result, Ok, Err}
use Rattle.std.specs.Prelude.{if◌then◌else◌, map, option_and_then, slice_get}
use Rattle.std.specs.Option.{option_map_or}
use Rattle.std.specs.Str.{bytes_eq}
use Rattle.cm_names.specs.Keys.{Key, first_key}
use Rattle.cm_names.specs.Listed.{listed}
use Rattle.cm_names.specs.declared.keys.Keys.{Keys}
use Rattle.cm_types.specs.Signatures.{NamedExtern}
use Rattle.cm_validate_model.specs.Definitions.{NamedExport}
use Rattle.cm_validate_model.specs.Spaces.{Spaces}
use Rattle.cm_match_model.specs.declared.component.Link.{Link}
use Rattle.cm_bundle.specs.declared.form.Sort.{Sort}
use Rattle.cm_bundle.specs.declared.form.Sort.TheVariants as sorts
use Rattle.cm_bundle.specs.Bundled.{export_sort, import_sort}
use Rattle.cm_bundle.specs.Trees.{ExportTree, GroupTree, SupplyTree}
use Rattle.cm_bundle_links.specs.declared.fault.LinksReason.{LinksReason}
use Rattle.cm_bundle_links.specs.declared.fault.LinksReason.TheVariants as reason
use Rattle.cm_bundle_links.specs.Links.{component_of}

-- the number of a sort in keys
abbrev pub sort_number : Sort → ℕ
sort_number sorts.Func = 0
sort_number sorts.Instance = 1

-- an export as a key, and those of a component
abbrev pub key_of : NamedExport → Key
key_of e = (sort_number (export_sort e.def), e.name)

abbrev pub keys_in : Spaces → List Key
keys_in s = map key_of s.exports

-- these are the tables of the exports of components
abbrev pub AreTables : List Spaces → List Keys → Type 0
AreTables set tables = map listed tables ≡ map keys_in set

-- the number of the first export that is named
abbrev pub export_named : List Spaces → ℕ → ExportTree → Option ℕ
export_named set component x =
    option_and_then (λ s. first_key (keys_in s) (sort_number x.sort) x.name)
    (slice_get set component)

-- whether an argument is for an import
abbrev pub is_for : NamedExtern → SupplyTree → Bool
is_for i x = bytes_eq x.name i.name
    && (sort_number x.export.sort == sort_number (import_sort i.desc))

-- the link to the export of a component that is named
abbrev pub link_to : List Spaces → ℕ → ExportTree → Result Link LinksReason
link_to set component x =
    option_map_or (λ n. Ok (record { component = component; export = n }))
    (export_named set component x) (Err reason.NoExport)

-- the link of an import that is given this
abbrev pub link_by : List GroupTree → List Spaces → ExportTree → Result Link LinksReason
link_by front set x =
    option_map_or (λ component. link_to set component x) (component_of front x.part)
    (Err reason.Imported)

abbrev pub link_given : List GroupTree → List Spaces → NamedExtern → Option SupplyTree
    → Result Link LinksReason
link_given front set i None = Err reason.NotGiven
link_given front set i (Some x) =
    if is_for i x then link_by front set x.export else Err reason.NotGiven

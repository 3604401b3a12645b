-- What the code makes of an import and what it is given is its link, or why it has none.
use Rattle.std.proofs.Common.{◌≡◌, ◌∙◌, ℕ, Bool, true, false, cond, List, Option, Some, None, Result, Ok, Err, refl, sym, ap}
use Rattle.std.specs.Option.{option_map_or}
use Rattle.std.specs.Prelude.{MatchResult}
use Rattle.cm_lemmas.proofs.Options.{some_number}
use Rattle.cm_types.specs.Signatures.{NamedExtern}
use Rattle.cm_validate_model.specs.Definitions.{NamedExport}
use Rattle.cm_validate_model.specs.Spaces.{Spaces}
use Rattle.cm_match_model.specs.declared.component.Link.{Link}
use Rattle.cm_bundle.specs.Bundled.{export_at}
use Rattle.cm_bundle.specs.Trees.{GroupTree, SupplyTree}
use Rattle.cm_bundle_links.specs.declared.fault.LinksReason.{LinksReason}
use Rattle.cm_bundle_links.specs.declared.fault.LinksReason.TheVariants as reason
use Rattle.cm_bundle_links.specs.Links.{IsFor, IsLink, IsUnlinked, component_of}
use Rattle.cm_bundle_links.specs.Tables.{export_named, is_for, link_by, link_given, link_to}
use Rattle.cm_bundle_links.proofs.FoundLaws.{export_found, export_missing, is_for_it, is_for_other}

-- an answer: a link, or why there is none
abbrev pub Links : List GroupTree → List Spaces → NamedExtern → Option SupplyTree → Result Link LinksReason → Type 0
Links front set i o r = MatchResult r (λ l. (x : SupplyTree) × (o ≡ Some x) × IsLink front set i x l) (λ r. IsUnlinked front set (Some i) o r)

by_export : (front : List GroupTree) (set : List Spaces) (i : NamedExtern) (x : SupplyTree) (c : ℕ) (o : Option ℕ) → IsFor i x → component_of front x.export.part ≡ Some c
    → export_named set c x.export ≡ o
    → Links front set i (Some x) (option_map_or (λ n. Ok (record { component = c; export = n })) o (Err reason.NoExport))
by_export front set i x c (Some n) for part is =
    let f = export_found set c n x.export is in
    (x, refl, record { given = for; component = part; export = f.0; there = f.1; named = f.2 })
by_export front set i x c None for part is = (
  for,
  c,
  part,
  λ (component number : ℕ) (e : NamedExport) other there named.
      export_missing set c number x.export e is (ap (λ k. export_at set k number) (some_number c component (sym part ∙ other)) ∙ there) named,
)

by_component : (front : List GroupTree) (set : List Spaces) (i : NamedExtern) (x : SupplyTree) (o : Option ℕ) → IsFor i x → component_of front x.export.part ≡ o
    → Links front set i (Some x) (option_map_or (λ c. link_to set c x.export) o (Err reason.Imported))
by_component front set i x (Some c) for part = by_export front set i x c (export_named set c x.export) for part refl
by_component front set i x None for part = (for, part)

by_import : (front : List GroupTree) (set : List Spaces) (i : NamedExtern) (x : SupplyTree) (b : Bool) → is_for i x ≡ b
    → Links front set i (Some x) (cond b (link_by front set x.export) (Err reason.NotGiven))
by_import front set i x true is = by_component front set i x (component_of front x.export.part) (is_for_it i x is) refl
by_import front set i x false is = is_for_other i x is

pub links : (front : List GroupTree) (set : List Spaces) (i : NamedExtern) (o : Option SupplyTree) → Links front set i o (link_given front set i o)
links front set i None = tt
links front set i (Some x) = by_import front set i x (is_for i x) refl

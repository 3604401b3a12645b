-- What the laws of bundles say.
use Rattle.std.proofs.Common.{◌≡◌, ◌∙◌, ℕ, ◌+◌, List, [], ◌∷◌, Option, Some, None, map, slice_get, refl, sym, ap, subst, arith, option_and_then}
use Rattle.std.specs.List.{AllByRecursion, enumerate_from, filter_map}
use Rattle.std.specs.Option.{option_map}
use Rattle.cm_types.specs.Signatures.{NamedExtern, ExternTy}
use Rattle.cm_types.specs.Signatures as extern
use Rattle.cm_validate_model.specs.Definitions.{ExportDef, NamedExport}
use Rattle.cm_validate_model.specs.Definitions as definitions
use Rattle.cm_validate_model.specs.Spaces.{Spaces}
use Rattle.cm_match_model.specs.Imports.{ImportAt, LinkSet, export_in, imports_from, imports_of, links_of}
use Rattle.cm_match_model.specs.Links.{CanBeLinked, IsServed, lines_of, plan_line}
use Rattle.cm_match_model.specs.Origins.{LeadEarlier}
use Rattle.cm_match_model.specs.Serving.{ServesExtern}
use Rattle.cm_bundle.specs.Trees.{GroupTree, SupplyTree}
use Rattle.cm_bundle.specs.Bundled.{argument_of, arguments_of, bundle_with, export_at, export_sort, first_part, import_sort, part_of}
use Rattle.cm_bundle.specs.Serving.{IsGiven}
use Rattle.cm_bundle.proofs.Given.{IsHere, IsHereIn, all_are_here, all_here_in, given, supply_named}
use Rattle.cm_bundle.proofs.Lines.{all_here}
use Rattle.cm_match.proofs.Walking.{imports_here}

-- ---- files

kept_from : (set : LinkSet) (n : ℕ) (files : List (List ℕ)) → map (λ p. p.file) (map (part_of set) (enumerate_from n files)) ≡ files
kept_from set n [] = refl
kept_from set n (f ∷ fs) = ap (λ l. f ∷ l) (kept_from set (n + 1) fs)

pub files_kept : (set : LinkSet) (front : List GroupTree) (files : List (List ℕ)) (exporter : ℕ) (customs : List (List ℕ)) → map (λ p. p.file) (bundle_with set front files exporter customs).parts ≡ files
files_kept set front files exporter customs = kept_from set (first_part front) files

-- ---- what serves

same_sort : (set : LinkSet) (c : ℕ) (ty : ExternTy) (d : ℕ) (e : ExportDef) → ServesExtern set c ty d e → import_sort ty ≡ export_sort e
same_sort set c (extern.func f) d (definitions.exported_func g) h = refl
same_sort set c (extern.func f) d (definitions.exported_instance members) h = absurd h
same_sort set c (extern.instance items) d (definitions.exported_func g) h = absurd h
same_sort set c (extern.instance items) d (definitions.exported_instance members) h = refl

-- an export with its name
export_named : (set : List Spaces) (c n : ℕ) (d : ExportDef) → export_in set c n ≡ Some d → (e : NamedExport) × (export_at set c n ≡ Some e) × (e.def ≡ d)
export_named set c n d = by_place (slice_get set c)
  where
    by_export : (o : Option NamedExport) → option_map (λ (e : NamedExport). e.def) o ≡ Some d → (e : NamedExport) × (o ≡ Some e) × (e.def ≡ d)
    by_export None h = absurd cc
    by_export (Some e) h = (e, refl, cc)

    by_place : (o : Option Spaces) → option_and_then (λ s. option_map (λ (e : NamedExport). e.def) (slice_get s.exports n)) o ≡ Some d → (e : NamedExport) × (option_and_then (λ s. slice_get s.exports n) o ≡ Some e) × (e.def ≡ d)
    by_place None h = absurd cc
    by_place (Some s) h = by_export (slice_get s.exports n) h

module _ (set : LinkSet) (lead : LeadEarlier (links_of set)) where
  given_to : (i : ImportAt) → IsHere set.spaces i → IsServed set i → (x : SupplyTree) × IsGiven set i x
  given_to i here served =
      let l = served.link in
      let found = export_named set.spaces l.component l.export served.export served.exported in
      let e = found.0 in
      let serves : ServesExtern set i.component i.item.desc l.component e.def = subst (ServesExtern set i.component i.item.desc l.component) (sym found.2) served.serves in
      let linked : links_of set i.component i.number ≡ Some l = rw here served.linked in (
        supply_named l.component i.item e.name,
        record {
          link = l;
          linked = served.linked;
          given = given set.spaces (plan_line i l) i.item e.name here (ap (option_map (λ (x : NamedExport). x.name)) found.1);
          name = refl;
          part = refl;
          earlier = lead i.component i.number l linked;
          export = e;
          there = found.1;
          export_name = refl;
          sort = refl;
          same_sort = same_sort set i.component i.item.desc l.component e.def serves;
          serves = serves;
        },
      )

  all_given : (is : List ImportAt) → AllByRecursion (IsHere set.spaces) is → AllByRecursion (IsServed set) is → AllByRecursion (λ i. (x : SupplyTree) × IsGiven set i x) is
  all_given [] here served = tt {0}
  all_given (i ∷ is) here served = (given_to i here.0 served.0, all_given is here.1 served.1)

  pub arguments_serve : CanBeLinked set → AllByRecursion (λ i. (x : SupplyTree) × IsGiven set i x) (imports_of set.spaces)
  arguments_serve can = all_given (imports_of set.spaces) (all_are_here set.spaces 0 set.spaces (λ k. ap (slice_get set.spaces) (omega arith))) can.served

-- ---- one argument for each import

names_from : (c n : ℕ) (xs : List NamedExtern) → map (λ i. i.item.name) (imports_from c n xs) ≡ map (λ x. x.name) xs
names_from c n [] = refl
names_from c n (x ∷ xs) = ap (λ l. x.name ∷ l) (names_from c (n + 1) xs)

module _ (set : LinkSet) where
  names_given : (c : ℕ) (is : List ImportAt) → AllByRecursion (IsHereIn set.spaces c) is → AllByRecursion (IsServed set) is → map (λ x. x.name) (filter_map (argument_of set.spaces) (lines_of set is)) ≡ map (λ i. i.item.name) is
  names_given c [] here served = refl
  names_given c (i ∷ is) here served =
      let l = served.0.link in
      let found = export_named set.spaces l.component l.export served.0.export served.0.exported in
      let one : argument_of set.spaces (plan_line i l) ≡ Some (supply_named l.component i.item found.0.name) = given set.spaces (plan_line i l) i.item found.0.name here.0.0 (ap (option_map (λ (x : NamedExport). x.name)) found.1) in
      rw served.0.linked (rw one (ap (λ l. i.item.name ∷ l) (names_given c is here.1 served.1)))

  pub arguments_named : CanBeLinked set → (component : ℕ) (s : Spaces) → slice_get set.spaces component ≡ Some s → map (λ x. x.name) (arguments_of set component) ≡ map (λ i. i.name) s.imports
  arguments_named can c s there =
      ap (λ is. map (λ x. x.name) (filter_map (argument_of set.spaces) (lines_of set is))) (imports_here set.spaces c s there)
      ∙ names_given c (imports_from c 0 s.imports) (all_here_in set.spaces c s there) (subst (λ n. AllByRecursion (IsServed set) (imports_from n 0 s.imports)) (omega arith) (all_here (IsServed set) 0 set.spaces c s can.served there))
      ∙ names_from c 0 s.imports

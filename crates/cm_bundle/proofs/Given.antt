-- What the imports of lines are given.
use Rattle.std.proofs.Common.{◌≡◌, ◌∙◌, ℕ, suc, ◌+◌, ◌<◌, List, [], ◌∷◌, Option, Some, None, slice_get, refl, sym, ap, subst, arith, option_and_then}
use Rattle.std.specs.Prelude.{IfSome}
use Rattle.std.specs.List.{AllByRecursion, cons_option, filter_map}
use Rattle.std.specs.Option.{option_map}
use Rattle.cm_lemmas.proofs.Lists.{all_both}
use Rattle.cm_types.specs.Signatures.{NamedExtern}
use Rattle.cm_validate_model.specs.Definitions.{NamedExport}
use Rattle.cm_validate_model.specs.Spaces.{Spaces}
use Rattle.cm_match_model.specs.declared.component.Link.{Link}
use Rattle.cm_match_model.specs.declared.plan.PlanLine.{PlanLine}
use Rattle.cm_match_model.specs.Imports.{ImportAt, LinkSet, all_imports_from, import_in, imports_from, link_of, links_of}
use Rattle.cm_match_model.specs.Links.{lines_of, plan_line}
use Rattle.cm_match_model.specs.Origins.{LeadEarlier}
use Rattle.cm_bundle.specs.Trees.{SupplyTree}
use Rattle.cm_bundle.specs.Bundled.{argument_of, arguments_of, export_at, import_sort, supplied}
use Rattle.cm_match.proofs.Walking.{imports_here}

-- ---- the argument of a line

-- an export, known by its name, for an import
abbrev pub supply_named : ℕ → NamedExtern → List ℕ → SupplyTree
supply_named component i name = record { name = i.name; export = record { part = component; sort = import_sort i.desc; name = name } }

pub given : (set : List Spaces) (l : PlanLine) (i : NamedExtern) (name : List ℕ) → import_in set l.importer l.import ≡ Some i → option_map (λ e. e.name) (export_at set l.provider l.export) ≡ Some name → argument_of set l ≡ Some (supply_named l.provider i name)
given set l i name e f = rw e (named (export_at set l.provider l.export) f)
  where
    named : (o : Option NamedExport) → option_map (λ e. e.name) o ≡ Some name → option_map (supplied l.provider i) o ≡ Some (supply_named l.provider i name)
    named None f = absurd cc
    named (Some x) f = ap (option_map (supply_named l.provider i)) f

pub no_import : (set : List Spaces) (l : PlanLine) → import_in set l.importer l.import ≡ None → argument_of set l ≡ None
no_import set l e = rw e refl

pub no_export : (set : List Spaces) (l : PlanLine) → option_map (λ e. e.name) (export_at set l.provider l.export) ≡ None → argument_of set l ≡ None
no_export set l f = none (export_at set l.provider l.export) (import_in set l.importer l.import) f
  where
    none : (o : Option NamedExport) (p : Option NamedExtern) → option_map (λ e. e.name) o ≡ None → option_and_then (λ i. option_map (supplied l.provider i) o) p ≡ None
    none None None f = refl
    none None (Some i) f = refl
    none (Some x) p f = absurd cc

-- it is of the line's provider
pub of_provider : (set : List Spaces) (l : PlanLine) → IfSome (argument_of set l) (λ x. x.export.part ≡ l.provider)
of_provider set l = part (import_in set l.importer l.import) (export_at set l.provider l.export)
  where
    part : (o : Option NamedExtern) (p : Option NamedExport) → IfSome (option_and_then (λ i. option_map (supplied l.provider i) p) o) (λ x. x.export.part ≡ l.provider)
    part None p = tt {0}
    part (Some i) None = tt {0}
    part (Some i) (Some x) = refl

-- ---- imports at their places

abbrev pub IsHere : List Spaces → ImportAt → Type 0
IsHere set i = import_in set i.component i.number ≡ Some i.item

-- an import at its place in this component
abbrev pub IsHereIn : List Spaces → ℕ → ImportAt → Type 0
IsHereIn set c i = IsHere set i × (i.component ≡ c)

module _ (set : List Spaces) (c : ℕ) (s : Spaces) (there : slice_get set c ≡ Some s) where
  here_from : (n : ℕ) (xs : List NamedExtern) → ((k : ℕ) → slice_get xs k ≡ slice_get s.imports (n + k)) → AllByRecursion (IsHereIn set c) (imports_from c n xs)
  here_from n [] f = tt {0}
  here_from n (x ∷ xs) f = (
    (ap (option_and_then (λ s. slice_get s.imports n)) there ∙ ap (slice_get s.imports) (omega arith) ∙ sym (f 0), refl),
    here_from (n + 1) xs (λ k. f (suc k) ∙ ap (slice_get s.imports) (omega arith)),
  )

  pub all_here_in : AllByRecursion (IsHereIn set c) (imports_from c 0 s.imports)
  all_here_in = here_from 0 s.imports (λ k. ap (slice_get s.imports) (omega arith))

only_here : (set : List Spaces) (c : ℕ) (is : List ImportAt) → AllByRecursion (IsHereIn set c) is → AllByRecursion (IsHere set) is
only_here set c [] all = tt {0}
only_here set c (i ∷ is) all = (all.0.0, only_here set c is all.1)

pub all_are_here : (set : List Spaces) (c : ℕ) (ss : List Spaces) → ((k : ℕ) → slice_get ss k ≡ slice_get set (c + k)) → AllByRecursion (IsHere set) (all_imports_from c ss)
all_are_here set c [] f = tt {0}
all_are_here set c (s ∷ ss) f =
    all_both (IsHere set) (imports_from c 0 s.imports) (all_imports_from (c + 1) ss)
    (only_here set c (imports_from c 0 s.imports) (all_here_in set c s (ap (slice_get set) (omega arith) ∙ sym (f 0))))
    (all_are_here set (c + 1) ss (λ k. f (suc k) ∙ ap (slice_get set) (omega arith)))

-- ---- arguments are of earlier components

all_more : (P : SupplyTree → Type 0) (o : Option SupplyTree) (xs : List SupplyTree) → IfSome o P → AllByRecursion P xs → AllByRecursion P (cons_option o xs)
all_more P None xs one all = all
all_more P (Some x) xs one all = (one, all)

abbrev pub IsBefore : ℕ → SupplyTree → Type 0
IsBefore c x = x.export.part < c

module _ (set : LinkSet) (lead : LeadEarlier (links_of set)) (c : ℕ) where
  before : (i : ImportAt) (l : Link) → IsHereIn set.spaces c i → link_of set i ≡ Some l → IfSome (argument_of set.spaces (plan_line i l)) (IsBefore c)
  before i l here e =
      let linked : links_of set i.component i.number ≡ Some l = rw here.0 e in
      let earlier : l.component < c = subst (λ n. l.component < n) here.1 (lead i.component i.number l linked) in
      turned (argument_of set.spaces (plan_line i l)) earlier (of_provider set.spaces (plan_line i l))
    where
      turned : (o : Option SupplyTree) → l.component < c → IfSome o (λ x. x.export.part ≡ l.component) → IfSome o (IsBefore c)
      turned None lt h = tt {0}
      turned (Some x) lt h = omega (arith, lt, h)

  all_before : (is : List ImportAt) → AllByRecursion (IsHereIn set.spaces c) is → AllByRecursion (IsBefore c) (filter_map (argument_of set.spaces) (lines_of set is))
  all_before [] all = tt {0}
  all_before (i ∷ is) all = by_link (all_before is all.1) (link_of set i) refl
    where
      by_link : AllByRecursion (IsBefore c) (filter_map (argument_of set.spaces) (lines_of set is)) → (o : Option Link) → link_of set i ≡ o → AllByRecursion (IsBefore c) (filter_map (argument_of set.spaces) (lines_of set (i ∷ is)))
      by_link rest None e = rw e rest
      by_link rest (Some l) e = rw e (all_more (IsBefore c) (argument_of set.spaces (plan_line i l)) _ (before i l all.0 e) rest)

  pub arguments_before : AllByRecursion (IsBefore c) (arguments_of set c)
  arguments_before = by_place (slice_get set.spaces c) refl
    where
      by_place : (o : Option Spaces) → slice_get set.spaces c ≡ o → AllByRecursion (IsBefore c) (arguments_of set c)
      by_place None e = rw e (tt {0})
      by_place (Some s) e = subst (λ is. AllByRecursion (IsBefore c) (filter_map (argument_of set.spaces) (lines_of set is))) (sym (imports_here set.spaces c s e)) (all_before (imports_from c 0 s.imports) (all_here_in set.spaces c s e))

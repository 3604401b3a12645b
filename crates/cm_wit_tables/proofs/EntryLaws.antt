-- What one declaration stands for, given what each does.
use Rattle.std.proofs.Common.{◌≡◌, ℕ, zero, suc, ◌<◌, List, [], ◌∷◌, length, get_or, Option, Some, None, IfSome, slice_index_or, refl, sym, ap, subst, ◌∙◌, arith}
use Rattle.std.specs.Option.{option_map, option_and_then}
use Rattle.std.proofs.lemmas.Option.{slice_get-map, slice_get-get_or, same_Some}
use Rattle.cm_types.specs.Types.{Ty}
use Rattle.cm_types.specs.Limits.{IsWithinLimits}
use Rattle.cm_types.specs.declared.resource.ResourceId.{ResourceId}
use Rattle.cm_wit_meanings.specs.declared.fault.MeaningFault.{MeaningFault}
use Rattle.cm_wit_meanings.specs.declared.scope.Meaning as code
use Rattle.cm_wit_meanings.specs.declared.scope.Scope as code_scope
use Rattle.cm_wit_meanings.specs.Faults.{IsFaultIn}
use Rattle.cm_wit_meanings.specs.Meanings.{def_meaning}
use Rattle.cm_wit_meanings.specs.Places.{meaning_in, table_in, scope_in}
use Rattle.cm_wit_meanings.specs.Scopes.{Meaning, Scope, as_type}
use Rattle.cm_wit_reading.specs.Trees.{TypeDef}
use Rattle.cm_wit_tables.specs.DeclaredViews.{declaration_view, declared_view}
use Rattle.cm_wit_tables.specs.declared.declarations.Declaration as code_declaration
use Rattle.cm_wit_tables.specs.Declarations.{Declared, defined}
use Rattle.cm_wit_tables.specs.Tables.{declared_meaning, entry_meaning, resource_of, scope_of}
use Rattle.cm_wit_tables.specs.declared.listing.Listing.{Listing}
use Rattle.cm_wit_tables.specs.Filled.{AreWithin, IsWithin, entry_at}
use Rattle.cm_wit_tables.specs.Listings.{IsListing, declared}

abbrev pub Table : Type 0
Table = List (Option Meaning)

-- ---- within the limits

within_at : (types : List Ty) (table : List (Option code.Meaning)) (k : ℕ) → AreWithin types table → IfSome (slice_index_or (table_in types table) k None) (λ x. IsWithinLimits (as_type x))
within_at types [] k w = tt
within_at types (None ∷ ms) zero w = tt
within_at types (Some m ∷ ms) zero w = w.0
within_at types (None ∷ ms) (suc k) w = within_at types ms k w.1
within_at types (Some m ∷ ms) (suc k) w = within_at types ms k w.1

within_found : (types : List Ty) (table : List (Option code.Meaning)) (o : Option ℕ) → AreWithin types table → IfSome (option_and_then (λ k. slice_index_or (table_in types table) k None) o) (λ x. IsWithinLimits (as_type x))
within_found types table None w = tt
within_found types table (Some k) w = within_at types table k w

within_meant : (types : List Ty) (m : Option code.Meaning) → IfSome (option_map (meaning_in types) m) (λ x. IsWithinLimits (as_type x)) → IfSome m (IsWithin types)
within_meant types None h = tt
within_meant types (Some m) h = h

pub scope_within : (types : List Ty) (s : code_scope.Scope) (name : List ℕ) (m : Option code.Meaning) → AreWithin types s.table.now → option_map (meaning_in types) m ≡ scope_in types s name → IfSome m (IsWithin types)
scope_within types s name m w e = within_meant types m (subst (λ (o : Option Meaning). IfSome o (λ x. IsWithinLimits (as_type x))) (sym e) (within_found types s.table.now _ w))

-- ---- entries

pub scope_is : (types : List Ty) (x : Listing) (s : code_scope.Scope) (table : List (Option code.Meaning)) (l : ℕ) → IsListing x → s.names.now ≡ x.names.now → s.table.now ≡ table → s.list ≡ l → scope_in types s ≡ scope_of (declared x) (table_in types table) l
scope_is types x s table l h n t e = rw (n, t, e, h.names) refl

-- the declaration at a place
abbrev pub nth : Listing → ℕ → code_declaration.Declaration → code_declaration.Declaration
nth x place d = get_or x.declarations.now place d

pub entry_is : (x : Listing) (table : Table) (place : ℕ) (d : code_declaration.Declaration) (is : Declared) → place < length x.declarations.now → declared_view (nth x place d).is ≡ is → entry_at (declared x) table place ≡ Some (declared_meaning (declared x) table place (nth x place d).in_list is)
entry_is x table place d is lt f =
    ap (option_map (entry_meaning (declared x) table place)) (slice_get-map declaration_view x.declarations.now place ∙ ap (option_map declaration_view) (slice_get-get_or x.declarations.now place d lt))
    ∙ ap (λ (w : Declared). Some (declared_meaning (declared x) table place (nth x place d).in_list w)) f

resource_at : (x : Listing) (place : ℕ) (r : ResourceId) → IsListing x → place < length x.declarations.now → get_or x.resources.now place r ≡ resource_of (declared x) place
resource_at x place r h lt =
    same_Some _ _ (sym (slice_get-get_or x.resources.now place r (let z = h.size in omega (arith, z, lt))) ∙ h.resources place lt)

pub defined_is : (types : List Ty) (x : Listing) (s : code_scope.Scope) (table : List (Option code.Meaning)) (place : ℕ) (d : code_declaration.Declaration) (t : TypeDef) (r : ResourceId) → IsListing x → s.names.now ≡ x.names.now → s.table.now ≡ table → s.list ≡ (nth x place d).in_list → place < length x.declarations.now → declared_view (nth x place d).is ≡ defined t → entry_at (declared x) (table_in types table) place ≡ Some (def_meaning (scope_in types s) (get_or x.resources.now place r) t)
defined_is types x s table place d t r h n q e lt is =
    entry_is x (table_in types table) place d (defined t) lt is
    ∙ (ap (λ (f : Scope). Some (def_meaning f (resource_of (declared x) place) t)) (sym (scope_is types x s table (nth x place d).in_list h n q e))
    ∙ ap (λ (y : ResourceId). Some (def_meaning (scope_in types s) y t)) (sym (resource_at x place r h lt)))

pub entry_fault : (o : Option (Option Meaning)) (m : Option Meaning) (f : MeaningFault) → o ≡ Some m → IsFaultIn as_type m f → IfSome o (λ x. IsFaultIn as_type x f)
entry_fault o m f e h = subst (λ (p : Option (Option Meaning)). IfSome p (λ x. IsFaultIn as_type x f)) (sym e) h

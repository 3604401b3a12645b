-- Signatures that fit themselves: each name finds what it stands for, and each resource is named.
use Rattle.std.specs.Prelude.{◌≡◌, ℕ, List, Some}
use Rattle.std.specs.List.{AllByRecursion}
use Rattle.std.specs.Option.{IfSome}
use Rattle.cm_types.specs.Types.{Ty, Fields, Cases, list, fixed_list, fields, cases, own}
use Rattle.cm_types.specs.Types.{borrow, no_fields, field, no_cases, plain, carrying}
use Rattle.cm_types.specs.Signatures.{ExternTy, NamedExtern, SignatureTy, func}
use Rattle.cm_types.specs.Signatures.{instance}
use Rattle.cm_types.specs.declared.resource.ResourceId.{ResourceId}
use Rattle.cm_wit_conforms.specs.Comparisons.{Comparison, two_funcs, two_types, Entry, entries}
use Rattle.cm_wit_conforms.specs.Comparisons.{extern_named, item_named}
use Rattle.cm_wit_conforms.specs.Conformance.{have_pair}

abbrev mutual
  -- each resource in a type has this property
  pub AllResources : (ResourceId → Type 0) → Ty → Type 0
  AllResources P (list t) = AllResources P t
  AllResources P (fixed_list t n) = AllResources P t
  AllResources P (fields k fs) = AllFieldResources P fs
  AllResources P (cases k cs) = AllCaseResources P cs
  AllResources P (own r) = P r
  AllResources P (borrow r) = P r
  AllResources P t = Unit {0}

  pub AllFieldResources : (ResourceId → Type 0) → Fields → Type 0
  AllFieldResources P no_fields = Unit {0}
  AllFieldResources P (field l t fs) = AllResources P t × AllFieldResources P fs

  pub AllCaseResources : (ResourceId → Type 0) → Cases → Type 0
  AllCaseResources P no_cases = Unit {0}
  AllCaseResources P (plain l cs) = AllCaseResources P cs
  AllCaseResources P (carrying l t cs) = AllResources P t × AllCaseResources P cs

-- The resource is that of an item with a name.
abbrev pub IsNamed : List Entry → ResourceId → Type 0
IsNamed all r = (n : ℕ) × (have_pair all r ≡ Some n)

-- Each resource of the types that are compared is.
abbrev pub HasNamed : List Entry → Comparison → Type 0
HasNamed all (two_funcs f g) =
    AllFieldResources (IsNamed all) f.params × IfSome f.result (AllResources (IsNamed all))
HasNamed all (two_types x y) = AllResources (IsNamed all) x
HasNamed all _ = Unit {0}

abbrev pub HasItemNames : ExternTy → Type 0
HasItemNames (func f) = Unit {0}
HasItemNames (instance items) =
    AllByRecursion (λ i. item_named i.name items ≡ Some i.desc) items

-- Each of these imports or exports is found under its name, and so is each item of an instance.
pub record HasNames (externs : List NamedExtern) : Type 0 where
  pub externs_named :
      AllByRecursion (λ e. extern_named e.name externs ≡ Some e.desc) externs
  pub items_named : AllByRecursion (λ e. HasItemNames e.desc) externs

-- What is imported and exported is found under its names, and each resource in its types is named.
pub record IsWellNamed (s : SignatureTy) : Type 0 where
  pub imports_named : HasNames s.imports
  pub exports_named : HasNames s.exports
  pub resources_named : AllByRecursion (λ e. HasNamed (entries s s) e.what) (entries s s)

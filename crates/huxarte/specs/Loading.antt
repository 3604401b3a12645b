-- Files, loaded into a set that runs: what they come to, or why they come to none (the order of the
-- steps is this project's own choice; the first two are those of Binary.md and Explainer.md).
use Rattle.std.specs.Prelude.{◌≡◌, ℕ, ◌⊎◌, ⊤, false, List, [], ◌∷◌, length, map, slice_get, take}
use Rattle.std.specs.Prelude.{Some}
use Rattle.std.specs.List.{AllByRecursion}
use Rattle.cm_binary_model.specs.Trees.{SectionTree}
use Rattle.cm_binary_forms.specs.declared.fault.DecodeFault.{DecodeFault}
use Rattle.cm_binary_forms.specs.declared.fault.DecodeReason.TheVariants as decode_reason
use Rattle.cm_binary_forms.specs.File.{FirstFault, Spells}
use Rattle.cm_validate_model.specs.declared.fault.ValidFault.{ValidFault}
use Rattle.cm_validate_model.specs.declared.fault.ValidReason.TheVariants as valid_reason
use Rattle.cm_validate_model.specs.Spaces.{spaces_of}
use Rattle.cm_validate_model.specs.Valid.{IsFaultOf, IsValid}
use Rattle.cm_host.specs.cm_validate_functions.cm_validate_spaces.Walks.{IsFineBefore}
use Rattle.cm_match_model.specs.declared.fault.LinkFault.{LinkFault}
use Rattle.cm_match_model.specs.declared.fault.LinkReason.TheVariants as link_reason
use Rattle.cm_match_model.specs.Imports.{LinkSet, seen_by, sees_all}
use Rattle.cm_match_model.specs.Links.{CanBeLinked, IsLinkFault}
use Rattle.cm_stubs_files.specs.cm_match.Before.{AreServedBefore}
use Rattle.cm_machine_model.specs.declared.event.Misuse.{Misuse}
use Rattle.cm_machine_model.specs.declared.event.Misuse.TheVariants as misuse
use Rattle.cm_machine_model.specs.State.{are_page_counts}
use Rattle.cm_host.specs.cm_machine.cm_machine_set.Running.{IsNew, RunningSet}
use Rattle.huxarte.specs.declared.fault.LoadFault.{LoadFault}
use Rattle.huxarte.specs.declared.fault.LoadFault.TheVariants as fault

-- files spell components, each its own
abbrev pub AreSpelled : List (List ℕ) → List (List SectionTree) → Type 0
AreSpelled [] [] = ⊤
AreSpelled [] (c ∷ cs) = ⊥
AreSpelled (f ∷ fs) [] = ⊥
AreSpelled (f ∷ fs) (c ∷ cs) = Spells c f × AreSpelled fs cs

-- components whose imports see all exports before them
abbrev pub set_of : List (List SectionTree) → LinkSet
set_of components = seen_by sees_all (map spaces_of components)

-- files spell components, each of which is valid, and which can be linked
pub record AreSet (files : List (List ℕ)) (components : List (List SectionTree)) : Type 0 where
  pub spelled : AreSpelled files components
  pub valid : AllByRecursion IsValid components
  pub linked : CanBeLinked (set_of components)

-- File k, from 0, spells no component: those before it do, and this is its first fault, or there
-- was no memory to read it.
pub record IsFileFault (files : List (List ℕ)) (k : ℕ) (f : DecodeFault) : Type 0 where
  pub before : List (List SectionTree)
  pub spelled : AreSpelled (take k files) before
  pub file : List ℕ
  pub stands : slice_get files k ≡ Some file
  pub fails : (f.reason ≡ decode_reason.Memory) ⊎ FirstFault file f.at f.reason

-- Component k, from 0, is not valid: all files spell components, those before it are valid, and
-- this is its first fault; or there was no memory at an item before which nothing is wrong.
pub record IsComponentFault (files : List (List ℕ)) (k : ℕ) (f : ValidFault) : Type 0 where
  pub components : List (List SectionTree)
  pub spelled : AreSpelled files components
  pub before : AllByRecursion IsValid (take k components)
  pub component : List SectionTree
  pub stands : slice_get components k ≡ Some component
  pub fails : ((f.reason ≡ valid_reason.Memory) × IsFineBefore component f.section f.item)
      ⊎ IsFaultOf component f.section f.item f.reason

-- The components are valid and can't be linked, and this is the first fault; or there was no
-- memory at an import before which all are served.
pub record IsLinkingFault (files : List (List ℕ)) (f : LinkFault) : Type 0 where
  pub components : List (List SectionTree)
  pub spelled : AreSpelled files components
  pub valid : AllByRecursion IsValid components
  pub fails : ((f.reason ≡ link_reason.Memory)
      × AreServedBefore (set_of components) f.component f.import)
      ⊎ IsLinkFault (set_of components) f.component f.import f.reason

-- why the machine makes no set of components: the numbers of pages do not fit them, or there is no
-- memory
abbrev pub IsMisuse : LinkSet → List ℕ → Misuse → Type 0
IsMisuse set pages misuse.BadPages = are_page_counts (length set.spaces) pages ≡ false
IsMisuse set pages misuse.Memory = ⊤
IsMisuse set pages m = ⊥

-- the components are linked, and the machine makes no set of them
pub record IsSetFault (files : List (List ℕ)) (pages : List ℕ) (m : Misuse) : Type 0 where
  pub components : List (List SectionTree)
  pub are : AreSet files components
  pub fails : IsMisuse (set_of components) pages m

-- why files do not come to a set with these pages; the first step that fails tells
abbrev pub IsLoadFault : List (List ℕ) → List ℕ → LoadFault → Type 0
IsLoadFault files pages (fault.File k f) = IsFileFault files k f
IsLoadFault files pages (fault.Component k f) = IsComponentFault files k f
IsLoadFault files pages (fault.Link f) = IsLinkingFault files f
IsLoadFault files pages (fault.Set m) = IsSetFault files pages m
IsLoadFault files pages fault.Memory = ⊤

-- a set was made of files: they spell components that are valid and can be linked, and it is one of
-- these with such pages, with which nothing has happened so far
pub record IsLoaded (files : List (List ℕ)) (pages : List ℕ) (s : RunningSet) : Type 0 where
  pub components : List (List SectionTree)
  pub are : AreSet files components
  pub new_set : IsNew (set_of components) pages s

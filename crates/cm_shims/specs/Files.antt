-- Files of real tools, each read as a plain component and judged: what they come to, or which is at
-- fault (the order of the steps is this project's own choice; the steps are those of Binary.md and
-- Explainer.md, "Instance Definitions").
use Rattle.std.specs.Prelude.{◌≡◌, ℕ, ◌⊎◌, ⊤, List, [], ◌∷◌, slice_get, take, Some, Ok, Err}
use Rattle.std.specs.List.{AllByRecursion}
use Rattle.cm_binary_model.specs.Trees.{SectionTree}
use Rattle.cm_validate_model.specs.declared.fault.ValidFault.{ValidFault}
use Rattle.cm_validate_model.specs.declared.fault.ValidReason.TheVariants as valid_reason
use Rattle.cm_validate_model.specs.Spaces.{spaces_of}
use Rattle.cm_validate_model.specs.Valid.{IsFaultOf, IsValid}
use Rattle.cm_validate_spaces.specs.Walks.{IsFineBefore}
use Rattle.cm_shims_plain.specs.declared.fault.ShimFault.{ShimFault}
use Rattle.cm_shims_plain.specs.declared.reading.Shimmed.{Shimmed}
use Rattle.cm_shims_plain.specs.declared.wants.Want.{Want}
use Rattle.cm_shims_plain.specs.Origins.{Origin, origins_of}
use Rattle.cm_shims_plain.specs.Reading.{IsMemory, IsReadAs}
use Rattle.cm_shims.specs.declared.fault.FitFault.{FitFault}
use Rattle.cm_shims.specs.declared.fault.FitReason.TheVariants as fit_reason
use Rattle.cm_shims.specs.Fitting.{AllHold, IsFirstUnmet}
use Rattle.cm_shims.specs.declared.files_fault.FilesFault.{FilesFault}
use Rattle.cm_shims.specs.declared.files_fault.FilesFault.TheVariants as fault

-- what a file is read as: a plain component, what the file's shims say of its types, and where in
-- the file its sections and items come from
abbrev pub Reading : Type 0
Reading = List SectionTree × List Want × List Origin

abbrev pub reading_of : Shimmed → Reading
reading_of s = (s.component, s.wants.items, origins_of s.places)

-- the plain component, and what is said of its types
abbrev pub component_in : Reading → List SectionTree
component_in r = r.0

abbrev pub wants_in : Reading → List Want
wants_in r = r.1

-- files are read as plain components, each as its own
abbrev pub AreRead : List (List ℕ) → List Reading → Type 0
AreRead [] [] = ⊤
AreRead [] (r ∷ rs) = ⊥
AreRead (f ∷ fs) [] = ⊥
AreRead (f ∷ fs) (r ∷ rs) = IsReadAs f (Ok r) × AreRead fs rs

-- a plain component is valid, and has the types that its shims say
abbrev pub IsSound : Reading → Type 0
IsSound r = IsValid (component_in r) × AllHold (spaces_of (component_in r)) (wants_in r)

-- File k, from 0, is not read: those before it are, and this is its first fault, or there was no
-- memory to read it.
pub record IsUnread (files : List (List ℕ)) (k : ℕ) (f : ShimFault) : Type 0 where
  pub before : List Reading
  pub read : AreRead (take k files) before
  pub file : List ℕ
  pub stands : slice_get files k ≡ Some file
  pub fails : IsMemory (Err f) ⊎ IsReadAs file (Err f)

-- A plain component is not valid, and this is its first fault; or there was no memory at an item
-- before which nothing is wrong.
abbrev pub IsInvalid : Reading → ValidFault → Type 0
IsInvalid r f = ((f.reason ≡ valid_reason.Memory) × IsFineBefore (component_in r) f.section f.item)
    ⊎ IsFaultOf (component_in r) f.section f.item f.reason

-- A plain component is valid, and this is the first type that its shims say and it has not; or
-- there was no memory behind types that it has.
pub record IsUnfit (r : Reading) (f : FitFault) : Type 0 where
  pub valid : IsValid (component_in r)
  pub fails : ((f.reason ≡ fit_reason.Memory)
      × AllHold (spaces_of (component_in r)) (take f.want (wants_in r)))
      ⊎ IsFirstUnmet (spaces_of (component_in r)) (wants_in r) f

-- why the file of this number, which is read so, is judged to be no sound one
abbrev pub IsJudged : ℕ → Reading → FilesFault → Type 0
IsJudged n r (fault.Read k f) = ⊥
IsJudged n r (fault.Component k f) = (k ≡ n) × IsInvalid r f
IsJudged n r (fault.Shims k f) = (k ≡ n) × IsUnfit r f
IsJudged n r fault.Memory = ⊥

-- File k, from 0, is judged so: all files are read, and those before it are sound.
pub record IsFirstJudged (files : List (List ℕ)) (k : ℕ) (e : FilesFault) : Type 0 where
  pub readings : List Reading
  pub read : AreRead files readings
  pub before : AllByRecursion IsSound (take k readings)
  pub reading : Reading
  pub stands : slice_get readings k ≡ Some reading
  pub judged : IsJudged k reading e

-- why files stand for no valid components; the first step that fails tells
abbrev pub IsFileFault : List (List ℕ) → FilesFault → Type 0
IsFileFault files (fault.Read k f) = IsUnread files k f
IsFileFault files (fault.Component k f) = IsFirstJudged files k (fault.Component k f)
IsFileFault files (fault.Shims k f) = IsFirstJudged files k (fault.Shims k f)
IsFileFault files fault.Memory = ⊤

-- Files of real tools, loaded into a set that runs: what they come to, or why they come to none
-- (the order of the steps is this project's own choice).
use Rattle.std.specs.Prelude.{◌≡◌, ℕ, ◌⊎◌, List, map}
use Rattle.std.specs.List.{AllByRecursion}
use Rattle.cm_match_model.specs.declared.fault.LinkFault.{LinkFault}
use Rattle.cm_match_model.specs.declared.fault.LinkReason.TheVariants as link_reason
use Rattle.cm_match_model.specs.Links.{CanBeLinked, IsLinkFault}
use Rattle.cm_stubs_files.specs.cm_match.Before.{AreServedBefore}
use Rattle.cm_machine_model.specs.declared.event.Misuse.{Misuse}
use Rattle.cm_host.specs.cm_machine.cm_machine_set.Running.{IsNew, RunningSet}
use Rattle.cm_match_model.specs.Imports.{LinkSet}
use Rattle.cm_stubs_files.specs.cm_shims.Files.{AreRead, IsFileFault, IsSound, Reading}
use Rattle.cm_stubs_files.specs.cm_shims.Files.{component_in}
use Rattle.huxarte.specs.declared.real_fault.RealFault.{RealFault}
use Rattle.huxarte.specs.declared.real_fault.RealFault.TheVariants as fault
use Rattle.huxarte.specs.Loading.{IsMisuse, set_of}

-- the plain components that files are read as, whose imports see all exports before them
abbrev pub set_read : List Reading → LinkSet
set_read readings = set_of (map component_in readings)

-- files are read as plain components, each of which is valid and has the types that its shims say
pub record AreSound (files : List (List ℕ)) (readings : List Reading) : Type 0 where
  pub read : AreRead files readings
  pub sound : AllByRecursion IsSound readings

-- The components are sound and can't be linked, and this is the first fault; or there was no memory
-- at an import before which all are served.
pub record IsRealLinkFault (files : List (List ℕ)) (f : LinkFault) : Type 0 where
  pub readings : List Reading
  pub are : AreSound files readings
  pub fails : ((f.reason ≡ link_reason.Memory)
      × AreServedBefore (set_read readings) f.component f.import)
      ⊎ IsLinkFault (set_read readings) f.component f.import f.reason

-- the components are linked, and the machine makes no set of them
pub record IsRealSetFault (files : List (List ℕ)) (pages : List ℕ) (m : Misuse) : Type 0 where
  pub readings : List Reading
  pub are : AreSound files readings
  pub linked : CanBeLinked (set_read readings)
  pub fails : IsMisuse (set_read readings) pages m

-- why files of real tools do not come to a set with these pages; the first step that fails tells
abbrev pub IsRealFault : List (List ℕ) → List ℕ → RealFault → Type 0
IsRealFault files pages (fault.File f) = IsFileFault files f
IsRealFault files pages (fault.Link f) = IsRealLinkFault files f
IsRealFault files pages (fault.Set m) = IsRealSetFault files pages m

-- a set was made of files of real tools: their plain components are sound and can be linked, and it
-- is one of these with such pages, with which nothing has happened so far
pub record IsRealLoaded (files : List (List ℕ)) (pages : List ℕ) (s : RunningSet) : Type 0 where
  pub readings : List Reading
  pub are : AreSound files readings
  pub linked : CanBeLinked (set_read readings)
  pub new_set : IsNew (set_read readings) pages s

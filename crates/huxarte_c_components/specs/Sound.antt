-- Files that stand for valid components, of which all holds that their shims say.
use Rattle.std.specs.Prelude.{◌≡◌, ℕ, List, [], ◌∷◌, Result, Ok, Err}
use Rattle.cm_binary_model.specs.Trees.{SectionTree}
use Rattle.cm_shims.specs.Files.{AreRead, IsFileFault, IsSound, Reading, component_in}
use Rattle.cm_shims.specs.declared.files_fault.FilesFault.{FilesFault}
use Rattle.huxarte_c_components.specs.Faults.{of_files}
use Rattle.huxarte_c_calls.specs.declared.verdicts.HuxVerdict.{HuxVerdict}
use Rattle.huxarte_c_calls.specs.Verdicts.{verdict_by}

-- The bytes of a file are read as a plain component, which is valid and has the types that its
-- shims say.
pub record IsRead (bytes : List ℕ) (r : Reading) : Type 0 where
  pub read : AreRead (bytes ∷ []) (r ∷ [])
  pub sound : IsSound r

-- the bytes of a file stand for a sound component, and for this one
abbrev pub IsSoundFile : List ℕ → Type 0
IsSoundFile bytes = (r : Reading) × IsRead bytes r

abbrev pub StandsFor : List ℕ → List SectionTree → Type 0
StandsFor bytes c = (r : Reading) × IsRead bytes r × (c ≡ component_in r)

-- whether they do, or what is the first fault
abbrev pub IsOutcome : List ℕ → Result (Unit {0}) FilesFault → Type 0
IsOutcome bytes (Ok _) = IsSoundFile bytes
IsOutcome bytes (Err f) = IsFileFault (bytes ∷ []) f

-- the verdict on the bytes of one file
abbrev pub IsFileVerdict : List ℕ → HuxVerdict → Type 0
IsFileVerdict bytes v =
    (o : Result (Unit {0}) FilesFault) × IsOutcome bytes o × (v ≡ verdict_by of_files o)

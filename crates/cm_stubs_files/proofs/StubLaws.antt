-- Sets of a component and others behind it, and files by what they are read as.
use Rattle.std.proofs.Common.{◌≡◌, ◌∙◌, ℕ, List, [], ◌∷◌, ◌++◌, length, map, ap, refl, suc, sym}
use Rattle.std.proofs.lemmas.List.{map-append}
use Rattle.std.specs.Prelude.{◌≤◌, Ok, Some, slice_get, take}
use Rattle.cm_lemmas.proofs.Lists.{take_next}
use Rattle.cm_binary_model.specs.Trees.{SectionTree}
use Rattle.cm_types.specs.Signatures.{SignatureTy}
use Rattle.cm_validate_model.specs.Spaces.{spaces_of}
use Rattle.cm_validate_model.specs.Valid.{IsValid}
use Rattle.cm_match_model.specs.Imports.{LinkSet, seen_by, sees_all}
use Rattle.cm_match_model.specs.Links.{CanBeLinked}
use Rattle.cm_match_serving.specs.Sets.{sections_of, set_of}
use Rattle.cm_shims.specs.Files.{IsSound, reading_of}
use Rattle.cm_shims_plain.specs.Reading.{IsReadAs, outcome}
use Rattle.cm_shims_plain.specs.declared.reading.Shimmed.{Shimmed}
use Rattle.cm_validate.specs.cm_validate_spaces.Checked.{sections_in}
use Rattle.cm_validate.specs.cm_validate_spaces.declared.checked.Checked.{Checked}
use Rattle.cm_wit_conforms.specs.Conformance.{Conforms}
use Rattle.cm_stubs_files.specs.Called.{called}
use Rattle.cm_stubs_files.specs.StubFiles.{IsCallerFile, IsProviderFile, IsProviderFileOf}
use Rattle.cm_stubs_files.specs.StubFiles.{IsSoundFile}

-- a valid component before others, as a set
pub set_before : (all behind : List Checked) (c : Checked) (component : List SectionTree)
    → all ≡ (c ∷ []) ++ behind → sections_in c ≡ component
    → set_of all ≡ seen_by sees_all (map spaces_of (component ∷ sections_of behind))
set_before all behind c component is held =
    ap set_of is
    ∙ ap (λ s. seen_by sees_all (map spaces_of (s ∷ sections_of behind))) held

-- a file that is read as what is sound
sound_file : (file : List ℕ) (s : Shimmed) → IsReadAs file (outcome (Ok s))
    → IsSound (reading_of s) → IsSoundFile file s.component
sound_file file s read sound =
    record { reading = reading_of s; read = read; sound = sound; held = refl }

pub provider_is : (file : List ℕ) (s : Shimmed) (behind : List (List SectionTree))
    → IsReadAs file (outcome (Ok s)) → IsSound (reading_of s)
    → CanBeLinked (seen_by sees_all (map spaces_of (s.component ∷ behind)))
    → IsProviderFile file behind
provider_is file s behind read sound linked =
    record { provider = s.component; read = sound_file file s read sound; linked = linked }

pub caller_is : (file : List ℕ) (s : Shimmed) (of_ : SignatureTy)
    → IsReadAs file (outcome (Ok s)) → IsSound (reading_of s)
    → (spaces_of s.component).exports ≡ []
    → Conforms (called (length of_.exports) (spaces_of s.component).imports) of_
    → IsCallerFile file of_
caller_is file s of_ read sound exports calls = record {
  caller = s.component;
  read = sound_file file s read sound;
  exports = exports;
  calls = calls;
}

pub provider_of_is : (file : List ℕ) (s : Shimmed) (user : List SectionTree) (asked : SignatureTy)
    → IsReadAs file (outcome (Ok s)) → IsSound (reading_of s)
    → length (spaces_of s.component).exports ≤ length asked.imports
    → IsValid user → Conforms asked (called 0 (spaces_of user).imports)
    → CanBeLinked (seen_by sees_all (map spaces_of (s.component ∷ user ∷ [])))
    → IsProviderFileOf file asked
provider_of_is file s user asked read sound few valid asks linked = record {
  provider = s.component;
  read = sound_file file s read sound;
  few = few;
  user = user;
  valid = valid;
  asks = asks;
  linked = linked;
}

-- valid components, one more
pub valid_next : (cs all : List Checked) (c : Checked) (components : List (List SectionTree))
    (i : ℕ) (x : List SectionTree) → sections_of cs ≡ take i components → all ≡ cs ++ c ∷ []
    → sections_in c ≡ x → slice_get components i ≡ Some x
    → sections_of all ≡ take (suc i) components
valid_next cs all c components i x before is held there =
    ap sections_of is
    ∙ map-append sections_in cs (c ∷ [])
    ∙ ap (λ xs. xs ++ sections_in c ∷ []) before
    ∙ ap (λ y. take i components ++ y ∷ []) held
    ∙ sym (take_next components i x there)

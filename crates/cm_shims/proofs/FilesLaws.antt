-- Files that are read, and components that are sound, one more at a time.
use Rattle.std.proofs.Common.{◌≡◌, ℕ, zero, suc, List, [], ◌∷◌, ◌++◌, ◌<◌, ◌⊎◌, inl, inr, length, map, Some, Ok, refl, sym, ap, subst, ◌∙◌}
use Rattle.std.specs.Prelude.{get_or, slice_get, take}
use Rattle.std.specs.Option.{option_map}
use Rattle.std.proofs.lemmas.Option.{slice_get-get_or, slice_get-map}
use Rattle.std.specs.List.{AllByRecursion}
use Rattle.cm_binary_model.specs.Trees.{SectionTree}
use Rattle.cm_validate_model.specs.Spaces.{spaces_of}
use Rattle.cm_validate_model.specs.Valid.{IsValid}
use Rattle.cm_shims_plain.specs.declared.reading.Shimmed.{Shimmed}
use Rattle.cm_shims_plain.specs.declared.wants.Want.{Want}
use Rattle.cm_shims_plain.specs.Reading.{IsMemory, IsReadAs, outcome}
use Rattle.cm_shims.specs.declared.fault.FitFault.{FitFault}
use Rattle.cm_shims.specs.declared.fault.FitReason.TheVariants as fit_reason
use Rattle.cm_shims.specs.Fitting.{AllHold, IsFirstUnmet}
use Rattle.cm_shims.specs.declared.files_fault.FilesFault.{FilesFault}
use Rattle.cm_shims.specs.declared.files_fault.FilesFault.TheVariants as fault
use Rattle.cm_shims.specs.Files.{AreRead, IsFileFault, IsJudged, IsSound, IsUnfit, Reading, component_in, reading_of, wants_in}
use Rattle.cm_lemmas.proofs.Options.{some_is}

-- what was read, by what reading says
pub read_is : (bytes : List ℕ) (s : Shimmed) → IsMemory (Ok s) ⊎ IsReadAs bytes (outcome (Ok s)) → IsReadAs bytes (Ok (reading_of s))
read_is bytes s right = elim right [
  | inl is ↦ absurd (cc)
  | inr is ↦ is
]

pub read_next : (fs : List (List ℕ)) (i : ℕ) (f : List ℕ) (rs : List Reading) (r : Reading)
    → slice_get fs i ≡ Some f → AreRead (take i fs) rs → IsReadAs f (Ok r) → AreRead (take (suc i) fs) (rs ++ r ∷ [])
read_next [] i f rs r at read is = absurd (cc)
read_next (g ∷ fs) zero f [] r at read is = (subst (λ x. IsReadAs x (Ok r)) (sym (some_is g f at)) is, tt)
read_next (g ∷ fs) zero f (d ∷ rs) r at read is = absurd read
read_next (g ∷ fs) (suc i) f [] r at read is = absurd read
read_next (g ∷ fs) (suc i) f (d ∷ rs) r at read is = (read.0, read_next fs i f rs r at read.1 is)

pub read_more : {A : Type 0} (now : A → List ℕ) (fs : List A) (i : ℕ) (d : A) (rs : List Reading) (r : Reading)
    → i < length fs → AreRead (take i (map now fs)) rs → IsReadAs (now (get_or fs i d)) (Ok r) → AreRead (take (suc i) (map now fs)) (rs ++ r ∷ [])
read_more now fs i d rs r below read is =
    read_next (map now fs) i (now (get_or fs i d)) rs r
    (slice_get-map now fs i ∙ ap (option_map now) (slice_get-get_or fs i d below)) read is

-- why a valid component is unfit, by what judging its wants says
pub unfit_is : (r : Reading) (component : List SectionTree) (wants : List Want) (f : FitFault)
    → component ≡ component_in r → wants ≡ wants_in r → IsValid (component_in r)
    → ((f.reason ≡ fit_reason.Memory) × AllHold (spaces_of component) (take f.want wants)) ⊎ IsFirstUnmet (spaces_of component) wants f
    → IsUnfit r f
unfit_is r component wants f is said valid fails = record {
  valid = valid;
  fails = subst (λ ws. ((f.reason ≡ fit_reason.Memory) × AllHold (spaces_of (component_in r)) (take f.want ws)) ⊎ IsFirstUnmet (spaces_of (component_in r)) ws f) said
      (subst (λ c. ((f.reason ≡ fit_reason.Memory) × AllHold (spaces_of c) (take f.want wants)) ⊎ IsFirstUnmet (spaces_of c) wants f) is fails);
}

-- a file that is judged to be no sound one is at fault
pub judged_is : (files : List (List ℕ)) (n : ℕ) (rs : List Reading) (r : Reading) (e : FilesFault)
    → AreRead files rs → AllByRecursion IsSound (take n rs) → slice_get rs n ≡ Some r → IsJudged n r e → IsFileFault files e
judged_is files n rs r (fault.Read k f) read before stands judged = absurd judged
judged_is files n rs r (fault.Component k f) read before stands judged = record {
  readings = rs;
  read = read;
  before = subst (λ m. AllByRecursion IsSound (take m rs)) (sym judged.0) before;
  reading = r;
  stands = subst (λ m. slice_get rs m ≡ Some r) (sym judged.0) stands;
  judged = (refl, judged.1);
}
judged_is files n rs r (fault.Shims k f) read before stands judged = record {
  readings = rs;
  read = read;
  before = subst (λ m. AllByRecursion IsSound (take m rs)) (sym judged.0) before;
  reading = r;
  stands = subst (λ m. slice_get rs m ≡ Some r) (sym judged.0) stands;
  judged = (refl, judged.1);
}
judged_is files n rs r fault.Memory read before stands judged = absurd judged

pub sound_next : (rs : List Reading) (i : ℕ) (r : Reading) → slice_get rs i ≡ Some r → AllByRecursion IsSound (take i rs) → IsSound r → AllByRecursion IsSound (take (suc i) rs)
sound_next [] i r at all is = absurd (cc)
sound_next (q ∷ rs) zero r at all is = (subst IsSound (sym (some_is q r at)) is, tt)
sound_next (q ∷ rs) (suc i) r at all is = (all.0, sound_next rs i r at all.1 is)

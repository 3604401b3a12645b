-- What holds of lists of one.
use Rattle.std.proofs.Common.{◌≡◌, ◌<◌, List, [], ◌∷◌, ◌++◌, ℕ, map, length, refl, arith, Result, Ok, Err, IfOk, IfErr}
use Rattle.std.specs.Prelude.{IsOkAnd}
use Rattle.std.specs.List.{AllByRecursion}
use Rattle.cm_binary_model.specs.Trees.{SectionTree}
use Rattle.cm_validate_spaces.specs.Checked.{sections_in}
use Rattle.cm_validate_spaces.specs.declared.checked.Checked.{Checked}
use Rattle.cm_shims.specs.Files.{AreRead, IsFileFault, IsSound, Reading, component_in}
use Rattle.cm_shims.specs.declared.files_fault.FilesFault.{FilesFault}
use Rattle.huxarte_c_components.specs.Sound.{StandsFor}

-- what comes last in a list of one is that one
pub last_of_one : {A B : Type 0} (f : A → B) (c : B) (ys : List A) (x : A)
    → map f (ys ++ x ∷ []) ≡ c ∷ [] → f x ≡ c
last_of_one f c [] x one = cc
last_of_one f c (y ∷ []) x one = cc
last_of_one f c (y ∷ z ∷ ys) x one = cc

-- a list of one is not empty
pub one_is_some : {A B : Type 0} (f : A → B) (c : B) (xs : List A) → map f xs ≡ c ∷ []
    → 0 < length xs
one_is_some f c [] one = cc
one_is_some f c (x ∷ xs) one = omega arith

-- what a list of one file and one component comes to
pub stands : (b : List ℕ) (rs : List Reading) (r : Result Checked FilesFault) → AreRead (b ∷ []) rs
    → AllByRecursion IsSound rs
    → ((c : List SectionTree) → map component_in rs ≡ c ∷ [] → IsOkAnd r (λ x. sections_in x ≡ c))
    → IfOk r (λ x. StandsFor b (sections_in x)) × IfErr r (λ _. ⊥)
stands b [] r h sound one = absurd h
stands b (x ∷ []) (Ok v) h sound one = ((x, record { read = h; sound = sound.0 }, one (component_in x) refl), tt)
stands b (x ∷ []) (Err e) h sound one = absurd (one (component_in x) refl)
stands b (x ∷ y ∷ rs) r h sound one = absurd h.1

-- what is never refused is refused for whatever reason
pub never : (b : List ℕ) (r : Result Checked FilesFault) → IfErr r (λ _. ⊥)
    → IfErr r (IsFileFault (b ∷ []))
never b (Ok v) h = tt
never b (Err e) h = absurd h

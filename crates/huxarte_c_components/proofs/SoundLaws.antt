-- What holds of a component holds of the file that stands for it.
use Rattle.std.proofs.Common.{◌≡◌, ◌∙◌, ◌<◌, ℕ, List, length, ap, refl, subst, Result, Ok, Err, IfErr, IfOk, OnOk}
use Rattle.std.specs.Prelude.{IsErrOf}
use Rattle.cm_binary_model.specs.Trees.{SectionTree}
use Rattle.cm_tool_files.specs.Conforming.{ConformsTo}
use Rattle.cm_tool_show.specs.Shown.{shown}
use Rattle.cm_tool_show.specs.declared.fault.ShowFault.{ShowFault}
use Rattle.cm_tool_show.specs.declared.fault.ShowFault.TheVariants as fault
use Rattle.cm_tool_show.specs.declared.page.TheConstants.{MAX_SHOWN}
use Rattle.cm_types.specs.Signatures.{SignatureTy}
use Rattle.cm_validate_model.specs.Spaces.{spaces_of}
use Rattle.cm_validate.specs.Exports.{signature_in}
use Rattle.huxarte_c_components.specs.declared.conforming.FitRefusal.{FitRefusal}
use Rattle.huxarte_c_components.specs.declared.conforming.FitRefusal.TheVariants as unfit
use Rattle.huxarte_c_components.specs.declared.showing.ShowRefusal.{ShowRefusal}
use Rattle.huxarte_c_components.specs.declared.showing.ShowRefusal.TheVariants as refusal
use Rattle.huxarte_c_components.specs.Fitting.{Fits, IsUnfitRefusal, IsUnfitSignature}
use Rattle.huxarte_c_components.specs.Showing.{IsShowRefusal, IsShown, IsUnshown}
use Rattle.huxarte_c_components.specs.Sound.{StandsFor}

-- ---- a text

pub unshown : {A : Type 0} (have : SignatureTy) (f : ShowFault) → (IsErrOf {T = A} (Err f) fault.TooLong → MAX_SHOWN < length (shown have))
    → IsUnshown have (refusal.Show f)
unshown have fault.TooLong long = long refl
unshown have fault.Memory long = tt

pub shown_of : {A : Type 0} (view : A → List ℕ) (bytes : List ℕ) (c : List SectionTree) (r : Result A ShowRefusal) → StandsFor bytes c
    → IfOk r (λ t. view t ≡ shown (signature_in (spaces_of c))) → IfOk r (λ t. IsShown bytes (view t))
shown_of view bytes c (Ok text) stands is = (stands.0, stands.1, is ∙ ap (λ (x : List SectionTree). shown (signature_in (spaces_of x))) stands.2)
shown_of view bytes c (Err e) stands is = tt

pub unshown_of : {A : Type 0} (bytes : List ℕ) (c : List SectionTree) (r : Result A ShowRefusal) → StandsFor bytes c
    → IfErr r (IsUnshown (signature_in (spaces_of c))) → IfErr r (IsShowRefusal bytes)
unshown_of bytes c (Ok v) stands why = tt
unshown_of bytes c (Err (refusal.Files f)) stands why = absurd why
unshown_of bytes c (Err (refusal.Show f)) stands why =
    (stands.0, stands.1, subst (λ (x : List SectionTree). IsUnshown (signature_in (spaces_of x)) (refusal.Show f)) stands.2 why)

-- ---- a world

pub fits_of : {A : Type 0} (bytes wit world : List ℕ) (c : List SectionTree) (r : Result A FitRefusal) → StandsFor bytes c
    → OnOk r (ConformsTo wit world (signature_in (spaces_of c))) → OnOk r (Fits bytes wit world)
fits_of bytes wit world c (Ok v) stands fits =
    (stands.0, stands.1, subst (λ (x : List SectionTree). ConformsTo wit world (signature_in (spaces_of x))) stands.2 fits)
fits_of bytes wit world c (Err e) stands fits = tt

pub unfit_of : {A : Type 0} (bytes wit world : List ℕ) (c : List SectionTree) (r : Result A FitRefusal) → StandsFor bytes c
    → IfErr r (IsUnfitSignature wit world (signature_in (spaces_of c))) → IfErr r (IsUnfitRefusal bytes wit world)
unfit_of bytes wit world c (Ok v) stands why = tt
unfit_of bytes wit world c (Err (unfit.Files f)) stands why = absurd why
unfit_of bytes wit world c (Err unfit.NoText) stands why = (stands.0, stands.1, why)
unfit_of bytes wit world c (Err (unfit.Unfit e)) stands why =
    (stands.0, stands.1, subst (λ (x : List SectionTree). IsUnfitSignature wit world (signature_in (spaces_of x)) (unfit.Unfit e)) stands.2 why)

-- What the options of lifts and lowers say.
use Rattle.std.proofs.Common.{inl, inr, ◌⊎◌, ◌≡◌, ◌∙◌, ◌+◌, ℕ, List, [], ◌∷◌, ◌++◌, drop, Bool, true, false, Option, Some, None, is_some, refl, ap, subst}
use Rattle.std.specs.Prelude.{◌||◌, not, nat_lt, nat_le}
use Rattle.std.specs.List.{list_any}
use Rattle.std.specs.Option.{option_or}
use Rattle.std.proofs.lemmas.Bool.{leb-true, le-ltb}
use Rattle.cm_types.specs.Types.{FuncTy}
use Rattle.cm_types.specs.Holds.{is_string}
use Rattle.cm_binary_model.specs.declared.canons.CanonOption.{CanonOption}
use Rattle.cm_binary_model.specs.declared.canons.CanonOption.TheVariants as option
use Rattle.cm_abi_model.specs.Requests.{IsStored}
use Rattle.cm_validate_model.specs.declared.fault.ValidReason.TheVariants as reason
use Rattle.cm_validate_model.specs.Named.{AreOptionsThere, IsGuestAt}
use Rattle.cm_validate_model.specs.Options.{is_latin1, is_pointer, is_realloc, latin1_broken, lift_type_broken, lower_type_broken, memory_use_broken, params_hold, params_need_memory, realloc_broken, result_holds}
use Rattle.cm_validate_model.specs.Spaces.{Spaces}
use Rattle.cm_machine_links.specs.Planning.{encoding_of, first_in, post_return_in, realloc_in}
use Rattle.cm_validate_model.proofs.ReasonsLaws.{kept}
use Rattle.cm_lemmas.proofs.Lists.{nil_front, nil_rest}
use Rattle.cm_lemmas.proofs.Options.{some_in}

-- ---- the first of a kind

pub more_options : {A : Type 0} (said : CanonOption → Option A) (xs : List CanonOption) (i : ℕ) (x : CanonOption) → drop i xs ≡ x ∷ drop (i + 1) xs → said x ≡ None
    → first_in said (drop i xs) ≡ first_in said (drop (i + 1) xs)
more_options said xs i x next none = ap (first_in said) next ∙ ap (λ o. option_or o (first_in said (drop (i + 1) xs))) none

pub option_here : {A : Type 0} (said : CanonOption → Option A) (xs : List CanonOption) (i : ℕ) (x : CanonOption) (v : A) → drop i xs ≡ x ∷ drop (i + 1) xs → said x ≡ Some v
    → first_in said (drop i xs) ≡ Some v
option_here said xs i x v next some = ap (first_in said) next ∙ ap (λ o. option_or o (first_in said (drop (i + 1) xs))) some

-- ---- what they name

pub realloc_named : (os : List CanonOption) → list_any is_realloc os ≡ true → is_some (first_in realloc_in os) ≡ true
realloc_named [] h = cc h
realloc_named (option.Utf8 ∷ os) h = realloc_named os h
realloc_named (option.Utf16 ∷ os) h = realloc_named os h
realloc_named (option.Latin1Utf16 ∷ os) h = realloc_named os h
realloc_named (option.Memory i ∷ os) h = realloc_named os h
realloc_named (option.Realloc f ∷ os) h = refl
realloc_named (option.PostReturn f ∷ os) h = realloc_named os h

pub stored_in : (os : List CanonOption) → list_any is_latin1 os ≡ false → IsStored (encoding_of os)
stored_in [] h = tt
stored_in (option.Utf8 ∷ os) h = tt
stored_in (option.Utf16 ∷ os) h = tt
stored_in (option.Latin1Utf16 ∷ os) h = cc h
stored_in (option.Memory i ∷ os) h = stored_in os h
stored_in (option.Realloc f ∷ os) h = stored_in os h
stored_in (option.PostReturn f ∷ os) h = stored_in os h

pub realloc_guest : (s : Spaces) (os : List CanonOption) (f : ℕ) → AreOptionsThere s os → first_in realloc_in os ≡ Some f → IsGuestAt s f
realloc_guest s [] f h e = cc e
realloc_guest s (option.Utf8 ∷ os) f h e = realloc_guest s os f h.1 e
realloc_guest s (option.Utf16 ∷ os) f h e = realloc_guest s os f h.1 e
realloc_guest s (option.Latin1Utf16 ∷ os) f h e = realloc_guest s os f h.1 e
realloc_guest s (option.Memory i ∷ os) f h e = realloc_guest s os f h.1 e
realloc_guest s (option.Realloc g ∷ os) f h e = subst (IsGuestAt s) (some_in e) h.0
realloc_guest s (option.PostReturn g ∷ os) f h e = realloc_guest s os f h.1 e

pub post_return_guest : (s : Spaces) (os : List CanonOption) (f : ℕ) → AreOptionsThere s os → first_in post_return_in os ≡ Some f → IsGuestAt s f
post_return_guest s [] f h e = cc e
post_return_guest s (option.Utf8 ∷ os) f h e = post_return_guest s os f h.1 e
post_return_guest s (option.Utf16 ∷ os) f h e = post_return_guest s os f h.1 e
post_return_guest s (option.Latin1Utf16 ∷ os) f h e = post_return_guest s os f h.1 e
post_return_guest s (option.Memory i ∷ os) f h e = post_return_guest s os f h.1 e
post_return_guest s (option.Realloc g ∷ os) f h e = post_return_guest s os f h.1 e
post_return_guest s (option.PostReturn g ∷ os) f h e = subst (IsGuestAt s) (some_in e) h.0

-- ---- what types need

pub lift_realloc : (os : List CanonOption) (f : FuncTy) → lift_type_broken os f ≡ [] → (list_any is_realloc os || not (params_need_memory f)) ≡ true
lift_realloc os f h =
    kept (list_any is_realloc os || not (params_need_memory f)) reason.NeedsRealloc
    (nil_rest (memory_use_broken f os) (realloc_broken (params_need_memory f) os)
    (nil_front (memory_use_broken f os ++ realloc_broken (params_need_memory f) os) (latin1_broken (params_hold is_string f) os) h))

pub lift_latin1 : (os : List CanonOption) (f : FuncTy) → lift_type_broken os f ≡ [] → latin1_broken (params_hold is_string f) os ≡ []
lift_latin1 os f h = nil_rest (memory_use_broken f os ++ realloc_broken (params_need_memory f) os) (latin1_broken (params_hold is_string f) os) h

pub lower_realloc : (os : List CanonOption) (f : FuncTy) → lower_type_broken os f ≡ [] → (list_any is_realloc os || not (result_holds is_pointer f)) ≡ true
lower_realloc os f h =
    kept (list_any is_realloc os || not (result_holds is_pointer f)) reason.NeedsRealloc
    (nil_rest (memory_use_broken f os) (realloc_broken (result_holds is_pointer f) os)
    (nil_front (memory_use_broken f os ++ realloc_broken (result_holds is_pointer f) os) (latin1_broken (result_holds is_string f) os) h))

pub lower_latin1 : (os : List CanonOption) (f : FuncTy) → lower_type_broken os f ≡ [] → latin1_broken (result_holds is_string f) os ≡ []
lower_latin1 os f h = nil_rest (memory_use_broken f os ++ realloc_broken (result_holds is_pointer f) os) (latin1_broken (result_holds is_string f) os) h

-- ---- Bools

-- one of two holds
pub either : (a b : Bool) → (a || not b) ≡ true → (a ≡ true) ⊎ (b ≡ false)
either true b h = inl refl
either false true h = cc h
either false false h = inr refl

pub stores : (holds : Bool) (os : List CanonOption) → latin1_broken holds os ≡ [] → (list_any is_latin1 os ≡ false) ⊎ (holds ≡ false)
stores false os h = inr refl
stores true os h = inl (by_any (list_any is_latin1 os) (kept (not (list_any is_latin1 os)) reason.StoresLatin1 h))
  where
    by_any : (b : Bool) → not b ≡ true → b ≡ false
    by_any true e = cc e
    by_any false e = refl

pub not_more : (n m : ℕ) → not (nat_le n m) ≡ false → nat_lt m n ≡ false
not_more n m h = le-ltb m n (leb-true n m (by_not (nat_le n m) h))
  where
    by_not : (b : Bool) → not b ≡ false → b ≡ true
    by_not true e = refl
    by_not false e = cc e

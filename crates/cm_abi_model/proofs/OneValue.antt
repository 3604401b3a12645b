-- The same bytes and the same slots show one value.
use Rattle.std.proofs.Common.{◌≡◌, ℕ, zero, suc, ◌+◌, ◌⊎◌, List, Some, refl, sym, ap, subst, ◌∙◌, arith, inl, inr}
use Rattle.cm_types.specs.declared.core_value.CoreValue.{CoreValue}
use Rattle.cm_types.specs.declared.resource.ResourceId.{ResourceId}
use Rattle.cm_types.specs.Types.{Width, FieldsKind, Ty, Fields, Cases, bool, signed, unsigned, char, string, list, fixed_list, fields, cases, flags, own, borrow, no_fields, field, no_cases, plain, carrying, tuple_type}
use Rattle.cm_types.specs.Values.{Val, Vals, HandleValue, no_vals, val, truth, signed_number, number, scalar, text, elements, parts, bare, bearing, flag_set, handle, count_of, IsPlainCase}
use Rattle.cm_handles.specs.Handles.{Handles}
use Rattle.cm_handles.specs.declared.handle.Handle.{Handle}
use Rattle.cm_layout.specs.Sizes.{payload_offset}
use Rattle.cm_text.specs.Text.{IsText}
use Rattle.cm_abi_model.specs.Views.{View, Way}
use Rattle.cm_abi_model.specs.Texts.{Charset, Has, spell}
use Rattle.cm_abi_model.specs.Shows.{Shows, ShowFields, ShowsPayload, ShowEach, ShowsHandle}
use Rattle.cm_abi_model.specs.FlatShows.{FlatShows, FlatShowFields, FlatShowsPayload}
use Rattle.cm_abi_model.specs.Denotes.{Denotes}
use Rattle.cm_abi_model.proofs.OneAcross.{as_case, flat_as_case}
use Rattle.cm_abi_model.proofs.ShownForms.{Is, as_bool, as_signed, as_unsigned, as_char, as_string, as_list, as_fixed, as_fields, as_flags, as_own, as_borrow, flat_as_bool, flat_as_signed, flat_as_unsigned, flat_as_char, flat_as_string, flat_as_list, flat_as_fixed, flat_as_fields, flat_as_flags, flat_as_own, flat_as_borrow}

-- an index stands for one handle
pub one_handle : (table : Handles) (index : ℕ) (r : ResourceId) (g h : HandleValue) → ShowsHandle table index r g
    → ShowsHandle table index r h → g ≡ h
one_handle table index r g h x y =
    let same : x.entry ≡ y.entry = some_is (sym x.stands ∙ y.stands) in
    x.value ∙ ap (λ e. record { serial = e.serial; rep = e.rep; resource = r }) same ∙ sym y.value
  where
    some_is : {a b : Handle} → Some a ≡ Some b → a ≡ b
    some_is e = cc

-- values in a row are one, if each is
pub one_each : (S : ℕ → Val → Type 0) (size : ℕ) → ((p : ℕ) (u v : Val) → S p u → S p v → u ≡ v)
    → (at : ℕ) (us vs : Vals) → count_of us ≡ count_of vs → ShowEach S size at us → ShowEach S size at vs → us ≡ vs
one_each S size one at no_vals no_vals n x y = refl
one_each S size one at no_vals (val v vs) n x y = absurd (omega (arith, n))
one_each S size one at (val u us) no_vals n x y = absurd (omega (arith, n))
one_each S size one at (val u us) (val v vs) n x y =
    let head : u ≡ v = one at u v x.0 y.0 in
    let tail : us ≡ vs = one_each S size one (at + size) us vs (omega (arith, n)) x.1 y.1 in
    ap (λ w. val w us) head ∙ ap (λ ws. val v ws) tail

-- two values that are made of the same content are the same
pub both : {A : Type 0} (make : A → Val) {F : A → Type 0} {u v : Val} → ((a b : A) → F a → F b → a ≡ b)
    → Is make F u → Is make F v → u ≡ v
both make one x y = x.value ∙ ap make (one x.content y.content x.fact y.fact) ∙ sym y.value

-- a value of a type with cases, where what each case carries is one
abbrev ACase : Cases → (ℕ → Val → Type 0) → ℕ → Val → Type 0
ACase cs P n v =
    ((i : ℕ) × (v ≡ bare i) × (n ≡ i) × IsPlainCase cs i) ⊎ ((i : ℕ) × (a : Val) × (v ≡ bearing i a) × (n ≡ i) × P i a)

one_case : (cs : Cases) (P : ℕ → Val → Type 0) (n : ℕ) (u v : Val) → ((i : ℕ) (a b : Val) → P i a → P i b → a ≡ b)
    → ((i : ℕ) (a : Val) → IsPlainCase cs i → P i a → ⊥) → ACase cs P n u → ACase cs P n v → u ≡ v
one_case cs P n u v one not_both (inl x) (inl y) = x.1 ∙ ap bare (sym x.2 ∙ y.2) ∙ sym y.1
one_case cs P n u v one not_both (inl x) (inr y) =
    absurd (not_both x.0 y.1 x.3 (subst (λ m. P m y.1) (sym y.3 ∙ x.2) y.4))
one_case cs P n u v one not_both (inr x) (inl y) =
    absurd (not_both y.0 x.1 y.3 (subst (λ m. P m x.1) (sym x.3 ∙ y.2) x.4))
one_case cs P n u v one not_both (inr x) (inr y) =
    let same : x.0 ≡ y.0 = sym x.3 ∙ y.3 in
    let moved : P y.0 x.1 = subst (λ m. P m x.1) same x.4 in
    x.2 ∙ ap (λ m. bearing m x.1) same ∙ ap (bearing y.0) (one y.0 x.1 y.1 moved y.4) ∙ sym y.2

module _ (one : (s : Charset) (cs ds bytes : List ℕ) → IsText (Has s) (spell s) cs bytes → IsText (Has s) (spell s) ds bytes → cs ≡ ds) where
  mutual
    pub one_shown : (w : View) (t : Ty) (p : ℕ) (u v : Val) → Shows w t p u → Shows w t p v → u ≡ v
    one_shown w bool p u v x y = both truth (λ a b e f. e ∙ sym f) (as_bool w p u x) (as_bool w p v y)
    one_shown w (signed k) p u v x y = both signed_number (λ a b e f. e ∙ sym f) (as_signed w p k u x) (as_signed w p k v y)
    one_shown w (unsigned k) p u v x y = both number (λ a b e f. e ∙ sym f) (as_unsigned w p k u x) (as_unsigned w p k v y)
    one_shown w char p u v x y = both scalar (λ a b e f. e.0 ∙ sym f.0) (as_char w p u x) (as_char w p v y)
    one_shown w string p u v x y = both text (λ a b e f. one _ a b _ e.text f.text) (as_string w p u x) (as_string w p v y)
    one_shown w (list t) p u v x y =
        both elements (λ a b e f. one_each (Shows w t) _ (one_shown w t) _ a b (e.count ∙ sym f.count) e.each f.each)
        (as_list w p t u x) (as_list w p t v y)
    one_shown w (fixed_list t n) p u v x y =
        both parts (λ a b e f. one_each (Shows w t) _ (one_shown w t) _ a b (e.0 ∙ sym f.0) e.1 f.1)
        (as_fixed w p t n u x) (as_fixed w p t n v y)
    one_shown w (fields k fs) p u v x y =
        both parts (λ a b e f. one_fields w fs p 0 a b e f) (as_fields w p k fs u x) (as_fields w p k fs v y)
    one_shown w (cases k cs) p u v x y =
        one_case cs (ShowsPayload w cs (p + payload_offset cs)) _ u v (one_payload w cs (p + payload_offset cs))
        (not_both w cs (p + payload_offset cs)) (as_case w p k cs u x) (as_case w p k cs v y)
    one_shown w (flags ls) p u v x y = both flag_set (λ a b e f. e ∙ sym f) (as_flags w p ls u x) (as_flags w p ls v y)
    one_shown w (own r) p u v x y = both handle (λ a b e f. one_handle _ _ r a b e.handle f.handle) (as_own w p r u x) (as_own w p r v y)
    one_shown w (borrow r) p u v x y = both handle (λ a b e f. one_handle _ _ r a b e f) (as_borrow w p r u x) (as_borrow w p r v y)

    one_fields : (w : View) (fs : Fields) (p end : ℕ) (us vs : Vals) → ShowFields w fs p end us → ShowFields w fs p end vs → us ≡ vs
    one_fields w no_fields p end no_vals no_vals x y = refl
    one_fields w no_fields p end no_vals (val v vs) x y = absurd y
    one_fields w no_fields p end (val u us) vs x y = absurd x
    one_fields w (field l t fs) p end no_vals vs x y = absurd x
    one_fields w (field l t fs) p end (val u us) no_vals x y = absurd y
    one_fields w (field l t fs) p end (val u us) (val v vs) x y =
        let head : u ≡ v = one_shown w t _ u v x.0 y.0 in
        let tail : us ≡ vs = one_fields w fs p _ us vs x.1 y.1 in
        ap (λ a. val a us) head ∙ ap (λ as'. val v as') tail

    one_payload : (w : View) (cs : Cases) (p i : ℕ) (u v : Val) → ShowsPayload w cs p i u → ShowsPayload w cs p i v → u ≡ v
    one_payload w no_cases p i u v x y = absurd x
    one_payload w (plain l cs) p zero u v x y = absurd x
    one_payload w (plain l cs) p (suc i) u v x y = one_payload w cs p i u v x y
    one_payload w (carrying l t cs) p zero u v x y = one_shown w t p u v x y
    one_payload w (carrying l t cs) p (suc i) u v x y = one_payload w cs p i u v x y

    not_both : (w : View) (cs : Cases) (p i : ℕ) (v : Val) → IsPlainCase cs i → ShowsPayload w cs p i v → ⊥
    not_both w no_cases p i v x y = y
    not_both w (plain l cs) p zero v x y = y
    not_both w (plain l cs) p (suc i) v x y = not_both w cs p i v x y
    not_both w (carrying l t cs) p zero v x y = x
    not_both w (carrying l t cs) p (suc i) v x y = not_both w cs p i v x y

  mutual
    pub one_flat : (w : View) (s : List CoreValue) (t : Ty) (p : ℕ) (u v : Val) → FlatShows w s t p u → FlatShows w s t p v → u ≡ v
    one_flat w s bool p u v x y = both truth (λ a b e f. e ∙ sym f) (flat_as_bool w s p u x) (flat_as_bool w s p v y)
    one_flat w s (signed k) p u v x y = both signed_number (λ a b e f. e ∙ sym f) (flat_as_signed w s p k u x) (flat_as_signed w s p k v y)
    one_flat w s (unsigned k) p u v x y = both number (λ a b e f. e ∙ sym f) (flat_as_unsigned w s p k u x) (flat_as_unsigned w s p k v y)
    one_flat w s char p u v x y = both scalar (λ a b e f. e.0 ∙ sym f.0) (flat_as_char w s p u x) (flat_as_char w s p v y)
    one_flat w s string p u v x y = both text (λ a b e f. one _ a b _ e.text f.text) (flat_as_string w s p u x) (flat_as_string w s p v y)
    one_flat w s (list t) p u v x y =
        both elements (λ a b e f. one_each (Shows w t) _ (one_shown w t) _ a b (e.count ∙ sym f.count) e.each f.each)
        (flat_as_list w s p t u x) (flat_as_list w s p t v y)
    one_flat w s (fixed_list t n) p u v x y =
        both parts (λ a b e f. one_each (FlatShows w s t) _ (one_flat w s t) _ a b (e.0 ∙ sym f.0) e.1 f.1)
        (flat_as_fixed w s p t n u x) (flat_as_fixed w s p t n v y)
    one_flat w s (fields k fs) p u v x y =
        both parts (λ a b e f. one_flat_fields w s fs p a b e f) (flat_as_fields w s p k fs u x) (flat_as_fields w s p k fs v y)
    one_flat w s (cases k cs) p u v x y =
        one_case cs (FlatShowsPayload w s cs (p + 1)) _ u v (one_flat_payload w s cs (p + 1))
        (not_both_flat w s cs (p + 1)) (flat_as_case w s p k cs u x) (flat_as_case w s p k cs v y)
    one_flat w s (flags ls) p u v x y = both flag_set (λ a b e f. e ∙ sym f) (flat_as_flags w s p ls u x) (flat_as_flags w s p ls v y)
    one_flat w s (own r) p u v x y = both handle (λ a b e f. one_handle _ _ r a b e.handle f.handle) (flat_as_own w s p r u x) (flat_as_own w s p r v y)
    one_flat w s (borrow r) p u v x y = both handle (λ a b e f. one_handle _ _ r a b e f) (flat_as_borrow w s p r u x) (flat_as_borrow w s p r v y)

    one_flat_fields : (w : View) (s : List CoreValue) (fs : Fields) (p : ℕ) (us vs : Vals) → FlatShowFields w s fs p us → FlatShowFields w s fs p vs → us ≡ vs
    one_flat_fields w s no_fields p no_vals no_vals x y = refl
    one_flat_fields w s no_fields p no_vals (val v vs) x y = absurd y
    one_flat_fields w s no_fields p (val u us) vs x y = absurd x
    one_flat_fields w s (field l t fs) p no_vals vs x y = absurd x
    one_flat_fields w s (field l t fs) p (val u us) no_vals x y = absurd y
    one_flat_fields w s (field l t fs) p (val u us) (val v vs) x y =
        let head : u ≡ v = one_flat w s t _ u v x.0 y.0 in
        let tail : us ≡ vs = one_flat_fields w s fs _ us vs x.1 y.1 in
        ap (λ a. val a us) head ∙ ap (λ as'. val v as') tail

    one_flat_payload : (w : View) (s : List CoreValue) (cs : Cases) (p i : ℕ) (u v : Val) → FlatShowsPayload w s cs p i u → FlatShowsPayload w s cs p i v → u ≡ v
    one_flat_payload w s no_cases p i u v x y = absurd x
    one_flat_payload w s (plain l cs) p zero u v x y = absurd x
    one_flat_payload w s (plain l cs) p (suc i) u v x y = one_flat_payload w s cs p i u v x y
    one_flat_payload w s (carrying l t cs) p zero u v x y = one_flat w s t p u v x y
    one_flat_payload w s (carrying l t cs) p (suc i) u v x y = one_flat_payload w s cs p i u v x y

    not_both_flat : (w : View) (s : List CoreValue) (cs : Cases) (p i : ℕ) (v : Val) → IsPlainCase cs i → FlatShowsPayload w s cs p i v → ⊥
    not_both_flat w s no_cases p i v x y = y
    not_both_flat w s (plain l cs) p zero v x y = y
    not_both_flat w s (plain l cs) p (suc i) v x y = not_both_flat w s cs p i v x y
    not_both_flat w s (carrying l t cs) p zero v x y = x
    not_both_flat w s (carrying l t cs) p (suc i) v x y = not_both_flat w s cs p i v x y

  pub one_denoted : (w : View) (way : Way) (types : Fields) (slots : List CoreValue) (u v : Val) → Denotes w way types slots u
      → Denotes w way types slots v → u ≡ v
  one_denoted w way types slots u v (inl x) (inl y) = one_flat w slots (fields tuple_type types) 0 u v x.shown y.shown
  one_denoted w way types slots u v (inl x) (inr y) = absurd (omega (arith, x.fits, y.spilled))
  one_denoted w way types slots u v (inr x) (inl y) = absurd (omega (arith, y.fits, x.spilled))
  one_denoted w way types slots u v (inr x) (inr y) = one_shown w (fields tuple_type types) _ u v x.shown y.shown

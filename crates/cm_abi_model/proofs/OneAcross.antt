-- Two views of one memory show one value, where the handles of what they show are the same.
use Rattle.std.proofs.Common.{◌≡◌, ℕ, zero, suc, ◌+◌, ◌⊎◌, List, [], ◌∷◌, ◌++◌, refl, sym, ap, subst, ◌∙◌, arith, inl, inr}
use Rattle.std.proofs.lemmas.List.{append_assoc}
use Rattle.cm_types.specs.declared.core_value.CoreValue.{CoreValue}
use Rattle.cm_types.specs.declared.resource.ResourceId.{ResourceId}
use Rattle.cm_types.specs.Types.{Width, FieldsKind, CasesKind, Ty, Fields, Cases, bool, signed, unsigned, char, string, list, fixed_list, fields, cases, flags, own, borrow, no_fields, field, no_cases, plain, carrying, tuple_type}
use Rattle.cm_types.specs.Values.{Val, Vals, HandleValue, no_vals, val, truth, signed_number, number, scalar, text, elements, parts, bare, bearing, flag_set, handle, count_of, IsPlainCase}
use Rattle.cm_handles.specs.Handles.{Handles}
use Rattle.cm_layout.specs.Sizes.{case_count, discriminant_size, payload_offset}
use Rattle.cm_text.specs.Text.{IsText}
use Rattle.cm_abi_model.specs.Numbers.{number_at, wrapped_at}
use Rattle.cm_abi_model.specs.Views.{View, Way}
use Rattle.cm_abi_model.specs.Texts.{Charset, Has, spell}
use Rattle.cm_abi_model.specs.Shows.{Shows, ShowFields, ShowsPayload, ShowEach}
use Rattle.cm_abi_model.specs.FlatShows.{FlatShows, FlatShowFields, FlatShowsPayload}
use Rattle.cm_abi_model.specs.Receives.{HandleLeaf, borrowed_leaf, leaves_each, leaves_in, leaves_in_fields, leaves_in_payload, owned_leaf}
use Rattle.cm_abi_model.specs.Denotes.{Denotes}
use Rattle.cm_abi_model.specs.declared.encoding.StringEncoding.{StringEncoding}
use Rattle.cm_abi_model.proofs.ShownForms.{Is, as_bool, as_signed, as_unsigned, as_char, as_string, as_list, as_fixed, as_fields, as_flags, as_own, as_borrow, flat_as_bool, flat_as_signed, flat_as_unsigned, flat_as_char, flat_as_string, flat_as_list, flat_as_fixed, flat_as_fields, flat_as_flags, flat_as_own, flat_as_borrow}

-- two views of one memory: the same but for the table, the instance and the call
abbrev On : View → Handles → ℕ → ℕ → View
On w T i c = record { memory = w.memory; table = T; instance = i; encoding = w.encoding; call = c }

abbrev One : {A : Type 0} → A → A → List HandleLeaf → List HandleLeaf → Type 0
One a b as' bs = (a ≡ b) × (as' ≡ bs)

-- handles that lead the same list are the same
same_owned : (a b : HandleValue) (as' bs : List HandleLeaf) → owned_leaf a ∷ as' ≡ owned_leaf b ∷ bs → One a b as' bs
same_owned a b as' bs e = (cc, cc)

same_borrowed : (a b : HandleValue) (as' bs : List HandleLeaf) → borrowed_leaf a ∷ as' ≡ borrowed_leaf b ∷ bs → One a b as' bs
same_borrowed a b as' bs e = (cc, cc)

-- what leads first, and what follows
pub again : (xs ys zs us vs ws : List HandleLeaf) → (xs ++ ys) ++ zs ≡ (us ++ vs) ++ ws → xs ++ (ys ++ zs) ≡ us ++ (vs ++ ws)
again xs ys zs us vs ws e = sym (append_assoc xs ys zs) ∙ e ∙ append_assoc us vs ws

one_each : (S R : ℕ → Val → Type 0) (L : Val → List HandleLeaf) (size : ℕ) → ((p : ℕ) (u v : Val) (as' bs : List HandleLeaf) → S p u → R p v → L u ++ as' ≡ L v ++ bs → One u v as' bs)
    → (at : ℕ) (us vs : Vals) (as' bs : List HandleLeaf) → count_of us ≡ count_of vs → ShowEach S size at us → ShowEach R size at vs → leaves_each L us ++ as' ≡ leaves_each L vs ++ bs → One us vs as' bs
one_each S R L size one at no_vals no_vals as' bs n x y l = (refl, l)
one_each S R L size one at no_vals (val v vs) as' bs n x y l = absurd (omega (arith, n))
one_each S R L size one at (val u us) no_vals as' bs n x y l = absurd (omega (arith, n))
one_each S R L size one at (val u us) (val v vs) as' bs n x y l =
    let head = one at u v (leaves_each L us ++ as') (leaves_each L vs ++ bs) x.0 y.0 (again (L u) (leaves_each L us) as' (L v) (leaves_each L vs) bs l) in
    let tail = one_each S R L size one (at + size) us vs as' bs (omega (arith, n)) x.1 y.1 head.1 in
    (ap (λ a. val a us) head.0 ∙ ap (λ rest. val v rest) tail.0, tail.1)

-- ---- what a value that is shown as a type looks like

pub as_case : (w : View) (p : ℕ) (k : CasesKind) (cs : Cases) (v : Val) → Shows w (cases k cs) p v
    → ((i : ℕ) × (v ≡ bare i) × (number_at (discriminant_size (case_count cs)) w.memory p ≡ i) × IsPlainCase cs i)
    ⊎ ((i : ℕ) × (a : Val) × (v ≡ bearing i a) × (number_at (discriminant_size (case_count cs)) w.memory p ≡ i) × ShowsPayload w cs (p + payload_offset cs) i a)
as_case w p k cs (bare i) h = inl (i, refl, h.0, h.1)
as_case w p k cs (bearing i a) h = inr (i, a, refl, h.0, h.1)
as_case w p k cs v h = absurd h

-- the same of slots
pub flat_as_case : (w : View) (s : List CoreValue) (p : ℕ) (k : CasesKind) (cs : Cases) (v : Val) → FlatShows w s (cases k cs) p v
    → ((i : ℕ) × (v ≡ bare i) × (wrapped_at 4 s p ≡ i) × IsPlainCase cs i)
    ⊎ ((i : ℕ) × (a : Val) × (v ≡ bearing i a) × (wrapped_at 4 s p ≡ i) × FlatShowsPayload w s cs (p + 1) i a)
flat_as_case w s p k cs (bare i) h = inl (i, refl, h.0, h.1)
flat_as_case w s p k cs (bearing i a) h = inr (i, a, refl, h.0, h.1)
flat_as_case w s p k cs v h = absurd h

both : {A : Type 0} (make : A → Val) (L : Val → List HandleLeaf) {F G : A → Type 0} (u v : Val) (as' bs : List HandleLeaf)
    → ((a b : A) → F a → G b → L (make a) ++ as' ≡ L (make b) ++ bs → One a b as' bs) → Is make F u → Is make G v → L u ++ as' ≡ L v ++ bs → One u v as' bs
both make L u v as' bs one x y l =
    let r = one x.content y.content x.fact y.fact (ap (λ z. L z ++ as') (sym x.value) ∙ l ∙ ap (λ z. L z ++ bs) y.value) in
    (x.value ∙ ap make r.0 ∙ sym y.value, r.1)

-- a value of a type with cases
abbrev ACase : Cases → (ℕ → Val → Type 0) → ℕ → Val → Type 0
ACase cs P n v =
    ((i : ℕ) × (v ≡ bare i) × (n ≡ i) × IsPlainCase cs i) ⊎ ((i : ℕ) × (a : Val) × (v ≡ bearing i a) × (n ≡ i) × P i a)

one_case : (k : CasesKind) (cs : Cases) (P R : ℕ → Val → Type 0) (n : ℕ) (u v : Val) (as' bs : List HandleLeaf)
    → ((i : ℕ) (a b : Val) (as' bs : List HandleLeaf) → P i a → R i b → leaves_in_payload cs i a ++ as' ≡ leaves_in_payload cs i b ++ bs → One a b as' bs)
    → ((i : ℕ) (a : Val) → IsPlainCase cs i → P i a → ⊥) → ((i : ℕ) (a : Val) → IsPlainCase cs i → R i a → ⊥) → ACase cs P n u → ACase cs R n v
    → leaves_in (cases k cs) u ++ as' ≡ leaves_in (cases k cs) v ++ bs → One u v as' bs
one_case k cs P R n u v as' bs one not_p not_r (inl x) (inl y) l =
    (x.1 ∙ ap bare (sym x.2 ∙ y.2) ∙ sym y.1, ap (λ z. leaves_in (cases k cs) z ++ as') (sym x.1) ∙ l ∙ ap (λ z. leaves_in (cases k cs) z ++ bs) y.1)
one_case k cs P R n u v as' bs one not_p not_r (inl x) (inr y) l =
    absurd (not_r x.0 y.1 x.3 (subst (λ m. R m y.1) (sym y.3 ∙ x.2) y.4))
one_case k cs P R n u v as' bs one not_p not_r (inr x) (inl y) l =
    absurd (not_p y.0 x.1 y.3 (subst (λ m. P m x.1) (sym x.3 ∙ y.2) x.4))
one_case k cs P R n u v as' bs one not_p not_r (inr x) (inr y) l =
    let same : x.0 ≡ y.0 = sym x.3 ∙ y.3 in
    let moved : P y.0 x.1 = subst (λ m. P m x.1) same x.4 in
    let first : u ≡ bearing y.0 x.1 = x.2 ∙ ap (λ m. bearing m x.1) same in
    let r = one y.0 x.1 y.1 as' bs moved y.4 (ap (λ z. leaves_in (cases k cs) z ++ as') (sym first) ∙ l ∙ ap (λ z. leaves_in (cases k cs) z ++ bs) y.2) in
    (first ∙ ap (bearing y.0) r.0 ∙ sym y.2, r.1)

not_both : (w : View) (cs : Cases) (p i : ℕ) (v : Val) → IsPlainCase cs i → ShowsPayload w cs p i v → ⊥
not_both w no_cases p i v x y = y
not_both w (plain l cs) p zero v x y = y
not_both w (plain l cs) p (suc i) v x y = not_both w cs p i v x y
not_both w (carrying l t cs) p zero v x y = x
not_both w (carrying l t cs) p (suc i) v x y = not_both w cs p i v x y

not_both_flat : (w : View) (s : List CoreValue) (cs : Cases) (p i : ℕ) (v : Val) → IsPlainCase cs i → FlatShowsPayload w s cs p i v → ⊥
not_both_flat w s no_cases p i v x y = y
not_both_flat w s (plain l cs) p zero v x y = y
not_both_flat w s (plain l cs) p (suc i) v x y = not_both_flat w s cs p i v x y
not_both_flat w s (carrying l t cs) p zero v x y = x
not_both_flat w s (carrying l t cs) p (suc i) v x y = not_both_flat w s cs p i v x y

module _ (one : (s : Charset) (cs ds bytes : List ℕ) → IsText (Has s) (spell s) cs bytes → IsText (Has s) (spell s) ds bytes → cs ≡ ds) (w : View) (T : Handles) (i c : ℕ) where
  mutual
    pub one_shown : (t : Ty) (p : ℕ) (u v : Val) (as' bs : List HandleLeaf) → Shows w t p u → Shows (On w T i c) t p v → leaves_in t u ++ as' ≡ leaves_in t v ++ bs → One u v as' bs
    one_shown bool p u v as' bs x y l = both truth (leaves_in bool) u v as' bs (λ a b e f l. (e ∙ sym f, l)) (as_bool w p u x) (as_bool (On w T i c) p v y) l
    one_shown (signed k) p u v as' bs x y l = both signed_number (leaves_in (signed k)) u v as' bs (λ a b e f l. (e ∙ sym f, l)) (as_signed w p k u x) (as_signed (On w T i c) p k v y) l
    one_shown (unsigned k) p u v as' bs x y l = both number (leaves_in (unsigned k)) u v as' bs (λ a b e f l. (e ∙ sym f, l)) (as_unsigned w p k u x) (as_unsigned (On w T i c) p k v y) l
    one_shown char p u v as' bs x y l = both scalar (leaves_in char) u v as' bs (λ a b e f l. (e.0 ∙ sym f.0, l)) (as_char w p u x) (as_char (On w T i c) p v y) l
    one_shown string p u v as' bs x y l = both text (leaves_in string) u v as' bs (λ a b e f l. (one _ a b _ e.text f.text, l)) (as_string w p u x) (as_string (On w T i c) p v y) l
    one_shown (list t) p u v as' bs x y l = both elements (leaves_in (list t)) u v as' bs (λ a b e f l. one_each (Shows w t) (Shows (On w T i c) t) (leaves_in t) _ (one_shown t) _ a b as' bs (e.count ∙ sym f.count) e.each f.each l) (as_list w p t u x) (as_list (On w T i c) p t v y) l
    one_shown (fixed_list t n) p u v as' bs x y l = both parts (leaves_in (fixed_list t n)) u v as' bs (λ a b e f l. one_each (Shows w t) (Shows (On w T i c) t) (leaves_in t) _ (one_shown t) _ a b as' bs (e.0 ∙ sym f.0) e.1 f.1 l) (as_fixed w p t n u x) (as_fixed (On w T i c) p t n v y) l
    one_shown (fields k fs) p u v as' bs x y l = both parts (leaves_in (fields k fs)) u v as' bs (λ a b e f l. one_fields fs p 0 a b as' bs e f l) (as_fields w p k fs u x) (as_fields (On w T i c) p k fs v y) l
    one_shown (cases k cs) p u v as' bs x y l = one_case k cs (ShowsPayload w cs (p + payload_offset cs)) (ShowsPayload (On w T i c) cs (p + payload_offset cs)) (number_at (discriminant_size (case_count cs)) w.memory p) u v as' bs (one_payload cs (p + payload_offset cs)) (not_both w cs (p + payload_offset cs)) (not_both (On w T i c) cs (p + payload_offset cs)) (as_case w p k cs u x) (as_case (On w T i c) p k cs v y) l
    one_shown (flags ls) p u v as' bs x y l = both flag_set (leaves_in (flags ls)) u v as' bs (λ a b e f l. (e ∙ sym f, l)) (as_flags w p ls u x) (as_flags (On w T i c) p ls v y) l
    one_shown (own r) p u v as' bs x y l = both handle (leaves_in (own r)) u v as' bs (λ a b e f l. same_owned a b as' bs l) (as_own w p r u x) (as_own (On w T i c) p r v y) l
    one_shown (borrow r) p u v as' bs x y l = both handle (leaves_in (borrow r)) u v as' bs (λ a b e f l. same_borrowed a b as' bs l) (as_borrow w p r u x) (as_borrow (On w T i c) p r v y) l

    one_fields : (fs : Fields) (p end : ℕ) (us vs : Vals) (as' bs : List HandleLeaf) → ShowFields w fs p end us → ShowFields (On w T i c) fs p end vs → leaves_in_fields fs us ++ as' ≡ leaves_in_fields fs vs ++ bs → One us vs as' bs
    one_fields no_fields p end no_vals no_vals as' bs x y l = (refl, l)
    one_fields no_fields p end no_vals (val v vs) as' bs x y l = absurd y
    one_fields no_fields p end (val u us) vs as' bs x y l = absurd x
    one_fields (field n t fs) p end no_vals vs as' bs x y l = absurd x
    one_fields (field n t fs) p end (val u us) no_vals as' bs x y l = absurd y
    one_fields (field n t fs) p end (val u us) (val v vs) as' bs x y l =
        let head = one_shown t _ u v (leaves_in_fields fs us ++ as') (leaves_in_fields fs vs ++ bs) x.0 y.0 (again (leaves_in t u) (leaves_in_fields fs us) as' (leaves_in t v) (leaves_in_fields fs vs) bs l) in
        let tail = one_fields fs p _ us vs as' bs x.1 y.1 head.1 in
        (ap (λ a. val a us) head.0 ∙ ap (λ rest. val v rest) tail.0, tail.1)

    one_payload : (cs : Cases) (p k : ℕ) (u v : Val) (as' bs : List HandleLeaf) → ShowsPayload w cs p k u → ShowsPayload (On w T i c) cs p k v → leaves_in_payload cs k u ++ as' ≡ leaves_in_payload cs k v ++ bs → One u v as' bs
    one_payload no_cases p k u v as' bs x y l = absurd x
    one_payload (plain n cs) p zero u v as' bs x y l = absurd x
    one_payload (plain n cs) p (suc k) u v as' bs x y l = one_payload cs p k u v as' bs x y l
    one_payload (carrying n t cs) p zero u v as' bs x y l = one_shown t p u v as' bs x y l
    one_payload (carrying n t cs) p (suc k) u v as' bs x y l = one_payload cs p k u v as' bs x y l

module _ (one : (s : Charset) (cs ds bytes : List ℕ) → IsText (Has s) (spell s) cs bytes → IsText (Has s) (spell s) ds bytes → cs ≡ ds) (w : View) (T : Handles) (i c : ℕ) (s : List CoreValue) where
  mutual
    pub one_flat : (t : Ty) (p : ℕ) (u v : Val) (as' bs : List HandleLeaf) → FlatShows w s t p u → FlatShows (On w T i c) s t p v → leaves_in t u ++ as' ≡ leaves_in t v ++ bs → One u v as' bs
    one_flat bool p u v as' bs x y l = both truth (leaves_in bool) u v as' bs (λ a b e f l. (e ∙ sym f, l)) (flat_as_bool w s p u x) (flat_as_bool (On w T i c) s p v y) l
    one_flat (signed k) p u v as' bs x y l = both signed_number (leaves_in (signed k)) u v as' bs (λ a b e f l. (e ∙ sym f, l)) (flat_as_signed w s p k u x) (flat_as_signed (On w T i c) s p k v y) l
    one_flat (unsigned k) p u v as' bs x y l = both number (leaves_in (unsigned k)) u v as' bs (λ a b e f l. (e ∙ sym f, l)) (flat_as_unsigned w s p k u x) (flat_as_unsigned (On w T i c) s p k v y) l
    one_flat char p u v as' bs x y l = both scalar (leaves_in char) u v as' bs (λ a b e f l. (e.0 ∙ sym f.0, l)) (flat_as_char w s p u x) (flat_as_char (On w T i c) s p v y) l
    one_flat string p u v as' bs x y l = both text (leaves_in string) u v as' bs (λ a b e f l. (one _ a b _ e.text f.text, l)) (flat_as_string w s p u x) (flat_as_string (On w T i c) s p v y) l
    one_flat (list t) p u v as' bs x y l = both elements (leaves_in (list t)) u v as' bs (λ a b e f l. one_each (Shows w t) (Shows (On w T i c) t) (leaves_in t) _ (one_shown one w T i c t) _ a b as' bs (e.count ∙ sym f.count) e.each f.each l) (flat_as_list w s p t u x) (flat_as_list (On w T i c) s p t v y) l
    one_flat (fixed_list t n) p u v as' bs x y l = both parts (leaves_in (fixed_list t n)) u v as' bs (λ a b e f l. one_each (FlatShows w s t) (FlatShows (On w T i c) s t) (leaves_in t) _ (one_flat t) _ a b as' bs (e.0 ∙ sym f.0) e.1 f.1 l) (flat_as_fixed w s p t n u x) (flat_as_fixed (On w T i c) s p t n v y) l
    one_flat (fields k fs) p u v as' bs x y l = both parts (leaves_in (fields k fs)) u v as' bs (λ a b e f l. one_flat_fields fs p a b as' bs e f l) (flat_as_fields w s p k fs u x) (flat_as_fields (On w T i c) s p k fs v y) l
    one_flat (cases k cs) p u v as' bs x y l = one_case k cs (FlatShowsPayload w s cs (p + 1)) (FlatShowsPayload (On w T i c) s cs (p + 1)) (wrapped_at 4 s p) u v as' bs (one_flat_payload cs (p + 1)) (not_both_flat w s cs (p + 1)) (not_both_flat (On w T i c) s cs (p + 1)) (flat_as_case w s p k cs u x) (flat_as_case (On w T i c) s p k cs v y) l
    one_flat (flags ls) p u v as' bs x y l = both flag_set (leaves_in (flags ls)) u v as' bs (λ a b e f l. (e ∙ sym f, l)) (flat_as_flags w s p ls u x) (flat_as_flags (On w T i c) s p ls v y) l
    one_flat (own r) p u v as' bs x y l = both handle (leaves_in (own r)) u v as' bs (λ a b e f l. same_owned a b as' bs l) (flat_as_own w s p r u x) (flat_as_own (On w T i c) s p r v y) l
    one_flat (borrow r) p u v as' bs x y l = both handle (leaves_in (borrow r)) u v as' bs (λ a b e f l. same_borrowed a b as' bs l) (flat_as_borrow w s p r u x) (flat_as_borrow (On w T i c) s p r v y) l

    one_flat_fields : (fs : Fields) (p : ℕ) (us vs : Vals) (as' bs : List HandleLeaf) → FlatShowFields w s fs p us → FlatShowFields (On w T i c) s fs p vs → leaves_in_fields fs us ++ as' ≡ leaves_in_fields fs vs ++ bs → One us vs as' bs
    one_flat_fields no_fields p no_vals no_vals as' bs x y l = (refl, l)
    one_flat_fields no_fields p no_vals (val v vs) as' bs x y l = absurd y
    one_flat_fields no_fields p (val u us) vs as' bs x y l = absurd x
    one_flat_fields (field n t fs) p no_vals vs as' bs x y l = absurd x
    one_flat_fields (field n t fs) p (val u us) no_vals as' bs x y l = absurd y
    one_flat_fields (field n t fs) p (val u us) (val v vs) as' bs x y l =
        let head = one_flat t _ u v (leaves_in_fields fs us ++ as') (leaves_in_fields fs vs ++ bs) x.0 y.0 (again (leaves_in t u) (leaves_in_fields fs us) as' (leaves_in t v) (leaves_in_fields fs vs) bs l) in
        let tail = one_flat_fields fs _ us vs as' bs x.1 y.1 head.1 in
        (ap (λ a. val a us) head.0 ∙ ap (λ rest. val v rest) tail.0, tail.1)

    one_flat_payload : (cs : Cases) (p k : ℕ) (u v : Val) (as' bs : List HandleLeaf) → FlatShowsPayload w s cs p k u → FlatShowsPayload (On w T i c) s cs p k v → leaves_in_payload cs k u ++ as' ≡ leaves_in_payload cs k v ++ bs → One u v as' bs
    one_flat_payload no_cases p k u v as' bs x y l = absurd x
    one_flat_payload (plain n cs) p zero u v as' bs x y l = absurd x
    one_flat_payload (plain n cs) p (suc k) u v as' bs x y l = one_flat_payload cs p k u v as' bs x y l
    one_flat_payload (carrying n t cs) p zero u v as' bs x y l = one_flat t p u v as' bs x y l
    one_flat_payload (carrying n t cs) p (suc k) u v as' bs x y l = one_flat_payload cs p k u v as' bs x y l

  pub one_denoted : (way : Way) (types : Fields) (u v : Val) → Denotes w way types s u → Denotes (On w T i c) way types s v → leaves_in (fields tuple_type types) u ≡ leaves_in (fields tuple_type types) v → u ≡ v
  one_denoted way types u v (inl x) (inl y) l = (one_flat (fields tuple_type types) 0 u v [] [] x.shown y.shown (ap (λ z. z ++ []) l)).0
  one_denoted way types u v (inl x) (inr y) l = absurd (omega (arith, x.fits, y.spilled))
  one_denoted way types u v (inr x) (inl y) l = absurd (omega (arith, y.fits, x.spilled))
  one_denoted way types u v (inr x) (inr y) l = (one_shown one w T i c (fields tuple_type types) _ u v [] [] x.shown y.shown (ap (λ z. z ++ []) l)).0

-- one text of some bytes, of each charset
abbrev OneText : Type 0
OneText = (s : Charset) (cs ds bytes : List ℕ) → IsText (Has s) (spell s) cs bytes → IsText (Has s) (spell s) ds bytes → cs ≡ ds

-- a view of this memory, in this encoding
abbrev In : View → List ℕ → StringEncoding → View
In y m e = record { memory = m; table = y.table; instance = y.instance; encoding = e; call = y.call }

pub one_on_its_way : OneText → (g k : View) (way : Way) (types : Fields) (slots : List CoreValue) (u v : Val) → g.memory ≡ k.memory → g.encoding ≡ k.encoding
    → Denotes g way types slots u → Denotes k way types slots v → leaves_in (fields tuple_type types) u ≡ leaves_in (fields tuple_type types) v → u ≡ v
one_on_its_way one g k way types slots u v memory_is encoding_is there here handles =
    one_denoted one g k.table k.instance k.call slots way types u v there
    (subst (λ (e : StringEncoding). Denotes (In k g.memory e) way types slots v) (sym encoding_is)
    (subst (λ (m : List ℕ). Denotes (In k m k.encoding) way types slots v) (sym memory_is) here))
    handles

-- What a denoted, transferable value owns are the handles that are taken, in turn.
use Rattle.std.proofs.Common.{◌≡◌, ℕ, zero, suc, ◌+◌, ◌⊎◌, Bool, true, false, List, [], ◌∷◌, ◌++◌, Some, None, refl, sym, ap, subst, ◌∙◌, inl, inr}
use Rattle.std.specs.Prelude.{Contains, if◌then◌else◌}
use Rattle.std.specs.Option.{option_map}
use Rattle.std.proofs.lemmas.List.{append_assoc, append-nil, get_or-set_other}
use Rattle.std.proofs.lemmas.Bool.{cases_eq, lt-ltb, le-ltb}
use Rattle.cm_types.specs.declared.core_value.CoreValue.{CoreValue}
use Rattle.cm_types.specs.declared.resource.ResourceId.{ResourceId}
use Rattle.cm_types.specs.Types.{Width, FieldsKind, Ty, Fields, Cases, bool, signed, unsigned, char, string, list, fixed_list, fields, cases, flags, own, borrow, no_fields, field, no_cases}
use Rattle.cm_types.specs.Types.{plain, carrying}
use Rattle.cm_types.specs.Values.{Val, Vals, HandleValue, no_vals, val, truth, signed_number, number, scalar, text, elements, parts, bare, bearing, flag_set, handle, IsPlainCase}
use Rattle.cm_handles.specs.Handles.{Handles, IsDistinct, after_lend, after_release, handle_at, with_lends}
use Rattle.cm_handles.specs.declared.handle.Handle.{Handle}
use Rattle.cm_layout.specs.Alignment.{align_to}
use Rattle.cm_layout.specs.Sizes.{align_of, case_count, discriminant_size, payload_offset, size_of}
use Rattle.cm_abi_model.specs.Numbers.{number_at, wrapped_at}
use Rattle.cm_abi_model.specs.Views.{View, Way}
use Rattle.cm_abi_model.specs.Requests.{is_spilled, tuple_of}
use Rattle.cm_abi_model.specs.Shows.{Shows, ShowFields, ShowsPayload, ShowEach}
use Rattle.cm_abi_model.specs.FlatShows.{FlatShows, FlatShowFields, FlatShowsPayload, width_of}
use Rattle.cm_abi_model.specs.Receives.{HandleLeaf, borrowed_leaf, leaves_each, leaves_in}
use Rattle.cm_abi_model.specs.Receives.{leaves_in_fields, leaves_in_payload, owned_leaf}
use Rattle.cm_abi_model.specs.Taken.{Met, content, lent, lent_of, met, met_at, met_each, met_flat}
use Rattle.cm_abi_model.specs.Taken.{met_flat_fields, met_flat_payload, met_in_fields}
use Rattle.cm_abi_model.specs.Taken.{met_in_payload, taken, taken_of, text_content}
use Rattle.cm_abi_model.specs.Denotes.{Denotes}
use Rattle.cm_machine_laws.proofs.OwningLaws.{LiftTakes}
use Rattle.cm_machine_laws.specs.Taking.{AreTaken}
use Rattle.cm_abi_model.specs.HandleLeaves.{owned_in}
use Rattle.cm_machine_laws.specs.Taking.{AreThere}
use Rattle.cm_lemmas.proofs.Lists.{Contains-first, Contains-rest}
use Rattle.cm_abi_model.proofs.OneAcross.{as_case, flat_as_case}
use Rattle.cm_handles.proofs.HandlesLaws.{lent_there}
use Rattle.cm_abi_model.proofs.ShownForms.{Is, as_bool, as_signed, as_unsigned, as_char, as_string, as_list, as_fixed, as_fields, as_flags, as_own, as_borrow, flat_as_bool, flat_as_signed, flat_as_unsigned, flat_as_char, flat_as_string, flat_as_list, flat_as_fixed, flat_as_fields, flat_as_flags, flat_as_own, flat_as_borrow}

regroup : (t : Handles) (xs ys ms : List Met) (us vs ls : List HandleLeaf) → AreThere t (xs ++ (ys ++ ms)) (us ++ (vs ++ ls)) → AreThere t ((xs ++ ys) ++ ms) ((us ++ vs) ++ ls)
regroup t xs ys ms us vs ls x = subst (λ (k : List Met). AreThere t k ((us ++ vs) ++ ls)) (sym (append_assoc xs ys ms)) (subst (λ (k : List HandleLeaf). AreThere t (xs ++ (ys ++ ms)) k) (sym (append_assoc us vs ls)) x)

there_each : (t : Handles) (S : ℕ → Val → Type 0) (M : ℕ → Val → List Met) (L : Val → List HandleLeaf) (size : ℕ)
    → ((p : ℕ) (v : Val) (ms : List Met) (ls : List HandleLeaf) → S p v → AreThere t ms ls → AreThere t (M p v ++ ms) (L v ++ ls))
    → (at : ℕ) (vs : Vals) (ms : List Met) (ls : List HandleLeaf) → ShowEach S size at vs → AreThere t ms ls → AreThere t (met_each M size at vs ++ ms) (leaves_each L vs ++ ls)
there_each t S M L size one at no_vals ms ls x y = y
there_each t S M L size one at (val v vs) ms ls x y =
    regroup t (M at v) (met_each M size (at + size) vs) ms (L v) (leaves_each L vs) ls
    (one at v (met_each M size (at + size) vs ++ ms) (leaves_each L vs ++ ls) x.0 (there_each t S M L size one (at + size) vs ms ls x.1 y))

-- ---- what a value that is shown as a type looks like

by_is : {A : Type 0} (make : A → Val) (t : Handles) (M : Val → List Met) (L : Val → List HandleLeaf) {F : A → Type 0} (v : Val) (ms : List Met) (ls : List HandleLeaf)
    → ((a : A) → F a → AreThere t (M (make a) ++ ms) (L (make a) ++ ls)) → Is make F v → AreThere t (M v ++ ms) (L v ++ ls)
by_is make t M L v ms ls go x = subst (λ (z : Val). AreThere t (M z ++ ms) (L z ++ ls)) (sym x.value) (go x.content x.fact)

-- a value of a type with cases
abbrev ACase : Cases → (ℕ → Val → Type 0) → ℕ → Val → Type 0
ACase cs P n v =
    ((i : ℕ) × (v ≡ bare i) × (n ≡ i) × IsPlainCase cs i) ⊎ ((i : ℕ) × (a : Val) × (v ≡ bearing i a) × (n ≡ i) × P i a)

by_case : (t : Handles) (M : Val → List Met) (L : Val → List HandleLeaf) (cs : Cases) (P : ℕ → Val → Type 0) (n : ℕ) (v : Val) (ms : List Met) (ls : List HandleLeaf)
    → ((i : ℕ) → AreThere t (M (bare i) ++ ms) (L (bare i) ++ ls)) → ((i : ℕ) (a : Val) → P i a → AreThere t (M (bearing i a) ++ ms) (L (bearing i a) ++ ls))
    → ACase cs P n v → AreThere t (M v ++ ms) (L v ++ ls)
by_case t M L cs P n v ms ls none some (inl x) = subst (λ (z : Val). AreThere t (M z ++ ms) (L z ++ ls)) (sym x.1) (none x.0)
by_case t M L cs P n v ms ls none some (inr x) = subst (λ (z : Val). AreThere t (M z ++ ms) (L z ++ ls)) (sym x.2) (some x.0 x.1 x.4)

module _ (w : View) where
  mutual
    pub there_shown : (t : Ty) (p : ℕ) (v : Val) (ms : List Met) (ls : List HandleLeaf) → Shows w t p v → AreThere w.table ms ls → AreThere w.table (met_at w t p v ++ ms) (leaves_in t v ++ ls)
    there_shown bool p v ms ls x y = by_is truth w.table (met_at w bool p) (leaves_in bool) v ms ls (λ a e. y) (as_bool w p v x)
    there_shown (signed k) p v ms ls x y = by_is signed_number w.table (met_at w (signed k) p) (leaves_in (signed k)) v ms ls (λ a e. y) (as_signed w p k v x)
    there_shown (unsigned k) p v ms ls x y = by_is number w.table (met_at w (unsigned k) p) (leaves_in (unsigned k)) v ms ls (λ a e. y) (as_unsigned w p k v x)
    there_shown char p v ms ls x y = by_is scalar w.table (met_at w char p) (leaves_in char) v ms ls (λ a e. y) (as_char w p v x)
    there_shown string p v ms ls x y = by_is text w.table (met_at w string p) (leaves_in string) v ms ls (λ a e. y) (as_string w p v x)
    there_shown (list t) p v ms ls x y = by_is elements w.table (met_at w (list t) p) (leaves_in (list t)) v ms ls (λ a e. there_each w.table (Shows w t) (met_at w t) (leaves_in t) _ (there_shown t) _ a ms ls e.each y) (as_list w p t v x)
    there_shown (fixed_list t n) p v ms ls x y = by_is parts w.table (met_at w (fixed_list t n) p) (leaves_in (fixed_list t n)) v ms ls (λ a e. there_each w.table (Shows w t) (met_at w t) (leaves_in t) _ (there_shown t) _ a ms ls e.1 y) (as_fixed w p t n v x)
    there_shown (fields k fs) p v ms ls x y = by_is parts w.table (met_at w (fields k fs) p) (leaves_in (fields k fs)) v ms ls (λ a e. there_fields fs p 0 a ms ls e y) (as_fields w p k fs v x)
    there_shown (cases k cs) p v ms ls x y = by_case w.table (met_at w (cases k cs) p) (leaves_in (cases k cs)) cs (ShowsPayload w cs (p + payload_offset cs)) (number_at (discriminant_size (case_count cs)) w.memory p) v ms ls (λ i. y) (λ i a e. there_payload cs (p + payload_offset cs) i a ms ls e y) (as_case w p k cs v x)
    there_shown (flags ls2) p v ms ls x y = by_is flag_set w.table (met_at w (flags ls2) p) (leaves_in (flags ls2)) v ms ls (λ a e. y) (as_flags w p ls2 v x)
    there_shown (own r) p v ms ls x y = by_is handle w.table (met_at w (own r) p) (leaves_in (own r)) v ms ls (λ a e. ((e.handle.entry, e.handle.stands, e.owned, sym (ap (λ (z : HandleValue). z.serial) e.handle.value)), y)) (as_own w p r v x)
    there_shown (borrow r) p v ms ls x y = by_is handle w.table (met_at w (borrow r) p) (leaves_in (borrow r)) v ms ls (λ a e. ((e.entry, e.stands, sym (ap (λ (z : HandleValue). z.serial) e.value), e.of_resource ∙ sym (ap (λ (z : HandleValue). z.resource) e.value), sym (ap (λ (z : HandleValue). z.rep) e.value)), y)) (as_borrow w p r v x)

    there_fields : (fs : Fields) (p end : ℕ) (vs : Vals) (ms : List Met) (ls : List HandleLeaf) → ShowFields w fs p end vs → AreThere w.table ms ls → AreThere w.table (met_in_fields w fs p end vs ++ ms) (leaves_in_fields fs vs ++ ls)
    there_fields no_fields p end no_vals ms ls x y = y
    there_fields no_fields p end (val v vs) ms ls x y = absurd x
    there_fields (field n t fs) p end no_vals ms ls x y = absurd x
    there_fields (field n t fs) p end (val v vs) ms ls x y =
        regroup w.table (met_at w t (p + align_to (align_of t) end) v) (met_in_fields w fs p (align_to (align_of t) end + size_of t) vs) ms (leaves_in t v) (leaves_in_fields fs vs) ls
        (there_shown t (p + align_to (align_of t) end) v (met_in_fields w fs p (align_to (align_of t) end + size_of t) vs ++ ms) (leaves_in_fields fs vs ++ ls) x.0 (there_fields fs p (align_to (align_of t) end + size_of t) vs ms ls x.1 y))

    there_payload : (cs : Cases) (p k : ℕ) (v : Val) (ms : List Met) (ls : List HandleLeaf) → ShowsPayload w cs p k v → AreThere w.table ms ls → AreThere w.table (met_in_payload w cs p k v ++ ms) (leaves_in_payload cs k v ++ ls)
    there_payload no_cases p k v ms ls x y = absurd x
    there_payload (plain n cs) p zero v ms ls x y = absurd x
    there_payload (plain n cs) p (suc k) v ms ls x y = there_payload cs p k v ms ls x y
    there_payload (carrying n t cs) p zero v ms ls x y = there_shown t p v ms ls x y
    there_payload (carrying n t cs) p (suc k) v ms ls x y = there_payload cs p k v ms ls x y

module _ (w : View) (s : List CoreValue) where
  mutual
    pub there_flat : (t : Ty) (p : ℕ) (v : Val) (ms : List Met) (ls : List HandleLeaf) → FlatShows w s t p v → AreThere w.table ms ls → AreThere w.table (met_flat w s t p v ++ ms) (leaves_in t v ++ ls)
    there_flat bool p v ms ls x y = by_is truth w.table (met_flat w s bool p) (leaves_in bool) v ms ls (λ a e. y) (flat_as_bool w s p v x)
    there_flat (signed k) p v ms ls x y = by_is signed_number w.table (met_flat w s (signed k) p) (leaves_in (signed k)) v ms ls (λ a e. y) (flat_as_signed w s p k v x)
    there_flat (unsigned k) p v ms ls x y = by_is number w.table (met_flat w s (unsigned k) p) (leaves_in (unsigned k)) v ms ls (λ a e. y) (flat_as_unsigned w s p k v x)
    there_flat char p v ms ls x y = by_is scalar w.table (met_flat w s char p) (leaves_in char) v ms ls (λ a e. y) (flat_as_char w s p v x)
    there_flat string p v ms ls x y = by_is text w.table (met_flat w s string p) (leaves_in string) v ms ls (λ a e. y) (flat_as_string w s p v x)
    there_flat (list t) p v ms ls x y = by_is elements w.table (met_flat w s (list t) p) (leaves_in (list t)) v ms ls (λ a e. there_each w.table (Shows w t) (met_at w t) (leaves_in t) _ (there_shown w t) _ a ms ls e.each y) (flat_as_list w s p t v x)
    there_flat (fixed_list t n) p v ms ls x y = by_is parts w.table (met_flat w s (fixed_list t n) p) (leaves_in (fixed_list t n)) v ms ls (λ a e. there_each w.table (FlatShows w s t) (met_flat w s t) (leaves_in t) _ (there_flat t) _ a ms ls e.1 y) (flat_as_fixed w s p t n v x)
    there_flat (fields k fs) p v ms ls x y = by_is parts w.table (met_flat w s (fields k fs) p) (leaves_in (fields k fs)) v ms ls (λ a e. there_flat_fields fs p a ms ls e y) (flat_as_fields w s p k fs v x)
    there_flat (cases k cs) p v ms ls x y = by_case w.table (met_flat w s (cases k cs) p) (leaves_in (cases k cs)) cs (FlatShowsPayload w s cs (p + 1)) (wrapped_at 4 s p) v ms ls (λ i. y) (λ i a e. there_flat_payload cs (p + 1) i a ms ls e y) (flat_as_case w s p k cs v x)
    there_flat (flags ls2) p v ms ls x y = by_is flag_set w.table (met_flat w s (flags ls2) p) (leaves_in (flags ls2)) v ms ls (λ a e. y) (flat_as_flags w s p ls2 v x)
    there_flat (own r) p v ms ls x y = by_is handle w.table (met_flat w s (own r) p) (leaves_in (own r)) v ms ls (λ a e. ((e.handle.entry, e.handle.stands, e.owned, sym (ap (λ (z : HandleValue). z.serial) e.handle.value)), y)) (flat_as_own w s p r v x)
    there_flat (borrow r) p v ms ls x y = by_is handle w.table (met_flat w s (borrow r) p) (leaves_in (borrow r)) v ms ls (λ a e. ((e.entry, e.stands, sym (ap (λ (z : HandleValue). z.serial) e.value), e.of_resource ∙ sym (ap (λ (z : HandleValue). z.resource) e.value), sym (ap (λ (z : HandleValue). z.rep) e.value)), y)) (flat_as_borrow w s p r v x)

    there_flat_fields : (fs : Fields) (p : ℕ) (vs : Vals) (ms : List Met) (ls : List HandleLeaf) → FlatShowFields w s fs p vs → AreThere w.table ms ls → AreThere w.table (met_flat_fields w s fs p vs ++ ms) (leaves_in_fields fs vs ++ ls)
    there_flat_fields no_fields p no_vals ms ls x y = y
    there_flat_fields no_fields p (val v vs) ms ls x y = absurd x
    there_flat_fields (field n t fs) p no_vals ms ls x y = absurd x
    there_flat_fields (field n t fs) p (val v vs) ms ls x y =
        regroup w.table (met_flat w s t p v) (met_flat_fields w s fs (p + width_of t) vs) ms (leaves_in t v) (leaves_in_fields fs vs) ls
        (there_flat t p v (met_flat_fields w s fs (p + width_of t) vs ++ ms) (leaves_in_fields fs vs ++ ls) x.0 (there_flat_fields fs (p + width_of t) vs ms ls x.1 y))

    there_flat_payload : (cs : Cases) (p k : ℕ) (v : Val) (ms : List Met) (ls : List HandleLeaf) → FlatShowsPayload w s cs p k v → AreThere w.table ms ls → AreThere w.table (met_flat_payload w s cs p k v ++ ms) (leaves_in_payload cs k v ++ ls)
    there_flat_payload no_cases p k v ms ls x y = absurd x
    there_flat_payload (plain n cs) p zero v ms ls x y = absurd x
    there_flat_payload (plain n cs) p (suc k) v ms ls x y = there_flat_payload cs p k v ms ls x y
    there_flat_payload (carrying n t cs) p zero v ms ls x y = there_flat t p v ms ls x y
    there_flat_payload (carrying n t cs) p (suc k) v ms ls x y = there_flat_payload cs p k v ms ls x y

trimmed : (t : Handles) (ms : List Met) (ls : List HandleLeaf) → AreThere t (ms ++ []) (ls ++ []) → AreThere t ms ls
trimmed t ms ls x = subst (λ (k : List Met). AreThere t k ls) (append-nil ms) (subst (λ (k : List HandleLeaf). AreThere t (ms ++ []) k) (append-nil ls) x)

-- what is met in a denoted value has the handles of its leaves
pub there_denoted : (w : View) (way : Way) (types : Fields) (slots : List CoreValue) (v : Val) → Denotes w way types slots v → AreThere w.table (met w way types slots v) (leaves_in (tuple_of types) v)
there_denoted w way types slots v (inl x) =
    let flat : is_spilled way types ≡ false = le-ltb _ _ x.fits in
    subst (λ (b : Bool). AreThere w.table (if b then met_at w (tuple_of types) (wrapped_at 4 slots 0) v else met_flat w slots (tuple_of types) 0 v) (leaves_in (tuple_of types) v)) (sym flat)
    (trimmed w.table (met_flat w slots (tuple_of types) 0 v) (leaves_in (tuple_of types) v) (there_flat w slots (tuple_of types) 0 v [] [] x.shown refl))
there_denoted w way types slots v (inr x) =
    let spilled : is_spilled way types ≡ true = lt-ltb _ _ x.spilled in
    subst (λ (b : Bool). AreThere w.table (if b then met_at w (tuple_of types) (wrapped_at 4 slots 0) v else met_flat w slots (tuple_of types) 0 v) (leaves_in (tuple_of types) v)) (sym spilled)
    (trimmed w.table (met_at w (tuple_of types) (wrapped_at 4 slots 0) v) (leaves_in (tuple_of types) v) (there_shown w (tuple_of types) (wrapped_at 4 slots 0) v [] [] x.shown refl))

-- ---- one after another

abbrev IsMet : List Met → ℕ → Type 0
IsMet ms index = Contains (taken_of ms) index ⊎ Contains (lent_of ms) index

-- where something is met, the same handle stands still, but for its lends
abbrev Agree : Handles → Handles → List Met → Type 0
Agree old t ms = (index : ℕ) (h : Handle) → IsMet ms index → handle_at old index ≡ Some h → (k : Handle) × (handle_at t index ≡ Some k) × (k.kind ≡ h.kind) × (k.serial ≡ h.serial)

after_taken : (old t : Handles) (i : ℕ) (ms : List Met) → (Contains (taken_of ms) i → ⊥) → (Contains (lent_of ms) i → ⊥) → Agree old t (taken i ∷ ms) → Agree old (after_release t i) ms
after_taken old t i ms no_taken no_lent agree index h (inl c) e =
    let k = agree index h (inl (Contains-rest i (taken_of ms) index c)) e in
    (k.0, get_or-set_other t.slots i index None None (λ same. no_taken (subst (λ (n : ℕ). Contains (taken_of ms) n) same c)) ∙ k.1, k.2, k.3)
after_taken old t i ms no_taken no_lent agree index h (inr c) e =
    let k = agree index h (inr c) e in
    (k.0, get_or-set_other t.slots i index None None (λ same. no_lent (subst (λ (n : ℕ). Contains (lent_of ms) n) same c)) ∙ k.1, k.2, k.3)

wider : (i : ℕ) (ms : List Met) (index : ℕ) → IsMet ms index → IsMet (lent i ∷ ms) index
wider i ms index (inl c) = inl c
wider i ms index (inr c) = inr (Contains-rest i (lent_of ms) index c)

after_lent : (old t : Handles) (i : ℕ) (ms : List Met) → Agree old t (lent i ∷ ms) → Agree old (after_lend t i) ms
after_lent old t i ms agree index h is e =
    let k = agree index h (wider i ms index is) e in
    elim (cases_eq index i) [
      | inl same ↦ (with_lends (k.0.lends + 1) k.0, subst (λ (n : ℕ). handle_at (after_lend t i) n ≡ Some (with_lends (k.0.lends + 1) k.0)) (sym same) (lent_there t i k.0 (subst (λ (n : ℕ). handle_at t n ≡ Some k.0) same k.1)), k.2, k.3)
      | inr apart ↦ (k.0, get_or-set_other t.slots i index (option_map (λ (g : Handle). with_lends (g.lends + 1) g) (handle_at t i)) None apart ∙ k.1, k.2, k.3)
    ]

takes : (old t : Handles) (ms : List Met) (ls : List HandleLeaf) → IsDistinct (taken_of ms) → ((index : ℕ) → Contains (taken_of ms) index → Contains (lent_of ms) index → ⊥) → Agree old t ms → AreThere old ms ls → AreTaken t ms (owned_in ls)
takes old t [] ls once apart agree x = ap owned_in x
takes old t (text_content tags n ∷ ms) ls once apart agree x = takes old t ms ls once apart agree x
takes old t (content n ∷ ms) ls once apart agree x = takes old t ms ls once apart agree x
takes old t (taken i ∷ ms) [] once apart agree x = absurd x
takes old t (taken i ∷ ms) (owned_leaf v ∷ ls) once apart agree x =
    let k = agree i x.0.0 (inl (Contains-first i (taken_of ms))) x.0.1 in (
      (k.0, k.1, k.2 ∙ x.0.2, k.3 ∙ x.0.3),
      takes old (after_release t i) ms ls once.1 (λ index c d. apart index (Contains-rest i (taken_of ms) index c) d)
          (after_taken old t i ms once.0 (λ d. apart i (Contains-first i (taken_of ms)) d) agree) x.1,
    )
takes old t (taken i ∷ ms) (borrowed_leaf v ∷ ls) once apart agree x = absurd x
takes old t (lent i ∷ ms) [] once apart agree x = absurd x
takes old t (lent i ∷ ms) (owned_leaf v ∷ ls) once apart agree x = absurd x
takes old t (lent i ∷ ms) (borrowed_leaf v ∷ ls) once apart agree x =
    let k = agree i x.0.0 (inr (Contains-first i (lent_of ms))) x.0.1 in (
      (k.0, k.1),
      takes old (after_lend t i) ms ls once (λ index c d. apart index c (Contains-rest i (lent_of ms) index d)) (after_lent old t i ms agree) x.1,
    )

pub lift_takes : LiftTakes
lift_takes w way types slots v d go =
    takes w.table w.table (met w way types slots v) (leaves_in (tuple_of types) v) go.once go.apart (λ index h is e. (h, e, refl, refl)) (there_denoted w way types slots v d)

-- The sizes in records are those of the strings that they tell.
use Rattle.std.proofs.Common.{inl, inr, ◌≡◌, ℕ, zero, suc, ◌+◌, ◌<◌, List, [], ◌∷◌, ◌++◌, Bool, true, false, length, map, refl, sym, ap, subst, ◌∙◌, arith}
use Rattle.std.specs.Prelude.{⊤, slice_index, if◌then◌else◌}
use Rattle.cm_types.specs.Types.{Ty, Fields, Cases, bool, signed, unsigned, char, string, list, fixed_list, fields, cases, flags, own, borrow, no_fields, field, no_cases, plain, carrying}
use Rattle.cm_types.specs.Values.{Val, Vals, no_vals, val, truth, signed_number, number, scalar, text, elements, parts, bare, bearing, flag_set, handle, AllVals}
use Rattle.cm_types.specs.declared.core_value.CoreValue.{CoreValue}
use Rattle.cm_layout.specs.Alignment.{align_to}
use Rattle.cm_layout.specs.Sizes.{align_of, payload_offset, size_of}
use Rattle.cm_abi_model.specs.Denotes.{Denotes}
use Rattle.cm_abi_model.specs.FlatShows.{FlatShowFields, FlatShows, FlatShowsPayload, width_of}
use Rattle.cm_abi_model.specs.Numbers.{number_at, wrapped_at}
use Rattle.cm_abi_model.specs.Shows.{ShowEach, ShowFields, Shows, ShowsPayload}
use Rattle.cm_abi_model.specs.declared.encoding.StringEncoding.{StringEncoding}
use Rattle.cm_abi_model.specs.Parts.{Part, element_part, part_count, part_count_each, parts_each, parts_in, parts_in_fields, parts_in_payload}
use Rattle.cm_abi_model.specs.Regions.{part_size}
use Rattle.cm_abi_model.specs.Requests.{call_parts, is_spilled, stored_charset, tuple_of}
use Rattle.cm_abi_model.specs.Views.{View, Way}
use Rattle.cm_abi_model.specs.declared.record.PartRecord.{PartRecord}
use Rattle.cm_abi_model.specs.Telling.{TellAll}
use Rattle.cm_abi_running.specs.Copying.{size_kept}
use Rattle.cm_abi_running.specs.Known.{HasSizes, HaveSizes, first_part}

-- the sizes from the one of this number on are those of parts
abbrev AreSizes : List ℕ → StringEncoding → ℕ → List Part → Type 0
AreSizes sizes target k [] = ⊤
AreSizes sizes target k (p ∷ ps) = (k < length sizes) × (slice_index sizes k ≡ part_size target p) × AreSizes sizes target (k + 1) ps

one_more : (n : ℕ) (sizes : List ℕ) (target : StringEncoding) (k j : ℕ) (ps : List Part) → j ≡ suc k → AreSizes sizes target k ps → AreSizes (n ∷ sizes) target j ps
one_more n sizes target k j [] is are = tt
one_more n sizes target k j (p ∷ ps) is are =
    let here : j < length (n ∷ sizes) = omega (arith, is, are.0) in
    (here, rw is are.1, one_more n sizes target (k + 1) (j + 1) ps (omega (arith, is)) are.2)

told : (w : View) (target : StringEncoding) (rs after : List PartRecord) (ps : List Part) (places : List ℕ) → TellAll w target rs ps places → AreSizes (map size_kept (rs ++ after)) target 0 ps
told w target [] after [] [] tell = tt
told w target (r ∷ rs) after (p ∷ ps) (at ∷ places) tell =
    (omega arith, tell.0.size, one_more r.size (map size_kept (rs ++ after)) target 0 (0 + 1) ps (omega arith) (told w target rs after ps places tell.1))
told w target [] after [] (at ∷ places) tell = absurd tell
told w target [] after (p ∷ ps) places tell = absurd tell
told w target (r ∷ rs) after [] places tell = absurd tell
told w target (r ∷ rs) after (p ∷ ps) [] tell = absurd tell

told_behind : (w : View) (target : StringEncoding) (before rs after : List PartRecord) (ps : List Part) (places : List ℕ) → TellAll w target rs ps places
    → AreSizes (map size_kept (before ++ (rs ++ after))) target (length before) ps
told_behind w target [] rs after ps places tell = told w target rs after ps places tell
told_behind w target (b ∷ before) rs after ps places tell =
    one_more b.size (map size_kept (before ++ (rs ++ after))) target (length before) (length (b ∷ before)) ps (omega arith) (told_behind w target before rs after ps places tell)

both : (sizes : List ℕ) (target : StringEncoding) (k : ℕ) (xs ys : List Part) → AreSizes sizes target k (xs ++ ys) → AreSizes sizes target k xs × AreSizes sizes target (k + length xs) ys
both sizes target k [] ys are = let here : k ≡ k + 0 = omega arith in (tt, subst (λ j. AreSizes sizes target j ys) here are)
both sizes target k (x ∷ xs) ys are =
    let rest = both sizes target (k + 1) xs ys are.2 in
    let here : k + 1 + length xs ≡ k + length (x ∷ xs) = omega arith in
    ((are.0, are.1, rest.0), subst (λ j. AreSizes sizes target j ys) here rest.1)

-- ---- values that are shown are of the forms of their types

abbrev mutual
  IsFormed : Ty → Val → Type 0
  IsFormed bool (truth b) = ⊤
  IsFormed (signed w) (signed_number z) = ⊤
  IsFormed (unsigned w) (number n) = ⊤
  IsFormed char (scalar c) = ⊤
  IsFormed string (text cs) = ⊤
  IsFormed (list t) (elements vs) = AllVals (IsFormed t) vs
  IsFormed (fixed_list t n) (parts vs) = AllVals (IsFormed t) vs
  IsFormed (fields f fs) (parts vs) = AreFormed fs vs
  IsFormed (cases c cs) (bare i) = ⊤
  IsFormed (cases c cs) (bearing i v) = IsFormedCase cs i v
  IsFormed (flags ls) (flag_set n) = ⊤
  IsFormed (own r) (handle h) = ⊤
  IsFormed (borrow r) (handle h) = ⊤
  IsFormed _ _ = ⊥

  AreFormed : Fields → Vals → Type 0
  AreFormed no_fields no_vals = ⊤
  AreFormed no_fields (val v vs) = ⊥
  AreFormed (field l t fs) no_vals = ⊥
  AreFormed (field l t fs) (val v vs) = IsFormed t v × AreFormed fs vs

  IsFormedCase : Cases → ℕ → Val → Type 0
  IsFormedCase no_cases i v = ⊥
  IsFormedCase (plain l cs) zero v = ⊥
  IsFormedCase (plain l cs) (suc i) v = IsFormedCase cs i v
  IsFormedCase (carrying l t cs) zero v = IsFormed t v
  IsFormedCase (carrying l t cs) (suc i) v = IsFormedCase cs i v

each_formed : (S : ℕ → Val → Type 0) (T : Val → Type 0) (size at : ℕ) (vs : Vals) → ((p : ℕ) (v : Val) → S p v → T v) → ShowEach S size at vs → AllVals T vs
each_formed S T size at no_vals one shown = tt
each_formed S T size at (val v vs) one shown = (one at v shown.0, each_formed S T size (at + size) vs one shown.1)

mutual
  shown_formed : (w : View) (t : Ty) (p : ℕ) (v : Val) → Shows w t p v → IsFormed t v
  shown_formed w bool p (truth b) shown = tt
  shown_formed w (signed k) p (signed_number z) shown = tt
  shown_formed w (unsigned k) p (number n) shown = tt
  shown_formed w char p (scalar c) shown = tt
  shown_formed w string p (text cs) shown = tt
  shown_formed w (list t) p (elements vs) shown = each_formed (Shows w t) (IsFormed t) (size_of t) (number_at 4 w.memory p) vs (shown_formed w t) shown.each
  shown_formed w (fixed_list t n) p (parts vs) shown = each_formed (Shows w t) (IsFormed t) (size_of t) p vs (shown_formed w t) shown.1
  shown_formed w (fields f fs) p (parts vs) shown = fields_formed w fs p 0 vs shown
  shown_formed w (cases c cs) p (bare i) shown = tt
  shown_formed w (cases c cs) p (bearing i v) shown = case_formed w cs (p + payload_offset cs) i v shown.1
  shown_formed w (flags ls) p (flag_set n) shown = tt
  shown_formed w (own r) p (handle h) shown = tt
  shown_formed w (borrow r) p (handle h) shown = tt
  shown_formed w _ p _ shown = absurd shown

  fields_formed : (w : View) (fs : Fields) (p end : ℕ) (vs : Vals) → ShowFields w fs p end vs → AreFormed fs vs
  fields_formed w no_fields p end no_vals shown = tt
  fields_formed w no_fields p end (val v vs) shown = absurd shown
  fields_formed w (field l t fs) p end no_vals shown = absurd shown
  fields_formed w (field l t fs) p end (val v vs) shown =
      (shown_formed w t (p + align_to (align_of t) end) v shown.0, fields_formed w fs p (align_to (align_of t) end + size_of t) vs shown.1)

  case_formed : (w : View) (cs : Cases) (p i : ℕ) (v : Val) → ShowsPayload w cs p i v → IsFormedCase cs i v
  case_formed w no_cases p i v shown = absurd shown
  case_formed w (plain l cs) p zero v shown = absurd shown
  case_formed w (plain l cs) p (suc i) v shown = case_formed w cs p i v shown
  case_formed w (carrying l t cs) p zero v shown = shown_formed w t p v shown
  case_formed w (carrying l t cs) p (suc i) v shown = case_formed w cs p i v shown

mutual
  flat_formed : (w : View) (s : List CoreValue) (t : Ty) (k : ℕ) (v : Val) → FlatShows w s t k v → IsFormed t v
  flat_formed w s bool k (truth b) shown = tt
  flat_formed w s (signed b) k (signed_number z) shown = tt
  flat_formed w s (unsigned b) k (number n) shown = tt
  flat_formed w s char k (scalar c) shown = tt
  flat_formed w s string k (text cs) shown = tt
  flat_formed w s (list t) k (elements vs) shown = each_formed (Shows w t) (IsFormed t) (size_of t) (wrapped_at 4 s k) vs (shown_formed w t) shown.each
  flat_formed w s (fixed_list t n) k (parts vs) shown = each_formed (FlatShows w s t) (IsFormed t) (width_of t) k vs (flat_formed w s t) shown.1
  flat_formed w s (fields f fs) k (parts vs) shown = flat_fields_formed w s fs k vs shown
  flat_formed w s (cases c cs) k (bare i) shown = tt
  flat_formed w s (cases c cs) k (bearing i v) shown = flat_case_formed w s cs (k + 1) i v shown.1
  flat_formed w s (flags ls) k (flag_set n) shown = tt
  flat_formed w s (own r) k (handle h) shown = tt
  flat_formed w s (borrow r) k (handle h) shown = tt
  flat_formed w s _ k _ shown = absurd shown

  flat_fields_formed : (w : View) (s : List CoreValue) (fs : Fields) (k : ℕ) (vs : Vals) → FlatShowFields w s fs k vs → AreFormed fs vs
  flat_fields_formed w s no_fields k no_vals shown = tt
  flat_fields_formed w s no_fields k (val v vs) shown = absurd shown
  flat_fields_formed w s (field l t fs) k no_vals shown = absurd shown
  flat_fields_formed w s (field l t fs) k (val v vs) shown = (flat_formed w s t k v shown.0, flat_fields_formed w s fs (k + width_of t) vs shown.1)

  flat_case_formed : (w : View) (s : List CoreValue) (cs : Cases) (k i : ℕ) (v : Val) → FlatShowsPayload w s cs k i v → IsFormedCase cs i v
  flat_case_formed w s no_cases k i v shown = absurd shown
  flat_case_formed w s (plain l cs) k zero v shown = absurd shown
  flat_case_formed w s (plain l cs) k (suc i) v shown = flat_case_formed w s cs k i v shown
  flat_case_formed w s (carrying l t cs) k zero v shown = flat_formed w s t k v shown
  flat_case_formed w s (carrying l t cs) k (suc i) v shown = flat_case_formed w s cs k i v shown

denoted_formed : (w : View) (way : Way) (types : Fields) (slots : List CoreValue) (v : Val) → Denotes w way types slots v → IsFormed (tuple_of types) v
denoted_formed w way types slots v (inl x) = flat_formed w slots (tuple_of types) 0 v x.shown
denoted_formed w way types slots v (inr x) = shown_formed w (tuple_of types) (wrapped_at 4 slots 0) v x.shown

-- ---- sizes of strings

module _ (sizes : List ℕ) (target : StringEncoding) where
  -- the sizes of a value's strings are known, and its parts are counted
  record Known (ps : List Part) (v : Val) : Type 0 where
    pub counted : length ps ≡ part_count v
    pub known : (k : ℕ) → AreSizes sizes target k ps → HasSizes sizes (stored_charset target) v k

  record AllKnown (ps : List Part) (vs : Vals) : Type 0 where
    pub counted : length ps ≡ part_count_each vs
    pub known : (k : ℕ) → AreSizes sizes target k ps → HaveSizes sizes (stored_charset target) vs k

  joined : (ps qs : List Part) (v : Val) (vs : Vals) → Known ps v → AllKnown qs vs → AllKnown (ps ++ qs) (val v vs)
  joined ps qs v vs here behind =
      record {
        counted = length_both ps qs ∙ (ap (λ n. n + length qs) here.counted ∙ ap (λ n. part_count v + n) behind.counted);
        known = λ k are.
            let split = both sizes target k ps qs are in
            (here.known k split.0, behind.known (k + part_count v) (subst (λ n. AreSizes sizes target (k + n) qs) here.counted split.1));
      }
    where
      length_both : (xs ys : List Part) → length (xs ++ ys) ≡ length xs + length ys
      length_both [] ys = let e : length ys ≡ 0 + length ys = omega arith in e
      length_both (x ∷ xs) ys = let e = length_both xs ys in omega (arith, e)

  each_known : (P : Val → List Part) (T : Val → Type 0) (vs : Vals) → AllVals T vs → ((v : Val) → T v → Known (P v) v) → AllKnown (parts_each P vs) vs
  each_known P T no_vals typed one = record { counted = refl; known = λ k are. tt }
  each_known P T (val v vs) typed one = joined (P v) (parts_each P vs) v vs (one v typed.0) (each_known P T vs typed.1 one)

  none : (v : Val) → part_count v ≡ 0 → ((k : ℕ) → HasSizes sizes (stored_charset target) v k) → Known [] v
  none v is all = record { counted = sym is; known = λ k are. all k }

  mutual
    value_known : (t : Ty) (v : Val) → IsFormed t v → Known (parts_in t v) v
    value_known bool (truth b) typed = none (truth b) refl (λ k. tt)
    value_known (signed w) (signed_number z) typed = none (signed_number z) refl (λ k. tt)
    value_known (unsigned w) (number n) typed = none (number n) refl (λ k. tt)
    value_known char (scalar c) typed = none (scalar c) refl (λ k. tt)
    value_known string (text cs) typed = record { counted = refl; known = λ k are. (are.0, are.1) }
    value_known (list t) (elements vs) typed =
        let all = each_known (parts_in t) (IsFormed t) vs typed (value_known t) in
        record { counted = omega (arith, all.counted); known = λ k are. all.known (k + 1) are.2 }
    value_known (fixed_list t n) (parts vs) typed =
        let all = each_known (parts_in t) (IsFormed t) vs typed (value_known t) in
        record { counted = all.counted; known = all.known }
    value_known (fields f fs) (parts vs) typed =
        let all = fields_known fs vs typed in
        record { counted = all.counted; known = all.known }
    value_known (cases f cs) (bare i) typed = none (bare i) refl (λ k. tt)
    value_known (cases f cs) (bearing i v) typed =
        let one = payload_known cs i v typed in
        record { counted = one.counted; known = one.known }
    value_known (flags ls) (flag_set n) typed = none (flag_set n) refl (λ k. tt)
    value_known (own r) (handle h) typed = none (handle h) refl (λ k. tt)
    value_known (borrow r) (handle h) typed = none (handle h) refl (λ k. tt)
    value_known _ _ typed = absurd typed

    fields_known : (fs : Fields) (vs : Vals) → AreFormed fs vs → AllKnown (parts_in_fields fs vs) vs
    fields_known no_fields no_vals typed = record { counted = refl; known = λ k are. tt }
    fields_known no_fields (val v vs) typed = absurd typed
    fields_known (field l t fs) no_vals typed = absurd typed
    fields_known (field l t fs) (val v vs) typed = joined (parts_in t v) (parts_in_fields fs vs) v vs (value_known t v typed.0) (fields_known fs vs typed.1)

    payload_known : (cs : Cases) (i : ℕ) (v : Val) → IsFormedCase cs i v → Known (parts_in_payload cs i v) v
    payload_known no_cases i v typed = absurd typed
    payload_known (plain l cs) zero v typed = absurd typed
    payload_known (plain l cs) (suc i) v typed = payload_known cs i v typed
    payload_known (carrying l t cs) zero v typed = value_known t v typed
    payload_known (carrying l t cs) (suc i) v typed = payload_known cs i v typed

pub value_sizes : (w : View) (target : StringEncoding) (t : Ty) (p : ℕ) (v : Val) (before rs after : List PartRecord) (places : List ℕ) → Shows w t p v → TellAll w target rs (parts_in t v) places
    → HasSizes (map size_kept (before ++ (rs ++ after))) (stored_charset target) v (length before)
value_sizes w target t p v before rs after places shown tell =
    (value_known (map size_kept (before ++ (rs ++ after))) target t v (shown_formed w t p v shown)).known (length before) (told_behind w target before rs after (parts_in t v) places tell)

nothing_behind : (rs : List PartRecord) → rs ++ [] ≡ rs
nothing_behind [] = refl
nothing_behind (r ∷ rs) = ap (λ xs. r ∷ xs) (nothing_behind rs)

pub call_sizes : (w : View) (target : StringEncoding) (way : Way) (types : Fields) (slots : List CoreValue) (v : Val) (rs : List PartRecord) (places : List ℕ) → Denotes w way types slots v
    → TellAll w target rs (call_parts way types v) places → HasSizes (map size_kept rs) (stored_charset target) v (first_part way types)
call_sizes w target way types slots v rs places denoted tell = go (is_spilled way types) tell
  where
    typed : IsFormed (tuple_of types) v
    typed = denoted_formed w way types slots v denoted

    tuple : Part
    tuple = element_part 1 (size_of (tuple_of types)) (align_of (tuple_of types))

    sizes : (all : List Part) → TellAll w target rs all places → AreSizes (map size_kept rs) target 0 all
    sizes all tells = subst (λ xs. AreSizes (map size_kept xs) target 0 all) (nothing_behind rs) (told w target rs [] all places tells)

    go : (b : Bool) → TellAll w target rs (if b then tuple ∷ parts_in (tuple_of types) v else parts_in (tuple_of types) v) places
        → HasSizes (map size_kept rs) (stored_charset target) v (if b then 1 else 0)
    go true tells = (value_known (map size_kept rs) target (tuple_of types) v typed).known 1 (sizes (tuple ∷ parts_in (tuple_of types) v) tells).2
    go false tells = (value_known (map size_kept rs) target (tuple_of types) v typed).known 0 (sizes (parts_in (tuple_of types) v) tells)

-- The first core kinds of types, from those of their parts.
use Rattle.std.proofs.Common.{inl, inr, ◌⊎◌, ◌≡◌, ℕ, zero, suc, ◌+◌, ◌≤◌, ◌<◌, List, [], ◌∷◌, ◌++◌, map, take, drop, length, get_or, refl, sym, ap, ◌∙◌, arith, subst, append_assoc, min, Vec, Global, length-take}
use Rattle.std.proofs.lemmas.List.{take-append-drop, length-take-le}
use Rattle.std.proofs.Math.Seq.{take-append_seam}
use Rattle.cm_types.specs.declared.core_value.CoreKind.{CoreKind}
use Rattle.cm_types.specs.declared.core_value.CoreKind.TheVariants.{I32}
use Rattle.cm_types.specs.Types.{Ty, Fields, Cases, bool, no_fields, field, no_cases, plain, carrying}
use Rattle.cm_layout.specs.Flattening.{copies, join, join_slots, join_from, flat_of, flat_of_cases, flat_of_fields}
use Rattle.std.specs.List.{AllByRecursion}
use Rattle.std.proofs.lemmas.List.{length-map, map-append, take_all, take_more}
use Rattle.std.proofs.Math.ListN.{get_or-map}
use Rattle.cm_types_arena.specs.Arena.{field_types, payload_types}
use Rattle.cm_types_arena.specs.TypeDefs.{type_at}
use Rattle.cm_layout_placed.specs.Kinds.{in_turn, joined, kinds_at}
use Rattle.cm_layout_placed.specs.Placed.{first_kinds}
use Rattle.cm_layout.proofs.FlatLemmas.{behind_start, copies_end, end_joined, joined_assoc, joined_nil}
use Rattle.cm_layout.proofs.FlatteningLaws.{join_long}

-- ---- the first of a list

take_less : {A : Type 0} (n m : ℕ) (xs : List A) → n ≤ m → take n (take m xs) ≡ take n xs
take_less zero m xs le = refl
take_less (suc n) zero xs le = absurd (omega (arith, le))
take_less (suc n) (suc m) [] le = refl
take_less (suc n) (suc m) (x ∷ xs) le = ap (λ ys. x ∷ ys) (take_less n m xs (omega (arith, le)))

pub take_front : {A : Type 0} (n : ℕ) (xs ys : List A) → take n (take n xs ++ ys) ≡ take n (xs ++ ys)
take_front zero xs ys = refl
take_front (suc n) [] ys = refl
take_front (suc n) (x ∷ xs) ys = ap (λ zs. x ∷ zs) (take_front n xs ys)

pub take_rest : {A : Type 0} (n m : ℕ) (xs ys : List A) → n ≤ m → take n (xs ++ take m ys) ≡ take n (xs ++ ys)
take_rest n m [] ys le = take_less n m ys le
take_rest zero m (x ∷ xs) ys le = refl
take_rest (suc n) m (x ∷ xs) ys le = ap (λ zs. x ∷ zs) (take_rest n m xs ys (omega (arith, le)))

-- lists that begin alike do so behind another
pub take_same : {A : Type 0} (n : ℕ) (xs ys zs : List A) → take n ys ≡ take n zs → take n (xs ++ ys) ≡ take n (xs ++ zs)
take_same n xs ys zs e =
    sym (take_rest n n xs ys (omega arith)) ∙ ap (λ l. take n (xs ++ l)) e ∙ take_rest n n xs zs (omega arith)

-- where so many stand there already, no more are taken
pub take_full : {A : Type 0} (n : ℕ) (xs ys : List A) → length xs ≡ n → take n (xs ++ ys) ≡ xs
take_full n xs ys e = subst (λ m. take m (xs ++ ys) ≡ xs) e (take-append_seam xs ys)

-- ---- lists one behind the other

pub in_turn_first : (n : ℕ) (kss : List (List CoreKind)) → take n (in_turn (map (λ ks. take n ks) kss)) ≡ take n (in_turn kss)
in_turn_first n [] = refl
in_turn_first n (ks ∷ kss) =
    take_front n ks (in_turn (map (λ ks. take n ks) kss)) ∙ take_same n ks (in_turn (map (λ ks. take n ks) kss)) (in_turn kss) (in_turn_first n kss)

pub in_turn_more : (kss : List (List CoreKind)) (ks : List CoreKind) → in_turn (kss ++ ks ∷ []) ≡ in_turn kss ++ ks
in_turn_more [] ks = nil_right ks
  where
    nil_right : (xs : List CoreKind) → xs ++ [] ≡ xs
    nil_right [] = refl
    nil_right (x ∷ xs) = ap (λ l. x ∷ l) (nil_right xs)
in_turn_more (js ∷ kss) ks = ap (λ l. js ++ l) (in_turn_more kss ks) ∙ sym (append_assoc js (in_turn kss) ks)

pub fields_flat : (fs : Fields) → flat_of_fields fs ≡ in_turn (map flat_of (field_types fs))
fields_flat no_fields = refl
fields_flat (field l t fs) = ap (λ ks. flat_of t ++ ks) (fields_flat fs)

-- ---- copies

pub copies_first : (n m : ℕ) (ks : List CoreKind) → take n (copies m (take n ks)) ≡ take n (copies m ks)
copies_first n zero ks = refl
copies_first n (suc m) ks =
    take_front n ks (copies m (take n ks)) ∙ take_same n ks (copies m (take n ks)) (copies m ks) (copies_first n m ks)

no_copies : (m : ℕ) → copies m [] ≡ []
no_copies zero = refl
no_copies (suc m) = no_copies m

-- as many copies as kinds are wanted are enough
copies_enough : (n m : ℕ) (ks : List CoreKind) → n ≤ m → take n (copies m ks) ≡ take n (copies n ks)
copies_enough n m [] le = ap (take n) (no_copies m ∙ sym (no_copies n))
copies_enough zero m (k ∷ ks) le = refl
copies_enough (suc n) zero (k ∷ ks) le = absurd (omega (arith, le))
copies_enough (suc n) (suc m) (k ∷ ks) le =
    ap (λ l. k ∷ l) (take_same n ks (copies m (k ∷ ks)) (copies n (k ∷ ks)) (copies_enough n m (k ∷ ks) (omega (arith, le))))

pub copies_least : (n m k : ℕ) (ks : List CoreKind) → k ≡ min m n → take n (copies k ks) ≡ take n (copies m ks)
copies_least n m k ks e = by_order (le_cases n m)
  where
    le_cases : (a b : ℕ) → (a ≤ b) ⊎ (b ≤ a)
    le_cases zero b = inl (omega arith)
    le_cases (suc a) zero = inr (omega arith)
    le_cases (suc a) (suc b) = elim (le_cases a b) [ inl h ↦ inl (omega (arith, h)) | inr h ↦ inr (omega (arith, h)) ]

    by_order : (n ≤ m) ⊎ (m ≤ n) → take n (copies k ks) ≡ take n (copies m ks)
    by_order (inl h) = ap (λ j. take n (copies j ks)) (omega (arith, e, h)) ∙ sym (copies_enough n m ks h)
    by_order (inr h) = ap (λ j. take n (copies j ks)) (omega (arith, e, h))

pub one_copy_more : (n m : ℕ) (ks : List CoreKind) → take n (take n (copies m ks) ++ ks) ≡ take n (copies (suc m) ks)
one_copy_more n m ks = take_front n (copies m ks) ks ∙ ap (take n) (copies_end m ks)

-- ---- slots

take_joined : (n : ℕ) (xs ys : List CoreKind) → take n (join_slots xs ys) ≡ join_slots (take n xs) (take n ys)
take_joined zero xs ys = refl
take_joined (suc n) [] ys = refl
take_joined (suc n) (x ∷ xs) [] = refl
take_joined (suc n) (x ∷ xs) (y ∷ ys) = ap (λ ks. join x y ∷ ks) (take_joined n xs ys)

pub joined_first : (n m : ℕ) (kss : List (List CoreKind)) → n ≤ m → take n (joined (map (λ ks. take m ks) kss)) ≡ take n (joined kss)
joined_first n m [] le = refl
joined_first n m (ks ∷ kss) le =
    take_joined n (take m ks) (joined (map (λ ks. take m ks) kss))
    ∙ ap (λ l. join_slots l (take n (joined (map (λ ks. take m ks) kss)))) (take_less n m ks le)
    ∙ ap (join_slots (take n ks)) (joined_first n m kss le)
    ∙ sym (take_joined n ks (joined kss))

pub cases_flat : (cs : Cases) → flat_of_cases cs ≡ joined (map flat_of (payload_types cs))
cases_flat no_cases = refl
cases_flat (plain l cs) = cases_flat cs
cases_flat (carrying l t cs) = ap (join_slots (flat_of t)) (cases_flat cs)

pub joined_more : (kss : List (List CoreKind)) (ks : List CoreKind) → joined (kss ++ ks ∷ []) ≡ join_slots (joined kss) ks
joined_more [] ks = joined_nil ks
joined_more (js ∷ kss) ks = ap (join_slots js) (joined_more kss ks) ∙ sym (joined_assoc js (joined kss) ks)

-- one slot more is joined
pub next_joined : (at : ℕ) (xs ks js : List CoreKind) → length ks ≡ at → join_from at (join_slots xs ks) js ≡ join_slots xs (ks ++ js)
next_joined at xs ks js e = subst (λ n. join_from n (join_slots xs ks) js ≡ join_slots xs (ks ++ js)) e (behind_start xs ks js)

pub slots_before : (at : ℕ) (xs ks : List CoreKind) → length ks ≡ at → at ≤ length (join_slots xs ks)
slots_before at xs ks e = omega (arith, e, join_long xs ks)

pub joined_end : (at : ℕ) (xs : List CoreKind) (k : CoreKind) → at ≡ length xs → join_from at xs (k ∷ []) ≡ xs ++ k ∷ []
joined_end at xs k e = ap (λ n. join_from n xs (k ∷ [])) e ∙ end_joined xs (k ∷ [])

-- where so many stand there with the first of others, the others add nothing
pub take_enough : {A : Type 0} (n i : ℕ) (xs ys : List A) → length (xs ++ take i ys) ≡ n → take n (xs ++ ys) ≡ xs ++ take i ys
take_enough n i xs ys e =
    ap (λ l. take n (xs ++ l)) (sym (take-append-drop i ys)) ∙ ap (take n) (sym (append_assoc xs (take i ys) (drop i ys))) ∙ take_full n (xs ++ take i ys) (drop i ys) e

-- ---- kinds by place

pub kinds_get : (ks : List (Vec CoreKind Global)) (p : ℕ) (v : Vec CoreKind Global) → p < length ks → v ≡ get_or ks p v → kinds_at (map (λ u. u.items) ks) p ≡ v.items
kinds_get [] p v lt e = absurd (omega (arith, lt))
kinds_get (k ∷ ks) zero v lt e = ap (λ (u : Vec CoreKind Global). u.items) (sym e)
kinds_get (k ∷ ks) (suc p) v lt e = kinds_get ks p v (omega (arith, lt)) e

-- one place more
pub turn_step : (at : ℕ → List CoreKind) (ps : List ℕ) (i p : ℕ) (ks old : List CoreKind) → i < length ps → p ≡ get_or ps i 0 → ks ≡ at p
    → old ≡ take 16 (in_turn (map at (take i ps))) → take 16 (old ++ ks) ≡ take 16 (in_turn (map at (take (i + 1) ps)))
turn_step at ps i p ks old lt e k o =
    ap (λ l. take 16 (l ++ ks)) o
    ∙ take_front 16 (in_turn (map at (take i ps))) ks
    ∙ ap (take 16) (sym (in_turn_more (map at (take i ps)) ks))
    ∙ ap (λ l. take 16 (in_turn (map at (take i ps) ++ l ∷ []))) k
    ∙ ap (λ l. take 16 (in_turn l)) (sym (map-append at (take i ps) (p ∷ [])))
    ∙ ap (λ q. take 16 (in_turn (map at (take i ps ++ q ∷ [])))) e
    ∙ ap (λ l. take 16 (in_turn (map at l))) (sym (take_more ps i 0 lt))

pub join_step : (at : ℕ → List CoreKind) (ps : List ℕ) (i p : ℕ) (ks old : List CoreKind) → i < length ps → p ≡ get_or ps i 0 → ks ≡ at p
    → old ≡ joined (map at (take i ps)) → join_slots old ks ≡ joined (map at (take (i + 1) ps))
join_step at ps i p ks old lt e k o =
    ap (λ l. join_slots l ks) o
    ∙ sym (joined_more (map at (take i ps)) ks)
    ∙ ap (λ l. joined (map at (take i ps) ++ l ∷ [])) k
    ∙ ap joined (sym (map-append at (take i ps) (p ∷ [])))
    ∙ ap (λ q. joined (map at (take i ps ++ q ∷ []))) e
    ∙ ap (λ l. joined (map at l)) (sym (take_more ps i 0 lt))

pub slot_step : (at : ℕ) (old ks : List CoreKind) (d : CoreKind) (now : List CoreKind) → at < length ks → now ≡ join_slots old (take at ks)
    → join_from at now (get_or ks at d ∷ []) ≡ join_slots old (take (at + 1) ks)
slot_step at old ks d now lt o =
    ap (λ l. join_from at l (get_or ks at d ∷ [])) o
    ∙ next_joined at old (take at ks) (get_or ks at d ∷ []) (length-take-le at ks (omega (arith, lt)))
    ∙ ap (join_slots old) (sym (take_more ks at d lt))

pub slots_so_far : (at : ℕ) (old ks now : List CoreKind) → at ≤ length ks → now ≡ join_slots old (take at ks) → at ≤ length now
slots_so_far at old ks now le o = omega (arith, ap length o, slots_before at old (take at ks) (length-take-le at ks le))

-- at earlier places stand the first kinds of types
first_at : (types : List Ty) (n p : ℕ) → p < n → n ≤ length types → kinds_at (take n (map first_kinds types)) p ≡ first_kinds (type_at types p)
first_at [] n p lt le = absurd (omega (arith, lt, le))
first_at (t ∷ types) zero p lt le = absurd (omega (arith, lt))
first_at (t ∷ types) (suc n) zero lt le = refl
first_at (t ∷ types) (suc n) (suc p) lt le = first_at types n p (omega (arith, lt)) (omega (arith, le))

pub kinds_there : (kss : List (List CoreKind)) (types : List Ty) (n : ℕ) (ps : List ℕ) → n ≤ length types → kss ≡ take n (map first_kinds types) → AllByRecursion (λ p. p < n) ps
    → map (kinds_at kss) ps ≡ map first_kinds (map (type_at types) ps)
kinds_there kss types n [] le e h = refl
kinds_there kss types n (p ∷ ps) le e h =
    ap (λ l. l ∷ map (kinds_at kss) ps) (ap (λ ls. kinds_at ls p) e ∙ first_at types n p h.0 le)
    ∙ ap (λ l. first_kinds (type_at types p) ∷ l) (kinds_there kss types n ps le e h.1)

pub all_kinds : (kss : List (List CoreKind)) (types : List Ty) (ps : List ℕ) → kss ≡ map first_kinds types → AllByRecursion (λ p. p < length types) ps
    → map (kinds_at kss) ps ≡ map first_kinds (map (type_at types) ps)
all_kinds kss types ps e h = kinds_there kss types (length types) ps (omega arith) (e ∙ sym (taken (map first_kinds types) (length types) (omega (arith, mapped_length types)))) h
  where
    mapped_length : (ts : List Ty) → length (map first_kinds ts) ≡ length ts
    mapped_length [] = refl
    mapped_length (t ∷ ts) = omega (arith, mapped_length ts)

    taken : (ls : List (List CoreKind)) (n : ℕ) → length ls ≤ n → take n ls ≡ ls
    taken ls n le = take_all n ls le

first_of : (ts : List Ty) → map first_kinds ts ≡ map (λ ks. take 16 ks) (map flat_of ts)
first_of [] = refl
first_of (t ∷ ts) = ap (λ l. take 16 (flat_of t) ∷ l) (first_of ts)

pub field_kinds : (kss : List (List CoreKind)) (ps : List ℕ) (fs : Fields) → map (kinds_at kss) ps ≡ map first_kinds (field_types fs)
    → take 16 (in_turn (map (kinds_at kss) ps)) ≡ take 16 (flat_of_fields fs)
field_kinds kss ps fs e =
    ap (λ l. take 16 (in_turn l)) (e ∙ first_of (field_types fs)) ∙ in_turn_first 16 (map flat_of (field_types fs)) ∙ ap (take 16) (sym (fields_flat fs))

pub case_kinds : (kss : List (List CoreKind)) (ps : List ℕ) (cs : Cases) → map (kinds_at kss) ps ≡ map first_kinds (payload_types cs)
    → take 16 (I32 ∷ joined (map (kinds_at kss) ps)) ≡ take 16 (I32 ∷ flat_of_cases cs)
case_kinds kss ps cs e =
    ap (λ l. take 16 (I32 ∷ joined l)) (e ∙ first_of (payload_types cs)) ∙ ap (λ l. I32 ∷ l) (joined_first 15 16 (map flat_of (payload_types cs)) (omega arith)) ∙ ap (λ l. take 16 (I32 ∷ l)) (sym (cases_flat cs))

pub copy_kinds : (kss : List (List CoreKind)) (ps : List ℕ) (t : Ty) (n : ℕ) → map (kinds_at kss) ps ≡ first_kinds t ∷ []
    → take 16 (copies n (take 16 (in_turn (map (kinds_at kss) ps)))) ≡ take 16 (copies n (flat_of t))
copy_kinds kss ps t n e =
    ap (λ l. take 16 (copies n (take 16 (in_turn l)))) e
    ∙ ap (λ l. take 16 (copies n l)) (take_front 16 (flat_of t) [])
    ∙ copies_first 16 n (flat_of t ++ [])
    ∙ ap (λ l. take 16 (copies n l)) (nothing_behind (flat_of t))
  where
    nothing_behind : (xs : List CoreKind) → xs ++ [] ≡ xs
    nothing_behind [] = refl
    nothing_behind (x ∷ xs) = ap (λ l. x ∷ l) (nothing_behind xs)

pub one_kinds : (kss : List (List CoreKind)) (types : List Ty) (p : ℕ) → kss ≡ map first_kinds types → p < length types
    → take 16 (in_turn (map (kinds_at kss) (p ∷ []))) ≡ take 16 (flat_of (type_at types p))
one_kinds kss types p of lt =
    field_kinds kss (p ∷ []) (field [] (type_at types p) no_fields) (all_kinds kss types (p ∷ []) of (lt, tt)) ∙ ap (take 16) (nothing_behind (flat_of (type_at types p)))
  where
    nothing_behind : (xs : List CoreKind) → xs ++ [] ≡ xs
    nothing_behind [] = refl
    nothing_behind (x ∷ xs) = ap (λ l. x ∷ l) (nothing_behind xs)

pub one_more_kinds : (by_place : List (Vec CoreKind Global)) (x : Vec CoreKind Global) (types : List Ty) (n : ℕ) → n < length types → map (λ v. v.items) by_place ≡ take n (map first_kinds types)
    → x.items ≡ first_kinds (type_at types n) → map (λ v. v.items) (by_place ++ x ∷ []) ≡ take (n + 1) (map first_kinds types)
one_more_kinds by_place x types n lt before is =
    map-append (λ v. v.items) by_place (x ∷ [])
    ∙ ap (λ l. l ++ x.items ∷ []) before
    ∙ ap (λ l. take n (map first_kinds types) ++ l ∷ []) (is ∙ sym (get_or-map first_kinds types n bool))
    ∙ sym (take_more (map first_kinds types) n (first_kinds bool) (rw (length-map types first_kinds) lt))

pub few_taken : {A : Type 0} (n : ℕ) (xs : List A) → length (take n xs) ≤ n
few_taken n xs = omega (arith, length-take n xs)

-- What imports see.
use Rattle.std.proofs.Common.{◌≡◌, ◌∙◌, ℕ, zero, suc, ◌+◌, ◌<◌, ◌≤◌, Bool, true, false, ◌&&◌, List, [], ◌∷◌, ◌++◌, Option, filter, take, refl, ap, sym, subst, arith, append_assoc, option_and_then, slice_get, ◌==◌, length, map, if◌then◌else◌}
use Rattle.std.specs.Prelude.{nat_lt, option_to_list}
use Rattle.std.specs.Option.{option_map}
use Rattle.std.specs.List.{AllByRecursion}
use Rattle.std.proofs.lemmas.Bool.{and_left, and_right, eq-eqb, le-ltb, lt-ltb, ltb-false, ltb-true, ne_eqb}
use Rattle.std.proofs.lemmas.List.Elements.{filter-append}
use Rattle.cm_types.specs.Signatures.{NamedExtern}
use Rattle.cm_validate_model.specs.Definitions as definitions
use Rattle.cm_validate_model.specs.Spaces.{Spaces}
use Rattle.cm_match_model.specs.declared.component.Link.{Link}
use Rattle.cm_match_model.specs.declared.sight.Place.{Place}
use Rattle.cm_match_model.specs.Fitting.{NamedExport, fits, named_export}
use Rattle.cm_match_model.specs.Fitting as fitting
use Rattle.cm_match_model.specs.Imports.{Sees, all_exports_from, candidates, exports_before, exports_from, import_in, links_of, only_link, seen_by}
use Rattle.cm_match_model.specs.Sights.{Chosen, chosen_export, begins_at, group_of, is_seen_at, nothing_chosen, seen_before, sees_by, sees_chosen, sees_component}
use Rattle.cm_match_model.proofs.LinkLaws.{IsOf, all_exports, so_many}
use Rattle.cm_lemmas.proofs.Bools.{and_true}
use Rattle.cm_lemmas.proofs.Lists.{all_both, nil_right}

-- ---- filters

kept_same : {A : Type 0} (p q : A → Bool) (xs : List A) → ((x : A) → p x ≡ q x) → filter p xs ≡ filter q xs
kept_same p q [] h = refl
kept_same p q (x ∷ xs) h = ap (λ b. if b then (x ∷ filter p xs) else filter p xs) (h x) ∙ ap (λ ys. if q x then (x ∷ ys) else ys) (kept_same p q xs h)

kept_where : {A : Type 0} (P : A → Type 0) (p q : A → Bool) (xs : List A) → AllByRecursion P xs → ((x : A) → P x → p x ≡ q x) → filter p xs ≡ filter q xs
kept_where P p q [] all h = refl
kept_where P p q (x ∷ xs) all h = ap (λ b. if b then (x ∷ filter p xs) else filter p xs) (h x all.0) ∙ ap (λ ys. if q x then (x ∷ ys) else ys) (kept_where P p q xs all.1 h)

nothing_kept : {A : Type 0} (xs : List A) → filter (λ x. false) xs ≡ []
nothing_kept [] = refl
nothing_kept (x ∷ xs) = nothing_kept xs

all_stay : {A : Type 0} (xs : List A) → filter (λ x. true) xs ≡ xs
all_stay [] = refl
all_stay (x ∷ xs) = ap (λ ys. x ∷ ys) (all_stay xs)

one_of_both : {A : Type 0} (q : A → Bool) (x : A) (ys zs : List A) (b : Bool) → zs ≡ filter q ys → (if b && q x then (x ∷ zs) else zs) ≡ filter q (if b then (x ∷ ys) else ys)
one_of_both q x ys zs true e = ap (λ ws. if q x then (x ∷ ws) else ws) e
one_of_both q x ys zs false e = e

both_kept : {A : Type 0} (p q : A → Bool) (xs : List A) → filter (λ x. p x && q x) xs ≡ filter q (filter p xs)
both_kept p q [] = refl
both_kept p q (x ∷ xs) = one_of_both q x (filter p xs) (filter (λ y. p y && q y) xs) (p x) (both_kept p q xs)

-- ---- one import

pub same_links : (set : List Spaces) (s t : Sees) (c n : ℕ) → ((e : NamedExport) → s c n e ≡ t c n e) → links_of (seen_by s set) c n ≡ links_of (seen_by t set) c n
same_links set s t c n h = of_import (import_in set c n)
  where
    of_import : (o : Option NamedExtern) → option_and_then (λ x. only_link (filter (λ e. s c n e && fits x.name e.name) (exports_before set c))) o
        ≡ option_and_then (λ x. only_link (filter (λ e. t c n e && fits x.name e.name) (exports_before set c))) o
    of_import Option.None = refl
    of_import (Option.Some x) = ap only_link (kept_same (λ e. s c n e && fits x.name e.name) (λ e. t c n e && fits x.name e.name) (exports_before set c) (λ e. ap (λ b. b && fits x.name e.name) (h e)))

pub other_links : (set : List Spaces) (places : List Place) (chosen more : Chosen) (c n : ℕ) → chosen c n ≡ more c n
    → links_of (seen_by (sees_by places chosen) set) c n ≡ links_of (seen_by (sees_by places more) set) c n
other_links set places chosen more c n h = same_links set (sees_by places chosen) (sees_by places more) c n (λ e. ap (λ l. sees_chosen l (sees_component places c e.component) e) h)

-- ---- groups

begun_low : (b : Bool) (m c : ℕ) → m ≤ c → (if b then suc c else m) ≤ suc c
begun_low true m c h = omega arith
begun_low false m c h = omega (arith, h)

pub group_low : (places : List Place) (c : ℕ) → group_of places c ≤ c
group_low places zero = omega arith
group_low places (suc c) = begun_low (begins_at places (suc c)) (group_of places c) c (group_low places c)

no_group : (c : ℕ) → group_of [] c ≡ c
no_group zero = refl
no_group (suc c) = refl

seen_alone : (k : ℕ) → is_seen_at [] k ≡ true
seen_alone zero = refl
seen_alone (suc k) = refl

-- exports of components from one on
abbrev IsFrom : ℕ → NamedExport → Type 0
IsFrom n e = n ≤ e.component

own_from : (n c k : ℕ) (xs : List definitions.NamedExport) → n ≤ c → AllByRecursion (IsFrom n) (exports_from c k xs)
own_from n c k [] h = tt {0}
own_from n c k (x ∷ xs) h = (h, own_from n c (k + 1) xs h)

all_from : (n c : ℕ) (ss : List Spaces) → n ≤ c → AllByRecursion (IsFrom n) (all_exports_from c ss)
all_from n c [] h = tt {0}
all_from n c (s ∷ ss) h = all_both (IsFrom n) (exports_from c 0 s.exports) (all_exports_from (c + 1) ss) (own_from n c 0 s.exports h) (all_from n (c + 1) ss (omega (arith, h)))

parts : (k f c : ℕ) (ss : List Spaces) → f ≤ c → (rest : List NamedExport) × (all_exports_from k (take c ss) ≡ all_exports_from k (take f ss) ++ rest) × AllByRecursion (IsFrom (k + f)) rest
parts k zero c ss le = (all_exports_from k (take c ss), refl, all_from (k + 0) k (take c ss) (omega arith))
parts k (suc f) zero ss le = absurd (omega (arith, le))
parts k (suc f) (suc c) [] le = ([], refl, tt {0})
parts k (suc f) (suc c) (s ∷ ss) le =
    let r = parts (k + 1) f c ss (omega (arith, le)) in
    let same : (k + 1) + f ≡ k + suc f = omega arith in (
      r.0,
      ap (λ es. exports_from k 0 s.exports ++ es) r.1 ∙ sym (append_assoc (exports_from k 0 s.exports) (all_exports_from (k + 1) (take f ss)) r.0),
      subst (λ m. AllByRecursion (IsFrom m) r.0) same r.2,
    )

pub before_group : (set : List Spaces) (places : List Place) (c n : ℕ) (x : NamedExtern)
    → candidates (seen_by (sees_by places nothing_chosen) set) c n x ≡ fitting.candidates (seen_before set places (group_of places c)) x.name
before_group set [] c n x =
    let w : NamedExport → Bool = λ e. fits x.name e.name in
    ap (λ k. filter w (exports_before set k)) (sym (no_group c))
    ∙ ap (filter w) (sym (kept_same (λ (e : NamedExport). is_seen_at [] e.component) (λ e. true) (exports_before set (group_of [] c)) (λ e. seen_alone e.component) ∙ all_stay (exports_before set (group_of [] c))))
before_group set (p ∷ ps) c n x =
    let places = p ∷ ps in
    let f = group_of places c in
    let w : NamedExport → Bool = λ e. fits x.name e.name in
    let seen : NamedExport → Bool = λ e. is_seen_at places e.component in
    let sees : NamedExport → Bool = λ e. (is_seen_at places e.component && nat_lt e.component f) && fits x.name e.name in
    let r = parts 0 f c set (group_low places c) in
    let front = exports_before set f in
    let here : filter sees front ≡ filter w (filter seen front) =
    kept_where (IsOf f) sees (λ e. seen e && w e) front (all_exports f 0 (take f set) (omega (arith, so_many f set)))
    (λ e lt. ap (λ b. (is_seen_at places e.component && b) && fits x.name e.name) (lt-ltb e.component f lt) ∙ ap (λ b. b && fits x.name e.name) (and_true (is_seen_at places e.component)))
    ∙ both_kept seen w front in
    let there : filter sees r.0 ≡ [] =
    kept_where (IsFrom (0 + f)) sees (λ e. false) r.0 r.2
    (λ e le. ap (λ b. b && fits x.name e.name) (and_right (is_seen_at places e.component) (nat_lt e.component f) (le-ltb e.component f (omega (arith, le)))))
    ∙ nothing_kept r.0 in
    ap (filter sees) r.1 ∙ filter-append sees front r.0 ∙ ap (λ es. filter sees front ++ es) there ∙ nil_right (filter sees front) ∙ here

-- ---- a link that is chosen

-- the export of this number of a component
same : ℕ → ℕ → NamedExport → Bool
same d k e = (d == e.component) && (k == e.number)

-- of exports, from a number on, and of components, from one on, the one before is none
abbrev IsPast : ℕ → NamedExport → Type 0
IsPast m e = m ≤ e.number

own_past : (n c m : ℕ) (xs : List definitions.NamedExport) → n ≤ m → AllByRecursion (IsPast n) (exports_from c m xs)
own_past n c m [] h = tt {0}
own_past n c m (x ∷ xs) h = (h, own_past n c (m + 1) xs (omega (arith, h)))

no_number : (d k c m : ℕ) (xs : List definitions.NamedExport) → k < m → filter (same d k) (exports_from c m xs) ≡ []
unfolding same
no_number d k c m xs lt =
    kept_where (IsPast m) (same d k) (λ e. false) (exports_from c m xs) (own_past m c m xs (omega arith))
    (λ e le. and_right (d == e.component) (k == e.number) (ne_eqb k e.number (λ eq. omega (arith, lt, le, eq))))
    ∙ nothing_kept (exports_from c m xs)

no_component : (d k n : ℕ) (es : List NamedExport) → d < n → AllByRecursion (IsFrom n) es → filter (same d k) es ≡ []
unfolding same
no_component d k n es lt all =
    kept_where (IsFrom n) (same d k) (λ e. false) es all
    (λ e le. and_left (d == e.component) (k == e.number) (ne_eqb d e.component (λ eq. omega (arith, lt, le, eq))))
    ∙ nothing_kept es

none_later : (d k c : ℕ) (xs : List definitions.NamedExport) → c < d → filter (same d k) (exports_from c 0 xs) ≡ []
unfolding same
none_later d k c xs lt =
    kept_where (IsOf d) (same d k) (λ e. false) (exports_from c 0 xs) (of_own d c 0 xs lt)
    (λ e le. and_left (d == e.component) (k == e.number) (ne_eqb d e.component (λ eq. omega (arith, le, eq))))
    ∙ nothing_kept (exports_from c 0 xs)
  where
    of_own : (n c m : ℕ) (xs : List definitions.NamedExport) → c < n → AllByRecursion (IsOf n) (exports_from c m xs)
    of_own n c m [] h = tt {0}
    of_own n c m (x ∷ xs) h = (h, of_own n c (m + 1) xs h)

-- one that stands in front
in_front : (d k m : ℕ) (name : List ℕ) (es : List NamedExport) → k ≡ m → filter (same d k) (named_export d m name ∷ es) ≡ named_export d m name ∷ filter (same d k) es
unfolding same
in_front d k m name es e =
    ap (λ b. if b && (k == m) then (named_export d m name ∷ filter (same d k) es) else filter (same d k) es) (eq-eqb d d refl)
    ∙ ap (λ b. if b then (named_export d m name ∷ filter (same d k) es) else filter (same d k) es) (eq-eqb k m e)

not_front : (d k m : ℕ) (name : List ℕ) (es : List NamedExport) → (k ≡ m → ⊥) → filter (same d k) (named_export d m name ∷ es) ≡ filter (same d k) es
unfolding same
not_front d k m name es e =
    ap (λ b. if b then (named_export d m name ∷ filter (same d k) es) else filter (same d k) es) (and_right (d == d) (k == m) (ne_eqb k m e))

abbrev export_of : ℕ → ℕ → Option definitions.NamedExport → List NamedExport
export_of d k o = option_to_list (option_map (λ (x : definitions.NamedExport). named_export d k x.name) o)

own_same : (d m j k : ℕ) (xs : List definitions.NamedExport) → k ≡ m + j → filter (same d k) (exports_from d m xs) ≡ export_of d k (slice_get xs j)
own_same d m zero k [] h = refl
own_same d m (suc j) k [] h = refl
own_same d m zero k (x ∷ xs) h =
    let here : k ≡ m = omega (arith, h) in
    in_front d k m x.name (exports_from d (m + 1) xs) here
    ∙ ap (λ es. named_export d m x.name ∷ es) (no_number d k d (m + 1) xs (omega (arith, h)))
    ∙ ap (λ i. named_export d i x.name ∷ []) (sym here)
own_same d m (suc j) k (x ∷ xs) h =
    not_front d k m x.name (exports_from d (m + 1) xs) (λ e. omega (arith, h, e))
    ∙ own_same d (m + 1) j k xs (omega (arith, h))

-- among those of components from one on
all_same : (a i d k c : ℕ) (ss : List Spaces) → d ≡ a + i → i < c → filter (same d k) (all_exports_from a (take c ss)) ≡ export_of d k (option_and_then (λ s. slice_get s.exports k) (slice_get ss i))
all_same a i d k zero ss h lt = absurd (omega (arith, lt))
all_same a zero d k (suc c) [] h lt = refl
all_same a (suc i) d k (suc c) [] h lt = refl
all_same a zero d k (suc c) (s ∷ ss) h lt =
    let here : d ≡ a = omega (arith, h) in
    filter-append (same d k) (exports_from a 0 s.exports) (all_exports_from (a + 1) (take c ss))
    ∙ ap (λ es. filter (same d k) (exports_from a 0 s.exports) ++ es) (no_component d k (a + 1) (all_exports_from (a + 1) (take c ss)) (omega (arith, h)) (all_from (a + 1) (a + 1) (take c ss) (omega arith)))
    ∙ nil_right (filter (same d k) (exports_from a 0 s.exports))
    ∙ ap (λ n. filter (same d k) (exports_from n 0 s.exports)) (sym here)
    ∙ own_same d 0 k k s.exports (omega arith)
all_same a (suc i) d k (suc c) (s ∷ ss) h lt =
    filter-append (same d k) (exports_from a 0 s.exports) (all_exports_from (a + 1) (take c ss))
    ∙ ap (λ es. es ++ filter (same d k) (all_exports_from (a + 1) (take c ss))) (none_later d k a s.exports (omega (arith, h)))
    ∙ all_same (a + 1) i d k c ss (omega (arith, h)) (omega (arith, lt))

none_before : (set : List Spaces) (d k c : ℕ) → c ≤ d → filter (same d k) (exports_before set c) ≡ []
unfolding same
none_before set d k c le =
    kept_where (IsOf c) (same d k) (λ e. false) (exports_before set c) (all_exports c 0 (take c set) (omega (arith, so_many c set)))
    (λ e lt. and_left (d == e.component) (k == e.number) (ne_eqb d e.component (λ eq. omega (arith, lt, le, eq))))
    ∙ nothing_kept (exports_before set c)

chosen_by : (set : List Spaces) (c d k : ℕ) (b : Bool) → nat_lt d c ≡ b → filter (same d k) (exports_before set c) ≡ (if b then export_of d k (option_and_then (λ s. slice_get s.exports k) (slice_get set d)) else [])
chosen_by set c d k true e = all_same 0 d d k c set (omega arith) (ltb-true d c e)
chosen_by set c d k false e = none_before set d k c (ltb-false d c e)

pub chosen_alone : (set : List Spaces) (places : List Place) (chosen : Chosen) (c n : ℕ) (x : NamedExtern) (l : Link) → chosen c n ≡ Option.Some l
    → candidates (seen_by (sees_by places chosen) set) c n x ≡ fitting.candidates (chosen_export set c l) x.name
unfolding same
chosen_alone set places chosen c n x l h =
    let w : NamedExport → Bool = λ e. fits x.name e.name in
    ap (λ o. filter (λ e. sees_chosen o (sees_component places c e.component) e && w e) (exports_before set c)) h
    ∙ both_kept (same l.component l.export) w (exports_before set c)
    ∙ ap (filter w) (chosen_by set c l.component l.export (nat_lt l.component c) refl)

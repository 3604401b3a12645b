-- Places of names, where one more comes last.
use Rattle.std.proofs.Common.{◌≡◌, ℕ, ◌+◌, ◌≤◌, Bool, true, false, cond, List, [], ◌∷◌, ◌++◌, length, Some, None, refl, sym, ap, ◌∙◌, arith}
use Rattle.std.specs.Prelude.{is_some}
use Rattle.std.proofs.lemmas.Slice.Eq.{bytes_eq-Decides}
use Rattle.std.specs.Borrow.{Bor}
use Rattle.std.specs.List.{position_from}
use Rattle.std.specs.Str.{bytes_eq}
use Rattle.cm_validate_core.specs.NamedValues.{names_in, place_of}
use Rattle.cm_validate_core.specs.CoreSpaces.{KeepsNumbers, MemoryNames}
use Rattle.cm_validate_core.proofs.NamePlaceLaws.{names_length, names_more}
use Rattle.cm_lemmas.proofs.Lists.{texts_either_way}

-- ---- whether a name is there

abbrev pub has_name : {V : Type 0} → List (Bor (List ℕ) × V) → List ℕ → Bool
has_name es q = is_some (place_of q (names_in es))

there_more : (ns : MemoryNames) (x q : List ℕ) (i : ℕ)
    → is_some (position_from (bytes_eq q) i (ns ++ x ∷ [])) ≡ cond (bytes_eq x q) true (is_some (position_from (bytes_eq q) i ns))
there_more [] x q i = here (bytes_eq q x) ∙ ap (λ b. cond b true false) (texts_either_way q x)
  where
    here : (b : Bool) → is_some (cond b (Some i) None) ≡ cond b true false
    here true = refl
    here false = refl
there_more (n ∷ ns) x q i = here (bytes_eq q n) (bytes_eq x q) (there_more ns x q (i + 1))
  where
    here : (b t : Bool) → is_some (position_from (bytes_eq q) (i + 1) (ns ++ x ∷ [])) ≡ cond t true (is_some (position_from (bytes_eq q) (i + 1) ns))
        → is_some (cond b (Some i) (position_from (bytes_eq q) (i + 1) (ns ++ x ∷ []))) ≡ cond t true (is_some (cond b (Some i) (position_from (bytes_eq q) (i + 1) ns)))
    here true true rest = refl
    here true false rest = refl
    here false t rest = rest

pub name_more : {V : Type 0} (es fs : List (Bor (List ℕ) × V)) (e : Bor (List ℕ) × V) → fs ≡ es ++ e ∷ [] → (q : List ℕ) → has_name fs q ≡ cond (bytes_eq e.0.now q) true (has_name es q)
name_more es fs e is q =
    ap (λ xs. has_name xs q) is
    ∙ ap (λ ns. is_some (place_of q ns)) (names_more es e)
    ∙ there_more (names_in es) e.0.now q 0

-- ---- where it is

stays : (ns : MemoryNames) (x q : List ℕ) (i n : ℕ) → position_from (bytes_eq q) i ns ≡ Some n → position_from (bytes_eq q) i (ns ++ x ∷ []) ≡ Some n
stays [] x q i n e = absurd cc
stays (y ∷ ns) x q i n e = here (bytes_eq q y) e (stays ns x q (i + 1) n)
  where
    here : (b : Bool) → cond b (Some i) (position_from (bytes_eq q) (i + 1) ns) ≡ Some n → (position_from (bytes_eq q) (i + 1) ns ≡ Some n → position_from (bytes_eq q) (i + 1) (ns ++ x ∷ []) ≡ Some n)
        → cond b (Some i) (position_from (bytes_eq q) (i + 1) (ns ++ x ∷ [])) ≡ Some n
    here true f rest = f
    here false f rest = rest f

stands_last : (ns : MemoryNames) (x : List ℕ) (i : ℕ) → position_from (bytes_eq x) i ns ≡ None → position_from (bytes_eq x) i (ns ++ x ∷ []) ≡ Some (i + length ns)
stands_last [] x i e = ap (λ b. cond b (Some i) None) ((bytes_eq-Decides x x).1 refl) ∙ ap Some (omega arith)
stands_last (y ∷ ns) x i e = here (bytes_eq x y) e (stands_last ns x (i + 1))
  where
    here : (b : Bool) → cond b (Some i) (position_from (bytes_eq x) (i + 1) ns) ≡ None → (position_from (bytes_eq x) (i + 1) ns ≡ None → position_from (bytes_eq x) (i + 1) (ns ++ x ∷ []) ≡ Some (i + 1 + length ns))
        → cond b (Some i) (position_from (bytes_eq x) (i + 1) (ns ++ x ∷ [])) ≡ Some (i + length (y ∷ ns))
    here true f rest = absurd cc
    here false f rest = rest f ∙ ap Some (omega arith)

pub place_last : {V : Type 0} (es fs : List (Bor (List ℕ) × V)) (e : Bor (List ℕ) × V) (n : ℕ) → fs ≡ es ++ e ∷ [] → place_of e.0.now (names_in es) ≡ None → n ≡ length es → place_of e.0.now (names_in fs) ≡ Some n
place_last es fs e n is absent last =
    ap (λ xs. place_of e.0.now (names_in xs)) is
    ∙ ap (place_of e.0.now) (names_more es e)
    ∙ stands_last (names_in es) e.0.now 0 absent
    ∙ ap Some (omega (arith, names_length es, last))

pub places_kept : {V : Type 0} (es fs : List (Bor (List ℕ) × V)) (e : Bor (List ℕ) × V) → fs ≡ es ++ e ∷ [] → KeepsNumbers (names_in es) (names_in fs)
places_kept es fs e is name n at =
    ap (λ xs. place_of name (names_in xs)) is
    ∙ ap (place_of name) (names_more es e)
    ∙ stays (names_in es) e.0.now name 0 n at

pub places_same : {V : Type 0} (es fs : List (Bor (List ℕ) × V)) → fs ≡ es → KeepsNumbers (names_in es) (names_in fs)
places_same es fs is name n at = ap (λ xs. place_of name (names_in xs)) is ∙ at

-- ---- one name at one place

not_before : (ns : MemoryNames) (q : List ℕ) (i n : ℕ) → position_from (bytes_eq q) i ns ≡ Some n → i ≤ n
not_before [] q i n e = absurd cc
not_before (y ∷ ns) q i n e = here (bytes_eq q y) e (not_before ns q (i + 1) n)
  where
    here : (b : Bool) → cond b (Some i) (position_from (bytes_eq q) (i + 1) ns) ≡ Some n → (position_from (bytes_eq q) (i + 1) ns ≡ Some n → i + 1 ≤ n) → i ≤ n
    here true f rest = let same : i ≡ n = cc in omega (arith, same)
    here false f rest = omega (arith, rest f)

one_name : (ns : MemoryNames) (p q : List ℕ) (i n : ℕ) → position_from (bytes_eq p) i ns ≡ Some n → position_from (bytes_eq q) i ns ≡ Some n → p ≡ q
one_name [] p q i n e f = absurd cc
one_name (y ∷ ns) p q i n e f = here (one_name ns p q (i + 1) n) (bytes_eq p y) (bytes_eq q y) refl refl e f
  where
    here : (position_from (bytes_eq p) (i + 1) ns ≡ Some n → position_from (bytes_eq q) (i + 1) ns ≡ Some n → p ≡ q) → (a b : Bool) → bytes_eq p y ≡ a → bytes_eq q y ≡ b → cond a (Some i) (position_from (bytes_eq p) (i + 1) ns) ≡ Some n → cond b (Some i) (position_from (bytes_eq q) (i + 1) ns) ≡ Some n → p ≡ q
    here rest true true s t g h = (bytes_eq-Decides p y).0 s ∙ sym ((bytes_eq-Decides q y).0 t)
    here rest true false s t g h = let same : i ≡ n = cc in absurd (omega (arith, same, not_before ns q (i + 1) n h))
    here rest false true s t g h = let same : i ≡ n = cc in absurd (omega (arith, same, not_before ns p (i + 1) n g))
    here rest false false s t g h = rest g h

pub one_at : (ns : MemoryNames) (p q : List ℕ) (n : ℕ) → place_of p ns ≡ Some n → place_of q ns ≡ Some n → p ≡ q
one_at ns p q n e f = one_name ns p q 0 n e f

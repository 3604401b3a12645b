-- Entries that are added one by one, or import by import.
use Rattle.std.proofs.Common.{◌≡◌, ℕ, zero, suc, ◌+◌, ◌<◌, ◌≤◌, List, [], ◌∷◌, ◌++◌, length, map, take, get_or, Option, Some, None, inl, inr, refl, sym, ap, subst, ◌∙◌, arith, append_assoc, append-nil}
use Rattle.std.specs.List.{slice_get}
use Rattle.std.specs.Option.{option_map}
use Rattle.std.proofs.lemmas.List.{take_all}
use Rattle.std.proofs.lemmas.Option.{slice_get_cases, slice_get_within}
use Rattle.cm_types.specs.Signatures.{NamedExtern}
use Rattle.cm_types_arena.specs.declared.types.Types.{Types}
use Rattle.cm_types_arena.specs.Listed.{externs_listed}
use Rattle.cm_types_arena.specs.declared.named_externs.Externs.{Externs}
use Rattle.cm_wit_conforms.specs.Places.{extern_names, place_in}
use Rattle.cm_wit_conforms.specs.Comparisons.{Entry, entries_from, extern_entries, extern_named}
use Rattle.cm_wit_conforms.specs.Views.{entries_of, extern_found}
use Rattle.cm_wit_conforms.specs.declared.fault.ConformList.{ConformList}
use Rattle.cm_wit_conforms.proofs.PlacedLaws.{extern_there}
use Rattle.cm_wit_conforms.proofs.WalkLaws.{place_at}
use Rattle.cm_lemmas.proofs.Lists.{take_one}

-- ---- the first so many

pub take_none : {E : Type 0} (xs : List E) (n : ℕ) → slice_get xs n ≡ None → take (n + 1) xs ≡ take n xs
take_none {E} xs n h = elim (slice_get_cases xs n).1 [
  | inl f ↦ absurd (none_some f.0 (sym h ∙ f.2))
  | inr p ↦ take_all (n + 1) xs (let le : length xs ≤ n = p.0 in omega (arith, le)) ∙ sym (take_all n xs p.0)
]
  where
    none_some : (e : E) → (let o : Option E = None in o) ≡ Some e → ⊥
    none_some e g = cc

-- more of them behind others
pub one_more : {E : Type 0} (es xs : List E) (n : ℕ) (e : E) → slice_get xs n ≡ Some e → es ++ take (n + 1) xs ≡ (es ++ take n xs) ++ e ∷ []
one_more {E} es xs n e h = ap (λ (l : List E). es ++ l) (take_one xs n e h) ∙ sym (append_assoc es (take n xs) (e ∷ []))

pub none_more : {E : Type 0} (es xs : List E) (n : ℕ) → slice_get xs n ≡ None → es ++ take (n + 1) xs ≡ es ++ take n xs
none_more {E} es xs n h = ap (λ (l : List E). es ++ l) (take_none xs n h)

pub all_taken : {E : Type 0} (es xs : List E) (n : ℕ) → length xs ≤ n → es ++ take n xs ≡ es ++ xs
all_taken {E} es xs n le = ap (λ (l : List E). es ++ l) (take_all n xs le)

-- what holds of the first so many, with what was kept of them
module _ {E S : Type 0} (P : List E → S → Type 0) (es all : List E) (n : ℕ) where
  pub step_some : (e : E) (next was : S) → slice_get all n ≡ Some e → next ≡ was → P ((es ++ take n all) ++ e ∷ []) was → P (es ++ take (n + 1) all) next
  step_some e next was here same h = subst (λ (s : S). P (es ++ take (n + 1) all) s) (sym same) (subst (λ (l : List E). P l was) (sym (one_more es all n e here)) h)

  pub step_none : (next was : S) → slice_get all n ≡ None → next ≡ was → P (es ++ take n all) was → P (es ++ take (n + 1) all) next
  step_none next was here same h = subst (λ (s : S). P (es ++ take (n + 1) all) s) (sym same) (subst (λ (l : List E). P l was) (sym (none_more es all n here)) h)

  pub step_end : (last : S) → length all ≤ n → P (es ++ take n all) last → P (es ++ all) last
  step_end last le h = subst (λ (l : List E). P l last) (all_taken es all n le) h

-- what a comparison that is made says of the entry of its number
pub entry_is : {A E : Type 0} (view : A → E) (result at : Option A) (found : Option E) → option_map view result ≡ found → result ≡ at → found ≡ option_map view at
entry_is view result at found shown is = sym shown ∙ ap (option_map view) is

-- ---- import by import

entries_append : (list : ConformList) (others : List NamedExtern) (i : ℕ) (xs ys : List NamedExtern) → entries_from list others i (xs ++ ys) ≡ entries_from list others i xs ++ entries_from list others (i + length xs) ys
entries_append list others i [] ys = ap (λ (k : ℕ). entries_from list others k ys) (omega arith)
entries_append list others i (x ∷ xs) ys =
    ap (λ (es : List Entry). extern_entries list i (extern_named x.name others) x.desc ++ es)
    (entries_append list others (i + 1) xs ys ∙ ap (λ (k : ℕ). entries_from list others (i + 1) xs ++ entries_from list others k ys) (omega arith))
    ∙ sym (append_assoc (extern_entries list i (extern_named x.name others) x.desc) (entries_from list others (i + 1) xs) (entries_from list others (i + length (x ∷ xs)) ys))

length_taken : {E : Type 0} (xs : List E) (n : ℕ) → n ≤ length xs → length (take n xs) ≡ n
length_taken [] zero le = refl
length_taken [] (suc n) le = absurd (omega (arith, le))
length_taken (x ∷ xs) zero le = refl
length_taken (x ∷ xs) (suc n) le = ap suc (length_taken xs n (omega (arith, le)))

entries_one : (list : ConformList) (others : List NamedExtern) (n : ℕ) (xs : List NamedExtern) (x : NamedExtern) → slice_get xs n ≡ Some x → entries_from list others 0 (take (n + 1) xs) ≡ entries_from list others 0 (take n xs) ++ extern_entries list n (extern_named x.name others) x.desc
entries_one list others n xs x h =
    let lt : n < length xs = slice_get_within xs n x h in
    let long : length (take n xs) ≡ n = length_taken xs n (omega (arith, lt)) in
    ap (entries_from list others 0) (take_one xs n x h)
    ∙ (entries_append list others 0 (take n xs) (x ∷ [])
    ∙ ap (λ (es : List Entry). entries_from list others 0 (take n xs) ++ es)
    (append-nil (extern_entries list (0 + length (take n xs)) (extern_named x.name others) x.desc)
    ∙ ap (λ (k : ℕ). extern_entries list k (extern_named x.name others) x.desc) (omega (arith, long))))

-- those of one more import or export
pub externs_more : (mine theirs : Types) (list : ConformList) (es : List Entry) (n : ℕ) (externs others : Externs) (places : List (Option ℕ)) (d : Option ℕ) → n < length places → places ≡ map (place_in (extern_names theirs others)) (extern_names mine externs)
    → es ++ entries_from list (externs_listed theirs others) 0 (take (n + 1) (externs_listed mine externs)) ≡ (es ++ entries_from list (externs_listed theirs others) 0 (take n (externs_listed mine externs))) ++ entries_of list n (extern_found theirs others (get_or places n d)) (option_map (λ e. e.desc) (slice_get (externs_listed mine externs) n))
externs_more mine theirs list es n externs others places d lt e =
    let name = λ (x : NamedExtern). x.name in
    let f = place_in (extern_names theirs others) in
    let listed = externs_listed mine externs in
    let behind = externs_listed theirs others in
    let p = place_at name f listed n d (subst (λ (l : List (Option ℕ)). n < length l) e lt) in
    let found : extern_named p.0.name behind ≡ extern_found theirs others (get_or places n d) =
    extern_there theirs others p.0.name ∙ ap (extern_found theirs others) (sym p.3 ∙ ap (λ (l : List (Option ℕ)). get_or l n d) (sym e)) in
    ap (λ (l : List Entry). es ++ l) (entries_one list behind n listed p.0 p.1
    ∙ ap (λ o. entries_from list behind 0 (take n listed) ++ extern_entries list n o p.0.desc) found
    ∙ ap (λ o. entries_from list behind 0 (take n listed) ++ entries_of list n (extern_found theirs others (get_or places n d)) (option_map (λ (x : NamedExtern). x.desc) o)) (sym p.1))
    ∙ sym (append_assoc es (entries_from list behind 0 (take n listed)) (entries_of list n (extern_found theirs others (get_or places n d)) (option_map (λ (x : NamedExtern). x.desc) (slice_get listed n))))

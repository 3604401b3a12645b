-- What a table tells, and tables with one text more.
use Rattle.std.proofs.Common.{◌≡◌, ℕ, zero, suc, ◌+◌, Bool, true, false, ◌||◌, List, [], ◌∷◌, ◌++◌, length, get_or, slice_get, Option, Some, None, is_some, IfSome, refl, sym, ap, ◌∙◌, subst, inl, inr, if◌then◌else◌}
use Rattle.std.proofs.lemmas.Bool.{cases_Bool}
use Rattle.std.proofs.lemmas.Slice.Eq.{bytes_eq-Decides}
use Rattle.std.specs.BTreeMap.{BTreeMap, get_by_text}
use Rattle.std.specs.List.{list_any}
use Rattle.std.specs.Option.{option_map_or, option_or}
use Rattle.std.specs.Str.{bytes_eq}
use Rattle.std.specs.declared.alloc.Global.{Global}
use Rattle.std.specs.declared.string.String.{String}
use Rattle.cm_names.specs.Finding.{IsFound, IsFoundOf, KeepsFound, KeepsFoundOf, found, found_at, found_from, is_text, marked, window}
use Rattle.cm_names.specs.Hash.{home_of}
use Rattle.cm_names.specs.MarkedTexts.{IsTable, PutsLast, looked_up}
use Rattle.cm_names.proofs.FindingLaws.{found_by, kept_from}
use Rattle.cm_lemmas.proofs.Lists.{any_there, old_or_last}
use Rattle.cm_lemmas.proofs.Options.{none_some, some_is}

-- ---- texts by number

pub text_there : (ts : List (List ℕ)) (t : List ℕ) (n : ℕ) → is_text ts t n ≡ true → slice_get ts n ≡ Some t
text_there ts t n h = here (slice_get ts n) refl h
  where
    here : (o : Option (List ℕ)) → slice_get ts n ≡ o → option_map_or (bytes_eq t) o false ≡ true → slice_get ts n ≡ Some t
    here None e h = absurd cc
    here (Some x) e h = e ∙ ap (λ (y : List ℕ). Some y) (sym ((bytes_eq-Decides t x).0 h))

pub there_text : (ts : List (List ℕ)) (t : List ℕ) (n : ℕ) → slice_get ts n ≡ Some t → is_text ts t n ≡ true
there_text ts t n e = ap (λ o. option_map_or (bytes_eq t) o false) e ∙ (bytes_eq-Decides t t).1 refl

pub front_there : (ts us : List (List ℕ)) (n : ℕ) (t : List ℕ) → slice_get ts n ≡ Some t → slice_get (ts ++ us) n ≡ Some t
front_there [] us n t e = none_some t e
front_there (x ∷ ts) us zero t e = e
front_there (x ∷ ts) us (suc n) t e = front_there ts us n t e

pub last_there : (ts : List (List ℕ)) (t : List ℕ) → slice_get (ts ++ t ∷ []) (length ts) ≡ Some t
last_there [] t = refl
last_there (x ∷ ts) t = last_there ts t

there_any : (ts : List (List ℕ)) (t : List ℕ) → list_any (bytes_eq t) ts ≡ true → (n : ℕ) × (slice_get ts n ≡ Some t)
there_any [] t h = absurd cc
there_any (x ∷ ts) t h = here (bytes_eq t x) refl h (there_any ts t)
  where
    here : (b : Bool) → bytes_eq t x ≡ b → (b || list_any (bytes_eq t) ts) ≡ true → (list_any (bytes_eq t) ts ≡ true → (n : ℕ) × (slice_get ts n ≡ Some t)) → (n : ℕ) × (slice_get (x ∷ ts) n ≡ Some t)
    here true e h rest = (zero, ap (λ (y : List ℕ). Some y) (sym ((bytes_eq-Decides t x).0 e)))
    here false e h rest = let w = rest h in (suc w.0, w.1)

-- ---- what a table tells

found_is : (ms : List ℕ) (ts : List (List ℕ)) (t : List ℕ) (i c n : ℕ) → found_from ms ts t i c ≡ Some n → is_text ts t n ≡ true
found_is ms ts t i zero n e = none_some n e
found_is ms ts t i (suc c) n e = by_mark (marked (get_or ms i 0)) e (found_is ms ts t (i + 1) c n)
  where
    by_text : (m : ℕ) (b : Bool) → is_text ts t m ≡ b → (if b then Some m else found_from ms ts t (i + 1) c) ≡ Some n → (found_from ms ts t (i + 1) c ≡ Some n → is_text ts t n ≡ true) → is_text ts t n ≡ true
    by_text m true f e rest = subst (λ k. is_text ts t k ≡ true) (some_is m n e) f
    by_text m false f e rest = rest e

    by_mark : (o : Option ℕ) → found_at ts t o (found_from ms ts t (i + 1) c) ≡ Some n → (found_from ms ts t (i + 1) c ≡ Some n → is_text ts t n ≡ true) → is_text ts t n ≡ true
    by_mark None e rest = none_some n e
    by_mark (Some m) e rest = by_text m (is_text ts t m) refl e rest

module _ (ms : List ℕ) (ts : List (List ℕ)) (rest : BTreeMap (String Global) ℕ) (k : IsTable ms ts rest) (t : List ℕ) where
  pub told : (n : ℕ) → looked_up ms ts rest t ≡ Some n → slice_get ts n ≡ Some t
  told n e = here (found ms ts t) refl e
    where
      here : (o : Option ℕ) → found ms ts t ≡ o → option_or o (get_by_text rest t) ≡ Some n → slice_get ts n ≡ Some t
      here None f e = k.sound t n e
      here (Some m) f e = text_there ts t n (found_is ms ts t (home_of t (length ms)) window n (sym (found_by ms ts t) ∙ (f ∙ e)))

  pub told_if : (o : Option ℕ) → o ≡ looked_up ms ts rest t → IfSome o (λ n. slice_get ts n ≡ Some t)
  told_if None e = tt
  told_if (Some n) e = told n (sym e)

  pub knows : is_some (looked_up ms ts rest t) ≡ list_any (bytes_eq t) ts
  knows = elim (cases_Bool (list_any (bytes_eq t) ts)) [
    | inl y ↦ let w = there_any ts t y in k.complete t w.0 w.1 ∙ sym y
    | inr n ↦ here (looked_up ms ts rest t) refl n
  ]
    where
      here : (o : Option ℕ) → looked_up ms ts rest t ≡ o → list_any (bytes_eq t) ts ≡ false → is_some o ≡ list_any (bytes_eq t) ts
      here None e n = sym n
      here (Some m) e n = sym (any_there ts t m (told m e))

-- ---- other marks, and more texts

more_texts : (ts us : List (List ℕ)) (u : List ℕ) (m : ℕ) → is_text ts u m ≡ true → is_text (ts ++ us) u m ≡ true
more_texts ts us u m h = there_text (ts ++ us) u m (front_there ts us m u (text_there ts u m h))

found_more : (ms : List ℕ) (ts us : List (List ℕ)) (u : List ℕ) → is_some (found ms ts u) ≡ true → is_some (found ms (ts ++ us) u) ≡ true
found_more ms ts us u h =
    ap is_some (found_by ms (ts ++ us) u)
    ∙ kept_from ms ms ts (ts ++ us) u (λ i m e. e) (more_texts ts us u) (home_of u (length ms)) window (ap is_some (sym (found_by ms ts u)) ∙ h)

-- what is found stays so where the marks, and what the tree has, stay
looked : (o p q r : Option ℕ) → (is_some o ≡ true → is_some p ≡ true) → (is_some q ≡ true → is_some r ≡ true) → is_some (option_or o q) ≡ true → is_some (option_or p r) ≡ true
looked None None q r f g h = g h
looked None (Some y) q r f g h = refl
looked (Some x) None q r f g h = absurd (let e = f refl in cc)
looked (Some x) (Some y) q r f g h = refl

pub table_kept : (ms ns : List ℕ) (ts : List (List ℕ)) (rest more : BTreeMap (String Global) ℕ) → KeepsFoundOf ts ms ns → ((t : List ℕ) → get_by_text more t ≡ get_by_text rest t) → IsTable ms ts rest → IsTable ns ts more
table_kept ms ns ts rest more f g k = record {
  sound = λ t n e. k.sound t n (sym (g t) ∙ e);
  complete = λ t n e. looked (found ms ts t) (found ns ts t) (get_by_text rest t) (get_by_text more t) (f t) (λ h. ap is_some (g t) ∙ h) (k.complete t n e);
}

-- a text more, which is found by its mark
pub table_marked : (ms ns : List ℕ) (ts : List (List ℕ)) (rest : BTreeMap (String Global) ℕ) (t : List ℕ) → KeepsFound ms ns → IsFound ns t (length ts) → IsTable ms ts rest → IsTable ns (ts ++ t ∷ []) rest
table_marked ms ns ts rest t f new k = record {
  sound = λ u n e. front_there ts (t ∷ []) n u (k.sound u n e);
  complete = λ u n e. elim (old_or_last ts t n u e) [
    | inl h ↦ looked (found ms ts u) (found ns (ts ++ t ∷ []) u) (get_by_text rest u) (get_by_text rest u) (λ g. found_more ns ts (t ∷ []) u (f ts u g)) (λ g. g) (k.complete u n h)
    | inr h ↦
        let there : is_some (found ns (ts ++ t ∷ []) t) ≡ true = new (ts ++ t ∷ []) (there_text (ts ++ t ∷ []) t (length ts) (last_there ts t)) in
        looked (found ns (ts ++ t ∷ []) u) (found ns (ts ++ t ∷ []) u) None (get_by_text rest u) (λ g. g) (λ g. absurd cc) (first (found ns (ts ++ t ∷ []) u) (ap (λ v. is_some (found ns (ts ++ t ∷ []) v)) h.1 ∙ there))
  ];
}
  where
    first : (o : Option ℕ) → is_some o ≡ true → is_some (option_or o None) ≡ true
    first None e = e
    first (Some x) e = refl

-- a text more, which is put into the tree
put_keeps : (b : Bool) (n : ℕ) (o : Option ℕ) → is_some o ≡ true → is_some (if b then Some n else o) ≡ true
put_keeps true n o h = refl
put_keeps false n o h = h

pub table_aside : (ms ns : List ℕ) (ts : List (List ℕ)) (rest more : BTreeMap (String Global) ℕ) (t : List ℕ) → KeepsFound ms ns → PutsLast t (length ts) rest more → IsTable ms ts rest → IsTable ns (ts ++ t ∷ []) more
table_aside ms ns ts rest more t f put k = record {
  sound = λ u n e. at_text u n (bytes_eq t u) refl (sym (put u) ∙ e);
  complete = λ u n e. elim (old_or_last ts t n u e) [
    | inl h ↦ looked (found ms ts u) (found ns (ts ++ t ∷ []) u) (get_by_text rest u) (get_by_text more u) (λ g. found_more ns ts (t ∷ []) u (f ts u g)) (λ g. ap is_some (put u) ∙ put_keeps (bytes_eq t u) (length ts) (get_by_text rest u) g) (k.complete u n h)
    | inr h ↦
        let same : bytes_eq t u ≡ true = (bytes_eq-Decides t u).1 (sym h.1) in
        looked None (found ns (ts ++ t ∷ []) u) (Some (length ts)) (get_by_text more u) (λ g. absurd cc) (λ g. ap is_some (put u ∙ ap (λ b. if b then Some (length ts) else get_by_text rest u) same)) refl
  ];
}
  where
    at_text : (u : List ℕ) (n : ℕ) (b : Bool) → bytes_eq t u ≡ b → (if b then Some (length ts) else get_by_text rest u) ≡ Some n → slice_get (ts ++ t ∷ []) n ≡ Some u
    at_text u n true e h =
        subst (λ m. slice_get (ts ++ t ∷ []) m ≡ Some u) (some_is (length ts) n h) (last_there ts t ∙ ap (λ (y : List ℕ). Some y) ((bytes_eq-Decides t u).0 e))
    at_text u n false e h = front_there ts (t ∷ []) n u (k.sound u n h)

-- ---- a text that is marked again

pub again_some : (ts : List (List ℕ)) (ns : List ℕ) (n : ℕ) (x : List ℕ) → slice_get ts n ≡ Some x → IsFound ns x n → IsFoundOf ts ns n
again_some ts ns n x e f = λ u is.
    let s : x ≡ u = some_is x u (sym e ∙ text_there ts u n is) in
    subst (λ v. is_some (found ns ts v) ≡ true) s (f ts (there_text ts x n e))

pub again_none : (ts : List (List ℕ)) (ns : List ℕ) (n : ℕ) → slice_get ts n ≡ None → IsFoundOf ts ns n
again_none ts ns n e = λ u is. none_some u (sym e ∙ text_there ts u n is)

pub at_some : (P : ℕ → Type 0) (o : Option ℕ) (n : ℕ) → o ≡ Some n → P n → IfSome o P
at_some P o n e p = subst (λ (q : Option ℕ). IfSome q P) (sym e) p

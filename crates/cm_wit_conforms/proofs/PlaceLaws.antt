-- Names are found by their parts exactly where they are found by their texts.
use Rattle.std.proofs.Common.{◌≡◌, ℕ, zero, suc, ◌+◌, ◌<◌, ◌==◌, Bool, cond, if◌then◌else◌, List, [], ◌∷◌, length, map, get_or, inl, inr, Option, Some, None, refl, sym, ap, ◌∙◌, arith}
use Rattle.std.specs.List.{AllByRecursion, position_from}
use Rattle.std.specs.Option.{option_and_then, unwrap_or}
use Rattle.std.specs.Str.{bytes_eq}
use Rattle.std.proofs.lemmas.Bool.{cases_Bool, and_from}
use Rattle.cm_types.specs.ExternNames.{HasLabels, NameTree, constructor, form_of, interface, method, name_spelling, plain, static}
use Rattle.cm_names.specs.Keys.{Key, first_key, is_key}
use Rattle.cm_wit_conforms.specs.Parts.{FrontKey, back_of, front_of, parts_of}
use Rattle.cm_wit_conforms.specs.PartViews.{front_at, front_view, parts_in}
use Rattle.cm_wit_conforms.specs.Numbers.{first_of, number_in, second_of, version_of}
use Rattle.cm_wit_conforms.specs.Places.{back_key, found_by, place_in}
use Rattle.cm_wit_conforms.specs.declared.parts.FrontParts.{FrontParts}
use Rattle.cm_wit_conforms.specs.declared.parts.NameParts.{NameParts}
use Rattle.cm_wit_conforms.proofs.NumberLaws.{has_number, one_front}
use Rattle.cm_lemmas.proofs.Bools.{bools, both_left, both_right}
use Rattle.cm_lemmas.proofs.Options.{none_number, some_number}
use Rattle.cm_lemmas.proofs.Numbers.{eq_true, eq_of}
use Rattle.cm_lemmas.proofs.Lists.{same_text, text_same}

-- ---- names are what their parts are

tree_back : FrontKey → List ℕ → NameTree
tree_back f b =
    if f.form == 0 then plain b
    else if f.form == 1 then method f.first b
    else if f.form == 2 then static f.first b
    else if f.form == 3 then constructor f.first
    else if f.form == 4 then interface f.first f.second b None
    else interface f.first f.second b (Some f.version)

parts_back : (t : NameTree) → tree_back (front_of t) (back_of t) ≡ t
unfolding tree_back
parts_back (plain l) = refl
parts_back (method r m) = refl
parts_back (static r m) = refl
parts_back (constructor r) = refl
parts_back (interface ns pkg l None) = refl
parts_back (interface ns pkg l (Some v)) = refl

one_name : (s t : NameTree) → front_of s ≡ front_of t → back_of s ≡ back_of t → s ≡ t
one_name s t f b =
    sym (parts_back s) ∙ (ap (λ (k : FrontKey). tree_back k (back_of s)) f ∙ (ap (tree_back (front_of t)) b ∙ parts_back t))

some_tree : (s t : NameTree) → Some s ≡ Some t → s ≡ t
some_tree s t e = cc

abbrev pub Forms : Type 0
Forms = (t : NameTree) → HasLabels t → form_of (name_spelling t) ≡ Some t

one_tree : Forms → (s t : NameTree) → HasLabels s → HasLabels t → name_spelling s ≡ name_spelling t → s ≡ t
one_tree forms s t hs ht e = some_tree s t (sym (forms s hs) ∙ (ap form_of e ∙ forms t ht))

-- ---- tests, lists

some_of : {X : Type 0} (xs : List X) (k : ℕ) → k < length xs → X
some_of [] k lt = absurd (omega (arith, lt))
some_of (x ∷ xs) k lt = x

mapped_at : (N : FrontKey → Option ℕ) (fs : List FrontParts) (k : ℕ) → k < length fs → get_or (map (λ f. N (front_view f)) fs) k None ≡ N (front_at (map front_view fs) k)
mapped_at N [] k lt = absurd (omega (arith, lt))
mapped_at N (f ∷ fs) zero lt = refl
mapped_at N (f ∷ fs) (suc k) lt = mapped_at N fs k (omega (arith, lt))

view_at : (fs : List FrontParts) (k : ℕ) (d : FrontParts) → k < length fs → front_view (get_or fs k d) ≡ front_at (map front_view fs) k
view_at [] k d lt = absurd (omega (arith, lt))
view_at (f ∷ fs) zero d lt = refl
view_at (f ∷ fs) (suc k) d lt = view_at fs k d (omega (arith, lt))

abbrev Parts : Type 0
Parts = FrontKey × List ℕ

heads : (x y : Parts) (xs ys : List Parts) → x ∷ xs ≡ y ∷ ys → x ≡ y
heads x y xs ys e = cc

tails : (x y : Parts) (xs ys : List Parts) → x ∷ xs ≡ y ∷ ys → xs ≡ ys
tails x y xs ys e = cc

no_cons : (x : Parts) (xs : List Parts) → [] ≡ x ∷ xs → ⊥
no_cons x xs e = cc

-- ---- one listing in another

module _ (forms : Forms) (fs : List FrontParts) (firsts seconds versions : List Key)
    (e1 : firsts ≡ map (λ x. first_of (front_view x)) fs)
    (e2 : seconds ≡ map (λ x. second_of firsts (front_view x)) fs)
    (e3 : versions ≡ map (λ x. version_of firsts seconds (front_view x)) fs)
    (numbers : List (Option ℕ))
    (e4 : numbers ≡ map (λ f. number_in firsts seconds versions (front_view f)) fs) where
  abbrev number : FrontKey → Option ℕ
  number f = number_in firsts seconds versions f

  abbrev Within : NameParts → Type 0
  Within n = n.front < length fs

  -- a name among those that are listed, by its tree
  abbrev Is : NameParts → NameTree → Type 0
  Is n t = parts_in (map front_view fs) n ≡ parts_of t

  its_number : (n : NameParts) (t : NameTree) → Is n t → Within n → (k : ℕ) × (number (front_of t) ≡ Some k) × (get_or numbers n.front None ≡ Some k)
  its_number n t is lt =
      let d = some_of fs n.front lt in
      let h = has_number front_view fs firsts seconds versions e1 e2 e3 n.front d lt in
      let front : front_view (get_or fs n.front d) ≡ front_of t = view_at fs n.front d lt ∙ ap (λ (p : Parts). p.0) is in
      let there : number (front_of t) ≡ Some h.0 = sym (ap number front) ∙ h.1 in
      (h.0, there, ap (λ (l : List (Option ℕ)). get_or l n.front None) e4 ∙ (mapped_at number fs n.front lt ∙ (ap number (ap (λ (p : Parts). p.0) is) ∙ there)))

  same_test : (x t : NameTree) (m : ℕ) (n : NameParts) → HasLabels x → HasLabels t → number (front_of x) ≡ Some m → Is n t → Within n → is_key m (back_of x) (back_key numbers n) ≡ bytes_eq (name_spelling x) (name_spelling t)
  same_test x t m n hx ht has is lt =
      let k = its_number n t is lt in
      let at : (back_key numbers n).0 ≡ k.0 = ap (λ (o : Option ℕ). unwrap_or o 0) k.2 in
      let back : n.back.now ≡ back_of t = ap (λ (p : Parts). p.1) is in
      bools (is_key m (back_of x) (back_key numbers n)) (bytes_eq (name_spelling x) (name_spelling t))
      (λ h.
      let first : m ≡ k.0 = eq_of m (back_key numbers n).0 (both_left (m == (back_key numbers n).0) (bytes_eq (back_of x) n.back.now) h) ∙ at in
      let second : back_of x ≡ back_of t = same_text (back_of x) n.back.now (both_right (m == (back_key numbers n).0) (bytes_eq (back_of x) n.back.now) h) ∙ back in
      let front : front_of x ≡ front_of t = one_front front_view fs firsts seconds versions e1 e2 e3 (front_of x) (front_of t) m has (k.1 ∙ ap (λ (i : ℕ). let o : Option ℕ = Some i in o) (sym first)) in
      text_same (name_spelling x) (name_spelling t) (ap name_spelling (one_name x t front second)))
      (λ h.
      let one : x ≡ t = one_tree forms x t hx ht (same_text (name_spelling x) (name_spelling t) h) in
      let first : m ≡ k.0 = some_number m k.0 (sym has ∙ (ap (λ (s : NameTree). number (front_of s)) one ∙ k.1)) in
      and_from (m == (back_key numbers n).0) (bytes_eq (back_of x) n.back.now) (eq_true m (back_key numbers n).0 (first ∙ sym at)) (text_same (back_of x) n.back.now (ap back_of one ∙ sym back)))

  found_same : (x : NameTree) (m : ℕ) → HasLabels x → number (front_of x) ≡ Some m → (ns : List NameParts) (ts : List NameTree) → map (parts_in (map front_view fs)) ns ≡ map parts_of ts → AllByRecursion Within ns → AllByRecursion HasLabels ts → (i : ℕ) → position_from (is_key m (back_of x)) i (map (back_key numbers) ns) ≡ position_from (bytes_eq (name_spelling x)) i (map name_spelling ts)
  found_same x m hx has [] [] e w l i = refl
  found_same x m hx has [] (t ∷ ts) e w l i = absurd (no_cons (parts_of t) (map parts_of ts) e)
  found_same x m hx has (n ∷ ns) [] e w l i = absurd (no_cons (parts_in (map front_view fs) n) (map (parts_in (map front_view fs)) ns) (sym e))
  found_same x m hx has (n ∷ ns) (t ∷ ts) e w l i =
      let is = heads (parts_in (map front_view fs) n) (parts_of t) (map (parts_in (map front_view fs)) ns) (map parts_of ts) e in
      let rest = tails (parts_in (map front_view fs) n) (parts_of t) (map (parts_in (map front_view fs)) ns) (map parts_of ts) e in
      ap (λ (b : Bool). cond b (Some i) (position_from (is_key m (back_of x)) (i + 1) (map (back_key numbers) ns))) (same_test x t m n hx l.0 has is w.0)
      ∙ ap (λ (o : Option ℕ). cond (bytes_eq (name_spelling x) (name_spelling t)) (Some i) o) (found_same x m hx has ns ts rest w.1 l.1 (i + 1))

  none_same : (x : NameTree) → HasLabels x → number (front_of x) ≡ None → (ns : List NameParts) (ts : List NameTree) → map (parts_in (map front_view fs)) ns ≡ map parts_of ts → AllByRecursion Within ns → AllByRecursion HasLabels ts → (i : ℕ) → position_from (bytes_eq (name_spelling x)) i (map name_spelling ts) ≡ None
  none_same x hx has [] [] e w l i = refl
  none_same x hx has [] (t ∷ ts) e w l i = absurd (no_cons (parts_of t) (map parts_of ts) e)
  none_same x hx has (n ∷ ns) [] e w l i = absurd (no_cons (parts_in (map front_view fs) n) (map (parts_in (map front_view fs)) ns) (sym e))
  none_same x hx has (n ∷ ns) (t ∷ ts) e w l i =
      let is = heads (parts_in (map front_view fs) n) (parts_of t) (map (parts_in (map front_view fs)) ns) (map parts_of ts) e in
      let rest = tails (parts_in (map front_view fs) n) (parts_of t) (map (parts_in (map front_view fs)) ns) (map parts_of ts) e in
      elim (cases_Bool (bytes_eq (name_spelling x) (name_spelling t))) [
        | inl h ↦
            let k = its_number n t is w.0 in
            let one : x ≡ t = one_tree forms x t hx l.0 (same_text (name_spelling x) (name_spelling t) h) in
            absurd (none_number k.0 (sym has ∙ (ap (λ (s : NameTree). number (front_of s)) one ∙ k.1)))
        | inr h ↦ ap (λ (b : Bool). cond b (Some i) (position_from (bytes_eq (name_spelling x)) (i + 1) (map name_spelling ts))) h ∙ none_same x hx has ns ts rest w.1 l.1 (i + 1)
      ]

  module _ (names : List NameParts) (trees : List NameTree) (theirs : List (List ℕ)) (is : map (parts_in (map front_view fs)) names ≡ map parts_of trees) (within : AllByRecursion Within names) (labels : AllByRecursion HasLabels trees) (spelled : map name_spelling trees ≡ theirs) (keys : List Key) (e5 : keys ≡ map (back_key numbers) names)
      (own : List FrontParts) (wanted : List (Option ℕ)) (e6 : wanted ≡ map (λ f. number_in firsts seconds versions (front_view f)) own) where
    one_found : (x : NameTree) (n : NameParts) → HasLabels x → parts_in (map front_view own) n ≡ parts_of x → n.front < length own → found_by wanted keys n ≡ place_in theirs (name_spelling x)
    one_found x n hx e lt = by (number (front_of x)) refl
      where
        at : get_or wanted n.front None ≡ number (front_of x)
        at = ap (λ (l : List (Option ℕ)). get_or l n.front None) e6 ∙ (mapped_at number own n.front lt ∙ ap number (ap (λ (p : Parts). p.0) e))

        by : (o : Option ℕ) → number (front_of x) ≡ o → found_by wanted keys n ≡ place_in theirs (name_spelling x)
        by None has =
            ap (option_and_then (λ k. first_key keys k n.back.now)) (at ∙ has)
            ∙ sym (ap (λ (ts : List (List ℕ)). place_in ts (name_spelling x)) (sym spelled) ∙ none_same x hx has names trees is within labels 0)
        by (Some m) has =
            ap (option_and_then (λ k. first_key keys k n.back.now)) (at ∙ has)
            ∙ (ap (λ (l : List Key). first_key l m n.back.now) e5
            ∙ (ap (λ (b : List ℕ). first_key (map (back_key numbers) names) m b) (ap (λ (p : Parts). p.1) e)
            ∙ (found_same x m hx has names trees is within labels 0 ∙ ap (λ (ts : List (List ℕ)). place_in ts (name_spelling x)) spelled)))

    pub all_places : (ns : List NameParts) (ts : List NameTree) → map (parts_in (map front_view own)) ns ≡ map parts_of ts → AllByRecursion (λ n. n.front < length own) ns → AllByRecursion HasLabels ts → map (found_by wanted keys) ns ≡ map (place_in theirs) (map name_spelling ts)
    all_places [] [] e w l = refl
    all_places [] (t ∷ ts) e w l = absurd (no_cons (parts_of t) (map parts_of ts) e)
    all_places (n ∷ ns) [] e w l = absurd (no_cons (parts_in (map front_view own) n) (map (parts_in (map front_view own)) ns) (sym e))
    all_places (n ∷ ns) (t ∷ ts) e w l =
        let here = heads (parts_in (map front_view own) n) (parts_of t) (map (parts_in (map front_view own)) ns) (map parts_of ts) e in
        let rest = tails (parts_in (map front_view own) n) (parts_of t) (map (parts_in (map front_view own)) ns) (map parts_of ts) e in
        ap (λ (o : Option ℕ). o ∷ map (found_by wanted keys) ns) (one_found t n l.0 here w.0)
        ∙ ap (λ (os : List (Option ℕ)). place_in theirs (name_spelling t) ∷ os) (all_places ns ts rest w.1 l.1)

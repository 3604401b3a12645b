-- What was found in a list, element by element.
use Rattle.std.proofs.Common.{◌≡◌, ℕ, ◌+◌, ◌<◌, ◌≤◌, Bool, true, false, cond, if◌then◌else◌, List, [], ◌∷◌, ◌++◌, length, drop, get_or, Option, Some, None, refl, sym, ap, ◌∙◌, append_assoc, append-nil}
use Rattle.std.specs.BTreeMap.{BTreeMap, get}
use Rattle.std.specs.List.{cons_option, filter_map, position_from}
use Rattle.std.specs.Option.{option_or}
use Rattle.std.specs.Ordering.{nat_cmp}
use Rattle.std.proofs.lemmas.List.{drop_all}
use Rattle.cm_wit_conforms.specs.Hits.{is_place, repeats_from}
use Rattle.cm_lemmas.proofs.Lists.{rest_from}
use Rattle.cm_lemmas.proofs.Options.{or_none}

-- ---- the places that repeat

-- These repeat, and with those of the rest all are made.
pub record Repeats (fs : List (Option ℕ)) (i : ℕ) (out : List ℕ) : Type 0 where
  pub is : out ++ repeats_from i (drop i fs) ≡ repeats_from 0 fs

pub repeats_start : (fs : List (Option ℕ)) → Repeats fs 0 []
repeats_start fs = record { is = refl }

pub repeats_first : (fs : List (Option ℕ)) (i : ℕ) (out : List ℕ) (f : Option ℕ) → i < length fs → f ≡ get_or fs i f → is_place i f ≡ true → Repeats fs i out → Repeats fs (i + 1) out
repeats_first fs i out f lt e t r = record {
  is = sym (ap (λ (b : Bool). out ++ (if b then repeats_from (i + 1) (drop (i + 1) fs) else i ∷ repeats_from (i + 1) (drop (i + 1) fs))) t)
      ∙ (sym (ap (λ (gs : List (Option ℕ)). out ++ repeats_from i gs) (rest_from fs i f lt e)) ∙ r.is);
}

pub repeats_more : (fs : List (Option ℕ)) (i : ℕ) (out : List ℕ) (f : Option ℕ) → i < length fs → f ≡ get_or fs i f → is_place i f ≡ false → Repeats fs i out → Repeats fs (i + 1) (out ++ i ∷ [])
repeats_more fs i out f lt e t r = record {
  is = append_assoc out (i ∷ []) (repeats_from (i + 1) (drop (i + 1) fs))
      ∙ (sym (ap (λ (b : Bool). out ++ (if b then repeats_from (i + 1) (drop (i + 1) fs) else i ∷ repeats_from (i + 1) (drop (i + 1) fs))) t)
      ∙ (sym (ap (λ (gs : List (Option ℕ)). out ++ repeats_from i gs) (rest_from fs i f lt e)) ∙ r.is));
}

pub repeats_end : (fs : List (Option ℕ)) (i : ℕ) (out : List ℕ) → length fs ≤ i → Repeats fs i out → out ≡ repeats_from 0 fs
repeats_end fs i out le r = sym (append-nil out) ∙ (sym (ap (λ (gs : List (Option ℕ)). out ++ repeats_from i gs) (drop_all i fs le)) ∙ r.is)

pub ruleset repeat_laws = (repeats_start, repeats_first, repeats_more, repeats_end)

-- ---- the places that are found

-- These are found, and with those of the rest all are made.
pub record Finds (fs : List (Option ℕ)) (i : ℕ) (out : List ℕ) : Type 0 where
  pub is : out ++ filter_map (λ f. f) (drop i fs) ≡ filter_map (λ f. f) fs

pub finds_start : (fs : List (Option ℕ)) → Finds fs 0 []
finds_start fs = record { is = refl }

pub finds_some : (fs : List (Option ℕ)) (i : ℕ) (out : List ℕ) (f : Option ℕ) (n : ℕ) → i < length fs → f ≡ get_or fs i f → f ≡ Some n → Finds fs i out → Finds fs (i + 1) (out ++ n ∷ [])
finds_some fs i out f n lt e s r = record {
  is = append_assoc out (n ∷ []) (filter_map (λ f. f) (drop (i + 1) fs))
      ∙ (sym (ap (λ (o : Option ℕ). out ++ cons_option o (filter_map (λ f. f) (drop (i + 1) fs))) s)
      ∙ (sym (ap (λ (gs : List (Option ℕ)). out ++ filter_map (λ f. f) gs) (rest_from fs i f lt e)) ∙ r.is));
}

pub finds_none : (fs : List (Option ℕ)) (i : ℕ) (out : List ℕ) (f : Option ℕ) → i < length fs → f ≡ get_or fs i f → f ≡ None → Finds fs i out → Finds fs (i + 1) out
finds_none fs i out f lt e s r = record {
  is = sym (ap (λ (o : Option ℕ). out ++ cons_option o (filter_map (λ f. f) (drop (i + 1) fs))) s)
      ∙ (sym (ap (λ (gs : List (Option ℕ)). out ++ filter_map (λ f. f) gs) (rest_from fs i f lt e)) ∙ r.is);
}

pub finds_end : (fs : List (Option ℕ)) (i : ℕ) (out : List ℕ) → length fs ≤ i → Finds fs i out → out ≡ filter_map (λ f. f) fs
finds_end fs i out le r = sym (append-nil out) ∙ (sym (ap (λ (gs : List (Option ℕ)). out ++ filter_map (λ f. f) gs) (drop_all i fs le)) ∙ r.is)

pub ruleset find_laws = (finds_start, finds_some, finds_none, finds_end)

-- ---- where places are found first

later : (a : Option ℕ) (t : Bool) (i : ℕ) (rest : Option ℕ) → option_or a (cond t (Some i) rest) ≡ option_or (option_or a (if t then Some i else None)) rest
later None true i rest = refl
later None false i rest = refl
later (Some x) t i rest = refl

-- The first that was found there is what the table has, or else the first among those to come.
pub record Seeks (fs : List (Option ℕ)) (i : ℕ) (hits : BTreeMap ℕ ℕ) : Type 0 where
  pub is : (p : ℕ) → position_from (is_place p) 0 fs ≡ option_or (get nat_cmp hits p) (position_from (is_place p) i (drop i fs))

pub seeks_start : (fs : List (Option ℕ)) (hits : BTreeMap ℕ ℕ) → ((p : ℕ) → get nat_cmp hits p ≡ None) → Seeks fs 0 hits
seeks_start fs hits none = record { is = λ p. sym (ap (λ (o : Option ℕ). option_or o (position_from (is_place p) 0 fs)) (none p)) }

pub seeks_step : (fs : List (Option ℕ)) (i : ℕ) (f : Option ℕ) (old new : BTreeMap ℕ ℕ) → i < length fs → f ≡ get_or fs i f → Seeks fs i old → ((p : ℕ) → get nat_cmp new p ≡ option_or (get nat_cmp old p) (if is_place p f then Some i else None)) → Seeks fs (i + 1) new
seeks_step fs i f old new lt e s noted = record {
  is = λ p.
      s.is p
      ∙ ap (λ (gs : List (Option ℕ)). option_or (get nat_cmp old p) (position_from (is_place p) i gs)) (rest_from fs i f lt e)
      ∙ later (get nat_cmp old p) (is_place p f) i (position_from (is_place p) (i + 1) (drop (i + 1) fs))
      ∙ ap (λ (o : Option ℕ). option_or o (position_from (is_place p) (i + 1) (drop (i + 1) fs))) (sym (noted p));
}

pub seeks_end : (fs : List (Option ℕ)) (i : ℕ) (hits : BTreeMap ℕ ℕ) → length fs ≤ i → Seeks fs i hits → (p : ℕ) → get nat_cmp hits p ≡ position_from (is_place p) 0 fs
seeks_end fs i hits le s p = sym (s.is p ∙ ap (λ (gs : List (Option ℕ)). option_or (get nat_cmp hits p) (position_from (is_place p) i gs)) (drop_all i fs le) ∙ or_none (get nat_cmp hits p))

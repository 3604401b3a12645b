-- Names that are distinct.
use Rattle.std.proofs.Common.{◌≡◌, ◌==◌, ℕ, ◌+◌, ◌<◌, ◌≤◌, Bool, true, false, cond, inl, inr, ◌⊎◌, List, [], ◌∷◌, ◌++◌, length, map, take, get_or, Option, Some, None, is_some, refl, sym, ap, subst, ◌∙◌, arith}
use Rattle.std.specs.List.{Contains, filter_map, cons_option}
use Rattle.std.specs.Prelude.{◌↔◌, not}
use Rattle.std.specs.Str.{bytes_eq}
use Rattle.std.proofs.lemmas.Bool.{and_from}
use Rattle.std.proofs.lemmas.List.{take_more, get_or-map, length-map}
use Rattle.std.proofs.lemmas.List.Elements.{filter_map-append, Contains-append_left, Contains-append_right, Contains-append_cases}
use Rattle.cm_names.specs.KeyTables.{or_else}
use Rattle.cm_names.specs.Keys.{is_key}
use Rattle.cm_wit_names.specs.FirstKeys as keys
use Rattle.cm_wit_names.specs.FirstKeys.{look_up}
use Rattle.cm_wit_names.specs.declared.first_keys.FirstKeys.{FirstKeys}
use Rattle.cm_wit_names.specs.declared.mention.Mention as code
use Rattle.cm_wit_names.specs.Mentions.{Mention}
use Rattle.cm_wit_names.specs.MentionViews.{mention_view}
use Rattle.cm_wit_names.specs.Distinct.{Has, IsIn, Adds, Notes}
use Rattle.cm_wit_names.specs.Known.{IsAt}
use Rattle.cm_wit_names.specs.Rules.{IsAmong, IsLeast, IsTaken, key_of, is_self}
use Rattle.cm_wit_names.proofs.LeastLaws.{NoneAt, none_at_first, none_at_next, least_here, least_none}
use Rattle.cm_lemmas.proofs.Bools.{both_true, true_not_false}
use Rattle.cm_lemmas.proofs.Lists.{head_in, in_cons, same_text, text_same}
use Rattle.cm_lemmas.proofs.Numbers.{eq_of, eq_true}
use Rattle.cm_lemmas.proofs.Options.{none_some, some_is}

-- ---- one more key

some_or : (a : Option ℕ) (key : Bool) (place : ℕ) → is_some (or_else a (cond key (Some place) None)) ≡ true → (is_some a ≡ true) ⊎ (key ≡ true)
some_or (Some x) key place e = inl refl
some_or None true place e = inr refl
some_or None false place e = absurd (true_not_false (sym e))

or_some : (a : Option ℕ) (key : Bool) (place : ℕ) → (is_some a ≡ true) ⊎ (key ≡ true) → is_some (or_else a (cond key (Some place) None)) ≡ true
or_some (Some x) key place h = refl
or_some None key place (inl e) = absurd (true_not_false (sym e))
or_some None key place (inr e) = rw e refl

key_is : (x key : ℕ × List ℕ) → is_key x.0 x.1 key ≡ true → x ≡ key
key_is x key e =
    let p = both_true (x.0 == key.0) (bytes_eq x.1 key.1) e in
    pair_is x.0 key.0 x.1 key.1 (eq_of x.0 key.0 p.0) (same_text x.1 key.1 p.1)
  where
    pair_is : (a b : ℕ) (s t : List ℕ) → a ≡ b → s ≡ t → ◌≡◌ {A = ℕ × List ℕ} (a, s) (b, t)
    pair_is a b s t p q = rw (p, q) refl

is_its_key : (x key : ℕ × List ℕ) → x ≡ key → is_key x.0 x.1 key ≡ true
is_its_key x key e =
    and_from (x.0 == key.0) (bytes_eq x.1 key.1)
    (eq_true x.0 key.0 (ap (λ (k : ℕ × List ℕ). k.0) e))
    (text_same x.1 key.1 (ap (λ (k : ℕ × List ℕ). k.1) e))

not_true : (t b : Bool) → b ≡ not t → b ≡ true → t ≡ true → ⊥
not_true true b e y h = true_not_false (sym y ∙ e)
not_true false b e y h = true_not_false (sym h)

not_false : (t b : Bool) → b ≡ not t → b ≡ false → t ≡ true
not_false true b e n = refl
not_false false b e n = absurd (true_not_false (sym e ∙ n))

pub adds_key : (key : ℕ × List ℕ) (place : ℕ) (old new : FirstKeys) (b : Bool) → keys.Notes key place old new → b ≡ not (is_some (look_up old key.0 key.1)) → b ≡ true → Adds key old new
adds_key key place old new b noted is y = (
  λ x. (
    λ h. elim (some_or (look_up old x.0 x.1) (is_key x.0 x.1 key) place (sym (ap is_some (noted x.0 x.1)) ∙ h)) [
      | inl a ↦ inl a
      | inr k ↦ inr (key_is x key k)
    ],
    λ h. ap is_some (noted x.0 x.1) ∙ or_some (look_up old x.0 x.1) (is_key x.0 x.1 key) place (elim h [
      | inl a ↦ inl a
      | inr e ↦ inr (is_its_key x key e)
    ]),
  ),
  not_true (is_some (look_up old key.0 key.1)) b is y,
)

pub has_key : (key : ℕ × List ℕ) (old : FirstKeys) (b : Bool) → b ≡ not (is_some (look_up old key.0 key.1)) → b ≡ false → Has old key
has_key key old b is n = not_false (is_some (look_up old key.0 key.1)) b is n

pub ruleset insert_laws = (adds_key, has_key)

-- ---- one mention

pub notes_key : (m : Mention) (key : ℕ × List ℕ) (old new : FirstKeys) → is_self m ≡ false → Some key ≡ key_of m → Adds key old new → Notes m old new
notes_key m key old new isnt k a = (
  λ x. (
    λ h. elim ((a.0 x).0 h) [
      | inl b ↦ inl b
      | inr e ↦ inr (sym k ∙ ap (λ (y : ℕ × List ℕ). Some y) (sym e))
    ],
    λ h. (a.0 x).1 (elim h [
      | inl b ↦ inl b
      | inr e ↦ inr (some_is x key (sym e ∙ sym k))
    ]),
  ),
  λ among. elim among [
    | inl self_is ↦ true_not_false (sym self_is ∙ isnt)
    | inr there ↦ a.1 (subst (Has old) (some_is there.0 key (sym there.1 ∙ sym k)) there.2)
  ],
)

pub notes_none : (m : Mention) (old : FirstKeys) → is_self m ≡ false → None ≡ key_of m → Notes m old old
notes_none m old isnt k = (
  λ x. (
    λ h. inl h,
    λ h. elim h [
      | inl b ↦ b
      | inr e ↦ none_some x (k ∙ e)
    ],
  ),
  λ among. elim among [
    | inl self_is ↦ true_not_false (sym self_is ∙ isnt)
    | inr there ↦ none_some there.0 (k ∙ there.1)
  ],
)

pub in_self : (m : Mention) (seen : FirstKeys) → is_self m ≡ true → IsIn seen m
in_self m seen e = inl e

pub in_key : (m : Mention) (key : ℕ × List ℕ) (seen : FirstKeys) → Some key ≡ key_of m → Has seen key → IsIn seen m
in_key m key seen k h = inr (key, sym k, h)

pub ruleset distinct_note_laws = (notes_key, notes_none, in_self, in_key)

-- ---- all mentions

-- The name is one of the names of its list before.
abbrev pub TakenAt : List code.Mention → ℕ → Mention → Type 0
TakenAt mentions n = IsTaken (take n (map mention_view mentions))

-- what was seen are the names of the first mentions, all distinct
pub record Seen (mentions : List code.Mention) (i : ℕ) (seen : FirstKeys) : Type 0 where
  pub is : (x : ℕ × List ℕ) → Has seen x ↔ Contains (filter_map key_of (take i (map mention_view mentions))) x
  pub none : NoneAt (TakenAt mentions) mentions i

pub seen_none : (mentions : List code.Mention) (seen : FirstKeys) → ((n : ℕ) (text : List ℕ) → look_up seen n text ≡ None) → Seen mentions 0 seen
seen_none mentions seen e = record {
  is = λ x. (
    λ h. absurd (true_not_false (sym h ∙ ap is_some (e x.0 x.1))),
    λ c. absurd (omega (arith, c.1)),
  );
  none = none_at_first (TakenAt mentions) mentions;
}

keys_next : (mentions : List code.Mention) (i : ℕ) (m : code.Mention) → i < length mentions → m ≡ get_or mentions i m → filter_map key_of (take (i + 1) (map mention_view mentions)) ≡ filter_map key_of (take i (map mention_view mentions)) ++ cons_option (key_of (mention_view m)) []
keys_next mentions i m lt e =
    let within : i < length (map mention_view mentions) = omega (arith, lt, length-map mentions mention_view) in
    ap (filter_map key_of) (take_more (map mention_view mentions) i (mention_view m) within)
    ∙ (filter_map-append key_of (take i (map mention_view mentions)) (get_or (map mention_view mentions) i (mention_view m) ∷ [])
    ∙ ap (λ (x : Mention). filter_map key_of (take i (map mention_view mentions)) ++ cons_option (key_of x) []) (get_or-map mention_view mentions i m (mention_view m) lt ∙ ap mention_view (sym e)))

one_there : (o : Option (ℕ × List ℕ)) (x : ℕ × List ℕ) → o ≡ Some x → Contains (cons_option o []) x
one_there None x e = none_some x e
one_there (Some y) x e = head_in x y [] (some_is y x e)

there_one : (o : Option (ℕ × List ℕ)) (x : ℕ × List ℕ) → Contains (cons_option o []) x → o ≡ Some x
there_one None x c = absurd (omega (arith, c.1))
there_one (Some y) x c = elim (in_cons x y [] c) [
  | inl e ↦ ap (λ (z : ℕ × List ℕ). Some z) e
  | inr d ↦ absurd (omega (arith, d.1))
]

module _ (mentions : List code.Mention) (i : ℕ) (m : code.Mention) (lt : i < length mentions) (e : m ≡ get_or mentions i m) where
  abbrev known : List (ℕ × List ℕ)
  known = filter_map key_of (take i (map mention_view mentions))

  among_in : (seen : FirstKeys) → Seen mentions i seen → IsAmong known (mention_view m) → IsIn seen (mention_view m)
  among_in seen s (inl self_is) = inl self_is
  among_in seen s (inr there) = inr (there.0, there.1, (s.is there.0).1 there.2)

  in_among : (seen : FirstKeys) → Seen mentions i seen → IsIn seen (mention_view m) → IsAmong known (mention_view m)
  in_among seen s (inl self_is) = inl self_is
  in_among seen s (inr there) = inr (there.0, there.1, (s.is there.0).0 there.2)

  pub seen_more : (before after : FirstKeys) → Notes (mention_view m) before after → Seen mentions i before → Seen mentions (i + 1) after
  seen_more before after n s = record {
    is = λ x.
        let one = cons_option (key_of (mention_view m)) [] in
        subst (λ ks. Has after x ↔ Contains ks x) (sym (keys_next mentions i m lt e)) (
          λ h. elim ((n.0 x).0 h) [
            | inl b ↦ Contains-append_left known one x ((s.is x).0 b)
            | inr k ↦ Contains-append_right known one x (one_there (key_of (mention_view m)) x k)
          ],
          λ c. (n.0 x).1 (elim (Contains-append_cases known one x c) [
            | inl d ↦ inl ((s.is x).1 d)
            | inr d ↦ inr (there_one (key_of (mention_view m)) x d)
          ]),
        );
    none = none_at_next (TakenAt mentions) mentions i m lt e (λ t. n.1 (among_in before s t)) s.none;
  }

  pub seen_taken : (seen : FirstKeys) → IsIn seen (mention_view m) → Seen mentions i seen → IsLeast (λ n. IsAt (map mention_view mentions) n (IsTaken (take n (map mention_view mentions)))) (Some i)
  seen_taken seen t s = least_here (TakenAt mentions) mentions i m lt e (in_among seen s t) s.none

pub seen_all : (mentions : List code.Mention) (i : ℕ) (seen : FirstKeys) → length mentions ≤ i → Seen mentions i seen → IsLeast (λ n. IsAt (map mention_view mentions) n (IsTaken (take n (map mention_view mentions)))) None
seen_all mentions i seen le s = least_none (TakenAt mentions) mentions i le s.none

pub ruleset distinct_laws = (seen_none, seen_all)

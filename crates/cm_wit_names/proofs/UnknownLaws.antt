-- Names that lead nowhere.
use Rattle.std.proofs.Common.{◌≡◌, ◌↔◌, ℕ, ◌+◌, ◌<◌, ◌≤◌, Bool, true, false, List, [], ◌∷◌, ◌++◌, length, map, take, get_or, Option, Some, None, refl, sym, ap, subst, ◌∙◌}
use Rattle.std.specs.Prelude.{IsTrue, is_some, not}
use Rattle.std.proofs.lemmas.List.{take_more, take_all, map-append}
use Rattle.cm_wit_names.specs.declared.mention.Mention as code
use Rattle.cm_wit_names.specs.Mentions.{Mention, to_used, to_resource}
use Rattle.cm_wit_names.specs.MentionViews.{mention_view, reference_view}
use Rattle.cm_wit_names.specs.Known.{IsAt, IsResource, known_at}
use Rattle.cm_wit_names.specs.Rules.{IsLeast, IsUnknown, LeadsToBorrow}
use Rattle.cm_wit_names.proofs.LeastLaws.{NoneAt, none_at_first, none_at_next, least_here, least_none}
use Rattle.cm_lemmas.proofs.Bools.{true_is_not_false}

-- ---- one reference

pub gone : {A : Type 0} (o : Option A) (b : Bool) → is_some o ≡ not b → IsTrue b ↔ (o ≡ None)
gone None true e = (λ t. refl, λ n. refl)
gone None false e = absurd cc
gone (Some x) true e = absurd cc
gone (Some x) false e = (λ t. absurd cc, λ n. absurd cc)

pub used_gone : (ms : List Mention) (interface text : List ℕ) (n : ℕ) (b : Bool) → known_at ms 0 interface ≡ Some n → (IsTrue b ↔ (known_at ms n text ≡ None)) → IsTrue b ↔ IsUnknown ms (to_used interface text)
used_gone ms interface text n b e h = (
  λ t. (n, e, h.0 t),
  λ u. h.1 (subst (λ (k : ℕ). known_at ms k text ≡ None) (some_is u.0 (sym u.1 ∙ e)) u.2),
)
  where
    some_is : (k : ℕ) → Some k ≡ Some n → k ≡ n
    some_is k q = cc

pub used_nowhere : (ms : List Mention) (interface text : List ℕ) → known_at ms 0 interface ≡ None → IsTrue false ↔ IsUnknown ms (to_used interface text)
used_nowhere ms interface text e = (λ t. absurd cc, λ u. absurd (none_some u.0 (sym e ∙ u.1)))
  where
    none_some : (k : ℕ) → None ≡ Some k → ⊥
    none_some k q = cc

pub not_resource : (ms : List Mention) (n k : ℕ) (text : List ℕ) (marked b : Bool) → known_at ms n text ≡ Some k → (IsTrue marked ↔ IsResource ms k) → b ≡ not marked → IsTrue b ↔ IsUnknown ms (to_resource n text)
not_resource ms n k text marked b e h is = (
  λ t j q r. false_of marked (sym is ∙ t) (h.1 (subst (IsResource ms) (some_is j (sym q ∙ e)) r)),
  λ u. is ∙ not_of marked (λ m. u k e (h.0 m)),
)
  where
    some_is : (j : ℕ) → Some j ≡ Some k → j ≡ k
    some_is j q = cc

    false_of : (m : Bool) → not m ≡ true → m ≡ true → ⊥
    false_of true p q = cc
    false_of false p q = cc

    not_of : (m : Bool) → (m ≡ true → ⊥) → not m ≡ true
    not_of true h = absurd (h refl)
    not_of false h = refl

pub resource_gone : (ms : List Mention) (n : ℕ) (text : List ℕ) → known_at ms n text ≡ None → IsTrue true ↔ IsUnknown ms (to_resource n text)
resource_gone ms n text e = (λ t k q r. none_some k (sym e ∙ q), λ u. refl)
  where
    none_some : (k : ℕ) → None ≡ Some k → ⊥
    none_some k q = cc

pub ruleset reference_laws = (gone, used_gone, used_nowhere, not_resource, resource_gone)

-- ---- what may be a resource

-- what is known of the first mentions
pub record Own (mentions : List code.Mention) (i : ℕ) (marks : List Bool) : Type 0 where
  pub is : marks ≡ map (λ m. m.may_be_resource) (map mention_view (take i mentions))

pub own_none : (mentions : List code.Mention) → Own mentions 0 []
own_none mentions = record { is = refl }

abbrev may : List Mention → List Bool
may ms = map (λ m. m.may_be_resource) ms

may_next : (mentions : List code.Mention) (i : ℕ) (m : code.Mention) → i < length mentions → m ≡ get_or mentions i m → may (map mention_view (take (i + 1) mentions)) ≡ may (map mention_view (take i mentions)) ++ m.may_be_resource ∷ []
may_next mentions i m lt e =
    ap (λ (xs : List code.Mention). may (map mention_view xs)) (take_more mentions i m lt)
    ∙ (ap may (map-append mention_view (take i mentions) (get_or mentions i m ∷ []))
    ∙ (map-append (λ (x : Mention). x.may_be_resource) (map mention_view (take i mentions)) (mention_view (get_or mentions i m) ∷ [])
    ∙ ap (λ (x : code.Mention). may (map mention_view (take i mentions)) ++ x.may_be_resource ∷ []) (sym e)))

pub own_next : (mentions : List code.Mention) (i : ℕ) (m : code.Mention) (before : List Bool) → i < length mentions → m ≡ get_or mentions i m → Own mentions i before → Own mentions (i + 1) (before ++ m.may_be_resource ∷ [])
own_next mentions i m before lt e s = record {
  is = ap (λ (bs : List Bool). bs ++ m.may_be_resource ∷ []) s.is ∙ sym (may_next mentions i m lt e);
}

pub own_all : (mentions : List code.Mention) (i : ℕ) (marks : List Bool) → length mentions ≤ i → Own mentions i marks → marks ≡ map (λ m. m.may_be_resource) (map mention_view mentions)
own_all mentions i marks le s = s.is ∙ ap (λ (xs : List code.Mention). may (map mention_view xs)) (take_all i mentions le)

pub ruleset own_laws = (own_none, own_next, own_all)

-- ---- all mentions

pub record NoUnknown (mentions : List code.Mention) (i : ℕ) : Type 0 where
  pub none : NoneAt (λ n m. IsUnknown (map mention_view mentions) m.refers) mentions i

pub no_unknown_first : (mentions : List code.Mention) → NoUnknown mentions 0
no_unknown_first mentions = record { none = none_at_first (λ n m. IsUnknown (map mention_view mentions) m.refers) mentions }

pub no_unknown_next : (mentions : List code.Mention) (i : ℕ) (m : code.Mention) (b : Bool) → i < length mentions → m ≡ get_or mentions i m → b ≡ false → (IsTrue b ↔ IsUnknown (map mention_view mentions) (reference_view m.refers)) → NoUnknown mentions i → NoUnknown mentions (i + 1)
no_unknown_next mentions i m b lt e isnt h s = record {
  none = none_at_next (λ n m. IsUnknown (map mention_view mentions) m.refers) mentions i m lt e (λ u. true_is_not_false b isnt (h.1 u)) s.none;
}

pub unknown_here : (mentions : List code.Mention) (i : ℕ) (m : code.Mention) (b : Bool) → i < length mentions → m ≡ get_or mentions i m → b ≡ true → (IsTrue b ↔ IsUnknown (map mention_view mentions) (reference_view m.refers)) → NoUnknown mentions i → IsLeast (λ n. IsAt (map mention_view mentions) n (λ m. IsUnknown (map mention_view mentions) m.refers)) (Some i)
unknown_here mentions i m b lt e is h s = least_here (λ n m. IsUnknown (map mention_view mentions) m.refers) mentions i m lt e (h.0 is) s.none

pub unknown_nowhere : (mentions : List code.Mention) (i : ℕ) → length mentions ≤ i → NoUnknown mentions i → IsLeast (λ n. IsAt (map mention_view mentions) n (λ m. IsUnknown (map mention_view mentions) m.refers)) None
unknown_nowhere mentions i le s = least_none (λ n m. IsUnknown (map mention_view mentions) m.refers) mentions i le s.none

pub ruleset unknown_laws = (no_unknown_first, no_unknown_next, unknown_here, unknown_nowhere)

-- ---- borrows in results

pub record NoBorrow (mentions : List code.Mention) (i : ℕ) : Type 0 where
  pub none : NoneAt (λ n. LeadsToBorrow (map mention_view mentions)) mentions i

pub no_borrow_first : (mentions : List code.Mention) → NoBorrow mentions 0
no_borrow_first mentions = record { none = none_at_first (λ n. LeadsToBorrow (map mention_view mentions)) mentions }

pub no_borrow_next : (mentions : List code.Mention) (i : ℕ) (m : code.Mention) (b : Bool) → i < length mentions → m ≡ get_or mentions i m → b ≡ false → (IsTrue b ↔ LeadsToBorrow (map mention_view mentions) (mention_view m)) → NoBorrow mentions i → NoBorrow mentions (i + 1)
no_borrow_next mentions i m b lt e isnt h s = record {
  none = none_at_next (λ n. LeadsToBorrow (map mention_view mentions)) mentions i m lt e (λ u. true_is_not_false b isnt (h.1 u)) s.none;
}

pub borrow_here : (mentions : List code.Mention) (i : ℕ) (m : code.Mention) (b : Bool) → i < length mentions → m ≡ get_or mentions i m → b ≡ true → (IsTrue b ↔ LeadsToBorrow (map mention_view mentions) (mention_view m)) → NoBorrow mentions i → IsLeast (λ n. IsAt (map mention_view mentions) n (LeadsToBorrow (map mention_view mentions))) (Some i)
borrow_here mentions i m b lt e is h s = least_here (λ n. LeadsToBorrow (map mention_view mentions)) mentions i m lt e (h.0 is) s.none

pub borrow_nowhere : (mentions : List code.Mention) (i : ℕ) → length mentions ≤ i → NoBorrow mentions i → IsLeast (λ n. IsAt (map mention_view mentions) n (LeadsToBorrow (map mention_view mentions))) None
borrow_nowhere mentions i le s = least_none (λ n. LeadsToBorrow (map mention_view mentions)) mentions i le s.none

pub ruleset borrow_laws = (no_borrow_first, no_borrow_next, borrow_here, borrow_nowhere)

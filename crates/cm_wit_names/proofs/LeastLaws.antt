-- The first mention of which a predicate holds.
use Rattle.std.proofs.Common.{◌≡◌, ℕ, ◌+◌, ◌<◌, ◌≤◌, inl, inr, List, length, map, get_or, slice_get, Some, None, refl, sym, ap, subst, ◌∙◌, arith}
use Rattle.std.specs.Option.{option_map}
use Rattle.std.proofs.lemmas.Option.{slice_get-map, slice_get_read, slice_get_within}
use Rattle.std.proofs.lemmas.List.{length-map}
use Rattle.std.proofs.lemmas.Bool.{cases_eq}
use Rattle.cm_wit_names.specs.declared.mention.Mention as code
use Rattle.cm_wit_names.specs.Mentions.{Mention}
use Rattle.cm_wit_names.specs.MentionViews.{mention_view}
use Rattle.cm_wit_names.specs.Known.{IsAt}
use Rattle.cm_wit_names.specs.Rules.{IsLeast}
use Rattle.cm_lemmas.proofs.Options.{some_is}

pub at_view : (mentions : List code.Mention) (i : ℕ) (m : code.Mention) → i < length mentions → m ≡ get_or mentions i m → slice_get (map mention_view mentions) i ≡ Some (mention_view m)
at_view mentions i m lt e = slice_get-map mention_view mentions i ∙ ap (option_map mention_view) (slice_get_read mentions (length mentions) i m refl lt e)

pub is_here : (P : Mention → Type 0) (mentions : List code.Mention) (i : ℕ) (m : code.Mention) → i < length mentions → m ≡ get_or mentions i m → IsAt (map mention_view mentions) i P → P (mention_view m)
is_here P mentions i m lt e here = subst P (some_is here.0 (mention_view m) (sym here.1 ∙ at_view mentions i m lt e)) here.2

-- it holds of none of the first mentions
pub record NoneAt (P : ℕ → Mention → Type 0) (mentions : List code.Mention) (i : ℕ) : Type 0 where
  pub none : (k : ℕ) → k < i → IsAt (map mention_view mentions) k (P k) → ⊥

pub none_at_first : (P : ℕ → Mention → Type 0) (mentions : List code.Mention) → NoneAt P mentions 0
none_at_first P mentions = record { none = λ k lt here. omega (arith, lt) }

pub none_at_next : (P : ℕ → Mention → Type 0) (mentions : List code.Mention) (i : ℕ) (m : code.Mention) → i < length mentions → m ≡ get_or mentions i m → (P i (mention_view m) → ⊥) → NoneAt P mentions i → NoneAt P mentions (i + 1)
none_at_next P mentions i m lt e isnt n = record {
  none = λ k q here. elim (cases_eq k i) [
    | inl s ↦ isnt (is_here (P i) mentions i m lt e (subst (λ (j : ℕ). IsAt (map mention_view mentions) j (P j)) s here))
    | inr d ↦ n.none k (omega (arith, q, d)) here
  ];
}

pub least_here : (P : ℕ → Mention → Type 0) (mentions : List code.Mention) (i : ℕ) (m : code.Mention) → i < length mentions → m ≡ get_or mentions i m → P i (mention_view m) → NoneAt P mentions i → IsLeast (λ n. IsAt (map mention_view mentions) n (P n)) (Some i)
least_here P mentions i m lt e p n = ((mention_view m, at_view mentions i m lt e, p), λ k q. n.none k q)

pub least_none : (P : ℕ → Mention → Type 0) (mentions : List code.Mention) (i : ℕ) → length mentions ≤ i → NoneAt P mentions i → IsLeast (λ n. IsAt (map mention_view mentions) n (P n)) None
least_none P mentions i le n k here =
    let within = slice_get_within (map mention_view mentions) k here.0 here.1 in
    n.none k (omega (arith, le, within, length-map mentions mention_view)) here

-- an element of one list is that of an equal one
pub item_at : {A : Type 0} (xs ys : List A) (i : ℕ) (x : A) → x ≡ get_or ys i x → ys ≡ xs → x ≡ get_or xs i x
item_at {A} xs ys i x is e = is ∙ ap (λ (zs : List A). get_or zs i x) e

-- Marking the declarations in whose texts a borrow stands.
use Rattle.std.proofs.Common.{◌≡◌, ℕ, ◌+◌, ◌<◌, ◌≤◌, Bool, true, false, ◌⊎◌, inl, inr, List, length, map, get_or, Option, Some, sym, ap, subst, ◌∙◌, arith}
use Rattle.std.proofs.Math.ListN.{set, replicate, get_or-eq_default}
use Rattle.std.proofs.lemmas.List.{get_or-set_same, get_or-set_other, get_or-replicate, length-replicate, length-map}
use Rattle.std.proofs.lemmas.Option.{slice_get_within}
use Rattle.std.proofs.lemmas.Bool.{cases_eq, cases_lt}
use Rattle.cm_wit_graph.specs.Graphs.{IsMarked}
use Rattle.cm_wit_names.specs.declared.mention.Mention as code
use Rattle.cm_wit_names.specs.Mentions.{Mention}
use Rattle.cm_wit_names.specs.MentionViews.{mention_view}
use Rattle.cm_wit_names.specs.Known.{HasBorrow, IsAt, borrow_owner}
use Rattle.cm_wit_names.proofs.LeastLaws.{at_view, is_here}
use Rattle.cm_wit_graph.proofs.EdgeLaws.{set_marked as set_kept}

-- ---- one mark

pub set_marked : (marks : List Bool) (x a : ℕ) → x < length marks → Some x ≡ Some a → IsMarked (set marks x true) a
set_marked marks x a lt e = subst (λ (b : ℕ). IsMarked (set marks x true) b) (some_is e) (get_or-set_same marks x true false lt)
  where
    some_is : Some x ≡ Some a → x ≡ a
    some_is q = cc

pub set_only : (marks : List Bool) (x a : ℕ) → IsMarked (set marks x true) a → IsMarked marks a ⊎ (Some x ≡ Some a)
set_only marks x a m = elim (cases_eq a x) [
  | inl e ↦ inr (ap Some (sym e))
  | inr n ↦ inl (sym (get_or-set_other marks x a true false n) ∙ m)
]

pub ruleset set_laws = (set_kept, set_marked, set_only)

pub unmarked : (n k : ℕ) (marks : List Bool) → marks ≡ replicate n false → IsMarked marks k → ⊥
unmarked n k marks e m = elim (cases_lt k n) [
  | inl lt ↦ false_true (sym (get_or-replicate n k false false lt) ∙ subst (λ (bs : List Bool). IsMarked bs k) e m)
  | inr le ↦ let past : length (replicate n false) ≤ k = omega (arith, le, length-replicate n false) in false_true (sym (get_or-eq_default (replicate n false) false past) ∙ subst (λ (bs : List Bool). IsMarked bs k) e m)
]
  where
    false_true : false ≡ true → ⊥
    false_true q = cc

-- ---- all mentions

-- the declarations of the first mentions that are borrows are marked, and no others
pub record Marks (mentions : List code.Mention) (i : ℕ) (marks : List Bool) : Type 0 where
  pub size : length marks ≡ length mentions
  pub sound : (k : ℕ) → IsMarked marks k → HasBorrow (map mention_view mentions) k
  pub all : (n k : ℕ) → n < i → k < length mentions → IsAt (map mention_view mentions) n (λ m. borrow_owner m ≡ Some k) → IsMarked marks k

pub marks_none : (mentions : List code.Mention) (marks : List Bool) → length marks ≡ length mentions → ((k : ℕ) → IsMarked marks k → ⊥) → Marks mentions 0 marks
marks_none mentions marks size none = record {
  size = size;
  sound = λ k m. absurd (none k m);
  all = λ n k lt in_list here. absurd (omega (arith, lt));
}

pub marks_more : (mentions : List code.Mention) (i : ℕ) (m : code.Mention) (o : Option ℕ) (before after : List Bool) → i < length mentions → m ≡ get_or mentions i m → o ≡ borrow_owner (mention_view m) → length after ≡ length before → ((k : ℕ) → IsMarked before k → IsMarked after k) → ((k : ℕ) → o ≡ Some k → k < length before → IsMarked after k) → ((k : ℕ) → IsMarked after k → IsMarked before k ⊎ (o ≡ Some k)) → Marks mentions i before → Marks mentions (i + 1) after
marks_more mentions i m o before after lt e own size kept marked only s = record {
  size = size ∙ s.size;
  sound = λ k h. elim (only k h) [
    | inl old ↦ s.sound k old
    | inr new ↦ (i, (mention_view m, at_view mentions i m lt e, sym own ∙ new))
  ];
  all = λ n k q in_list here. elim (cases_eq n i) [
    | inl same ↦ marked k (own ∙ is_here (λ (x : Mention). borrow_owner x ≡ Some k) mentions i m lt e (subst (λ (j : ℕ). IsAt (map mention_view mentions) j (λ x. borrow_owner x ≡ Some k)) same here)) (omega (arith, in_list, s.size))
    | inr other ↦ kept k (s.all n k (omega (arith, q, other)) in_list here)
  ];
}

pub marks_all : (mentions : List code.Mention) (i : ℕ) (marks : List Bool) → length mentions ≤ i → Marks mentions i marks → (k : ℕ) → k < length mentions → HasBorrow (map mention_view mentions) k → IsMarked marks k
marks_all mentions i marks le s k lt b =
    let within = slice_get_within (map mention_view mentions) b.0 b.1.0 b.1.1 in
    s.all b.0 k (omega (arith, within, le, length-map mentions mention_view)) lt b.1

pub ruleset borrow_laws = (marks_none, marks_more, marks_all)

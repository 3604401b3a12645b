-- What is kept of one more number.
use Rattle.std.proofs.Common.{◌≡◌, ℕ, Bool, cond, List, inl, inr, Option, Some, sym, ap, subst, ◌∙◌}
use Rattle.std.specs.BTreeMap.{get}
use Rattle.std.specs.Ordering.{is_eq, nat_cmp}
use Rattle.std.proofs.lemmas.Bool.{cases_Bool}
use Rattle.cm_types_arena.specs.declared.types.Types.{Types}
use Rattle.cm_types_arena.specs.Listed.{names_at, number_at}
use Rattle.cm_types_arena.specs.declared.named_externs.Externs.{Externs}
use Rattle.cm_wit_conforms.specs.Known.{AreKnown}
use Rattle.cm_wit_conforms.specs.declared.known.KnownItems.{KnownItems}
use Rattle.cm_wit_conforms.specs.Walks.{AreKept}
use Rattle.cm_wit_conforms.specs.declared.kept.Kept.{Kept}
use Rattle.cm_lemmas.proofs.Orders.{number_exact}

one_known : (j k : KnownItems) → Some j ≡ Some k → j ≡ k
one_known j k e = cc

abbrev pub EqualNames : Type 0
EqualNames = (t : Types) (externs : Externs) (a b n : ℕ) → number_at externs a ≡ Some n → number_at externs b ≡ Some n → names_at t externs a ≡ names_at t externs b

pub kept_more : (externs : Externs) (old new : Kept) (place number : ℕ) (names : Types → List (List ℕ)) (known : KnownItems) → EqualNames → number_at externs place ≡ Some number → ((t : Types) → names_at t externs place ≡ names t) → ((t : Types) → AreKnown (names t) known) → ((q : ℕ) → get nat_cmp new.known q ≡ cond (is_eq (nat_cmp number q)) (Some known) (get nat_cmp old.known q)) → AreKept externs old → AreKept externs new
kept_more externs old new place number names known equal has are knows at kept t n p k is told = elim (cases_Bool (is_eq (nat_cmp number n))) [
  | inl y ↦
      let same : known ≡ k = one_known known k (sym (ap (λ (b : Bool). cond b (Some known) (get nat_cmp old.known n)) y) ∙ (sym (at n) ∙ is)) in
      let here : number_at externs place ≡ Some n = has ∙ ap (λ (m : ℕ). let o : Option ℕ = Some m in o) (number_exact number n y) in
      let texts : names t ≡ names_at t externs p = sym (are t) ∙ equal t externs place p n here told in
      subst (λ (j : KnownItems). AreKnown (names_at t externs p) j) same (subst (λ (l : List (List ℕ)). AreKnown l known) texts (knows t))
  | inr m ↦ kept t n p k (sym (ap (λ (b : Bool). cond b (Some known) (get nat_cmp old.known n)) m) ∙ (sym (at n) ∙ is)) told
]

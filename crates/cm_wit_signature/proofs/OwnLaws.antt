-- Each resource that a declaration stands for is one of the world itself.
use Rattle.std.proofs.Common.{◌≡◌, ℕ, zero, suc, ◌<◌, List, [], Option, Some, None, unwrap_or, slice_get, slice_index_or, refl, sym, ap, subst, ◌∙◌, arith}
use Rattle.std.specs.List.{AllByRecursion, filter_map, cons_option}
use Rattle.std.specs.Option.{option_map, option_and_then, option_map_or}
use Rattle.std.proofs.lemmas.Option.{unwrap_or-slice_get}
use Rattle.cm_types.specs.declared.resource.ResourceId.{ResourceId}
use Rattle.cm_names.specs.Keys.{Key}
use Rattle.cm_wit_reading.specs.Trees.{TypeDef, alias, record_of, variant, enum, flags}
use Rattle.cm_wit_reading.specs.Trees as trees
use Rattle.cm_wit_meanings.specs.Scopes.{Meaning, Scope, value, resource}
use Rattle.cm_wit_meanings.specs.Meanings.{def_meaning}
use Rattle.cm_wit_tables.specs.Declarations.{Declared, Declaration, brought, defined, referred, refers, target, IsRanked}
use Rattle.cm_wit_tables.specs.Tables.{resource_of, scope_of, declared_meaning, entry_meaning, Solves}
use Rattle.cm_wit_signature.specs.Own.{IsOwn, AreOwn}
use Rattle.cm_lemmas.proofs.Options.{some_is}

value_own : {A : Type 0} (g : A → Meaning) (o : Option A) (m : Meaning) → ((a : A) → IsOwn (g a)) → option_map g o ≡ Some m → IsOwn m
value_own g None m h e = absurd cc
value_own g (Some a) m h e = subst IsOwn (some_is (g a) m e) (h a)

defined_own : (s : Scope) (r : ResourceId) (t : TypeDef) (m : Meaning) → r.component ≡ 0 → def_meaning s r t ≡ Some m → IsOwn m
defined_own s r (alias t) m z e = value_own value _ m (λ a. tt) e
defined_own s r (record_of fs) m z e = value_own value _ m (λ a. tt) e
defined_own s r (variant cs) m z e = value_own value _ m (λ a. tt) e
defined_own s r (enum names) m z e = subst IsOwn (some_is _ m e) tt
defined_own s r (flags names) m z e = subst IsOwn (some_is _ m e) tt
defined_own s r (trees.resource fs) m z e = subst IsOwn (some_is (resource r) m e) z

module _ (ds : List Declaration) (table : List (Option Meaning)) (solves : Solves ds table) (rank : ℕ → ℕ) (ranked : IsRanked ds rank) where
  abbrev at : ℕ → Option Meaning
  at k = slice_index_or table k None

  got : (k : ℕ) → at k ≡ unwrap_or (slice_get table k) None
  got k = sym (unwrap_or-slice_get table k None)

  used_lower : (k j : ℕ) (key : Key) (d : Declaration) → slice_get ds k ≡ Some d → d.is ≡ brought (Some key) → target ds key ≡ Some j → rank j < rank k
  used_lower k j key d e q t =
      let p = subst (λ (o : Option Declaration). AllByRecursion (λ i. rank i < rank k) (filter_map (target ds) (option_map_or refers o []))) e (ranked k) in
      let r = subst (λ (w : Declared). AllByRecursion (λ i. rank i < rank k) (filter_map (target ds) (referred d.in_list w))) q p in
      (subst (λ (o : Option ℕ). AllByRecursion (λ i. rank i < rank k) (cons_option o [])) t r).0

  module _ (k : ℕ) (below : (j : ℕ) → rank j < rank k → (m : Meaning) → at j ≡ Some m → IsOwn m) (m : Meaning) (d : Declaration) (e : slice_get ds k ≡ Some d) where
    by_target : (key : Key) → d.is ≡ brought (Some key) → (o : Option ℕ) → target ds key ≡ o → option_and_then (λ i. at i) o ≡ Some m → IsOwn m
    by_target key q None t h = absurd cc
    by_target key q (Some j) t h = below j (used_lower k j key d e q t) m h

    by_declared : (what : Declared) → d.is ≡ what → declared_meaning ds table k d.in_list what ≡ Some m → IsOwn m
    by_declared (brought None) q h = absurd cc
    by_declared (brought (Some key)) q h = by_target key q (target ds key) refl h
    by_declared (defined t) q h = defined_own (scope_of ds table d.in_list) (resource_of ds k) t m refl h

  by_entry : (k : ℕ) → ((j : ℕ) → rank j < rank k → (m : Meaning) → at j ≡ Some m → IsOwn m) → (m : Meaning) → at k ≡ Some m → (o : Option Declaration) → slice_get ds k ≡ o → IsOwn m
  by_entry k below m h None e =
      let p : None ≡ Some m = sym (got k ∙ ap (λ (x : Option (Option Meaning)). unwrap_or x None) (solves k ∙ ap (option_map (entry_meaning ds table k)) e)) ∙ h in
      absurd cc
  by_entry k below m h (Some d) e =
      let p : entry_meaning ds table k d ≡ Some m = sym (got k ∙ ap (λ (x : Option (Option Meaning)). unwrap_or x None) (solves k ∙ ap (option_map (entry_meaning ds table k)) e)) ∙ h in
      by_declared k below m d e d.is refl p

  lower_ones : (n k : ℕ) → rank k < n → (m : Meaning) → at k ≡ Some m → IsOwn m
  lower_ones zero k lt m h = absurd (omega arith)
  lower_ones (suc n) k lt m h = by_entry k (λ j less. lower_ones n j (omega (arith, less, lt))) m h (slice_get ds k) refl

  by_found : (o : Option ℕ) (m : Meaning) → option_and_then (λ i. at i) o ≡ Some m → IsOwn m
  by_found None m h = absurd cc
  by_found (Some k) m h = lower_ones (suc (rank k)) k (omega arith) m h

  pub all_own : (l : ℕ) → AreOwn (scope_of ds table l)
  all_own l name m h = by_found (target ds (l, name)) m h

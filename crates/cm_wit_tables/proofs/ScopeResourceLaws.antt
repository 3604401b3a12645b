-- Just the declarations of resources stand for resources.
use Rattle.std.proofs.Common.{◌≡◌, ◌↔◌, ℕ, zero, suc, ◌<◌, true, List, [], Option, Some, None, unwrap_or, slice_get, refl, sym, ap, subst, ◌∙◌, arith}
use Rattle.std.specs.List.{AllByRecursion, filter_map, cons_option}
use Rattle.std.specs.Option.{option_map, option_and_then, option_map_or}
use Rattle.std.proofs.lemmas.Option.{unwrap_or-slice_get}
use Rattle.cm_types.specs.declared.resource.ResourceId.{ResourceId}
use Rattle.cm_names.specs.Keys.{Key}
use Rattle.cm_wit_reading.specs.Trees.{TypeDef, alias, record_of, variant, enum, flags}
use Rattle.cm_wit_reading.specs.Trees as trees
use Rattle.cm_wit_meanings.specs.Scopes.{Meaning, Scope, value, resource}
use Rattle.cm_wit_meanings.specs.Meanings.{def_meaning}
use Rattle.cm_wit_tables.specs.Declarations.{Declared, Declaration, brought, defined, referred, refers, target, IsRanked}
use Rattle.cm_wit_tables.specs.Tables.{resource_of, scope_of, declared_meaning, entry_meaning, Solves, is_resource}
use Rattle.cm_wit_tables.specs.TypeFaults.{IsResource, own_one, brought_one}
use Rattle.cm_wit_tables.proofs.TableLaws.{Table, at}

defines_one : (s : Scope) (r : ResourceId) (t : TypeDef) → is_resource t ≡ true → def_meaning s r t ≡ Some (resource r)
defines_one s r (alias t) h = absurd cc
defines_one s r (record_of fs) h = absurd cc
defines_one s r (variant cs) h = absurd cc
defines_one s r (enum names) h = absurd cc
defines_one s r (flags names) h = absurd cc
defines_one s r (trees.resource fs) h = refl

no_value : {A : Type 0} (g : A → Meaning) (o : Option A) (r : ResourceId) → ((a : A) → g a ≡ resource r → ⊥) → option_map g o ≡ Some (resource r) → ⊥
no_value g None r never h = absurd cc
no_value g (Some a) r never h = never a (ap (λ (m : Option Meaning). unwrap_or m (resource r)) h)

none_else : (s : Scope) (q r : ResourceId) (t : TypeDef) → def_meaning s q t ≡ Some (resource r) → is_resource t ≡ true
none_else s q r (alias t) h = absurd (no_value value _ r (λ a e. absurd cc) h)
none_else s q r (record_of fs) h = absurd (no_value value _ r (λ a e. absurd cc) h)
none_else s q r (variant cs) h = absurd (no_value value _ r (λ a e. absurd cc) h)
none_else s q r (enum names) h = absurd cc
none_else s q r (flags names) h = absurd cc
none_else s q r (trees.resource fs) h = refl

at_got : (table : Table) (k : ℕ) (m : Option Meaning) → slice_get table k ≡ Some m → at table k ≡ m
at_got table k m e = sym (unwrap_or-slice_get table k None) ∙ ap (λ o. unwrap_or o None) e

module _ (ds : List Declaration) (table : Table) (solves : Solves ds table) where
  entry_is : (k : ℕ) (d : Declaration) → slice_get ds k ≡ Some d → slice_get table k ≡ Some (entry_meaning ds table k d)
  entry_is k d e = solves k ∙ ap (option_map (entry_meaning ds table k)) e

  leads : (key : Key) (j : ℕ) → target ds key ≡ Some j → scope_of ds table key.0 key.1 ≡ at table j
  leads key j e = ap (option_and_then (λ i. at table i)) e

  stands : (k : ℕ) → IsResource ds k → (r : ResourceId) × (slice_get table k ≡ Some (Some (resource r)))
  stands _ (own_one k t d h) =
      (resource_of ds k, entry_is k d.0 d.1 ∙ ap Some (ap (declared_meaning ds table k d.0.in_list) d.2 ∙ defines_one (scope_of ds table d.0.in_list) (resource_of ds k) t h))
  stands _ (brought_one k j key d e h) =
      let below = stands j h in
      (below.0, entry_is k d.0 d.1 ∙ ap Some (ap (declared_meaning ds table k d.0.in_list) d.2 ∙ (leads key j e ∙ at_got table j (Some (resource below.0)) below.1)))

  got_at : (o : Option (Option Meaning)) (m : Meaning) → unwrap_or o None ≡ Some m → o ≡ Some (Some m)
  got_at None m h = absurd cc
  got_at (Some n) m h = ap Some h

  module _ (rank : ℕ → ℕ) (ranked : IsRanked ds rank) where
    used_lower : (k j : ℕ) (key : Key) (d : Declaration) → slice_get ds k ≡ Some d → d.is ≡ brought (Some key) → target ds key ≡ Some j → rank j < rank k
    used_lower k j key d e q t =
        let p = subst (λ (o : Option Declaration). AllByRecursion (λ i. rank i < rank k) (filter_map (target ds) (option_map_or refers o []))) e (ranked k) in
        let r = subst (λ (w : Declared). AllByRecursion (λ i. rank i < rank k) (filter_map (target ds) (referred d.in_list w))) q p in
        (subst (λ (o : Option ℕ). AllByRecursion (λ i. rank i < rank k) (cons_option o [])) t r).0

    module _ (k : ℕ) (below : (j : ℕ) → rank j < rank k → (r : ResourceId) → slice_get table j ≡ Some (Some (resource r)) → IsResource ds j) (r : ResourceId) (h : slice_get table k ≡ Some (Some (resource r))) (d : Declaration) (e : slice_get ds k ≡ Some d) where
      entry_one : (what : Declared) → d.is ≡ what → declared_meaning ds table k d.in_list what ≡ Some (resource r)
      entry_one what q =
          let p : Some (declared_meaning ds table k d.in_list what) ≡ Some (Some (resource r)) = ap (λ (w : Declared). Some (declared_meaning ds table k d.in_list w)) (sym q) ∙ (sym (entry_is k d e) ∙ h) in
          ap (λ (o : Option (Option Meaning)). unwrap_or o None) p

      by_target : (key : Key) → d.is ≡ brought (Some key) → (o : Option ℕ) → target ds key ≡ o → IsResource ds k
      by_target key q None t =
          let p : None ≡ Some (resource r) = sym (ap (option_and_then (λ i. at table i)) t) ∙ entry_one (brought (Some key)) q in
          absurd cc
      by_target key q (Some j) t =
          let p : at table j ≡ Some (resource r) = sym (leads key j t) ∙ entry_one (brought (Some key)) q in
          let there = got_at (slice_get table j) (resource r) (unwrap_or-slice_get table j None ∙ p) in
          brought_one k j key (d, e, q) t (below j (used_lower k j key d e q t) r there)

      by_declared : (what : Declared) → d.is ≡ what → IsResource ds k
      by_declared (brought None) q = let p = entry_one (brought None) q in absurd cc
      by_declared (brought (Some key)) q = by_target key q (target ds key) refl
      by_declared (defined t) q = own_one k t (d, e, q) (none_else (scope_of ds table d.in_list) (resource_of ds k) r t (entry_one (defined t) q))

    by_entry : (k : ℕ) → ((j : ℕ) → rank j < rank k → (r : ResourceId) → slice_get table j ≡ Some (Some (resource r)) → IsResource ds j) → (r : ResourceId) → slice_get table k ≡ Some (Some (resource r)) → (o : Option Declaration) → slice_get ds k ≡ o → IsResource ds k
    by_entry k below r h None e = let p : None ≡ Some (Some (resource r)) = sym (solves k ∙ ap (option_map (entry_meaning ds table k)) e) ∙ h in absurd cc
    by_entry k below r h (Some d) e = by_declared k below r h d e d.is refl

    lower_ones : (m k : ℕ) → rank k < m → (r : ResourceId) → slice_get table k ≡ Some (Some (resource r)) → IsResource ds k
    lower_ones zero k lt r h = absurd (omega arith)
    lower_ones (suc m) k lt r h = by_entry k (λ j less. lower_ones m j (omega (arith, less, lt))) r h (slice_get ds k) refl

    pub resources : (k : ℕ) → IsResource ds k ↔ ((r : ResourceId) × (slice_get table k ≡ Some (Some (resource r))))
    resources k = (stands k, λ p. lower_ones (suc (rank k)) k (omega arith) p.0 p.1)

-- Where each name leads to a type, and that of a borrow to a resource, each declaration stands for
-- something; and the other way round.
use Rattle.std.proofs.Common.{◌≡◌, ℕ, zero, suc, ◌<◌, List, [], ◌∷◌, ◌++◌, length, map, Option, Some, None, unwrap_or, slice_get, refl, sym, ap, subst, ◌∙◌, arith}
use Rattle.std.specs.List.{AllByRecursion, flat_map, filter_map, cons_option}
use Rattle.std.specs.Option.{option_map, option_and_then, option_map_or}
use Rattle.std.proofs.lemmas.Option.{unwrap_or-slice_get, slice_get_within}
use Rattle.cm_types.specs.declared.resource.ResourceId.{ResourceId}
use Rattle.cm_types.specs.Types as cm
use Rattle.cm_names.specs.Keys.{Key}
use Rattle.cm_wit_reading.specs.Types.{Ty, Tys, primitive, named, borrow, list, fixed_list, option, tuple, plain_result, ok_result, error_result, result, no_types, types}
use Rattle.cm_wit_reading.specs.Signatures.{Typed}
use Rattle.cm_wit_reading.specs.Trees.{Case, TypeDef, alias, record_of, variant, enum, flags}
use Rattle.cm_wit_reading.specs.Trees as trees
use Rattle.cm_wit_meanings.specs.Scopes.{Meaning, Scope, value, resource, as_type, as_resource}
use Rattle.cm_wit_meanings.specs.Meanings as meant
use Rattle.cm_wit_meanings.specs.Meanings.{meaning, meanings, each_meaning, typed_meaning, case_meaning, payload_meaning, def_meaning}
use Rattle.cm_wit_tables.specs.Declarations.{Declared, Declaration, brought, defined, referred, refers, target, IsRanked, names_in, names_in_all, names_in_payload, names_in_def}
use Rattle.cm_wit_tables.specs.Tables.{resource_of, scope_of, declared_meaning, entry_meaning, Solves, IsWhole}
use Rattle.cm_wit_tables.specs.TypeFaults.{LeadsToType, LeadsToResource, HasTypes, AllHaveTypes, borrowed_in, borrowed_in_all, borrowed_in_payload, borrowed_in_def}
use Rattle.cm_wit_tables.proofs.TableLaws.{Table, at}
use Rattle.cm_wit_tables.proofs.RankLaws.{found_below}
use Rattle.cm_wit_tables.proofs.ScopeResourceLaws.{resources}
use Rattle.cm_lemmas.proofs.Options.{Has, has_mapped}
use Rattle.cm_lemmas.proofs.Lists.{all_both, all_left, all_right, got_within}

module _ (s : Scope) where
  abbrev IsThere : List ℕ → Type 0
  IsThere n = Has (s n)

  abbrev IsOne : List ℕ → Type 0
  IsOne n = (r : ResourceId) × (s n ≡ Some (resource r))

  mutual
    type_there : (t : Ty) → AllByRecursion IsThere (names_in t) → AllByRecursion IsOne (borrowed_in t) → Has (meaning s t)
    type_there (primitive p) h b = (meant.primitive_type p, refl)
    type_there (named n) h b = has_mapped as_type (s n) h.0
    type_there (borrow n) h b = (cm.borrow b.0.0, ap (λ (m : Option Meaning). option_map cm.borrow (option_and_then as_resource m)) b.0.1)
    type_there (list t) h b = has_mapped cm.list (meaning s t) (type_there t h b)
    type_there (fixed_list t n) h b = has_mapped (λ x. cm.fixed_list x n) (meaning s t) (type_there t h b)
    type_there (option t) h b = has_mapped meant.option_of (meaning s t) (type_there t h b)
    type_there (tuple ts) h b = has_mapped meant.tuple_of (meanings s ts) (types_there ts h b)
    type_there plain_result h b = (meant.result_of None None, refl)
    type_there (ok_result t) h b = has_mapped (λ x. meant.result_of (Some x) None) (meaning s t) (type_there t h b)
    type_there (error_result t) h b = has_mapped (λ x. meant.result_of None (Some x)) (meaning s t) (type_there t h b)
    type_there (result t v) h b =
        let p = type_there t (all_left IsThere (names_in t) (names_in v) h) (all_left IsOne (borrowed_in t) (borrowed_in v) b) in
        let q = type_there v (all_right IsThere (names_in t) (names_in v) h) (all_right IsOne (borrowed_in t) (borrowed_in v) b) in
        (meant.result_of (Some p.0) (Some q.0), rw (p.1, q.1) refl)

    types_there : (ts : Tys) → AllByRecursion IsThere (names_in_all ts) → AllByRecursion IsOne (borrowed_in_all ts) → Has (meanings s ts)
    types_there no_types h b = ([], refl)
    types_there (types t ts) h b =
        let p = type_there t (all_left IsThere (names_in t) (names_in_all ts) h) (all_left IsOne (borrowed_in t) (borrowed_in_all ts) b) in
        let q = types_there ts (all_right IsThere (names_in t) (names_in_all ts) h) (all_right IsOne (borrowed_in t) (borrowed_in_all ts) b) in
        (p.0 ∷ q.0, rw (p.1, q.1) refl)

  fields_there : (fs : List Typed) → AllByRecursion IsThere (flat_map (λ f. names_in f.1) fs) → AllByRecursion IsOne (flat_map (λ f. borrowed_in f.1) fs) → Has (each_meaning (typed_meaning s) fs)
  fields_there [] h b = ([], refl)
  fields_there (f ∷ fs) h b =
      let p = type_there f.1 (all_left IsThere (names_in f.1) (flat_map (λ g. names_in g.1) fs) h) (all_left IsOne (borrowed_in f.1) (flat_map (λ g. borrowed_in g.1) fs) b) in
      let q = fields_there fs (all_right IsThere (names_in f.1) (flat_map (λ g. names_in g.1) fs) h) (all_right IsOne (borrowed_in f.1) (flat_map (λ g. borrowed_in g.1) fs) b) in
      ((f.0, p.0) ∷ q.0, rw (p.1, q.1) refl)

  payload_there : (p : Option Ty) → AllByRecursion IsThere (names_in_payload p) → AllByRecursion IsOne (borrowed_in_payload p) → Has (payload_meaning s p)
  payload_there None h b = (None, refl)
  payload_there (Some t) h b = has_mapped Some (meaning s t) (type_there t h b)

  cases_there : (cs : List Case) → AllByRecursion IsThere (flat_map (λ c. names_in_payload c.ty) cs) → AllByRecursion IsOne (flat_map (λ c. borrowed_in_payload c.ty) cs) → Has (each_meaning (case_meaning s) cs)
  cases_there [] h b = ([], refl)
  cases_there (c ∷ cs) h b =
      let p = payload_there c.ty (all_left IsThere (names_in_payload c.ty) (flat_map (λ d. names_in_payload d.ty) cs) h) (all_left IsOne (borrowed_in_payload c.ty) (flat_map (λ d. borrowed_in_payload d.ty) cs) b) in
      let q = cases_there cs (all_right IsThere (names_in_payload c.ty) (flat_map (λ d. names_in_payload d.ty) cs) h) (all_right IsOne (borrowed_in_payload c.ty) (flat_map (λ d. borrowed_in_payload d.ty) cs) b) in
      ((c.name, p.0) ∷ q.0, rw (p.1, q.1) refl)

  pub def_there : (r : ResourceId) (t : TypeDef) → AllByRecursion IsThere (names_in_def t) → AllByRecursion IsOne (borrowed_in_def t) → Has (def_meaning s r t)
  def_there r (alias t) h b = has_mapped value (meaning s t) (type_there t h b)
  def_there r (record_of fs) h b = has_mapped value _ (has_mapped meant.record_of (each_meaning (typed_meaning s) fs) (fields_there fs h b))
  def_there r (variant cs) h b = has_mapped value _ (has_mapped meant.variant_of (each_meaning (case_meaning s) cs) (cases_there cs h b))
  def_there r (enum names) h b = (_, refl)
  def_there r (flags names) h b = (_, refl)
  def_there r (trees.resource fs) h b = (resource r, refl)

-- ---- the other way round

unmapped : {A B : Type 0} (g : A → B) (o : Option A) → Has (option_map g o) → Has o
unmapped g None h = let e = h.1 in absurd cc
unmapped g (Some x) h = (x, refl)

first_there : {A B : Type 0} (f : A → Option B) (o : Option A) → Has (option_and_then f o) → Has o
first_there f None h = let e = h.1 in absurd cc
first_there f (Some x) h = (x, refl)

then_there : {A B C : Type 0} (f : A → B → C) (o : Option A) (p : Option B) → Has (option_and_then (λ x. option_map (f x) p) o) → Has p
then_there f None p h = let e = h.1 in absurd cc
then_there f (Some x) p h = unmapped (f x) p h

one_of : (o : Option Meaning) → Has (option_and_then as_resource o) → (r : ResourceId) × (o ≡ Some (resource r))
one_of None h = let e = h.1 in absurd cc
one_of (Some (value t)) h = let e = h.1 in absurd cc
one_of (Some (resource r)) h = (r, refl)

module _ (s : Scope) where
  abbrev Both : List (List ℕ) → List (List ℕ) → Type 0
  Both names borrowed = AllByRecursion (IsThere s) names × AllByRecursion (IsOne s) borrowed

  joined : (xs ys us vs : List (List ℕ)) → Both xs us → Both ys vs → Both (xs ++ ys) (us ++ vs)
  joined xs ys us vs p q = (all_both (IsThere s) xs ys p.0 q.0, all_both (IsOne s) us vs p.1 q.1)

  mutual
    type_names : (t : Ty) → Has (meaning s t) → Both (names_in t) (borrowed_in t)
    type_names (primitive p) h = (tt, tt)
    type_names (named n) h = ((unmapped as_type (s n) h, tt), tt)
    type_names (borrow n) h = let p = one_of (s n) (unmapped cm.borrow (option_and_then as_resource (s n)) h) in (((resource p.0, p.1), tt), (p, tt))
    type_names (list t) h = type_names t (unmapped cm.list (meaning s t) h)
    type_names (fixed_list t n) h = type_names t (unmapped (λ x. cm.fixed_list x n) (meaning s t) h)
    type_names (option t) h = type_names t (unmapped meant.option_of (meaning s t) h)
    type_names (tuple ts) h = types_names ts (unmapped meant.tuple_of (meanings s ts) h)
    type_names plain_result h = (tt, tt)
    type_names (ok_result t) h = type_names t (unmapped (λ x. meant.result_of (Some x) None) (meaning s t) h)
    type_names (error_result t) h = type_names t (unmapped (λ x. meant.result_of None (Some x)) (meaning s t) h)
    type_names (result t v) h =
        joined (names_in t) (names_in v) (borrowed_in t) (borrowed_in v)
        (type_names t (first_there (λ x. option_map (λ y. meant.result_of (Some x) (Some y)) (meaning s v)) (meaning s t) h))
        (type_names v (then_there (λ x y. meant.result_of (Some x) (Some y)) (meaning s t) (meaning s v) h))

    types_names : (ts : Tys) → Has (meanings s ts) → Both (names_in_all ts) (borrowed_in_all ts)
    types_names no_types h = (tt, tt)
    types_names (types t ts) h =
        joined (names_in t) (names_in_all ts) (borrowed_in t) (borrowed_in_all ts)
        (type_names t (first_there (λ x. option_map (λ xs. x ∷ xs) (meanings s ts)) (meaning s t) h))
        (types_names ts (then_there (λ x xs. x ∷ xs) (meaning s t) (meanings s ts) h))

  fields_names : (fs : List Typed) → Has (each_meaning (typed_meaning s) fs) → Both (flat_map (λ f. names_in f.1) fs) (flat_map (λ f. borrowed_in f.1) fs)
  fields_names [] h = (tt, tt)
  fields_names (f ∷ fs) h =
      joined (names_in f.1) (flat_map (λ g. names_in g.1) fs) (borrowed_in f.1) (flat_map (λ g. borrowed_in g.1) fs)
      (type_names f.1 (unmapped (λ t. (f.0, t)) (meaning s f.1) (first_there (λ y. option_map (λ ys. y ∷ ys) (each_meaning (typed_meaning s) fs)) (typed_meaning s f) h)))
      (fields_names fs (then_there (λ y ys. y ∷ ys) (typed_meaning s f) (each_meaning (typed_meaning s) fs) h))

  payload_names : (p : Option Ty) → Has (payload_meaning s p) → Both (names_in_payload p) (borrowed_in_payload p)
  payload_names None h = (tt, tt)
  payload_names (Some t) h = type_names t (unmapped Some (meaning s t) h)

  cases_names : (cs : List Case) → Has (each_meaning (case_meaning s) cs) → Both (flat_map (λ c. names_in_payload c.ty) cs) (flat_map (λ c. borrowed_in_payload c.ty) cs)
  cases_names [] h = (tt, tt)
  cases_names (c ∷ cs) h =
      joined (names_in_payload c.ty) (flat_map (λ d. names_in_payload d.ty) cs) (borrowed_in_payload c.ty) (flat_map (λ d. borrowed_in_payload d.ty) cs)
      (payload_names c.ty (unmapped (λ p. (c.name, p)) (payload_meaning s c.ty) (first_there (λ y. option_map (λ ys. y ∷ ys) (each_meaning (case_meaning s) cs)) (case_meaning s c) h)))
      (cases_names cs (then_there (λ y ys. y ∷ ys) (case_meaning s c) (each_meaning (case_meaning s) cs) h))

  def_names : (r : ResourceId) (t : TypeDef) → Has (def_meaning s r t) → Both (names_in_def t) (borrowed_in_def t)
  def_names r (alias t) h = type_names t (unmapped value (meaning s t) h)
  def_names r (record_of fs) h = fields_names fs (unmapped meant.record_of (each_meaning (typed_meaning s) fs) (unmapped value (option_map meant.record_of (each_meaning (typed_meaning s) fs)) h))
  def_names r (variant cs) h = cases_names cs (unmapped meant.variant_of (each_meaning (case_meaning s) cs) (unmapped value (option_map meant.variant_of (each_meaning (case_meaning s) cs)) h))
  def_names r (enum names) h = (tt, tt)
  def_names r (flags names) h = (tt, tt)
  def_names r (trees.resource fs) h = (tt, tt)

-- ---- each entry

at_got : (table : Table) (k : ℕ) (m : Option Meaning) → slice_get table k ≡ Some m → at table k ≡ m
at_got table k m e = sym (unwrap_or-slice_get table k None) ∙ ap (λ o. unwrap_or o None) e

got_at : (table : Table) (k : ℕ) (m : Meaning) → at table k ≡ Some m → slice_get table k ≡ Some (Some m)
got_at table k m e = by_entry (slice_get table k) (unwrap_or-slice_get table k None ∙ e)
  where
    by_entry : (o : Option (Option Meaning)) → unwrap_or o None ≡ Some m → o ≡ Some (Some m)
    by_entry None h = absurd cc
    by_entry (Some n) h = ap Some h

module _ (ds : List Declaration) (table : Table) where
  -- each key that leads to a declaration leads to one of which this holds
  abbrev Led : (ℕ → Type 0) → List Key → Type 0
  Led P keys = AllByRecursion (λ key. (j : ℕ) → target ds key ≡ Some j → P j) keys

  led : (P : ℕ → Type 0) (keys : List Key) → AllByRecursion P (filter_map (target ds) keys) → Led P keys
  led P [] h = tt
  led P (key ∷ keys) h = let p = one_led (target ds key) h in ((λ j e. p.0 j e), led P keys p.1)
    where
      some_is : (a b : ℕ) → Some a ≡ Some b → a ≡ b
      some_is a b e = cc

      one_led : (o : Option ℕ) → AllByRecursion P (cons_option o (filter_map (target ds) keys)) → ((j : ℕ) → o ≡ Some j → P j) × AllByRecursion P (filter_map (target ds) keys)
      one_led None g = ((λ j e. absurd cc), g)
      one_led (Some i) g = ((λ j e. subst P (some_is i j e) g.0), g.1)

  leads_to : (key : Key) (j : ℕ) → target ds key ≡ Some j → scope_of ds table key.0 key.1 ≡ at table j
  leads_to key j e = ap (option_and_then (λ i. at table i)) e

  -- what stands below a rank is there
  abbrev There : ℕ → Type 0
  There j = Has (at table j)

  one_there : (key : Key) → LeadsToType ds key → ((j : ℕ) → target ds key ≡ Some j → There j) → Has (scope_of ds table key.0 key.1)
  one_there key t h = let p = h t.0 t.1 in (p.0, leads_to key t.0 t.1 ∙ p.1)

  named_there : (l : ℕ) (names : List (List ℕ)) → AllByRecursion (λ n. LeadsToType ds (l, n)) names → Led There (map (λ n. (l, n)) names) → AllByRecursion (IsThere (scope_of ds table l)) names
  named_there l [] t h = tt
  named_there l (n ∷ names) t h = (one_there (l, n) t.0 h.0, named_there l names t.1 h.1)

  module _ (solves : Solves ds table) (rank : ℕ → ℕ) (ranked : IsRanked ds rank) where
    borrowed_there : (l : ℕ) (names : List (List ℕ)) → AllByRecursion (λ n. LeadsToResource ds (l, n)) names → AllByRecursion (IsOne (scope_of ds table l)) names
    borrowed_there l [] h = tt
    borrowed_there l (n ∷ names) h =
        let p = (resources ds table solves rank ranked h.0.0).0 h.0.2 in
        ((p.0, leads_to (l, n) h.0.0 h.0.1 ∙ at_got table h.0.0 (Some (resource p.0)) p.1), borrowed_there l names h.1)

    declared_there : (k l : ℕ) (d : Declared) → HasTypes ds l d → Led There (referred l d) → Has (declared_meaning ds table k l d)
    declared_there k l (brought None) h low = absurd h
    declared_there k l (brought (Some key)) h low = one_there key h low.0
    declared_there k l (defined t) h low = def_there (scope_of ds table l) (resource_of ds k) t (named_there l (names_in_def t) h.0 low) (borrowed_there l (borrowed_in_def t) h.1)

    entry_is : (k : ℕ) (d : Declaration) → slice_get ds k ≡ Some d → slice_get table k ≡ Some (entry_meaning ds table k d)
    entry_is k d e = solves k ∙ ap (option_map (entry_meaning ds table k)) e

    all_lower : (m j : ℕ) → rank j < suc m → ((i : ℕ) → rank i < m → (d : Declaration) → slice_get ds i ≡ Some d → There i) → (js : List ℕ) → AllByRecursion (λ i. rank i < rank j) js → AllByRecursion (λ i. i < length ds) js → AllByRecursion There js
    all_lower m j lt below [] h g = tt
    all_lower m j lt below (i ∷ js) h g = let q = got_within ds i g.0 in (below i (omega (arith, h.0, lt)) q.0 q.1, all_lower m j lt below js h.1 g.1)

    there_below : AllHaveTypes ds → (m j : ℕ) → rank j < m → (d : Declaration) → slice_get ds j ≡ Some d → There j
    there_below all zero j lt d e = absurd (omega (arith, lt))
    there_below all (suc m) j lt d e =
        let lower = subst (λ (o : Option Declaration). AllByRecursion (λ i. rank i < rank j) (filter_map (target ds) (option_map_or refers o []))) e (ranked j) in
        let low : AllByRecursion There (filter_map (target ds) (refers d)) = all_lower m j lt (there_below all m) (filter_map (target ds) (refers d)) lower (found_below ds (refers d)) in
        let p = declared_there j d.in_list d.is (all j d e) (led There (refers d) low) in
        (p.0, at_got table j (entry_meaning ds table j d) (entry_is j d e) ∙ p.1)

    pub all_there : AllHaveTypes ds → IsWhole ds table
    all_there all k lt =
        let q = got_within ds k lt in
        let p = there_below all (suc (rank k)) k (omega arith) q.0 q.1 in
        (p.0, got_at table k p.0 p.1)

    -- ---- back

    key_leads : (key : Key) → Has (scope_of ds table key.0 key.1) → LeadsToType ds key
    key_leads key h = first_there (λ i. at table i) (target ds key) h

    names_lead : (l : ℕ) (names : List (List ℕ)) → AllByRecursion (IsThere (scope_of ds table l)) names → AllByRecursion (λ n. LeadsToType ds (l, n)) names
    names_lead l [] h = tt
    names_lead l (n ∷ names) h = (key_leads (l, n) h.0, names_lead l names h.1)

    borrows_lead : (l : ℕ) (names : List (List ℕ)) → AllByRecursion (IsOne (scope_of ds table l)) names → AllByRecursion (λ n. LeadsToResource ds (l, n)) names
    borrows_lead l [] h = tt
    borrows_lead l (n ∷ names) h =
        let q = key_leads (l, n) (resource h.0.0, h.0.1) in
        let p = got_at table q.0 (resource h.0.0) (sym (leads_to (l, n) q.0 q.1) ∙ h.0.1) in
        ((q.0, q.1, (resources ds table solves rank ranked q.0).1 (h.0.0, p)), borrows_lead l names h.1)

    declared_leads : (k l : ℕ) (d : Declared) → Has (declared_meaning ds table k l d) → HasTypes ds l d
    declared_leads k l (brought None) h = let e = h.1 in absurd cc
    declared_leads k l (brought (Some key)) h = key_leads key h
    declared_leads k l (defined t) h = let p = def_names (scope_of ds table l) (resource_of ds k) t h in (names_lead l (names_in_def t) p.0, borrows_lead l (borrowed_in_def t) p.1)

    pub all_lead : IsWhole ds table → AllHaveTypes ds
    all_lead all k d e =
        let p = all k (slice_get_within ds k d e) in
        let same : Some (entry_meaning ds table k d) ≡ Some (Some p.0) = sym (entry_is k d e) ∙ p.1 in
        declared_leads k d.in_list d.is (p.0, ap (λ (o : Option (Option Meaning)). unwrap_or o None) same)

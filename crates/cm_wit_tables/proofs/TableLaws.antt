-- One table, and no other, has what ranked declarations stand for.
use Rattle.std.proofs.Common.{inl, inr, ◌≡◌, ℕ, zero, suc, ◌+◌, ◌<◌, ◌≤◌, max, List, [], ◌∷◌, length, map, Option, Some, None, unwrap_or, slice_get, slice_index_or, refl, sym, ap, ◌∙◌, arith}
use Rattle.std.specs.List.{AllByRecursion, filter_map, cons_option}
use Rattle.std.specs.Option.{option_map, option_and_then, option_map_or}
use Rattle.std.proofs.lemmas.Option.{unwrap_or-slice_get, slice_get_within}
use Rattle.std.proofs.lemmas.Bool.{cases_lt}
use Rattle.cm_names.specs.Keys.{Key}
use Rattle.cm_wit_meanings.specs.Scopes.{Meaning}
use Rattle.cm_wit_tables.specs.Declarations.{Declared, Declaration, brought, defined, referred, refers, target, uses, IsRanked, names_in_def}
use Rattle.cm_wit_tables.specs.Tables.{resource_of, scope_of, declared_meaning, entry_meaning, Solves, HasOneTable}
use Rattle.cm_wit_tables.proofs.AgreeLaws.{Agree, def_agrees}

abbrev pub Table : Type 0
Table = List (Option Meaning)

-- what a table has at a place
abbrev pub at : Table → ℕ → Option Meaning
at table k = slice_index_or table k None

at_got : (table : Table) (k : ℕ) → at table k ≡ unwrap_or (slice_get table k) None
at_got table k = sym (unwrap_or-slice_get table k None)

same_list : {A : Type 0} (xs ys : List A) → ((k : ℕ) → slice_get xs k ≡ slice_get ys k) → xs ≡ ys
same_list [] [] h = refl
same_list [] (y ∷ ys) h = let e = h 0 in absurd cc
same_list (x ∷ xs) [] h = let e = h 0 in absurd cc
same_list (x ∷ xs) (y ∷ ys) h =
    let e = ap (λ (o : Option _). unwrap_or o x) (h 0) in
    let rest = same_list xs ys (λ k. h (suc k)) in
    rw (e, rest) refl

-- ---- what tables say of a declaration that agree on those that it uses

module _ (ds : List Declaration) (P : ℕ → Type 0) (a b : Table) (same : (k : ℕ) → P k → at a k ≡ at b k) where
  one_agrees : (o : Option ℕ) (rest : List ℕ) → AllByRecursion P (cons_option o rest) → (option_and_then (λ k. at a k) o ≡ option_and_then (λ k. at b k) o) × AllByRecursion P rest
  one_agrees None rest h = (refl, h)
  one_agrees (Some j) rest h = (same j h.0, h.1)

  keys_agree : (keys : List Key) → AllByRecursion P (filter_map (target ds) keys) → AllByRecursion (λ (key : Key). scope_of ds a key.0 key.1 ≡ scope_of ds b key.0 key.1) keys
  keys_agree [] h = tt
  keys_agree (key ∷ keys) h =
      let p = one_agrees (target ds key) (filter_map (target ds) keys) h in
      (p.0, keys_agree keys p.1)

  names_agree : (l : ℕ) (names : List (List ℕ)) → AllByRecursion (λ (key : Key). scope_of ds a key.0 key.1 ≡ scope_of ds b key.0 key.1) (map (λ n. (l, n)) names) → Agree (scope_of ds a l) (scope_of ds b l) names
  names_agree l [] h = tt
  names_agree l (n ∷ names) h = (h.0, names_agree l names h.1)

  entry_agrees : (k l : ℕ) (d : Declared) → AllByRecursion P (filter_map (target ds) (referred l d)) → declared_meaning ds a k l d ≡ declared_meaning ds b k l d
  entry_agrees k l (brought None) h = refl
  entry_agrees k l (brought (Some key)) h = (keys_agree (key ∷ []) h).0
  entry_agrees k l (defined t) h = def_agrees (scope_of ds a l) (scope_of ds b l) (resource_of ds k) t (names_agree l (names_in_def t) (keys_agree (map (λ n. (l, n)) (names_in_def t)) h))

  pub declaration_agrees : (k : ℕ) (o : Option Declaration) → AllByRecursion P (filter_map (target ds) (option_map_or refers o [])) → option_map (entry_meaning ds a k) o ≡ option_map (entry_meaning ds b k) o
  declaration_agrees k None h = refl
  declaration_agrees k (Some d) h = ap Some (entry_agrees k d.in_list d.is h)

-- tables that agree on what a declaration uses agree on what it stands for
pub uses_decide : (ds : List Declaration) (a b : Table) (k : ℕ) → AllByRecursion (λ j. at a j ≡ at b j) (uses ds k) → option_map (entry_meaning ds a k) (slice_get ds k) ≡ option_map (entry_meaning ds b k) (slice_get ds k)
uses_decide ds a b k h = declaration_agrees ds (λ j. at a j ≡ at b j) a b (λ j e. e) k (slice_get ds k) h

module _ (ds : List Declaration) (rank : ℕ → ℕ) where
  -- two tables agree on what stands below a rank
  abbrev AgreeBelow : ℕ → Table → Table → Type 0
  AgreeBelow m a b = (k : ℕ) → rank k < m → at a k ≡ at b k

  -- what the equation gives at a place
  abbrev given : Table → ℕ → Option (Option Meaning)
  given t k = option_map (entry_meaning ds t k) (slice_get ds k)

  all_lower : (m n : ℕ) (js : List ℕ) → m ≤ n → AllByRecursion (λ j. rank j < m) js → AllByRecursion (λ j. rank j < n) js
  all_lower m n [] le h = tt
  all_lower m n (j ∷ js) le h = (omega (arith, h.0), all_lower m n js le h.1)

  module _ (ranked : IsRanked ds rank) where
    given_agrees : (m : ℕ) (a b : Table) → AgreeBelow m a b → (k : ℕ) → rank k ≤ m → given a k ≡ given b k
    given_agrees m a b same k le = declaration_agrees ds (λ j. rank j < m) a b same k (slice_get ds k) (all_lower (rank k) m (uses ds k) le (ranked k))

    -- ---- no other

    solutions_agree : (a b : Table) → Solves ds a → Solves ds b → (m : ℕ) → AgreeBelow m a b
    solutions_agree a b p q zero k lt = absurd (omega arith)
    solutions_agree a b p q (suc m) k lt =
        at_got a k ∙ (ap (λ (o : Option (Option Meaning)). unwrap_or o None) (p k ∙ (given_agrees m a b (solutions_agree a b p q m) k (omega (arith, lt)) ∙ sym (q k))) ∙ sym (at_got b k))

    no_other : (a b : Table) → Solves ds a → Solves ds b → a ≡ b
    no_other a b p q = same_list a b (λ k. p k ∙ (given_agrees (rank k) a b (solutions_agree a b p q (rank k)) k (omega arith) ∙ sym (q k)))

    -- ---- one: from no table at all, what stands at a rank is found once what is below it is

    abbrev step_from : Table → ℕ → List Declaration → Table
    step_from t k [] = []
    step_from t k (d ∷ rest) = entry_meaning ds t k d ∷ step_from t (suc k) rest

    step_get : (t : Table) (k : ℕ) (rest : List Declaration) (i : ℕ) → slice_get (step_from t k rest) i ≡ option_map (entry_meaning ds t (k + i)) (slice_get rest i)
    step_get t k [] i = refl
    step_get t k (d ∷ rest) zero = let e : k ≡ k + 0 = omega arith in ap (λ (n : ℕ). Some (entry_meaning ds t n d)) e
    step_get t k (d ∷ rest) (suc i) =
        let e : suc k + i ≡ k + suc i = omega arith in
        step_get t (suc k) rest i ∙ ap (λ (n : ℕ). option_map (entry_meaning ds t n) (slice_get rest i)) e

    abbrev step : Table → Table
    step t = step_from t 0 ds

    step_is : (t : Table) (k : ℕ) → slice_get (step t) k ≡ given t k
    step_is t k = let e : 0 + k ≡ k = omega arith in step_get t 0 ds k ∙ ap (λ (n : ℕ). option_map (entry_meaning ds t n) (slice_get ds k)) e

    abbrev times : ℕ → Table
    times zero = []
    times (suc m) = step (times m)

    stays : (m : ℕ) → AgreeBelow m (times m) (times (suc m))
    stays zero k lt = absurd (omega arith)
    stays (suc m) k lt =
        at_got (times (suc m)) k ∙ (ap (λ (o : Option (Option Meaning)). unwrap_or o None) (step_is (times m) k ∙ (given_agrees m (times m) (times (suc m)) (stays m) k (omega (arith, lt)) ∙ sym (step_is (times (suc m)) k))) ∙ sym (at_got (times (suc (suc m))) k))

    -- the greatest rank below a number
    abbrev bound : ℕ → ℕ
    bound zero = 0
    bound (suc n) = max (bound n) (rank n)

    bounded : (n k : ℕ) → k < n → rank k ≤ bound n
    bounded zero k lt = absurd (omega arith)
    bounded (suc n) k lt = elim (cases_lt k n) [
      | inl less ↦ (let p = bounded n k less in omega (arith, p))
      | inr le ↦ (let e : rank k ≡ rank n = ap rank (omega (arith, le, lt)) in omega (arith, e))
    ]

    abbrev last : ℕ
    last = bound (length ds)

    abbrev the_table : Table
    the_table = times (suc last)

    settled : (k : ℕ) (o : Option Declaration) → slice_get ds k ≡ o → given (times last) k ≡ given the_table k
    settled k None e = ap (option_map (entry_meaning ds (times last) k)) e ∙ sym (ap (option_map (entry_meaning ds the_table k)) e)
    settled k (Some d) e = given_agrees last (times last) the_table (stays last) k (bounded (length ds) k (slice_get_within ds k d e))

    solved : Solves ds the_table
    solved k = step_is (times last) k ∙ settled k (slice_get ds k) refl

    pub one_table : HasOneTable ds
    one_table = (the_table, solved, λ other p. no_other other the_table p solved)

-- Each name leads to a type just where the tests say so.
use Rattle.std.proofs.Common.{◌≡◌, ◌↔◌, ℕ, suc, Bool, true, false, ◌&&◌, is_some, List, [], ◌∷◌, Option, Some, None, slice_get, Result, IfOk, IsTrue, refl, sym, ap, subst, ◌∙◌}
use Rattle.std.proofs.lemmas.Result.{IfOk-weaker}
use Rattle.std.specs.declared.alloc.AllocError.{AllocError}
use Rattle.std.specs.List.{AllByRecursion, list_all}
use Rattle.std.specs.Borrow.{Bor}
use Rattle.std.proofs.lemmas.Bool.{and_from}
use Rattle.cm_wit_graph.specs.Graphs.{IsMarked}
use Rattle.cm_names.specs.Keys.{Key}
use Rattle.cm_wit_reading.specs.Trees.{TypeDef}
use Rattle.cm_wit_tables.specs.Declarations.{Declaration, Declared, brought, defined, keys_of, target, names_in_def}
use Rattle.cm_wit_tables.specs.TypeFaults.{IsResource, LeadsToType, LeadsToResource, HasTypes, AllHaveTypes, borrowed_in_def}
use Rattle.cm_wit_tables.specs.Leading.{found, named, is_marked_place, have_types, has_types}
use Rattle.cm_wit_tables.specs.Names.{texts}
use Rattle.cm_lemmas.proofs.Bools.{both_true}
use Rattle.cm_lemmas.proofs.Lists.{all_found as each_passes}
use Rattle.cm_lemmas.proofs.Options.{some_there}

-- ---- lists

pub all_named : (p : Key → Bool) (l : ℕ) (names : List (Bor (List ℕ))) → list_all p (named l (texts names)) ≡ list_all (λ n. p (l, n.now)) names
all_named p l [] = refl
all_named p l (n ∷ names) = ap (λ (b : Bool). p (l, n.now) && b) (all_named p l names)

module _ (p : Key → Bool) (P : Key → Type 0) (is : (key : Key) → (p key ≡ true) ↔ P key) (l : ℕ) where
  all_hold : (names : List (List ℕ)) → list_all p (named l names) ≡ true → AllByRecursion (λ n. P (l, n)) names
  all_hold [] h = tt
  all_hold (n ∷ names) h = let q = both_true (p (l, n)) (list_all p (named l names)) h in ((is (l, n)).0 q.0, all_hold names q.1)

  all_pass : (names : List (List ℕ)) → AllByRecursion (λ n. P (l, n)) names → list_all p (named l names) ≡ true
  all_pass [] h = refl
  all_pass (n ∷ names) h = and_from (p (l, n)) (list_all p (named l names)) ((is (l, n)).1 h.0) (all_pass names h.1)

all_from : {A : Type 0} (p : A → Bool) (xs : List A) → ((k : ℕ) (x : A) → slice_get xs k ≡ Some x → p x ≡ true) → list_all p xs ≡ true
all_from p [] h = refl
all_from p (x ∷ xs) h = and_from (p x) (list_all p xs) (h 0 x refl) (all_from p xs (λ k y e. h (suc k) y e))

-- ---- names

there_some : (o : Option ℕ) → ((j : ℕ) × (o ≡ Some j)) → is_some o ≡ true
there_some o (j, e) = ap (λ (x : Option ℕ). is_some x) e

module _ (ds : List Declaration) (marks : List Bool) (marked : (k : ℕ) → IsMarked marks k ↔ IsResource ds k) where
  leads_is : (key : Key) → (is_some (found (keys_of ds) key) ≡ true) ↔ LeadsToType ds key
  leads_is key = (some_there (target ds key), there_some (target ds key))

  marked_there : (key : Key) (o : Option ℕ) → target ds key ≡ o → is_marked_place marks o ≡ true → LeadsToResource ds key
  marked_there key None e h = absurd cc
  marked_there key (Some j) e h = (j, e, (marked j).0 h)

  there_marked : (key : Key) → LeadsToResource ds key → is_marked_place marks (target ds key) ≡ true
  there_marked key (j, e, h) = ap (is_marked_place marks) e ∙ (marked j).1 h

  resource_is : (key : Key) → (is_marked_place marks (found (keys_of ds) key) ≡ true) ↔ LeadsToResource ds key
  resource_is key = (marked_there key (target ds key) refl, there_marked key)

  types_there : (l : ℕ) (d : Declared) → have_types (keys_of ds) marks l d ≡ true → HasTypes ds l d
  types_there l (brought None) h = absurd cc
  types_there l (brought (Some key)) h = (leads_is key).0 h
  types_there l (defined t) h =
      let q = both_true (list_all (λ key. is_some (found (keys_of ds) key)) (named l (names_in_def t))) (list_all (λ key. is_marked_place marks (found (keys_of ds) key)) (named l (borrowed_in_def t))) h in (
        all_hold (λ key. is_some (found (keys_of ds) key)) (LeadsToType ds) leads_is l (names_in_def t) q.0,
        all_hold (λ key. is_marked_place marks (found (keys_of ds) key)) (LeadsToResource ds) resource_is l (borrowed_in_def t) q.1,
      )

  there_types : (l : ℕ) (d : Declared) → HasTypes ds l d → have_types (keys_of ds) marks l d ≡ true
  there_types l (brought None) h = absurd h
  there_types l (brought (Some key)) h = (leads_is key).1 h
  there_types l (defined t) h =
      and_from (list_all (λ key. is_some (found (keys_of ds) key)) (named l (names_in_def t))) (list_all (λ key. is_marked_place marks (found (keys_of ds) key)) (named l (borrowed_in_def t)))
      (all_pass (λ key. is_some (found (keys_of ds) key)) (LeadsToType ds) leads_is l (names_in_def t) h.0)
      (all_pass (λ key. is_marked_place marks (found (keys_of ds) key)) (LeadsToResource ds) resource_is l (borrowed_in_def t) h.1)

  pub all_lead_is : (keys : List Key) → keys ≡ keys_of ds → (list_all (has_types keys marks) ds ≡ true) ↔ AllHaveTypes ds
  all_lead_is keys e = subst (λ (ks : List Key). (list_all (has_types ks marks) ds ≡ true) ↔ AllHaveTypes ds) (sym e) (
    (λ h k d g. types_there d.in_list d.is (each_passes (has_types (keys_of ds) marks) ds k d h g)),
    (λ h. all_from (has_types (keys_of ds) marks) ds (λ k d g. there_types d.in_list d.is (h k d g))),
  )

-- ---- one definition

module _ (keys : List Key) (marks : List Bool) (l : ℕ) (is : Declared) (t : TypeDef) (e : is ≡ defined t) (all : List (Bor (List ℕ))) (a : texts all ≡ names_in_def t) where
  found_is : list_all (λ key. is_some (found keys key)) (named l (names_in_def t)) ≡ list_all (λ n. is_some (found keys (l, n.now))) all
  found_is = ap (λ (names : List (List ℕ)). list_all (λ key. is_some (found keys key)) (named l names)) (sym a) ∙ all_named (λ key. is_some (found keys key)) l all

  not_found : list_all (λ n. is_some (found keys (l, n.now))) all ≡ false → have_types keys marks l is ≡ false
  not_found h = ap (have_types keys marks l) e ∙ ap (λ (b : Bool). b && list_all (λ key. is_marked_place marks (found keys key)) (named l (borrowed_in_def t))) (found_is ∙ h)

  all_found : (borrowed : List (Bor (List ℕ))) → texts borrowed ≡ borrowed_in_def t → list_all (λ n. is_some (found keys (l, n.now))) all ≡ true → have_types keys marks l is ≡ list_all (λ n. is_marked_place marks (found keys (l, n.now))) borrowed
  all_found borrowed b h = ap (have_types keys marks l) e ∙ (ap (λ (c : Bool). c && list_all (λ key. is_marked_place marks (found keys key)) (named l (borrowed_in_def t))) (found_is ∙ h)
      ∙ (ap (λ (names : List (List ℕ)). list_all (λ key. is_marked_place marks (found keys key)) (named l names)) (sym b) ∙ all_named (λ key. is_marked_place marks (found keys key)) l borrowed))

  module _ (slice : List (Bor (List ℕ))) (v : slice ≡ all) (first : Bool) (f : first ≡ list_all (λ n. is_some (found keys (l, n.now))) slice) where
    told : (b : Bool) → first ≡ b → list_all (λ n. is_some (found keys (l, n.now))) all ≡ b
    told b h = ap (λ (names : List (Bor (List ℕ))). list_all (λ n. is_some (found keys (l, n.now))) names) (sym v) ∙ (sym f ∙ h)

    pub none_told : (result : Bool) → result ≡ first → first ≡ false → result ≡ have_types keys marks l is
    none_told result r h = r ∙ (h ∙ sym (not_found (told false h)))

    pub all_told : (borrowed part : List (Bor (List ℕ))) (result second : Bool) → texts borrowed ≡ borrowed_in_def t → part ≡ borrowed → second ≡ list_all (λ n. is_marked_place marks (found keys (l, n.now))) part → result ≡ second → first ≡ true → result ≡ have_types keys marks l is
    all_told borrowed part result second b w s r h = r ∙ (s ∙ (ap (λ (names : List (Bor (List ℕ))). list_all (λ n. is_marked_place marks (found keys (l, n.now))) names) w ∙ sym (all_found borrowed b (told true h))))

-- ---- the whole answer

pub lead_told : (ds : List Declaration) (keys : List Key) (own marks : List Bool) (r : Result Bool AllocError) → keys ≡ keys_of ds → marks ≡ own → ((k : ℕ) → IsMarked own k ↔ IsResource ds k) → IfOk r (λ b. b ≡ list_all (has_types keys marks) ds) → IfOk r (λ b. IsTrue b ↔ AllHaveTypes ds)
lead_told ds keys own marks r e m g h = IfOk-weaker r (λ b. b ≡ list_all (has_types keys marks) ds) (λ b. IsTrue b ↔ AllHaveTypes ds) (λ b is. subst (λ (c : Bool). IsTrue c ↔ AllHaveTypes ds) (sym is) whole) h
  where
    whole : IsTrue (list_all (has_types keys marks) ds) ↔ AllHaveTypes ds
    whole = all_lead_is ds marks (subst (λ (bs : List Bool). (k : ℕ) → IsMarked bs k ↔ IsResource ds k) (sym m) g) keys e

-- What names lead to, listed.
use Rattle.std.proofs.Common.{◌≡◌, ℕ, zero, suc, ◌+◌, ◌<◌, ◌≤◌, List, [], ◌∷◌, ◌++◌, length, map, drop, get_or, Option, Some, None, slice_get, slice_index_or, refl, sym, ap, ◌∙◌, append_assoc, append-nil}
use Rattle.std.proofs.lemmas.List.{drop_all, drop_more, length-map}
use Rattle.std.specs.List.{filter_map, cons_option}
use Rattle.std.specs.Option.{option_map_or}
use Rattle.std.specs.Borrow.{Bor}
use Rattle.std.specs.Global.{Vec}
use Rattle.cm_names.specs.Keys.{Key, first_key}
use Rattle.cm_wit_graph.specs.Orders.{needs_of}
use Rattle.cm_wit_tables.specs.Declarations.{Declaration, keys_of, refers, target, uses}
use Rattle.cm_wit_tables.specs.Leading.{found, named, uses_by}
use Rattle.cm_wit_tables.specs.Names.{texts}

abbrev pub Name : Type 0
Name = Bor (List ℕ)

next_name : (xs : List Name) (i : ℕ) (x : Name) → i < length xs → x ≡ get_or xs i x → drop i xs ≡ x ∷ drop (i + 1) xs
next_name xs i x lt is = drop_more xs i x lt ∙ ap (λ (a : Name). a ∷ drop (i + 1) xs) (sym is)

-- What stands there, and what the names from the i-th on lead to, make all.
pub record Finds (keys : List Key) (l : ℕ) (xs : List Name) (i : ℕ) (start out : List ℕ) : Type 0 where
  pub is : out ++ filter_map (found keys) (named l (texts (drop i xs))) ≡ start ++ filter_map (found keys) (named l (texts xs))

pub finds_none : (keys : List Key) (l : ℕ) (xs : List Name) (start : List ℕ) → Finds keys l xs 0 start start
finds_none keys l xs start = record { is = refl }

pub finds_some : (keys : List Key) (l : ℕ) (xs : List Name) (i : ℕ) (start out : List ℕ) (x : Name) (j : ℕ) → i < length xs → x ≡ get_or xs i x → Some j ≡ first_key keys l x.now → Finds keys l xs i start out → Finds keys l xs (i + 1) start (out ++ j ∷ [])
finds_some keys l xs i start out x j lt e s f = record {
  is = append_assoc out (j ∷ []) (filter_map (found keys) (named l (texts (drop (i + 1) xs))))
      ∙ (ap (λ (o : Option ℕ). out ++ cons_option o (filter_map (found keys) (named l (texts (drop (i + 1) xs))))) s
      ∙ (sym (ap (λ (ys : List Name). out ++ filter_map (found keys) (named l (texts ys))) (next_name xs i x lt e)) ∙ f.is));
}

pub finds_not : (keys : List Key) (l : ℕ) (xs : List Name) (i : ℕ) (start out : List ℕ) (x : Name) → i < length xs → x ≡ get_or xs i x → None ≡ first_key keys l x.now → Finds keys l xs i start out → Finds keys l xs (i + 1) start out
finds_not keys l xs i start out x lt e s f = record {
  is = ap (λ (o : Option ℕ). out ++ cons_option o (filter_map (found keys) (named l (texts (drop (i + 1) xs))))) s
      ∙ (sym (ap (λ (ys : List Name). out ++ filter_map (found keys) (named l (texts ys))) (next_name xs i x lt e)) ∙ f.is);
}

pub finds_all : (keys : List Key) (l : ℕ) (xs : List Name) (i : ℕ) (start out : List ℕ) → length xs ≤ i → Finds keys l xs i start out → out ≡ start ++ filter_map (found keys) (named l (texts xs))
finds_all keys l xs i start out le f = sym (append-nil out) ∙ (sym (ap (λ (ys : List Name). out ++ filter_map (found keys) (named l (texts ys))) (drop_all i xs le)) ∙ f.is)

pub ruleset target_laws = (finds_none, finds_some, finds_not, finds_all)

-- ---- rows

row_at : (g : Key → Option ℕ) (xs : List Declaration) (k : ℕ) → slice_index_or (map (λ d. filter_map g (refers d)) xs) k [] ≡ filter_map g (option_map_or refers (slice_get xs k) [])
row_at g [] k = refl
row_at g (x ∷ xs) zero = refl
row_at g (x ∷ xs) (suc k) = row_at g xs k

pub rows_are : (keys : List Key) (ds : List Declaration) (rows : List (Vec ℕ)) → keys ≡ keys_of ds → map (λ r. r.items) rows ≡ map (uses_by keys) ds → needs_of rows ≡ uses ds
rows_are keys ds rows e f = λ i k. same k i
  where
    same : (k : ℕ) → needs_of rows k ≡ uses ds k
    same k =
        ap (λ (l : List (List ℕ)). slice_index_or l k []) f
        ∙ (ap (λ (ks : List Key). slice_index_or (map (uses_by ks) ds) k []) e
        ∙ row_at (target ds) ds k)

pub rows_count : {A : Type 0} (keys : List Key) (view : A → Declaration) (xs : List A) (rows : List (Vec ℕ)) → map (λ r. r.items) rows ≡ map (uses_by keys) (map view xs) → length rows ≡ length xs
rows_count keys view xs rows f = sym (length-map rows (λ r. r.items)) ∙ (ap length f ∙ (length-map (map view xs) (uses_by keys) ∙ length-map xs view))

-- A table that is filled in an order in which each declaration stands behind those that it uses
-- solves their equation.
use Rattle.std.proofs.Common.{◌≡◌, ℕ, zero, suc, ◌+◌, ◌<◌, ◌≤◌, List, [], ◌∷◌, length, map, take, get_or, Option, Some, None, IfSome, is_some, slice_get, slice_index_or, inl, inr, refl, sym, ap, subst, ◌∙◌, arith}
use Rattle.std.specs.List.{AllByRecursion, Contains}
use Rattle.std.specs.Option.{option_map}
use Rattle.std.proofs.Math.ListN.{set, replicate}
use Rattle.std.proofs.lemmas.Bool.{cases_lt, cases_eq}
use Rattle.std.proofs.lemmas.List.{ext_get_or, get_or-set_same, get_or-set_other, get_or-take, get_or_default, length-set, length-map, length-take, length-replicate}
use Rattle.std.proofs.lemmas.List.Elements.{recursion_from_All}
use Rattle.std.proofs.lemmas.Option.{get_or_from_slice_get}
use Rattle.cm_wit_graph.specs.Orders.{IsOrder, IsWithin as IsBounded}
use Rattle.cm_types_arena.specs.Places.{types_of, funcs_of}
use Rattle.cm_types_arena.specs.declared.types.Types.{Types}
use Rattle.cm_wit_meanings.specs.declared.fault.MeaningFault.{MeaningFault}
use Rattle.cm_wit_meanings.specs.declared.fault.MeaningFault.TheVariants as fault
use Rattle.cm_wit_meanings.specs.declared.scope.Meaning as code
use Rattle.cm_wit_meanings.specs.Faults.{IsFaultIn}
use Rattle.cm_wit_meanings.specs.Places.{ArePlaced, Extends, IsPlaced, meaning_in, table_in}
use Rattle.cm_wit_meanings.specs.Scopes.{Meaning, as_type}
use Rattle.cm_wit_tables.specs.Declarations.{Declaration, uses}
use Rattle.cm_wit_tables.specs.Tables.{Solves, IsWhole}
use Rattle.cm_wit_tables.specs.Filled.{AreWithin, IsWithin, entry_at}
use Rattle.cm_wit_tables.specs.FillFaults.{IsFillFault}
use Rattle.cm_wit_tables.proofs.GrowthLaws.{extends_same, placed_more, within_more, all_set, all_same}
use Rattle.cm_wit_meanings.proofs.GrowthLaws.{extends_more}
use Rattle.cm_lemmas.proofs.Options.{some_mapped}
use Rattle.cm_wit_meanings.proofs.ScopeLaws.{table_kept}

abbrev pub Table : Type 0
Table = List (Option Meaning)

abbrev pub at : Table → ℕ → Option Meaning
at table k = slice_index_or table k None

-- ---- a table that solves the equation has an entry a declaration

same_length : {A B : Type 0} (xs : List A) (ys : List B) → ((k : ℕ) → is_some (slice_get xs k) ≡ is_some (slice_get ys k)) → length xs ≡ length ys
same_length [] [] h = refl
same_length [] (y ∷ ys) h = let e = h 0 in absurd cc
same_length (x ∷ xs) [] h = let e = h 0 in absurd cc
same_length (x ∷ xs) (y ∷ ys) h = ap suc (same_length xs ys (λ k. h (suc k)))

solved_length : (ds : List Declaration) (table : Table) → Solves ds table → length table ≡ length ds
solved_length ds table s = same_length table ds (λ k. ap (λ (o : Option (Option Meaning)). is_some o) (s k) ∙ some_mapped _ (slice_get ds k))

-- tables that agree on those declarations that one uses agree on what that one stands for
abbrev pub Decides : List Declaration → Type 0
Decides ds = (a b : Table) (k : ℕ) → AllByRecursion (λ j. slice_index_or a j None ≡ slice_index_or b j None) (uses ds k) → entry_at ds a k ≡ entry_at ds b k

module _ (ds : List Declaration) (order : List ℕ) where
  -- The table has what the first i of the order stand for.
  pub record Filled (i : ℕ) (table : Table) : Type 0 where
    pub size : length table ≡ length ds
    pub agrees : (whole : Table) → Solves ds whole → (p : ℕ) → p < i → get_or order p 0 < length ds → at table (get_or order p 0) ≡ at whole (get_or order p 0)

  module _ (ordered : IsOrder (length ds) (uses ds) order) (bounded : IsBounded (length ds) (uses ds)) (decides : Decides ds) where
    used_agree : (i : ℕ) (table whole : Table) → i < length order → Filled i table → Solves ds whole → AllByRecursion (λ j. at table j ≡ at whole j) (uses ds (get_or order i 0))
    used_agree i table whole lt h s = recursion_from_All (λ j. at table j ≡ at whole j) (uses ds (get_or order i 0)) (λ n d less. one (get_or (uses ds (get_or order i 0)) n d) (ordered.behind i lt n d less) (bounded (get_or order i 0) n d less))
      where
        one : (j : ℕ) → Contains (take i order) j → j < length ds → at table j ≡ at whole j
        one j (p, less, e) there =
            let n = length-take i order in
            let small : p < i = omega (arith, less, n) in
            let is : get_or order p 0 ≡ j = sym (get_or-take i order p 0 small) ∙ (get_or_default (take i order) p 0 j less ∙ e) in
            subst (λ (k : ℕ). at table k ≡ at whole k) is (h.agrees whole s p small (subst (λ (k : ℕ). k < length ds) (sym is) there))

    entry_same : (i : ℕ) (table whole : Table) → i < length order → Filled i table → Solves ds whole → slice_get whole (get_or order i 0) ≡ entry_at ds table (get_or order i 0)
    entry_same i table whole lt h s = s (get_or order i 0) ∙ sym (decides table whole (get_or order i 0) (used_agree i table whole lt h s))

    pub filled_next : (i place : ℕ) (table : Table) (m : Option Meaning) → i < length order → place ≡ get_or order i 0 → place < length ds → entry_at ds table place ≡ Some m → Filled i table → Filled (i + 1) (set table place m)
    filled_next i place table m lt is there e h = record {
      size = length-set table place m ∙ h.size;
      agrees = λ whole s p less below. elim (cases_eq (get_or order p 0) place) [
        | inl same ↦ (
            let new : at (set table place m) place ≡ m = get_or-set_same table place m None (let z = h.size in omega (arith, z, there)) in
            let old : at whole place ≡ m = get_or_from_slice_get whole place m None (subst (λ (k : ℕ). slice_get whole k ≡ entry_at ds table k) (sym is) (entry_same i table whole lt h s) ∙ e) in
            subst (λ (k : ℕ). at (set table place m) k ≡ at whole k) (sym same) (new ∙ sym old))
        | inr other ↦ (
            let small : p < i = elim (cases_lt p i) [ inl l ↦ l | inr le ↦ absurd (other (ap (λ (k : ℕ). get_or order k 0) (let q : p ≡ i = omega (arith, le, less) in q) ∙ sym is)) ] in
            get_or-set_other table place (get_or order p 0) m None other ∙ h.agrees whole s p small below)
      ];
    }

    pub filled_skip : (i place : ℕ) (table : Table) → place ≡ get_or order i 0 → length ds ≤ place → Filled i table → Filled (i + 1) table
    filled_skip i place table is past h = record {
      size = h.size;
      agrees = λ whole s p less below. elim (cases_lt p i) [
        | inl small ↦ h.agrees whole s p small below
        | inr le ↦ (let q : p ≡ i = omega (arith, le, less) in
            let same : get_or order p 0 ≡ place = ap (λ (k : ℕ). get_or order k 0) q ∙ sym is in
            absurd (omega (arith, same, below, past)))
      ];
    }

    -- ---- at the end

    pub filled_all : (i : ℕ) (table whole : Table) → length order ≤ i → Filled i table → Solves ds whole → Solves ds table
    filled_all i table whole le h s = subst (Solves ds) (sym same) s
      where
        each : (k : ℕ) → k < length table → get_or table k None ≡ get_or whole k None
        each k lt =
            let z = h.size in
            let c = ordered.whole k (omega (arith, z, lt)) in
            let is : get_or order c.0 0 ≡ k = get_or_default order c.0 0 k c.1 ∙ c.2 in
            let less = c.1 in
            subst (λ (n : ℕ). at table n ≡ at whole n) is (h.agrees whole s c.0 (omega (arith, less, le)) (omega (arith, is, z, lt)))

        same : table ≡ whole
        same = ext_get_or None table whole (h.size ∙ sym (solved_length ds whole s)) each

    -- ---- faults

    pub fault_told : (i place : ℕ) (table whole : Table) (f : MeaningFault) → i < length order → place ≡ get_or order i 0 → place < length ds → Filled i table → Solves ds whole → IsWhole ds whole → IfSome (entry_at ds table place) (λ m. IsFaultIn as_type m f) → IsFillFault ds f
    fault_told i place table whole f lt is there h s w e =
        let p = w place there in
        let same : entry_at ds table place ≡ Some (Some p.0) = sym (subst (λ (k : ℕ). slice_get whole k ≡ entry_at ds table k) (sym is) (entry_same i table whole lt h s)) ∙ p.1 in
        told f (subst (λ (o : Option (Option Meaning)). IfSome o (λ m. IsFaultIn as_type m f)) same e)
      where
        told : (g : MeaningFault) → IsFaultIn as_type (Some (w place there).0) g → IsFillFault ds g
        told fault.NoSuchType d = absurd cc
        told fault.TooLarge d = (place, (w place there).0, (whole, s, (w place there).1), d)
        told fault.NotSpellable d = (place, (w place there).0, (whole, s, (w place there).1), d)
        told fault.Memory d = tt

-- ---- in the arena

-- The first i of the order are filled in, and what they stand for was added to the types.
pub record Fills (ds : List Declaration) (order : List ℕ) (first : Types) (i : ℕ) (now : Types) (table : List (Option code.Meaning)) : Type 0 where
  pub filled : Filled ds order i (table_in (types_of now) table)
  pub size : length table ≡ length ds
  pub placed : ArePlaced (length (types_of now)) table
  pub within : AreWithin (types_of now) table
  pub grown : Extends (types_of first) (types_of now)
  pub funcs : funcs_of now ≡ funcs_of first

pub fills_none : (ds : List Declaration) (order : List ℕ) (first : Types) (n : ℕ) → n ≡ length ds → Fills ds order first 0 first (replicate n None)
fills_none ds order first n e = record {
  filled = record {
    size = length-map (replicate n None) (option_map (meaning_in (types_of first))) ∙ (length-replicate n None ∙ e);
    agrees = λ whole s p less. absurd (omega (arith, less));
  };
  size = length-replicate n None ∙ e;
  placed = all_same (λ m. IfSome m (IsPlaced (length (types_of first)))) n None tt;
  within = all_same (λ m. IfSome m (IsWithin (types_of first))) n None tt;
  grown = extends_same (types_of first);
  funcs = refl;
}

module _ (ds : List Declaration) (order : List ℕ) (ordered : IsOrder (length ds) (uses ds) order) (bounded : IsBounded (length ds) (uses ds)) (decides : Decides ds) (first : Types) (i : ℕ) (now : Types) (table : List (Option code.Meaning)) (h : Fills ds order first i now table) where
  pub fills_next : (next : Types) (place : ℕ) (m : Option code.Meaning) → i < length order → place ≡ get_or order i 0 → place < length ds → entry_at ds (table_in (types_of now) table) place ≡ Some (option_map (meaning_in (types_of next)) m) → IfSome m (IsPlaced (length (types_of next))) → IfSome m (IsWithin (types_of next)) → Extends (types_of now) (types_of next) → funcs_of next ≡ funcs_of now → Fills ds order first (i + 1) next (set table place m)
  fills_next next place m lt is there e p w g f = record {
    filled = subst (Filled ds order (i + 1)) (sym told) (filled_next ds order ordered bounded decides i place (table_in (types_of now) table) (option_map (meaning_in (types_of next)) m) lt is there e h.filled);
    size = length-set table place m ∙ h.size;
    placed = all_set (λ x. IfSome x (IsPlaced (length (types_of next)))) table place m (placed_more (types_of now) (types_of next) table g h.placed) p;
    within = all_set (λ x. IfSome x (IsWithin (types_of next))) table place m (within_more (types_of now) (types_of next) table g h.placed h.within) w;
    grown = extends_more (types_of first) (types_of now) (types_of next) h.grown g;
    funcs = f ∙ h.funcs;
  }
    where
      told : table_in (types_of next) (set table place m) ≡ set (table_in (types_of now) table) place (option_map (meaning_in (types_of next)) m)
      told = map_set table place m ∙ ap (λ (t : Table). set t place (option_map (meaning_in (types_of next)) m)) (table_kept (types_of now) (types_of next) table g h.placed)
        where
          map_set : (xs : List (Option code.Meaning)) (k : ℕ) (x : Option code.Meaning) → map (option_map (meaning_in (types_of next))) (set xs k x) ≡ set (map (option_map (meaning_in (types_of next))) xs) k (option_map (meaning_in (types_of next)) x)
          map_set [] k x = refl
          map_set (y ∷ ys) zero x = refl
          map_set (y ∷ ys) (suc k) x = ap (λ (l : Table). option_map (meaning_in (types_of next)) y ∷ l) (map_set ys k x)

  pub fills_skip : (place : ℕ) → place ≡ get_or order i 0 → length ds ≤ place → Fills ds order first (i + 1) now table
  fills_skip place is past = record {
    filled = filled_skip ds order ordered bounded decides i place (table_in (types_of now) table) is past h.filled;
    size = h.size;
    placed = h.placed;
    within = h.within;
    grown = h.grown;
    funcs = h.funcs;
  }

  -- the same of a slice of the table
  pub fills_slice : (slice : List (Option code.Meaning)) → slice ≡ table → (next : Types) (new : List (Option code.Meaning)) (place : ℕ) (m : Option code.Meaning) → i < length order → place ≡ get_or order i 0 → place < length ds → entry_at ds (table_in (types_of now) slice) place ≡ Some (option_map (meaning_in (types_of next)) m) → IfSome m (IsPlaced (length (types_of next))) → IfSome m (IsWithin (types_of next)) → Extends (types_of now) (types_of next) → funcs_of next ≡ funcs_of now → new ≡ set table place m → Fills ds order first (i + 1) next new
  fills_slice slice v next new place m lt is there e p w g f n =
      subst (Fills ds order first (i + 1) next) (sym n) (fills_next next place m lt is there (subst (λ (t : List (Option code.Meaning)). entry_at ds (table_in (types_of now) t) place ≡ Some (option_map (meaning_in (types_of next)) m)) v e) p w g f)

  pub fault_in : (slice : List (Option code.Meaning)) → slice ≡ table → (place : ℕ) (whole : Table) (f : MeaningFault) → i < length order → place ≡ get_or order i 0 → place < length ds → Solves ds whole → IsWhole ds whole → IfSome (entry_at ds (table_in (types_of now) slice) place) (λ m. IsFaultIn as_type m f) → IsFillFault ds f
  fault_in slice v place whole f lt is there s w e =
      fault_told ds order ordered bounded decides i place (table_in (types_of now) table) whole f lt is there h.filled s w (subst (λ (t : List (Option code.Meaning)). IfSome (entry_at ds (table_in (types_of now) t) place) (λ m. IsFaultIn as_type m f)) v e)

pub fills_start : (ds : List Declaration) (order : List ℕ) (first : Types) (n : ℕ) (table : List (Option code.Meaning)) → table ≡ replicate n None → n ≡ length ds → Fills ds order first 0 first table
fills_start ds order first n table is e = subst (Fills ds order first 0 first) (sym is) (fills_none ds order first n e)

-- What an insertion of a key without a number makes of a table.
use Rattle.std.proofs.Common.{◌≡◌, ℕ, ◌+◌, true, List, Option, Some, None, Result, Ok, Err, sym, ap, subst, ◌∙◌}
use Rattle.std.specs.Prelude.{OnOk, IfOk, OnErr, if◌then◌else◌, is_some}
use Rattle.std.specs.Ordering.{is_eq}
use Rattle.std.specs.BTreeMap.{BTreeMap, get, btree_map_len, IsUnchanged, Updates}
use Rattle.std.specs.Map.{lookup}
use Rattle.std.proofs.Common.{length}
use Rattle.cm_types_numbers.specs.declared.key.Key.{Key}
use Rattle.cm_types_numbers.specs.Tables.{key_order, IsOneToOne, KeepsNumbers}
use Rattle.cm_types_numbers.proofs.Orders.{exact_key}
use Rattle.cm_types_numbers.proofs.Additions.{one_to_one_more, keeps_more}
use Rattle.cm_lemmas.proofs.Orders.{is_equal}

-- a table with this lookup and count has one more key than one with that lookup
pub record GoesOn {K : Type 0} (old new : K → Option ℕ) (count : ℕ) : Type 0 where
  pub one_to_one : IsOneToOne new count
  pub kept : KeepsNumbers old new

same_entries : {K X : Type 0} (m n : BTreeMap K X) → IsUnchanged m n → btree_map_len n ≡ btree_map_len m
same_entries m n e = ap length e

one_more : (n m : ℕ) (old : Option ℕ) (here : Option ℕ) → old ≡ here → here ≡ None → n ≡ m + (if is_some old then 0 else 1) → n ≡ m + 1
one_more n m old here is none long = let same : old ≡ None = is ∙ none in long ∙ ap (λ (o : Option ℕ). m + (if is_some o then 0 else 1)) same

pub node_inserted : {E : Type 0} (m n : BTreeMap Key ℕ) (key : Key) (next : ℕ) (r : Result (Option ℕ) E) → next ≡ btree_map_len m → get key_order m key ≡ None → IsOneToOne (get key_order m) (btree_map_len m)
    → IfOk r (λ old. old ≡ get key_order m key)
    → OnOk r (Updates key_order m n key (Some next))
    → IfOk r (λ old. btree_map_len n ≡ btree_map_len m + (if is_some old then 0 else 1))
    → OnErr r (IsUnchanged m n) → GoesOn (get key_order m) (get key_order n) (btree_map_len n)
node_inserted m n key next (Ok v) is none was old updates long same =
    let told = subst (λ (i : ℕ). Updates key_order m n key (Some i)) is updates in
    let exact : (q : Key) → is_eq (key_order key q) ≡ true → key ≡ q = λ q e. exact_key key q (is_equal (key_order key q) e) in
    let count = one_more (btree_map_len n) (btree_map_len m) v (get key_order m key) old none long in
    record {
      one_to_one = subst (λ (k : ℕ). IsOneToOne (get key_order n) k) (sym count) (one_to_one_more (get key_order m) (get key_order n) (btree_map_len m) key (λ q. is_eq (key_order key q)) exact told.0 none was);
      kept = keeps_more (get key_order m) (get key_order n) (btree_map_len m) key (λ q. is_eq (key_order key q)) exact told.0 none was;
    }
node_inserted m n key next (Err e) is none was old updates long same = record {
  one_to_one = subst (λ (es : List (Key × ℕ)). IsOneToOne (λ k. lookup (λ q. is_eq (key_order k q)) es) (length es)) (sym same) was;
  kept = λ k i is. subst (λ (es : List (Key × ℕ)). lookup (λ q. is_eq (key_order k q)) es ≡ Some i) (sym same) is;
}

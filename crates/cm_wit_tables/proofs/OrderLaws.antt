-- An order of rows is one of the declarations that use them.
use Rattle.std.proofs.Common.{◌≡◌, ℕ, List, Option, Some, None, MatchOption, Result, IfOk, length, sym, subst}
use Rattle.std.specs.Option.{option_map}
use Rattle.std.specs.Global.{Vec}
use Rattle.std.specs.declared.alloc.AllocError.{AllocError}
use Rattle.std.proofs.lemmas.Result.{IfOk-weaker}
use Rattle.cm_wit_graph.specs.Orders.{Needs, IsWithin, IsOrder, IsOrderOf, needs_of}
use Rattle.cm_wit_tables.specs.Declarations.{Declaration, HasTypeCycle, uses}

module _ (ds : List Declaration) (rows slice : List (Vec ℕ)) (v : slice ≡ rows) (u : needs_of rows ≡ uses ds) (n : length rows ≡ length ds) where
  pub rows_fit : IsWithin (length ds) (uses ds) → IsWithin (length slice) (needs_of slice)
  rows_fit h = subst (λ (l : List (Vec ℕ)). IsWithin (length l) (needs_of l)) (sym v) (subst (λ (m : ℕ). IsWithin m (needs_of rows)) (sym n) (subst (IsWithin (length ds)) (sym u) h))

  order_of_all : (o : Option (List ℕ)) → IsOrderOf (length slice) (needs_of slice) o → IsOrderOf (length ds) (uses ds) o
  order_of_all o h = subst (λ (needs : Needs). IsOrderOf (length ds) needs o) u (subst (λ (m : ℕ). IsOrderOf m (needs_of rows) o) n (subst (λ (l : List (Vec ℕ)). IsOrderOf (length l) (needs_of l) o) v h))

  by_order : (o : Option (Vec ℕ)) → IsOrderOf (length ds) (uses ds) (option_map (λ w. w.items) o) → MatchOption o (HasTypeCycle ds) (λ w. IsOrder (length ds) (uses ds) w.items)
  by_order None h = h
  by_order (Some w) h = h

  pub order_told : (r : Result (Option (Vec ℕ)) AllocError) → IfOk r (λ o. IsOrderOf (length slice) (needs_of slice) (option_map (λ w. w.items) o)) → IfOk r (λ o. MatchOption o (HasTypeCycle ds) (λ w. IsOrder (length ds) (uses ds) w.items))
  order_told r h = IfOk-weaker r (λ o. IsOrderOf (length slice) (needs_of slice) (option_map (λ w. w.items) o)) (λ o. MatchOption o (HasTypeCycle ds) (λ w. IsOrder (length ds) (uses ds) w.items)) (λ o g. by_order o (order_of_all (option_map (λ w. w.items) o) g)) h

-- Tables of what is known, one entry more.
use Rattle.std.proofs.Common.{◌≡◌, ℕ, Bool, cond, List, inl, inr, Option, Some, sym, ap, subst, ◌∙◌}
use Rattle.std.specs.BTreeMap.{IsUnchanged, get, is_at}
use Rattle.std.specs.Map.{lookup}
use Rattle.std.specs.Ordering.{is_eq}
use Rattle.std.specs.declared.cmp.Ordering.{Ordering}
use Rattle.std.specs.declared.cmp.Ordering.TheVariants.{Equal}
use Rattle.std.proofs.lemmas.Bool.{cases_Bool}
use Rattle.cm_types.specs.Types.{Ty, FuncTy}
use Rattle.cm_types_arena.specs.Replaced.{Standing, replaced_func}
use Rattle.cm_types_arena.specs.TypeDefs.{func_at}
use Rattle.cm_types_numbers.specs.Knowing.{Knows}
use Rattle.cm_types_numbers.specs.Numbering.{Numbering, number_func}
use Rattle.cm_types_numbers.specs.declared.known.Known.{Known}
use Rattle.cm_types_numbers.specs.Moved.{moved_through}
use Rattle.cm_types_numbers.specs.PlacedTables.{KnowsFuncs, KnowsTypes, func_order, moves_order}
use Rattle.cm_types_numbers.specs.declared.funcs.KnownFuncs.{KnownFuncs}
use Rattle.cm_types_numbers.specs.declared.moves.MovedFunc.{MovedFunc}
use Rattle.cm_types_numbers.specs.declared.moves.Moves.{Moves}
use Rattle.cm_types_numbers.specs.declared.types.KnownTypes.{KnownTypes}
use Rattle.cm_types_numbers.proofs.PlacedOrders.{same_func, same_standing}
use Rattle.cm_lemmas.proofs.Orders.{is_equal}
use Rattle.cm_lemmas.proofs.Options.{some_is}

-- What holds of each entry of a table, and of equal keys alike, holds of each of a table with one
-- more of which it holds.
module _ {K X : Type 0} (order : K → K → Ordering) (P : K → X → Type 0) (alike : (j k : K) (x : X) → order j k ≡ Equal → P j x → P k x) where
  entries_more : (old new : K → Option X) (key : K) (x : X) → ((q : K) → new q ≡ cond (is_eq (order key q)) (Some x) (old q))
      → ((q : K) (y : X) → old q ≡ Some y → P q y) → P key x → (q : K) (y : X) → new q ≡ Some y → P q y
  entries_more old new key x at all here q y e = elim (cases_Bool (is_eq (order key q))) [
    | inl h ↦
        let value : x ≡ y = some_is x y (sym (at q ∙ ap (λ (b : Bool). cond b (Some x) (old q)) h) ∙ e) in
        alike key q y (is_equal (order key q) h) (subst (λ (z : X). P key z) value here)
    | inr h ↦ all q y (sym (at q ∙ ap (λ (b : Bool). cond b (Some x) (old q)) h) ∙ e)
  ]

pub tables_more : (t : Numbering) (s : Standing) (ts : List Ty) (old new : KnownTypes) (moves : Moves) (table : Known) → ((q : Moves) → get moves_order new.tables q ≡ cond (is_eq (moves_order moves q)) (Some table) (get moves_order old.tables q))
    → KnowsTypes t s ts old → Knows t (λ r. s (moved_through moves r)) ts table → KnowsTypes t s ts new
tables_more t s ts old new moves table at knows here =
    let P : Moves → Known → Type 0 = λ m k. Knows t (λ r. s (moved_through m r)) ts k in
    entries_more moves_order P (λ j k x e h. subst (λ (u : Standing). Knows t u ts x) (same_standing s j k e) h)
    (get moves_order old.tables) (get moves_order new.tables) moves table at knows here

pub funcs_more : (t : Numbering) (s : Standing) (fs : List FuncTy) (old new : KnownFuncs) (func : MovedFunc) (n : ℕ) → ((q : MovedFunc) → get func_order new.numbers q ≡ cond (is_eq (func_order func q)) (Some n) (get func_order old.numbers q))
    → KnowsFuncs t s fs old → number_func t (replaced_func (λ r. s (moved_through func.moves r)) (func_at fs func.place)) ≡ Some n → KnowsFuncs t s fs new
funcs_more t s fs old new func n at knows here =
    let P : MovedFunc → ℕ → Type 0 = λ f k. number_func t (replaced_func (λ r. s (moved_through f.moves r)) (func_at fs f.place)) ≡ Some k in
    entries_more func_order P (λ j k x e h.
    let same = same_func s j k e in
    subst (λ (p : ℕ). number_func t (replaced_func (λ r. s (moved_through k.moves r)) (func_at fs p)) ≡ Some x) same.1
    (subst (λ (u : Standing). number_func t (replaced_func u (func_at fs j.place)) ≡ Some x) same.0 h))
    (get func_order old.numbers) (get func_order new.numbers) func n at knows here

-- a table that was left as it was
pub tables_same : (t : Numbering) (s : Standing) (ts : List Ty) (old new : KnownTypes) → IsUnchanged old.tables new.tables → KnowsTypes t s ts old → KnowsTypes t s ts new
tables_same t s ts old new e knows moves table at = knows moves table (sym (ap (λ (es : List (Moves × Known)). lookup (is_at (moves_order moves)) es) e) ∙ at)

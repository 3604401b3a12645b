use Rattle.std.proofs.Common.{◌≡◌, ◌≤◌, List, [], sym, subst, ℕ, arith}
use Rattle.std.specs.Prelude.{Contains}
use Rattle.cm_types.specs.declared.core_value.CoreValue.{CoreValue}
use Rattle.cm_handles.specs.Handles.{Handles}
use Rattle.cm_abi_model.specs.Taken.{CanGo, MAX_CONTENT, Met}
use Rattle.cm_abi_model.proofs.NothingMet.{nothing_met}
use Rattle.cm_abi_model.proofs.laws.nothing_is_met_without_parts.Goals as goal

no_index : (index : ℕ) → Contains {X = ℕ} [] index → ⊥
no_index index is = omega (arith, is.1)

none_go : (t : Handles) → CanGo t MAX_CONTENT []
none_go t = record { once = tt; free = λ index h is. absurd (no_index index is); apart = λ index is. absurd (no_index index is); small = omega arith }

pub returns-clause-met : goal.returns-clause-met
returns-clause-met c = nothing_met

pub returns-clause-goes : goal.returns-clause-goes
returns-clause-goes c = λ w way types slots v parts leaves. subst (λ (ms : List Met). CanGo w.table MAX_CONTENT ms) (sym (nothing_met w way types slots v parts leaves)) (none_go w.table)

-- What holds of a component's functions holds of those of the file that it is read from.
use Rattle.std.proofs.Common.{◌≡◌, ◌∙◌, ap, ℕ, List, Some, refl, sym, subst, Result, Ok, Err, IfOk, IfErr, inl, inr}
use Rattle.cm_binary_model.specs.Trees.{SectionTree}
use Rattle.cm_types.specs.Types.{Fields, FuncTy}
use Rattle.cm_validate_model.specs.Spaces.{Spaces, spaces_of}
use Rattle.huxarte_c_calls.specs.declared.call.Call.{Call}
use Rattle.huxarte_c_calls.specs.declared.call.HuxCall.{HuxCall}
use Rattle.huxarte_c_calls.specs.declared.fault.CallFault.{CallFault}
use Rattle.huxarte_c_calls.specs.Copying.{Room}
use Rattle.huxarte_c_components.specs.declared.fault.ComponentFault.{ComponentFault}
use Rattle.huxarte_c_components.specs.declared.fault.ComponentFault.TheVariants as fault
use Rattle.huxarte_c_components.specs.declared.func_type.FuncFault.{FuncFault}
use Rattle.huxarte_c_components.specs.declared.func_type.FuncFault.TheVariants as func_fault
use Rattle.huxarte_c_components.specs.Calling.{IsCallIn, IsCallOf, IsNoCallIn, IsRefused, Never}
use Rattle.huxarte_c_components.specs.Funcs.{HasFunc, HasNoFunc, HasNone, HasType, IsNoFunc, told_of}
use Rattle.huxarte_c_components.specs.Laying.{IsNoNode, IsNoNodeIn, IsNoNodeOf, IsNodeIn, IsNodeOf}
use Rattle.huxarte_c_components.specs.Sound.{StandsFor}
use Rattle.huxarte_c_calls.specs.declared.nodes.HuxNode.{HuxNode}
use Rattle.huxarte_c_calls.specs.Laying.{node_by}

has_func : (bytes : List ℕ) (c : List SectionTree) (i : ℕ) (f : FuncTy) → StandsFor bytes c
    → HasType (spaces_of c) i f → HasFunc bytes i f
has_func bytes c i f stands has = (stands.0, stands.1, subst (λ (x : List SectionTree). HasType (spaces_of x) i f) stands.2 has)

has_no_func : (bytes : List ℕ) (c : List SectionTree) (i : ℕ) → StandsFor bytes c
    → HasNone (spaces_of c) i → HasNoFunc bytes i
has_no_func bytes c i stands none = (stands.0, stands.1, subst (λ (x : List SectionTree). HasNone (spaces_of x) i) stands.2 none)

-- ---- in the spaces of a component

pub no_call : (s : Spaces) (given : HuxCall) (numbers : List ℕ) (e : FuncFault) (r : ComponentFault) → IsNoFunc s given.func e
    → r ≡ told_of e → IsNoCallIn s given numbers r
no_call s given numbers func_fault.NoFunc r why is = subst (IsNoCallIn s given numbers) (sym is) why
no_call s given numbers func_fault.Memory r why is = subst (IsNoCallIn s given numbers) (sym is) tt

pub node_in_found : (s : Spaces) (f : FuncTy) (func way : ℕ) (path : List ℕ) (r : Result HuxNode ComponentFault)
    → HasType s func f → IfOk r (λ n. node_by f way path ≡ Some n) → IfOk r (IsNodeIn s func way path)
node_in_found s f func way path (Ok n) has is = (f, has, is)
node_in_found s f func way path (Err e) has is = tt

pub node_in_refused : (s : Spaces) (f : FuncTy) (func way : ℕ) (path : List ℕ) (r : Result HuxNode ComponentFault)
    → HasType s func f → IfErr r (IsNoNode f way path) → IfErr r (IsNoNodeIn s func way path)
node_in_refused s f func way path (Ok n) has why = tt
node_in_refused s f func way path (Err (fault.Files e)) has why = absurd why
node_in_refused s f func way path (Err fault.NoFunc) has why = absurd why
node_in_refused s f func way path (Err fault.NoPart) has why = (f, has, why)
node_in_refused s f func way path (Err (fault.Call r)) has why = absurd why
node_in_refused s f func way path (Err fault.Memory) has why = tt

pub no_node : (s : Spaces) (func way : ℕ) (path : List ℕ) (e : FuncFault) (r : ComponentFault) → IsNoFunc s func e
    → r ≡ told_of e → IsNoNodeIn s func way path r
no_node s func way path func_fault.NoFunc r why is = subst (IsNoNodeIn s func way path) (sym is) why
no_node s func way path func_fault.Memory r why is = subst (IsNoNodeIn s func way path) (sym is) tt

-- ---- in a file

pub call_found : (bytes : List ℕ) (c : List SectionTree) (given : HuxCall) (numbers : List ℕ) (r : Result Call ComponentFault)
    → StandsFor bytes c → IfOk r (IsCallIn (spaces_of c) given numbers)
    → IfOk r (λ k. (types : Fields) × IsCallOf bytes given numbers types k)
call_found bytes c given numbers (Ok k) stands is =
    (is.0.params, record { func = is.0; has = has_func bytes c given.func is.0 stands is.1; types_are = refl; is = is.2 })
call_found bytes c given numbers (Err e) stands is = tt

pub call_refused : (bytes : List ℕ) (c : List SectionTree) (given : HuxCall) (numbers : List ℕ) (r : Result Call ComponentFault)
    → StandsFor bytes c → IfErr r (IsNoCallIn (spaces_of c) given numbers) → IfErr r (IsRefused bytes given numbers Never)
call_refused bytes c given numbers (Ok k) stands why = tt
call_refused bytes c given numbers (Err (fault.Files f)) stands why = absurd why
call_refused bytes c given numbers (Err fault.NoFunc) stands why = has_no_func bytes c given.func stands why
call_refused bytes c given numbers (Err fault.NoPart) stands why = absurd why
call_refused bytes c given numbers (Err (fault.Call r)) stands why = inl (why.0, has_func bytes c given.func why.0 stands why.1, why.2)
call_refused bytes c given numbers (Err fault.Memory) stands why = tt

pub node_found : (bytes : List ℕ) (c : List SectionTree) (func way : ℕ) (path : List ℕ) (r : Result HuxNode ComponentFault)
    → StandsFor bytes c → IfOk r (IsNodeIn (spaces_of c) func way path) → IfOk r (IsNodeOf bytes func way path)
node_found bytes c func way path (Ok n) stands is = (is.0, has_func bytes c func is.0 stands is.1, is.2)
node_found bytes c func way path (Err e) stands is = tt

pub node_refused : (bytes : List ℕ) (c : List SectionTree) (func way : ℕ) (path : List ℕ) (r : Result HuxNode ComponentFault)
    → StandsFor bytes c → IfErr r (IsNoNodeIn (spaces_of c) func way path) → IfErr r (IsNoNodeOf bytes func way path)
node_refused bytes c func way path (Ok n) stands why = tt
node_refused bytes c func way path (Err (fault.Files f)) stands why = absurd why
node_refused bytes c func way path (Err fault.NoFunc) stands why = has_no_func bytes c func stands why
node_refused bytes c func way path (Err fault.NoPart) stands why = (why.0, has_func bytes c func why.0 stands why.1, why.2)
node_refused bytes c func way path (Err (fault.Call r)) stands why = absurd why
node_refused bytes c func way path (Err fault.Memory) stands why = tt

-- ---- calls that are refused

-- what is no call is refused, whatever else may be wrong
pub refused_anyway : (bytes : List ℕ) (given : HuxCall) (numbers : List ℕ) (Why : Fields → Call → CallFault → Type 0) (r : ComponentFault)
    → IsRefused bytes given numbers Never r → IsRefused bytes given numbers Why r
refused_anyway bytes given numbers Why (fault.Files f) why = why
refused_anyway bytes given numbers Why fault.NoFunc why = why
refused_anyway bytes given numbers Why fault.NoPart why = absurd why
refused_anyway bytes given numbers Why (fault.Call r) why = elim why [
  | inl none ↦ inl none
  | inr never ↦ absurd never.3
]
refused_anyway bytes given numbers Why fault.Memory why = tt

-- ---- rooms

abbrev room : List ℕ → List ℕ → List ℕ → Room
room memory slots numbers = record { memory = memory; slots = slots; numbers = numbers }

-- what is written nowhere stays
pub room_stays : (m n s t k l : List ℕ) → m ≡ n → s ≡ t → k ≡ l → room m s k ≡ room n t l
room_stays m n s t k l memory slots numbers =
    ap (λ (x : List ℕ). room x s k) memory ∙ (ap (λ (x : List ℕ). room n x k) slots ∙ ap (room n t) numbers)

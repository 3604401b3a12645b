-- Why no borrow dangles: who lends stands behind who borrows, and the instances are few.
use Rattle.std.proofs.Common.{◌≡◌, ℕ, zero, suc, ◌+◌, ◌<◌, ◌≤◌, inl, inr, List, [], ◌∷◌, length}
use Rattle.std.proofs.Common.{Some, refl, sym, ap, subst, ◌∙◌, arith}
use Rattle.std.proofs.lemmas.Option.{none-some}
use Rattle.cm_handles.specs.Handles.{handle_at}
use Rattle.cm_handles.specs.declared.handle.Handle.{Handle}
use Rattle.cm_handles.specs.declared.handle.HandleKind.{HandleKind}
use Rattle.cm_handles.specs.declared.handle.HandleKind.TheVariants as handle
use Rattle.cm_machine_model.specs.declared.frame.Call.{Call}
use Rattle.cm_machine_model.specs.declared.frame.Frame.{Frame}
use Rattle.cm_machine_model.specs.declared.frame.Purpose.TheVariants as purpose
use Rattle.cm_machine_model.specs.Owning.{IsBacked, NoneDangles, StandsIn, count_lends, standing}
use Rattle.cm_machine_model.specs.Plan.{Plan, lowered}
use Rattle.cm_machine_model.specs.Plans.{IsLink, IsPlan}
use Rattle.cm_machine_model.specs.State.{State}
use Rattle.cm_machine_model.specs.Valid.{IsStack, IsValidState, StandsOn, frame_at}
use Rattle.cm_machine_laws.proofs.LendCounts.{counts_of, one_counted}
use Rattle.cm_machine_laws.proofs.LendKeeps.{call_of, frame_pop}
use Rattle.cm_machine_laws.proofs.LendsValid.{from_valid}
use Rattle.cm_machine_laws.proofs.StepLends.{H}
use Rattle.cm_handles.proofs.HandlesLaws.{none_there}
use Rattle.cm_machine_model.proofs.StateLaws.{table_past}

-- who is called stands before who calls
earlier : (plan : Plan) (fs : List Frame) (place i : ℕ) (c : Call) → IsPlan plan → IsStack plan fs → frame_at fs place ≡ Some (record { instance = i; purpose = purpose.Call c }) → i < c.caller
earlier plan [] place i c linked st e = absurd (none-some (call_of i c) e)
earlier plan (f ∷ fs) place i c linked st e = elim (frame_pop f fs place (call_of i c) e) as (λ r. i < c.caller) [
  | inl top ↦
      let on = subst (λ (g : Frame). StandsOn plan g.purpose g.instance fs) top.1 st.1 in
      let link : IsLink plan c.caller on.0.0 = linked.core_funcs c.caller c.func (lowered on.0.0) on.0.1 in
      subst (λ n. n < c.caller) on.0.2 link.earlier
  | inr rest ↦ earlier plan fs place i c linked st.2 rest.1
]

backed_by : (s : State) (i index : ℕ) (h owner : Handle) (kind : HandleKind) → owner.kind ≡ kind → StandsIn s i index owner → 0 < owner.lends → owner.serial ≡ h.serial → owner.resource ≡ h.resource → owner.rep ≡ h.rep
    → ((call : ℕ) → owner.kind ≡ handle.Borrowed call → IsBacked s owner) → IsBacked s h
backed_by s i index h owner handle.Owned is stands lent serial resource rep deeper = record { i = i; index = index; owner = owner; stands = stands; owned = is; same = serial; same_resource = resource; same_rep = rep; lent = lent }
backed_by s i index h owner (handle.Borrowed call) is stands lent serial resource rep deeper =
    let b = deeper call is in
    record { i = b.i; index = b.index; owner = b.owner; stands = b.stands; owned = b.owned; same = b.same ∙ serial; same_resource = b.same_resource ∙ resource; same_rep = b.same_rep ∙ rep; lent = b.lent }

backs : (plan : Plan) (s : State) (n i : ℕ) → IsPlan plan → H plan s → length s.tables ≤ i + n → (k call : ℕ) (h : Handle) → StandsIn s i k h → h.kind ≡ handle.Borrowed call → IsBacked s h
backs plan s zero i linked holds le k call h stands kind = absurd (none-some h (sym (ap (λ t. handle_at t k) (table_past s.tables i (omega (arith, le))) ∙ none_there k) ∙ stands))
backs plan s (suc n) i linked holds le k call h stands kind =
    let b = holds.borrowed i k call h stands kind in
    let x = b.lent_for in
    let later : i < x.lend.instance = subst (λ m. i < m) (sym x.of_caller) (earlier plan s.stack call i b.of linked holds.stack b.stands) in
    let lent : 0 < x.lent.lends = omega (arith, counts_of (standing s.tables x.lend.instance x.lend.index) (count_lends x.lend.instance x.lend.index s.lends) x.lent (holds.counted x.lend.instance x.lend.index) x.lent_stands, one_counted x.lend s.lends x.among) in
    backed_by s x.lend.instance x.lend.index h x.lent x.lent.kind refl x.lent_stands lent x.same x.same_resource x.same_rep
    (λ deeper is. backs plan s n x.lend.instance linked holds (omega (arith, le, later)) x.lend.index deeper x.lent x.lent_stands is)

pub nothing_dangles : (plan : Plan) (s : State) → IsValidState plan s → NoneDangles s
nothing_dangles plan s valid i index call h stands kind = backs plan s (length s.tables) i valid.linked (from_valid plan s valid) (omega arith) index call h stands kind

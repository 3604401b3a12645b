-- What is kept of the frames once a value was handed over.
use Rattle.std.proofs.Common.{◌≡◌, ℕ, ◌+◌, ◌<◌, ◌≤◌, inl, inr, List, ◌∷◌, length, refl, sym, ap, subst, ◌∙◌, arith}
use Rattle.std.specs.Prelude.{slice_index, slice_set}
use Rattle.cm_types.specs.Values.{Val}
use Rattle.cm_handles.specs.Handles.{Handles}
use Rattle.cm_abi_model.specs.Giving.{after_given, borrowed_count}
use Rattle.cm_abi_model.specs.Receives.{HandleLeaf, leaves_in}
use Rattle.cm_abi_model.specs.Requests.{tuple_of}
use Rattle.cm_abi_model.specs.Views.{Way, params, results}
use Rattle.cm_abi_model.specs.declared.receiver.Receiver.{Receiver}
use Rattle.cm_types.specs.declared.core_value.CoreValue.{CoreValue}
use Rattle.cm_machine_model.specs.declared.frame.Call.{Call}
use Rattle.cm_machine_model.specs.declared.frame.Frame.{Frame}
use Rattle.cm_machine_model.specs.declared.frame.Lend.{Lend}
use Rattle.cm_machine_model.specs.declared.frame.Purpose.TheVariants as purpose
use Rattle.cm_machine_model.specs.Plan.{Link, Plan, types_of}
use Rattle.cm_machine_model.specs.Plans.{NoneBorrowed}
use Rattle.cm_machine_model.specs.Stack.{below_top}
use Rattle.cm_machine_model.specs.State.{State, table_at}
use Rattle.cm_machine_model.specs.Step.{receiver_of}
use Rattle.cm_machine_parts.specs.Kept.{AreBorrowsCounted, CanEnd}
use Rattle.cm_machine_parts.specs.Lends.{AreLentAtLeast, NoneAbove}
use Rattle.cm_machine_parts.specs.States.{handles_in, state_of}
use Rattle.cm_machine_parts.specs.declared.state.State.{State as CodedState}
use Rattle.cm_machine_calls.specs.Going.{CanHand, passage_now}
use Rattle.cm_machine_calls.specs.Handing.{IsHandedOver}
use Rattle.cm_machine_calls.proofs.Borrows.{AddCounts, AddsFine, none_counted}
use Rattle.cm_machine_calls.proofs.GivingLaws.{IsMine, counted_then, few_then, lent_given}
use Rattle.cm_machine_calls.proofs.GoingLaws.{receiver_place, receiver_there}
use Rattle.cm_machine_parts.proofs.Tables.{length_handles}

module _ (counts : AddCounts) (fine : AddsFine) (plan : Plan) (s : CodedState) (l : Link) (way : Way) (call : Call) (v : Val) (answers : List ℕ) (giver : ℕ) (to : Receiver)
    (new : State) (values : List CoreValue) (h : CanHand plan s l way call v answers giver to) (handed : IsHandedOver (state_of s) new l way to (passage_now s) v answers values) where
  place_is : to.call ≡ length h.on.under.below
  place_is = ap (λ (r : Receiver). r.call) h.to_is ∙ receiver_place way (length h.on.under.below) l call

  inside : to.instance < length (handles_in s.tables.items)
  inside = omega (arith, receiver_there plan l way call (length h.on.under.below) h.on.under.link h.on.under.caller, ap (λ (r : Receiver). r.instance) h.to_is, h.on.under.tables, length_handles s.tables.items)

  abbrev top : Frame
  top = record { instance = l.instance; purpose = purpose.Call call }

  mine_by : (w : Way) → way ≡ w → IsMine top to s.passing.scan.handles
  mine_by params e = inl (sym (ap (λ (r : Receiver). r.instance) h.to_is ∙ ap (λ (x : Way). (receiver_of x (length h.on.under.below) l call).instance) e))
  mine_by results e =
      let there : to.instance ≡ call.caller = ap (λ (r : Receiver). r.instance) h.to_is ∙ ap (λ (x : Way). (receiver_of x (length h.on.under.below) l call).instance) e in
      let none : NoneBorrowed s.passing.scan.handles =
      subst (λ (x : List HandleLeaf). NoneBorrowed x) (sym h.on.under.carried.handles)
      (subst (λ (x : Way). NoneBorrowed (leaves_in (tuple_of (types_of l x)) v)) (sym e) (h.on.under.link.none_lent_back v)) in
      inr ((λ same. omega (arith, h.on.under.link.earlier, same, there)), none_counted to s.passing.scan.handles none)

  tables_are : new.tables ≡ slice_set (handles_in s.tables.items) to.instance (table_at new.tables to.instance)
  tables_are =
      let given = after_given to (table_at (handles_in s.tables.items) to.instance) s.passing.scan.handles in
      let is : new.tables ≡ slice_set (handles_in s.tables.items) to.instance given = ap (λ (x : State). x.tables) handed.is in
      is ∙ ap (slice_set (handles_in s.tables.items) to.instance) (sym handed.gives.table)

  pub few_handed : (b : List ℕ) → AreBorrowsCounted b (top ∷ h.on.under.below) (handles_in s.tables.items) → slice_index b to.call + borrowed_count to s.passing.scan.handles ≤ 65536
  few_handed b counted =
      subst (λ (n : ℕ). slice_index b n + borrowed_count to s.passing.scan.handles ≤ 65536) (sym place_is)
      (few_then counts fine to s.passing.scan.handles handed.numbers b top h.on.under.below (handles_in s.tables.items) (table_at new.tables to.instance) inside h.on.under.sound handed.gives place_is counted (mine_by way refl))

  pub counted_handed : (b : List ℕ) → length h.on.under.below < length b → AreBorrowsCounted b (top ∷ h.on.under.below) (handles_in s.tables.items)
      → AreBorrowsCounted (slice_set b to.call (slice_index b to.call + borrowed_count to s.passing.scan.handles)) (top ∷ h.on.under.below) new.tables
  counted_handed b room counted =
      subst (λ (n : ℕ). AreBorrowsCounted (slice_set b n (slice_index b n + borrowed_count to s.passing.scan.handles)) (top ∷ h.on.under.below) new.tables) (sym place_is)
      (subst (λ (x : List Handles). AreBorrowsCounted (slice_set b (length h.on.under.below) (slice_index b (length h.on.under.below) + borrowed_count to s.passing.scan.handles)) (top ∷ h.on.under.below) x) (sym tables_are)
      (counted_then counts fine to s.passing.scan.handles handed.numbers b top h.on.under.below (handles_in s.tables.items) (table_at new.tables to.instance) inside h.on.under.sound handed.gives place_is counted (mine_by way refl) room))

  pub ends_handed : (lends : List Lend) → AreLentAtLeast lends (handles_in s.tables.items) → AreLentAtLeast lends new.tables
  ends_handed lends lent =
      subst (λ (x : List Handles). AreLentAtLeast lends x) (sym tables_are)
      (lent_given to s.passing.scan.handles handed.numbers lends (handles_in s.tables.items) (table_at new.tables to.instance) inside handed.gives lent)

pub counted_as : (a b : List ℕ) (fs gs : List Frame) (ts us : List Handles) → a ≡ b → fs ≡ gs → ts ≡ us → AreBorrowsCounted a fs ts → AreBorrowsCounted b gs us
counted_as a b fs gs ts us borrows frames tables counted =
    subst (λ (x : List ℕ). AreBorrowsCounted x gs us) borrows (subst (λ (x : List Frame). AreBorrowsCounted a x us) frames (subst (λ (x : List Handles). AreBorrowsCounted a fs x) tables counted))

pub can_end : (s new : CodedState) → CanEnd s → new.stack.frames ≡ s.stack.frames → new.lends ≡ s.lends → AreLentAtLeast s.lends (state_of new).tables → CanEnd new
can_end s new can frames lends lent = record {
  some = subst (λ (x : List Frame). 0 < length x) (sym frames) can.some;
  above = subst (λ (x : List Frame). NoneAbove (length (below_top x)) new.lends) (sym frames) (subst (λ (x : List Lend). NoneAbove (length (below_top s.stack.frames)) x) (sym lends) can.above);
  lent = subst (λ (x : List Lend). AreLentAtLeast x (state_of new).tables) (sym lends) lent;
}

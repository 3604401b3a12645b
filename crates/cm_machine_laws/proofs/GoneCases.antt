-- Why each case of a step keeps what is gone.
use Rattle.std.proofs.Common.{◌≡◌, ℕ, inl, inr, List, [], ◌∷◌, length, Option}
use Rattle.std.proofs.Common.{Some, None, refl, sym, ap, subst, ◌∙◌}
use Rattle.std.specs.Prelude.{map}
use Rattle.std.proofs.lemmas.Option.{same_Some}
use Rattle.cm_types.specs.declared.core_value.CoreValue.{CoreValue}
use Rattle.cm_types.specs.declared.resource.ResourceId.{ResourceId}
use Rattle.cm_types.specs.Types.{Fields}
use Rattle.cm_types.specs.Values.{Val}
use Rattle.cm_handles.specs.Handles.{Handles, handle_at, look_up}
use Rattle.cm_handles.specs.declared.handle.Handle.{Handle}
use Rattle.cm_handles.specs.declared.handle.HandleKind.TheVariants as handle
use Rattle.cm_abi_model.specs.HandleLeaves.{owned_in}
use Rattle.cm_abi_model.specs.Denotes.{Denotes}
use Rattle.cm_abi_model.specs.Numbers.{slot_at}
use Rattle.cm_abi_model.specs.Receives.{HandleLeaf, borrowed_leaf, leaves_in, owned_leaf}
use Rattle.cm_abi_model.specs.Requests.{tuple_of}
use Rattle.cm_abi_model.specs.Taken.{Met, content, lent, met, taken, text_content}
use Rattle.cm_abi_model.specs.Views.{View, Way, params, results}
use Rattle.cm_machine_model.specs.declared.event.Event.{Event}
use Rattle.cm_machine_model.specs.declared.moves.Move.{Move}
use Rattle.cm_machine_model.specs.declared.frame.Call.{Call}
use Rattle.cm_machine_model.specs.declared.frame.Frame.{Frame}
use Rattle.cm_machine_model.specs.declared.frame.Place.{Place}
use Rattle.cm_machine_model.specs.declared.frame.Place.TheVariants as place
use Rattle.cm_machine_model.specs.Cases.{Cases, HasPlace, IsCalled, IsFound, IsReturned, TrapsFrom}
use Rattle.cm_machine_model.specs.Cases.{answer_asks, answer_ends, answer_enters, answer_tidies}
use Rattle.cm_machine_model.specs.Cases.{as_it_was, call_asks, call_enters, called, case_of}
use Rattle.cm_machine_model.specs.Cases.{destroyed, destructor_ended, dropped, given_back, grew}
use Rattle.cm_machine_model.specs.Cases.{made, place_changes, place_leaves, placed, represented}
use Rattle.cm_machine_model.specs.Cases.{result_placed, return_asks, return_ends, return_tidies}
use Rattle.cm_machine_model.specs.Cases.{returned, root_ended, stayed, tidied, trapped, wrote}
use Rattle.cm_machine_model.specs.History.{Action, Happens, begins, moves}
use Rattle.cm_machine_model.specs.Owning.{IsAmong, serials, travelling}
use Rattle.cm_machine_model.specs.Plan.{Link, Plan, types_of}
use Rattle.cm_machine_model.specs.Stack.{actor}
use Rattle.cm_machine_model.specs.State.{Passage, State, place_after_trap, table_at}
use Rattle.cm_machine_model.specs.Step.{after_lift_of_args, after_lift_of_result, arg_slots}
use Rattle.cm_machine_model.specs.Step.{args_view, owners_given, result_view, top_place}
use Rattle.cm_machine_model.specs.Valid.{IsValidState}
use Rattle.cm_machine_laws.specs.Always.{Always}
use Rattle.cm_machine_laws.specs.Placed.{KeepsGone, StaysGone}
use Rattle.cm_machine_laws.specs.Taking.{AreThere}
use Rattle.cm_machine_laws.proofs.Gone.{IsFinal, IsLive, Keeps, keeps_both, keeps_given}
use Rattle.cm_machine_laws.proofs.Gone.{keeps_push, keeps_same, keeps_set, keeps_trap}
use Rattle.cm_machine_laws.proofs.Gone.{keeps_travel, live_travel}
use Rattle.cm_machine_laws.proofs.OnTheWay.{StaysValid}
use Rattle.cm_handles.proofs.HandlesLaws.{looked, not_lent}

abbrev pub MetAreThere : Type 0
MetAreThere = (w : View) (way : Way) (types : Fields) (slots : List CoreValue) (v : Val) → Denotes w way types slots v → AreThere w.table (met w way types slots v) (leaves_in (tuple_of types) v)

-- a handle that owns is met for each resource that a value owns
owned_among : (t : Handles) (ms : List Met) (ls : List HandleLeaf) (n : ℕ) → AreThere t ms ls → IsAmong (serials (owned_in ls)) n
    → (index : ℕ) × (h : Handle) × (handle_at t index ≡ Some h) × (h.kind ≡ handle.Owned) × (h.serial ≡ n)
owned_among t [] ls n x a = absurd (subst (λ (z : List HandleLeaf). IsAmong (serials (owned_in z)) n) x a)
owned_among t (text_content tags k ∷ ms) ls n x a = owned_among t ms ls n x a
owned_among t (content k ∷ ms) ls n x a = owned_among t ms ls n x a
owned_among t (taken i ∷ ms) [] n x a = absurd x
owned_among t (taken i ∷ ms) (owned_leaf h ∷ ls) n x (inl e) = (i, x.0.0, x.0.1, x.0.2, x.0.3 ∙ e)
owned_among t (taken i ∷ ms) (owned_leaf h ∷ ls) n x (inr a) = owned_among t ms ls n x.1 a
owned_among t (taken i ∷ ms) (borrowed_leaf h ∷ ls) n x a = absurd x
owned_among t (lent i ∷ ms) [] n x a = absurd x
owned_among t (lent i ∷ ms) (owned_leaf h ∷ ls) n x a = absurd x
owned_among t (lent i ∷ ms) (borrowed_leaf h ∷ ls) n x a = owned_among t ms ls n x.1 a

module _ (met_there : MetAreThere) (plan : Plan) (s : State) (top : Frame) (valid : IsValidState plan s) where
  -- a resource in a table is not gone
  in_table_live : (i index n : ℕ) (h : Handle) → handle_at (table_at s.tables i) index ≡ Some h → h.kind ≡ handle.Owned → h.serial ≡ n → IsLive s.owners n
  in_table_live i index n h stands owned serial q final e =
      subst IsFinal (same_Some q (place.InTable i index) (sym e ∙ valid.one_place.owned n i index (record { entry = h; stands = stands; owned = owned; serial_is = serial }))) final

  -- what is lifted is not gone
  lifted_live : (w : View) (l : Link) (way : Way) (slots : List CoreValue) (v : Val) (i : ℕ) (leaves : List HandleLeaf) → w.table ≡ table_at s.tables i → Denotes w way (types_of l way) slots v
      → leaves ≡ leaves_in (tuple_of (types_of l way)) v → (n : ℕ) → IsAmong (serials (owned_in leaves)) n → IsLive s.owners n
  lifted_live w l way slots v i leaves table denoted same n among =
      let x = owned_among w.table (met w way (types_of l way) slots v) leaves n
      (subst (λ (ls : List HandleLeaf). AreThere w.table (met w way (types_of l way) slots v) ls) (sym same) (met_there w way (types_of l way) slots v denoted)) among in
      in_table_live i x.0 n x.1 (subst (λ (t : Handles). handle_at t x.0 ≡ Some x.1) table x.2) x.3 x.4

  called_live : (func : ℕ) (args : List CoreValue) (l : Link) (v : Val) (p : Passage) → IsCalled plan s top func args l v p → (n : ℕ) → IsAmong (serials (owned_in p.leaves)) n → IsLive s.owners n
  called_live func args l v p is = lifted_live (args_view s (actor top) l) l params (arg_slots l args) v (actor top) p.leaves refl is.denoted is.scanned.carried.handles

  returned_live : (values : List CoreValue) (call : Call) (l : Link) (v : Val) (p : Passage) → IsReturned plan s top values call l v p → (n : ℕ) → IsAmong (serials (owned_in p.leaves)) n → IsLive s.owners n
  returned_live values call l v p is = lifted_live (result_view s l) l results values v l.instance p.leaves refl is.denoted is.scanned.carried.handles

  -- what is on its way is not gone
  travelling_live : (p : Passage) (leaves : List HandleLeaf) → s.passage ≡ Some p → leaves ≡ p.leaves → (n : ℕ) → IsAmong (serials (owned_in leaves)) n → IsLive s.owners n
  travelling_live p leaves at_top same n among q final e =
      let away : IsAmong (travelling s.passage) n = subst (λ (o : Option Passage). IsAmong (travelling o) n) (sym at_top) (subst (λ (ls : List HandleLeaf). IsAmong (serials (owned_in ls)) n) same among) in
      subst IsFinal (same_Some q _ (sym e ∙ valid.one_place.carried n away)) final

  keeps_called : (func : ℕ) (args : List CoreValue) (l : Link) (v : Val) (p : Passage) → IsCalled plan s top func args l v p → Keeps s.owners (after_lift_of_args s (actor top) func l args v p).owners
  keeps_called func args l v p is = keeps_travel (length s.stack) (owned_in p.leaves) s.owners (called_live func args l v p is)

  keeps_returned : (values : List CoreValue) (call : Call) (l : Link) (v : Val) (p : Passage) → IsReturned plan s top values call l v p → Keeps s.owners (after_lift_of_result s l call values v p).owners
  keeps_returned values call l v p is = keeps_travel (top_place s) (owned_in p.leaves) s.owners (returned_live values call l v p is)

  placed_owners : (values : List CoreValue) (call : Call) (l : Link) (v : Val) (p q : Passage) (answers : List ℕ) (st : State) → HasPlace (after_lift_of_result s l call values v p) l call p v q answers st
      → st.owners ≡ (after_lift_of_result s l call values v p).owners
  placed_owners values call l v p q answers st put = ap (λ (x : State). x.owners) (place_changes (after_lift_of_result s l call values v p) l call p v q answers st put).1

  keeps_placed : (values : List CoreValue) (call : Call) (l : Link) (v : Val) (p q : Passage) (answers : List ℕ) (st : State) → IsReturned plan s top values call l v p
      → HasPlace (after_lift_of_result s l call values v p) l call p v q answers st → Keeps s.owners st.owners
  keeps_placed values call l v p q answers st is put =
      subst (λ (xs : List Place). Keeps s.owners xs) (sym (placed_owners values call l v p q answers st put)) (keeps_returned values call l v p is)

  keeps_handed : (values : List CoreValue) (call : Call) (l : Link) (v : Val) (p q : Passage) (answers : List ℕ) (st : State) (i : ℕ) (ns : List ℕ) → IsReturned plan s top values call l v p
      → HasPlace (after_lift_of_result s l call values v p) l call p v q answers st → q.leaves ≡ p.leaves → Keeps s.owners (owners_given i q.leaves ns st.owners)
  keeps_handed values call l v p q answers st i ns is put same =
      keeps_both s.owners st.owners (owners_given i q.leaves ns st.owners) (keeps_placed values call l v p q answers st is put)
      (keeps_given i q.leaves ns st.owners (λ n among.
      subst (λ (xs : List Place). IsLive xs n) (sym (placed_owners values call l v p q answers st put))
      (live_travel (top_place s) (owned_in p.leaves) s.owners n (returned_live values call l v p is n (subst (λ (ls : List HandleLeaf). IsAmong (serials (owned_in ls)) n) same among)))))

  keeps_from : (m : Move) (st : State) → TrapsFrom plan s top m st → Keeps s.owners st.owners
  keeps_from _ _ (as_it_was m) = keeps_same s.owners
  keeps_from _ _ (called func args l v p is) = keeps_called func args.items l v p is
  keeps_from _ _ (placed values way call l p v answers q is) = keeps_same s.owners
  keeps_from _ _ (returned values call l v p is) = keeps_returned values.items call l v p is
  keeps_from _ _ (result_placed values call l v p q answers st is put) = keeps_placed values.items call l v p q answers st is put

  found_live : (func : ℕ) (args : List CoreValue) (r : ResourceId) (d : Option ℕ) (h : Handle) → IsFound plan s top func args r d h → h.kind ≡ handle.Owned → IsLive s.owners h.serial
  found_live func args r d h is owned =
      in_table_live (actor top) (slot_at args 0) h.serial h
      (looked (handle_at (table_at s.tables (actor top)) (slot_at args 0)) r h (not_lent (look_up (table_at s.tables (actor top)) (slot_at args 0) r) h is.found)) owned refl

  pub keeps_case : (m : Move) (e : Event) (new : State) → Cases plan s top m e new → Keeps s.owners new.owners
  keeps_case _ _ _ (trapped m t st from) = keeps_both s.owners st.owners (map place_after_trap st.owners) (keeps_from m st from) (keeps_trap st.owners)
  keeps_case _ _ _ (wrote a bytes inside) = keeps_same s.owners
  keeps_case _ _ _ (stayed pages no_room) = keeps_same s.owners
  keeps_case _ _ _ (grew pages fits) = keeps_same s.owners
  keeps_case _ _ _ (made func args r reach kinds may can) = keeps_push s.owners _
  keeps_case _ _ _ (represented func args r h reach kinds found) = keeps_same s.owners
  keeps_case _ _ _ (dropped func args r h found owned) = keeps_set s.owners h.serial place.Dropped (found_live func args.items r None h found owned)
  keeps_case _ _ _ (destroyed func args r fn h found owned opened room) = keeps_set s.owners h.serial place.Dropped (found_live func args.items r (Some fn) h found owned)
  keeps_case _ _ _ (given_back func args r d h call found kind) = keeps_same s.owners
  keeps_case _ _ _ (call_asks func args l v p fn request is next) = keeps_called func args.items l v p is
  keeps_case _ _ _ (call_enters func args l v p memory slots is given) =
      keeps_both s.owners (after_lift_of_args s (actor top) func l args.items v p).owners _ (keeps_called func args.items l v p is)
      (keeps_given l.instance p.leaves _ (after_lift_of_args s (actor top) func l args.items v p).owners (λ n among.
      live_travel (length s.stack) (owned_in p.leaves) s.owners n (called_live func args.items l v p is n among)))
  keeps_case _ _ _ (answer_asks values way call l p v answers q fn request is next) = keeps_same s.owners
  keeps_case _ _ _ (answer_enters values call l p v answers q memory slots is given) = keeps_given l.instance q.leaves _ s.owners (travelling_live p q.leaves is.passage_is is.answered.leaves)
  keeps_case _ _ _ (answer_tidies values call l p v answers q memory slots fn is given post) = keeps_given call.caller q.leaves _ s.owners (travelling_live p q.leaves is.passage_is is.answered.leaves)
  keeps_case _ _ _ (answer_ends values call l p v answers q memory slots is given post) = keeps_given call.caller q.leaves _ s.owners (travelling_live p q.leaves is.passage_is is.answered.leaves)
  keeps_case _ _ _ (return_asks values call l v p q answers st fn request is put next) = keeps_placed values.items call l v p q answers st is put
  keeps_case _ _ _ (return_tidies values call l v p q answers st memory slots fn is put given post) = keeps_handed values.items call l v p q answers st call.caller _ is put (place_leaves (after_lift_of_result s l call values.items v p) l call p v q answers st put)
  keeps_case _ _ _ (return_ends values call l v p q answers st memory slots is put given post) = keeps_handed values.items call l v p q answers st call.caller _ is put (place_leaves (after_lift_of_result s l call values.items v p) l call p v q answers st put)
  keeps_case _ _ _ (tidied values call l result is ph reach nothing) = keeps_same s.owners
  keeps_case _ _ _ (root_ended values is nothing) = keeps_same s.owners
  keeps_case _ _ _ (destructor_ended values dropper is nothing) = keeps_same s.owners

-- ---- along histories

gone_stays : (old new : State) → Keeps old.owners new.owners → StaysGone old new
gone_stays old new k = record {
  dropped = λ n e. k.stays n place.Dropped tt e;
  abandoned = λ n e. k.stays n place.Abandoned tt e;
  issued = k.issued;
}

acted_keeps : MetAreThere → (plan : Plan) (a : Action) (e : Event) (s new : State) → IsValidState plan s → Happens plan s a e new → Keeps s.owners new.owners
acted_keeps there plan (begins i) e s new valid x = subst (λ (n : State). Keeps s.owners n.owners) (sym x.2) (keeps_same s.owners)
acted_keeps there plan (moves m) e s new valid x = let c = case_of plan s m e new x.1 in keeps_case there plan s c.top valid m e new c.case

pub keeps_gone : MetAreThere → StaysValid → Always KeepsGone
keeps_gone there valid plan pages [] s y = ap (λ (n : State). n.owners) y.history
keeps_gone there valid plan pages (x ∷ h) s y =
    gone_stays x.before x.after (acted_keeps there plan x.action x.event x.before x.after
    (valid plan pages h x.before (record { linked = y.linked; pages_fit = y.pages_fit; history = y.history.0 })) y.history.1)

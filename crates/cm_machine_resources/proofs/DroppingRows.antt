-- The rows of a handle that is dropped.
use Rattle.std.proofs.Common.{◌≡◌, ℕ, inl, inr, List, [], ◌∷◌, Result, Ok, Err, refl, sym, ap, subst, ◌∙◌, Option, Some, None}
use Rattle.cm_types.specs.declared.core_value.CoreValue.{CoreValue}
use Rattle.cm_types.specs.declared.resource.ResourceId.{ResourceId}
use Rattle.cm_handles.specs.declared.fault.HandleFault.{HandleFault}
use Rattle.cm_handles.specs.declared.handle.Handle.{Handle}
use Rattle.cm_handles.specs.declared.handle.HandleKind.{HandleKind}
use Rattle.cm_handles.specs.declared.handle.HandleKind.TheVariants as kind
use Rattle.cm_handles.specs.Handles.{if_not_lent, look_up}
use Rattle.cm_abi_model.specs.Numbers.{slot_at}
use Rattle.cm_machine_model.specs.declared.event.Event.{Event}
use Rattle.cm_machine_model.specs.declared.event.Event.TheVariants as event
use Rattle.cm_machine_model.specs.declared.event.Trap.{Trap}
use Rattle.cm_machine_model.specs.declared.event.Trap.TheVariants as trap
use Rattle.cm_machine_model.specs.declared.frame.Frame.{Frame}
use Rattle.cm_machine_model.specs.declared.frame.Purpose.TheVariants as purpose
use Rattle.cm_machine_model.specs.Rows.{at}
use Rattle.cm_machine_model.specs.Stack.{actor}
use Rattle.cm_machine_model.specs.State.{State, after_trap, table_at}
use Rattle.cm_machine_model.specs.Step.{AreOf, Drops, DropsFound, DropsHandle, DropsOwned, HasRoom, IsOpen, MayLeave, after_drop, one_i32, pushed, trap_of_handle, without_handle}

abbrev pub found : State → Frame → ℕ → ResourceId → Result Handle HandleFault
found s top index r = if_not_lent (look_up (table_at s.tables (actor top)) index r)

-- the row of what was found at the index
drops_by : (s : State) (top : Frame) (r : ResourceId) (d : Option ℕ) (args : List CoreValue) (index : ℕ) (o : Result Handle HandleFault) (e : Event) (new : State) → AreOf one_i32 args → MayLeave top.purpose → index ≡ slot_at args 0 → found s top index r ≡ o → DropsFound o s (actor top) r d index e new → Drops s top r d args e new
drops_by s top r d args index o e new are leaves is there row =
    let same : found s top (slot_at args 0) r ≡ o = ap (λ n. found s top n r) (sym is) ∙ there in
    inr (are, inr (leaves, subst (λ (x : Result Handle HandleFault). DropsFound x s (actor top) r d (slot_at args 0) e new) (sym same) (subst (λ n. DropsFound o s (actor top) r d n e new) is row)))

pub drop_fault : (s : State) (top : Frame) (r : ResourceId) (d : Option ℕ) (args : List CoreValue) (index : ℕ) (f : HandleFault) → AreOf one_i32 args → MayLeave top.purpose → index ≡ slot_at args 0 → found s top index r ≡ Err f → Drops s top r d args (event.Trapped (trap_of_handle f)) (after_trap s)
drop_fault s top r d args index f are leaves is there = drops_by s top r d args index (Err f) (event.Trapped (trap_of_handle f)) (after_trap s) are leaves is there (refl, refl)

pub drop_owned_row : (s : State) (top : Frame) (r : ResourceId) (d : Option ℕ) (args : List CoreValue) (index : ℕ) (h : Handle) (e : Event) (new : State) → AreOf one_i32 args → MayLeave top.purpose → index ≡ slot_at args 0 → found s top index r ≡ Ok h → h.kind ≡ kind.Owned → DropsOwned s (actor top) r d index h e new → Drops s top r d args e new
drop_owned_row s top r d args index h e new are leaves is there owned row =
    drops_by s top r d args index (Ok h) e new are leaves is there (subst (λ (k : HandleKind). DropsHandle k s (actor top) r d index h e new) (sym owned) row)

pub drop_borrowed_row : (s : State) (top : Frame) (r : ResourceId) (d : Option ℕ) (args : List CoreValue) (index : ℕ) (h : Handle) (call : ℕ) (new : State) → AreOf one_i32 args → MayLeave top.purpose → index ≡ slot_at args 0 → found s top index r ≡ Ok h → h.kind ≡ kind.Borrowed call → new ≡ without_handle s (actor top) index → Drops s top r d args (event.Resume (actor top) []) new
drop_borrowed_row s top r d args index h call new are leaves is there borrowed row =
    drops_by s top r d args index (Ok h) (event.Resume (actor top) []) new are leaves is there (subst (λ (k : HandleKind). DropsHandle k s (actor top) r d index h (event.Resume (actor top) []) new) (sym borrowed) (refl, row))

-- ---- of one that owns its resource

pub owned_none : (s : State) (i : ℕ) (r : ResourceId) (d : Option ℕ) (index : ℕ) (h : Handle) (values : List CoreValue) (new : State) → d ≡ None → values ≡ [] → new ≡ after_drop s i index h → DropsOwned s i r d index h (event.Resume i values) new
owned_none s i r d index h values new is none after =
    subst (λ (x : Option ℕ). DropsOwned s i r x index h (event.Resume i values) new) (sym is) (ap (λ (vs : List CoreValue). event.Resume i vs) none, after)

pub owned_some : (s : State) (i : ℕ) (r : ResourceId) (d : Option ℕ) (f index : ℕ) (h : Handle) (new : State) → d ≡ Some f → IsOpen s r.component → HasRoom s → new ≡ pushed (record { instance = r.component; purpose = purpose.Destructor i }) (after_drop s i index h) → DropsOwned s i r d index h (event.Dtor r.component f h.rep) new
owned_some s i r d f index h new is opened room after =
    subst (λ (x : Option ℕ). DropsOwned s i r x index h (event.Dtor r.component f h.rep) new) (sym is) (inr (opened, inr (room, (refl, after))))

pub owned_closed : (s : State) (i : ℕ) (r : ResourceId) (d : Option ℕ) (f index : ℕ) (h : Handle) → d ≡ Some f → (IsOpen s r.component → ⊥) → DropsOwned s i r d index h (event.Trapped trap.CalleeClosed) (after_trap s)
owned_closed s i r d f index h is closed =
    subst (λ (x : Option ℕ). DropsOwned s i r x index h (event.Trapped trap.CalleeClosed) (after_trap s)) (sym is) (inl (closed, (refl, refl)))

pub owned_full : (s : State) (i : ℕ) (r : ResourceId) (d : Option ℕ) (f index : ℕ) (h : Handle) → d ≡ Some f → IsOpen s r.component → (HasRoom s → ⊥) → DropsOwned s i r d index h (event.Trapped trap.StackFull) (after_trap s)
owned_full s i r d f index h is opened full =
    subst (λ (x : Option ℕ). DropsOwned s i r x index h (event.Trapped trap.StackFull) (after_trap s)) (sym is) (inr (opened, inl (full, (refl, refl))))

-- ---- where the acting instance is told by an equation

found_in : (s : State) (top : Frame) (i index : ℕ) (r : ResourceId) (o : Result Handle HandleFault) → i ≡ actor top → if_not_lent (look_up (table_at s.tables i) index r) ≡ o → found s top index r ≡ o
found_in s top i index r o acts there = subst (λ j. if_not_lent (look_up (table_at s.tables j) index r) ≡ o) acts there

pub drop_fault_at : (s : State) (top : Frame) (r : ResourceId) (d : Option ℕ) (args : List CoreValue) (index : ℕ) (f : HandleFault) (i : ℕ) (t : Trap) → i ≡ actor top → AreOf one_i32 args → MayLeave top.purpose → index ≡ slot_at args 0 → if_not_lent (look_up (table_at s.tables i) index r) ≡ Err f → t ≡ trap_of_handle f → Drops s top r d args (event.Trapped t) (after_trap s)
drop_fault_at s top r d args index f i t acts are leaves is there same =
    subst (λ (x : Trap). Drops s top r d args (event.Trapped x) (after_trap s)) (sym same)
    (drop_fault s top r d args index f are leaves is (found_in s top i index r (Err f) acts there))

pub drop_owned_at : (s : State) (top : Frame) (r : ResourceId) (d : Option ℕ) (args : List CoreValue) (index : ℕ) (h : Handle) (i : ℕ) → i ≡ actor top → AreOf one_i32 args → MayLeave top.purpose → index ≡ slot_at args 0 → if_not_lent (look_up (table_at s.tables i) index r) ≡ Ok h → h.kind ≡ kind.Owned → (e : Event) (new : State) → DropsOwned s i r d index h e new → Drops s top r d args e new
drop_owned_at s top r d args index h i acts are leaves is there owned e new row =
    drop_owned_row s top r d args index h e new are leaves is (found_in s top i index r (Ok h) acts there) owned (subst (λ j. DropsOwned s j r d index h e new) acts row)

pub drop_borrowed_at : (s : State) (top : Frame) (r : ResourceId) (d : Option ℕ) (args : List CoreValue) (index : ℕ) (h : Handle) (call i : ℕ) (values : List CoreValue) (new : State) → i ≡ actor top → AreOf one_i32 args → MayLeave top.purpose → index ≡ slot_at args 0 → if_not_lent (look_up (table_at s.tables i) index r) ≡ Ok h → h.kind ≡ kind.Borrowed call → values ≡ [] → new ≡ without_handle s i index → Drops s top r d args (event.Resume i values) new
drop_borrowed_at s top r d args index h call i values new acts are leaves is there borrowed none after =
    at (Drops s top r d args) (event.Resume i values) (event.Resume (actor top) []) new new
    (ap (λ j. event.Resume j values) acts ∙ ap (λ (vs : List CoreValue). event.Resume (actor top) vs) none) refl
    (drop_borrowed_row s top r d args index h call new are leaves is (found_in s top i index r (Ok h) acts there) borrowed (after ∙ ap (λ j. without_handle s j index) acts))

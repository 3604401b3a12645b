-- The row of a handle whose representation is told.
use Rattle.std.proofs.Common.{◌≡◌, ℕ, inl, inr, List, [], ◌∷◌, Result, Ok, Err, refl, sym, ap, subst, ◌∙◌}
use Rattle.cm_types.specs.declared.core_value.CoreValue.{CoreValue}
use Rattle.cm_types.specs.declared.core_value.CoreValue.TheVariants as core_value
use Rattle.cm_types.specs.declared.resource.ResourceId.{ResourceId}
use Rattle.cm_handles.specs.declared.fault.HandleFault.{HandleFault}
use Rattle.cm_handles.specs.declared.handle.Handle.{Handle}
use Rattle.cm_handles.specs.Handles.{look_up}
use Rattle.cm_abi_model.specs.Numbers.{slot_at}
use Rattle.cm_machine_model.specs.declared.event.Event.{Event}
use Rattle.cm_machine_model.specs.declared.event.Event.TheVariants as event
use Rattle.cm_machine_model.specs.declared.event.Trap.{Trap}
use Rattle.cm_machine_model.specs.declared.event.Trap.TheVariants as trap
use Rattle.cm_machine_model.specs.declared.frame.Frame.{Frame}
use Rattle.cm_machine_model.specs.Rows.{at}
use Rattle.cm_machine_model.specs.Stack.{actor}
use Rattle.cm_machine_model.specs.State.{State, after_trap, table_at}
use Rattle.cm_machine_model.specs.Step.{AreOf, Represents, TellsFound, one_i32, trap_of_handle}

-- what was looked up at the index is what the row looks up
found_at : (s : State) (top : Frame) (r : ResourceId) (args : List CoreValue) (index : ℕ) (o : Result Handle HandleFault) → index ≡ slot_at args 0 → look_up (table_at s.tables (actor top)) index r ≡ o → look_up (table_at s.tables (actor top)) (slot_at args 0) r ≡ o
found_at s top r args index o is found = ap (λ n. look_up (table_at s.tables (actor top)) n r) (sym is) ∙ found

pub told : (s : State) (top : Frame) (r : ResourceId) (args : List CoreValue) (index : ℕ) (h : Handle) → AreOf one_i32 args → index ≡ slot_at args 0 → look_up (table_at s.tables (actor top)) index r ≡ Ok h → Represents s top r args (event.Resume (actor top) (core_value.I32 h.rep ∷ [])) s
told s top r args index h are is found =
    inr (are, subst (λ (o : Result Handle HandleFault). TellsFound o s (actor top) (event.Resume (actor top) (core_value.I32 h.rep ∷ [])) s) (sym (found_at s top r args index (Ok h) is found)) (refl, refl))

pub told_fault : (s : State) (top : Frame) (r : ResourceId) (args : List CoreValue) (index : ℕ) (f : HandleFault) → AreOf one_i32 args → index ≡ slot_at args 0 → look_up (table_at s.tables (actor top)) index r ≡ Err f → Represents s top r args (event.Trapped (trap_of_handle f)) (after_trap s)
told_fault s top r args index f are is found =
    inr (are, subst (λ (o : Result Handle HandleFault). TellsFound o s (actor top) (event.Trapped (trap_of_handle f)) (after_trap s)) (sym (found_at s top r args index (Err f) is found)) (refl, refl))

pub told_at : (s : State) (top : Frame) (r : ResourceId) (args : List CoreValue) (index : ℕ) (h : Handle) (i : ℕ) (values : List CoreValue) → i ≡ actor top → AreOf one_i32 args → index ≡ slot_at args 0 → look_up (table_at s.tables i) index r ≡ Ok h → values ≡ core_value.I32 h.rep ∷ [] → Represents s top r args (event.Resume i values) s
told_at s top r args index h i values acts are is found told_by =
    at (Represents s top r args) (event.Resume i values) (event.Resume (actor top) (core_value.I32 h.rep ∷ [])) s s
    (ap (λ j. event.Resume j values) acts ∙ ap (λ (vs : List CoreValue). event.Resume (actor top) vs) told_by) refl
    (told s top r args index h are is (subst (λ j. look_up (table_at s.tables j) index r ≡ Ok h) acts found))

pub told_fault_at : (s : State) (top : Frame) (r : ResourceId) (args : List CoreValue) (index : ℕ) (f : HandleFault) (i : ℕ) (t : Trap) → i ≡ actor top → AreOf one_i32 args → index ≡ slot_at args 0 → look_up (table_at s.tables i) index r ≡ Err f → t ≡ trap_of_handle f → Represents s top r args (event.Trapped t) (after_trap s)
told_fault_at s top r args index f i t acts are is found same =
    at (Represents s top r args) (event.Trapped t) (event.Trapped (trap_of_handle f)) (after_trap s) (after_trap s) (ap event.Trapped same) refl
    (told_fault s top r args index f are is (subst (λ j. look_up (table_at s.tables j) index r ≡ Err f) acts found))

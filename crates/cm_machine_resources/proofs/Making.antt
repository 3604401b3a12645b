-- The row of a resource that is made.
use Rattle.std.proofs.Common.{arith, ◌+◌, ◌≡◌, ℕ, ◌<◌, ◌⊎◌, inl, inr, List, [], ◌∷◌, ◌++◌, length, Result, Ok, Err, refl, sym, ap, subst, ◌∙◌}
use Rattle.std.specs.Prelude.{slice_set}
use Rattle.cm_types.specs.declared.core_value.CoreValue.{CoreValue}
use Rattle.cm_types.specs.declared.core_value.CoreValue.TheVariants as core_value
use Rattle.cm_types.specs.declared.resource.ResourceId.{ResourceId}
use Rattle.cm_handles.specs.Borrows.{borrows_by, borrows_of}
use Rattle.cm_handles.specs.declared.handle.Handle.{Handle}
use Rattle.cm_handles.specs.Handles.{Handles, IsSoundHandles, after_add, next_index}
use Rattle.cm_abi_model.specs.Numbers.{slot_at}
use Rattle.cm_machine_model.specs.declared.event.Event.{Event}
use Rattle.cm_machine_model.specs.declared.event.Event.TheVariants as event
use Rattle.cm_machine_model.specs.declared.event.Trap.{Trap}
use Rattle.cm_machine_model.specs.declared.event.Trap.TheVariants as trap
use Rattle.cm_machine_model.specs.declared.frame.Frame.{Frame}
use Rattle.cm_machine_model.specs.declared.frame.Place.{Place}
use Rattle.cm_machine_model.specs.declared.frame.Place.TheVariants as place
use Rattle.cm_machine_model.specs.Rows.{at}
use Rattle.cm_machine_model.specs.Stack.{actor}
use Rattle.cm_machine_model.specs.State.{State, after_trap, table_at}
use Rattle.cm_machine_model.specs.Step.{AreOf, CanMake, Makes, MayLeave, after_new, one_i32}
use Rattle.cm_machine_resources.specs.Adding.{AddsResource, HasRoomFor, MakesNone, new_handle}
use Rattle.cm_machine_model.proofs.StateLaws.{set_same}

-- the state with another table of an instance and other owners
abbrev pub with_parts : State → ℕ → Handles → List Place → State
with_parts s i table owners = record s { tables = slice_set s.tables i table; owners = owners }

-- nothing changed
unchanged : (s : State) (i : ℕ) (table : Handles) (owners : List Place) → table ≡ table_at s.tables i → owners ≡ s.owners → with_parts s i table owners ≡ s
unchanged s i table owners t o =
    ap (λ (x : Handles). with_parts s i x owners) t
    ∙ (ap (λ (ts : List Handles). record s { tables = ts; owners = owners }) (set_same s.tables i)
    ∙ ap (λ (os : List Place). record s { owners = os }) o)

pub made_none : (s : State) (top : Frame) (r : ResourceId) (args : List CoreValue) (t : Trap) (table : Handles) (owners : List Place) → AreOf one_i32 args → MayLeave top.purpose
    → MakesNone (table_at s.tables (actor top)) s.owners t → table ≡ table_at s.tables (actor top) → owners ≡ s.owners → Makes s top r args (event.Trapped t) (after_trap (with_parts s (actor top) table owners))
made_none s top r args t table owners are leaves (inl full) same_table same_owners =
    inr (are, inr (leaves, inl ((λ can. full.0 (can.serial, can.index)), (ap event.Trapped full.1, ap after_trap (unchanged s (actor top) table owners same_table same_owners)))))
made_none s top r args t table owners are leaves (inr memory) same_table same_owners =
    inr (are, inr (leaves, inr (record { serial = memory.0.0; index = memory.0.1 }, inl (tt, (ap event.Trapped memory.1, ap after_trap (unchanged s (actor top) table owners same_table same_owners))))))

pub made : (s : State) (top : Frame) (r : ResourceId) (args : List CoreValue) (rep index : ℕ) (table : Handles) (owners : List Place) → AreOf one_i32 args → rep ≡ slot_at args 0 → MayLeave top.purpose
    → AddsResource (table_at s.tables (actor top)) s.owners (actor top) r rep (Ok index) table owners → Makes s top r args (event.Resume (actor top) (core_value.I32 index ∷ [])) (with_parts s (actor top) table owners)
made s top r args rep index table owners are is leaves added =
    let i = actor top in
    inr (
      are,
      inr (
        leaves,
        inr (
          record { serial = added.0.0; index = added.0.1 },
          inr (
            ap (λ n. event.Resume i (core_value.I32 n ∷ [])) added.1,
            ap (λ (x : Handles). with_parts s i x owners) (added.2 ∙ ap (λ n. after_add (table_at s.tables i) (new_handle r (length s.owners) n)) is)
                ∙ (ap (λ (os : List Place). with_parts s i (after_add (table_at s.tables i) (new_handle r (length s.owners) (slot_at args 0))) os) added.3
                ∙ ap (λ n. with_parts s i (after_add (table_at s.tables i) (new_handle r (length s.owners) (slot_at args 0))) (s.owners ++ place.InTable i n ∷ [])) added.1),
          ),
        ),
      ),
    )

-- the same where the values and the state are told by equations
pub made_at : (s : State) (top : Frame) (r : ResourceId) (args : List CoreValue) (rep index : ℕ) (table : Handles) (owners : List Place) (i : ℕ) (values : List CoreValue) (new : State) → i ≡ actor top → AreOf one_i32 args → rep ≡ slot_at args 0 → MayLeave top.purpose
    → AddsResource (table_at s.tables i) s.owners i r rep (Ok index) table owners → values ≡ core_value.I32 index ∷ [] → new ≡ with_parts s i table owners → Makes s top r args (event.Resume i values) new
made_at s top r args rep index table owners i values new acts are is leaves added told state =
    at (Makes s top r args) (event.Resume i values) (event.Resume (actor top) (core_value.I32 index ∷ [])) new (with_parts s (actor top) table owners)
    (ap (λ j. event.Resume j values) acts ∙ ap (λ (vs : List CoreValue). event.Resume (actor top) vs) told)
    (state ∙ ap (λ j. with_parts s j table owners) acts)
    (made s top r args rep index table owners are is leaves (subst (λ j. AddsResource (table_at s.tables j) s.owners j r rep (Ok index) table owners) acts added))

pub made_none_at : (s : State) (top : Frame) (r : ResourceId) (args : List CoreValue) (t : Trap) (table : Handles) (owners : List Place) (i : ℕ) (new : State) → i ≡ actor top → AreOf one_i32 args → MayLeave top.purpose
    → MakesNone (table_at s.tables i) s.owners t → table ≡ table_at s.tables i → owners ≡ s.owners → new ≡ with_parts s i table owners → Makes s top r args (event.Trapped t) (after_trap new)
made_none_at s top r args t table owners i new acts are leaves none same_table same_owners state =
    at (Makes s top r args) (event.Trapped t) (event.Trapped t) (after_trap new) (after_trap (with_parts s (actor top) table owners)) refl
    (ap after_trap (state ∙ ap (λ j. with_parts s j table owners) acts))
    (made_none s top r args t table owners are leaves (subst (λ j. MakesNone (table_at s.tables j) s.owners t) acts none) (same_table ∙ ap (λ j. table_at s.tables j) acts) same_owners)

-- a handle that owns its resource is borrowed for no call
pub made_same : ((t : Handles) (h : Handle) (call : ℕ) → IsSoundHandles t → borrows_of call (after_add t h) ≡ borrows_of call t + borrows_by call h)
    → (t : Handles) (r : ResourceId) (serial rep call : ℕ) → IsSoundHandles t → borrows_of call (after_add t (new_handle r serial rep)) ≡ borrows_of call t
made_same law t r serial rep call sound = omega (arith, law t (new_handle r serial rep) call sound)

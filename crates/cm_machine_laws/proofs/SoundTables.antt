-- The changes of a table that a step makes keep its handles sound.
use Rattle.std.proofs.Common.{◌≡◌, ℕ, ◌+◌, ◌-◌, ◌≤◌, Bool, true, false, List, [], ◌∷◌, get_or}
use Rattle.std.proofs.Common.{Option, Some, None, refl, sym, ap, ◌∙◌, subst, arith}
use Rattle.std.specs.Prelude.{slice_set, ◌==◌, if◌then◌else◌}
use Rattle.std.specs.Option.{option_map}
use Rattle.std.proofs.lemmas.List.{set-get_or}
use Rattle.cm_types.specs.Values.{HandleValue}
use Rattle.cm_abi_model.specs.Receives.{HandleLeaf, borrowed_leaf, owned_leaf}
use Rattle.cm_abi_model.specs.Taken.{Met, after_met, content, lent, taken, text_content}
use Rattle.cm_abi_model.specs.Giving.{added_by, added_count, after_given, handle_to, with_added}
use Rattle.cm_abi_model.specs.declared.receiver.Receiver.{Receiver}
use Rattle.cm_handles.specs.declared.handle.Handle.{Handle}
use Rattle.cm_handles.specs.declared.handle.HandleKind.TheVariants as handle
use Rattle.cm_handles.specs.Handles.{Handles, handle_at, IsSoundHandles, after_add, after_lend}
use Rattle.cm_handles.specs.Handles.{after_release, after_unlend, indices_left, with_lends}
use Rattle.cm_handles.specs.Changes.{ClosesAll, ReleasesFrom, WritesLends}
use Rattle.cm_machine_laws.proofs.OwningLaws.{AddingIsFine}
use Rattle.cm_machine_laws.specs.Taking.{AreTaken}

-- The laws of tables: what each change of a sound table does.
pub record TableLaws : Type 0 where
  pub add : AddingIsFine
  pub release : (t : Handles) (index : ℕ) (h : Handle) → IsSoundHandles t → handle_at t index ≡ Some h → ReleasesFrom t index
  pub lend : (t : Handles) (index : ℕ) (h : Handle) → IsSoundHandles t → handle_at t index ≡ Some h → WritesLends t (after_lend t index) index h (h.lends + 1)
  pub unlend : (t : Handles) (index : ℕ) (h : Handle) → IsSoundHandles t → handle_at t index ≡ Some h → WritesLends t (after_unlend t index) index h (h.lends - 1)
  pub close : (t : Handles) → IsSoundHandles t → ClosesAll t

-- where nothing stands, nothing changes
unlend_none : (t : Handles) (i : ℕ) → handle_at t i ≡ None → IsSoundHandles t → IsSoundHandles (after_unlend t i)
unlend_none t i is sound =
    let none : slice_set t.slots i (option_map (λ x. with_lends (x.lends - 1) x) (handle_at t i)) ≡ t.slots =
    ap (λ (o : Option Handle). slice_set t.slots i (option_map (λ x. with_lends (x.lends - 1) x) o)) is
    ∙ (ap (λ (o : Option Handle). slice_set t.slots i o) (sym is) ∙ set-get_or t.slots i None) in
    subst (λ (xs : List (Option Handle)). IsSoundHandles (record { slots = xs; freed = t.freed })) (sym none) sound

unlend_at : TableLaws → (t : Handles) (i : ℕ) (o : Option Handle) → handle_at t i ≡ o → IsSoundHandles t → IsSoundHandles (after_unlend t i)
unlend_at laws t i None is sound = unlend_none t i is sound
unlend_at laws t i (Some h) is sound = (laws.unlend t i h sound is).sound

pub sound_unlend : TableLaws → (t : Handles) (i : ℕ) → IsSoundHandles t → IsSoundHandles (after_unlend t i)
sound_unlend laws t i sound = unlend_at laws t i (handle_at t i) refl sound

pub sound_met : TableLaws → (t : Handles) (ms : List Met) (hs : List HandleValue) → AreTaken t ms hs → IsSoundHandles t → IsSoundHandles (after_met t ms)
sound_met laws t [] hs a sound = sound
sound_met laws t (text_content tags n ∷ ms) hs a sound = sound_met laws t ms hs a sound
sound_met laws t (content n ∷ ms) hs a sound = sound_met laws t ms hs a sound
sound_met laws t (taken i ∷ ms) [] a sound = absurd a
sound_met laws t (taken i ∷ ms) (v ∷ hs) a sound = sound_met laws (after_release t i) ms hs a.1 (laws.release t i a.0.0 sound a.0.1).sound
sound_met laws t (lent i ∷ ms) hs a sound = sound_met laws (after_lend t i) ms hs a.1 (laws.lend t i a.0.0 sound a.0.1).sound

sound_borrow : AddingIsFine → (to : Receiver) (v : HandleValue) (rest : List HandleLeaf) (t : Handles) → IsSoundHandles t
    → ((u : Handles) → IsSoundHandles u → added_count to rest ≤ indices_left u → IsSoundHandles (after_given to u rest))
    → (b : Bool) → added_by (if b then None else Some (handle_to v (handle.Borrowed to.call))) + added_count to rest ≤ indices_left t
    → IsSoundHandles (after_given to (with_added t (if b then None else Some (handle_to v (handle.Borrowed to.call)))) rest)
sound_borrow fine to v rest t sound all true room = all t sound (omega (arith, room))
sound_borrow fine to v rest t sound all false room =
    let adds = fine t (handle_to v (handle.Borrowed to.call)) sound (omega (arith, room)) in
    all (after_add t (handle_to v (handle.Borrowed to.call))) adds.sound (omega (arith, room, adds.left))

pub sound_given : AddingIsFine → (to : Receiver) (leaves : List HandleLeaf) (t : Handles) → IsSoundHandles t → added_count to leaves ≤ indices_left t → IsSoundHandles (after_given to t leaves)
sound_given fine to [] t sound room = sound
sound_given fine to (owned_leaf v ∷ leaves) t sound room =
    let adds = fine t (handle_to v handle.Owned) sound (omega (arith, room)) in
    sound_given fine to leaves (after_add t (handle_to v handle.Owned)) adds.sound (omega (arith, room, adds.left))
sound_given fine to (borrowed_leaf v ∷ leaves) t sound room =
    sound_borrow fine to v leaves t sound (λ u s r. sound_given fine to leaves u s r) (v.resource.component == to.instance) room

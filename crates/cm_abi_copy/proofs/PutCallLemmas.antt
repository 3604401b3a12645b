-- Values of a call that can be passed on can be copied by their puts.
use Rattle.std.proofs.Common.{◌≡◌, ℕ, ◌^◌, ◌<◌, ◌≤◌, List, ap, ◌∙◌, arith}
use Rattle.std.specs.Prelude.{slice_index}
use Rattle.cm_types.specs.declared.core_value.CoreValue.{CoreValue}
use Rattle.cm_types.specs.Types.{Fields, Ty}
use Rattle.cm_types.specs.Values.{Val}
use Rattle.cm_layout.specs.Laid.{IsMarked, Laid}
use Rattle.cm_layout.specs.Layouts.{layout_of}
use Rattle.cm_layout.specs.Shapes.{LayoutTy, Shape, head_of, shape_of_type}
use Rattle.cm_layout.specs.Sizes.{size_of}
use Rattle.cm_abi_model.specs.Numbers.{wrapped_at}
use Rattle.cm_abi_model.specs.Requests.{tuple_of}
use Rattle.cm_abi_model.specs.Stores.{Given, place_of}
use Rattle.cm_abi_model.specs.Views.{flat_limit}
use Rattle.cm_abi_model.specs.Ways.{way_of}
use Rattle.cm_abi_load.specs.Sized.{IsSized}
use Rattle.cm_abi_lift.specs.declared.passed.Passed.{Passed}
use Rattle.cm_abi_store.specs.FlatLowering.{IsPassedIn}
use Rattle.cm_abi_store.specs.Storing.{given_of, stored_by}
use Rattle.cm_abi_programs.specs.Puts.{puts_of}
use Rattle.cm_abi_programs.specs.SlotPuts.{flat_puts_of}
use Rattle.cm_abi_running.specs.Passing.{PassedOn, all_passed, lowered_as}
use Rattle.cm_abi_running.specs.Putting.{Written, all_written, stored_as}
use Rattle.cm_abi_copy.specs.CallCopies.{IsFlatCopy, IsSpilledCopy}
use Rattle.cm_abi_copy.specs.CallPutting.{IsFlatPut, IsSpilledPut}
use Rattle.cm_abi_running.specs.Copying.{Copying, copying_of, shown_to}
use Rattle.cm_abi_running.specs.declared.copier.Copier.{Copier}
use Rattle.cm_abi_copy.specs.FlatReady.{IsFlatReady}
use Rattle.cm_abi_copy.specs.FlatShown.{flat_shown}
use Rattle.cm_abi_running.specs.Known.{CanBeCopied}
use Rattle.cm_abi_copy.specs.PassingOn.{CanBePassedOn}
use Rattle.cm_abi_running.specs.PutsReady.{ArePutsReady, seen_from}
use Rattle.cm_abi_running.specs.PutsWithin.{ArePutsWithin}
use Rattle.cm_abi_running.specs.Ready.{IsReady, IsSound}
use Rattle.cm_abi_running.specs.Shown.{without_handles}
use Rattle.cm_abi_running.specs.SlotPutsReady.{AreSlotsReady, AreSlotsWithin}
use Rattle.cm_abi_copy.proofs.PutWithin.{slots_more}

-- what the laws of copying, and of its puts, promise
pub record Below : Type 0 where
  pub laid : (t : Ty) → Laid (size_of t) (shape_of_type t)
  pub marked : (t : Ty) → IsMarked (head_of t) (shape_of_type t)
  pub sized : (t : Ty) → IsSized (shape_of_type t)
  pub spilled_copy : (n m : ℕ) (from : Copier) (passed : Passed) (types : Fields) (v : Val) → CanBePassedOn n m from passed types v
      → flat_limit (way_of passed.way) < (layout_of passed.layout.now).head.width → IsSpilledCopy n m from passed types v
  pub flat_copy : (n m : ℕ) (from : Copier) (passed : Passed) (types : Fields) (v : Val) → CanBePassedOn n m from passed types v
      → (layout_of passed.layout.now).head.width ≤ flat_limit (way_of passed.way) → IsFlatCopy n m from passed types v
  pub shown : (n : ℕ) (c : Copying) (sh : Shape) (p : ℕ) (v : Val) (k h : ℕ) → CanBeCopied n c sh p v k h → shown_to c sh p ≡ without_handles v
  pub ready : (n : ℕ) (c : Copying) (sh : Shape) (p : ℕ) (v : Val) (k h : ℕ) → CanBeCopied n c sh p v k h → IsReady n c sh p k h
  pub bytes_stay : (g : Given) (sh : Shape) (v : Val) (p k h : ℕ) → stored_by g sh (without_handles v) p k h ≡ stored_by g sh v p k h
  pub puts_within : (n : ℕ) (x : Shape) → Laid n x → IsSized x → ArePutsWithin n (puts_of x)
  pub slots_within : (n : ℕ) (x : Shape) → IsPassedIn n x → IsSized x → AreSlotsWithin n (flat_puts_of x)
  pub stored : (c : Copying) (x : Shape) (p q k h : ℕ) → ((i : ℕ) → slice_index c.memory i < 2 ^ 8) → IsSized x
      → all_written (seen_from c) c.given (puts_of x) p q k h ≡ stored_as c.given x (shown_to c x p) q k h
  pub lowered : (c : Copying) (slots : List CoreValue) (x : Shape) (s k h : ℕ) → ((i : ℕ) → slice_index c.memory i < 2 ^ 8) → IsSized x
      → all_passed (seen_from c) c.given slots (flat_puts_of x) s k h ≡ lowered_as c.given x (flat_shown c slots x s) s k h
  pub puts_ready : (n : ℕ) (c : Copying) (x : Shape) (p q k h : ℕ) → ((i : ℕ) → slice_index c.memory i < 2 ^ 8) → IsSized x → IsReady n c x p k h → ArePutsReady n c (puts_of x) p q k h
  pub slots_ready : (n : ℕ) (c : Copying) (slots : List CoreValue) (x : Shape) (s k h : ℕ) → ((i : ℕ) → slice_index c.memory i < 2 ^ 8) → IsSized x
      → IsFlatReady n c slots x s k h → AreSlotsReady n c slots (flat_puts_of x) s k h

module _ (below : Below) (n m : ℕ) (from : Copier) (passed : Passed) (types : Fields) (v : Val) (can : CanBePassedOn n m from passed types v)
    (small : (i : ℕ) → slice_index from.memory.now i < 2 ^ 8) where
  abbrev l : LayoutTy
  l = layout_of passed.layout.now

  abbrev c : Copying
  c = copying_of from

  abbrev g : Given
  g = given_of from.target

  sound : IsSound l
  sound = rw can.layout (record { laid = below.laid (tuple_of types); sized = below.sized (tuple_of types); marked = below.marked (tuple_of types) })

  pub spilled_put : flat_limit (way_of passed.way) < l.head.width → IsSpilledPut n m from passed types v
  spilled_put over =
      let copy = below.spilled_copy n m from passed types v can over in
      let at = wrapped_at 4 passed.slots.now 0 in
      let to = place_of g 0 in
      record {
        within = copy.within;
        inside = copy.inside;
        fits = below.puts_within l.head.size l.shape sound.laid sound.sized;
        ready = below.puts_ready n c l.shape at to 1 0 small sound.sized (below.ready n c l.shape at v 1 0 copy.copied);
        place = copy.place;
        slot = copy.slot;
        bytes = ap (λ (a : Written). a.bytes) (below.stored c l.shape at to 1 0 small sound.sized)
            ∙ (ap (λ u. stored_by g l.shape u to 1 0) (below.shown n c l.shape at v 1 0 copy.copied) ∙ (below.bytes_stay g l.shape v to 1 0 ∙ copy.bytes));
        numbers = copy.numbers;
      }

  pub flat_put : l.head.width ≤ flat_limit (way_of passed.way) → IsFlatPut n m from passed types v
  flat_put under =
      let copy = below.flat_copy n m from passed types v can under in
      let slots = passed.slots.now in
      let inside = copy.lies.inside in
      let runs = below.lowered c slots l.shape 0 0 0 small sound.sized in
      record {
        fits = slots_more l.head.width m (omega (arith, inside)) (flat_puts_of l.shape) (below.slots_within l.head.width l.shape copy.lies.passed sound.sized);
        ready = below.slots_ready n c slots l.shape 0 0 0 small sound.sized copy.ready;
        bytes = ap (λ (a : PassedOn). a.bytes) runs ∙ copy.bytes;
        numbers = ap (λ (a : PassedOn). a.numbers) runs ∙ copy.numbers;
      }

-- What the puts of a call are, behind a pointer and in core values.
use Rattle.std.proofs.Common.{◌≡◌, ℕ, ◌<◌, ◌≤◌, List, length, refl, sym, ap, subst, ◌∙◌, arith, inl, inr}
use Rattle.std.proofs.lemmas.Bool.{cases_lt, le-ltb, lt-ltb}
use Rattle.std.specs.Prelude.{Bool, true, false}
use Rattle.cm_types.specs.Types.{Fields}
use Rattle.cm_types.specs.Values.{Val}
use Rattle.cm_layout.specs.Layouts.{layout_of}
use Rattle.cm_layout.specs.Shapes.{LayoutTy}
use Rattle.cm_abi_model.specs.Numbers.{wrapped_at}
use Rattle.cm_abi_model.specs.Receives.{call_bytes, call_numbers}
use Rattle.cm_abi_model.specs.Stores.{place_of, poke}
use Rattle.cm_abi_model.specs.Ways.{way_of}
use Rattle.cm_abi_lift.specs.declared.passed.Passed.{Passed}
use Rattle.cm_abi_programs.specs.CallPuts.{CallPuts, call_puts_of, flat, stored}
use Rattle.cm_abi_programs.specs.Puts.{Puts, no_puts, puts_of}
use Rattle.cm_abi_programs.specs.SlotPuts.{SlotPuts, flat_puts_of, no_slots}
use Rattle.cm_abi_store.specs.Storing.{given_of}
use Rattle.cm_abi_store.specs.declared.target.Next.{Next}
use Rattle.cm_abi_running.specs.declared.copier.Copier.{Copier}
use Rattle.cm_abi_copy.specs.CallPutting.{IsFlatPut, IsSpilledPut}
use Rattle.cm_abi_running.specs.Copying.{copying_of}
use Rattle.cm_abi_running.specs.PutsReady.{ArePutsReady}
use Rattle.cm_abi_running.specs.PutsWithin.{ArePutsWithin}
use Rattle.cm_abi_running.specs.PutsWritten.{LieBetween, Writes, running}
use Rattle.cm_abi_running.specs.SlotPutsReady.{AreSlotsReady, AreSlotsWithin}
use Rattle.cm_abi_running.specs.SlotsPassed.{PassesOn, SlotsLieWithin, passing}
use Rattle.cm_lemmas.proofs.Bools.{false_not_true}

abbrev is_stored : CallPuts → Bool
is_stored (stored ps) = true
is_stored (flat ps) = false

abbrev stored_puts : CallPuts → Puts
stored_puts (stored ps) = ps
stored_puts (flat ps) = no_puts

abbrev flat_puts : CallPuts → SlotPuts
flat_puts (stored ps) = no_slots
flat_puts (flat ps) = ps

module _ (limit : ℕ) (l : LayoutTy) where
  over : limit < l.head.width → call_puts_of limit l ≡ stored (puts_of l.shape)
  over lt = rw (lt-ltb limit l.head.width lt) refl

  under : l.head.width ≤ limit → call_puts_of limit l ≡ flat (flat_puts_of l.shape)
  under le = rw (le-ltb limit l.head.width le) refl

  pub stored_so : (ps : Puts) → stored ps ≡ call_puts_of limit l → (limit < l.head.width) × (ps ≡ puts_of l.shape)
  stored_so ps is = elim (cases_lt limit l.head.width) [
    | inl lt ↦ (lt, ap stored_puts (is ∙ over lt))
    | inr le ↦ absurd (false_not_true (sym (ap is_stored (is ∙ under le))))
  ]

  pub flat_so : (ps : SlotPuts) → flat ps ≡ call_puts_of limit l → (l.head.width ≤ limit) × (ps ≡ flat_puts_of l.shape)
  flat_so ps is = elim (cases_lt limit l.head.width) [
    | inl lt ↦ absurd (false_not_true (ap is_stored (is ∙ over lt)))
    | inr le ↦ (le, ap flat_puts (is ∙ under le))
  ]

-- ---- what is copied so

module _ (n m : ℕ) (from : Copier) (passed : Passed) (types : Fields) (v : Val) where
  abbrev place : ℕ
  place = place_of (given_of from.target) 0

  module _ (ps : Puts) (pointer : ℕ) (there : IsSpilledPut n m from passed types v) (pointer_is : pointer ≡ wrapped_at 4 passed.slots.now 0) (is : ps ≡ puts_of (layout_of passed.layout.now).shape) where
    pub spilled_lies : LieBetween ps pointer (length from.memory.now) place n
    spilled_lies =
        record {
          size = (layout_of passed.layout.now).head.size;
          within = subst (ArePutsWithin (layout_of passed.layout.now).head.size) (sym is) there.fits;
          read = omega (arith, pointer_is, there.within);
          room = there.inside;
        }

    pub spilled_ready : ArePutsReady n (copying_of from) ps pointer place 1 0
    spilled_ready =
        subst (λ qs. ArePutsReady n (copying_of from) qs pointer place 1 0) (sym is)
        (subst (λ p. ArePutsReady n (copying_of from) (puts_of (layout_of passed.layout.now).shape) p place 1 0) (sym pointer_is) there.ready)

    pub spilled_bytes : (after : Next) (old new : List ℕ) → Writes (running (copying_of from) ps pointer place 1 0) after old new → new ≡ poke (call_bytes (given_of from.target) (way_of passed.way) types v) old
    spilled_bytes after old new w =
        w.stored
        ∙ ap (λ qs. poke (running (copying_of from) qs pointer place 1 0).bytes old) is
        ∙ ap (λ p. poke (running (copying_of from) (puts_of (layout_of passed.layout.now).shape) p place 1 0).bytes old) pointer_is
        ∙ ap (λ bs. poke bs old) there.bytes

  module _ (ps : SlotPuts) (there : IsFlatPut n m from passed types v) (is : ps ≡ flat_puts_of (layout_of passed.layout.now).shape) where
    pub flat_lies : SlotsLieWithin ps 0 m
    flat_lies = record { size = m; within = subst (AreSlotsWithin m) (sym is) there.fits; room = omega arith }

    pub flat_ready : AreSlotsReady n (copying_of from) passed.slots.now ps 0 0 0
    flat_ready = subst (λ qs. AreSlotsReady n (copying_of from) passed.slots.now qs 0 0 0) (sym is) there.ready

    module _ (after : Next) (old_slots new_slots old new : List ℕ) (w : PassesOn (passing (copying_of from) passed.slots.now ps 0 0 0) after old_slots new_slots old new) where
      pub flat_bytes : new ≡ poke (call_bytes (given_of from.target) (way_of passed.way) types v) old
      flat_bytes =
          w.stored
          ∙ ap (λ qs. poke (passing (copying_of from) passed.slots.now qs 0 0 0).bytes old) is
          ∙ ap (λ bs. poke bs old) there.bytes

      pub flat_numbers : new_slots ≡ poke (call_numbers (given_of from.target) (way_of passed.way) types v) old_slots
      flat_numbers =
          w.slots
          ∙ ap (λ qs. poke (passing (copying_of from) passed.slots.now qs 0 0 0).numbers old_slots) is
          ∙ ap (λ ns. poke ns old_slots) there.numbers

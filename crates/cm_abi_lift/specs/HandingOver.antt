-- Handing over the handles that a reader met (CanonicalABI.md, "Lifting" of own and borrow).
use Rattle.std.specs.Prelude.{◌≡◌, ℕ, ◌<◌, Bool, List, [], ◌∷◌, ◌++◌, Some, Result, Ok, Err}
use Rattle.cm_types.specs.Values.{Val}
use Rattle.cm_handles.specs.Handles.{Handles, after_lend, after_release, handle_at, if_not_lent}
use Rattle.cm_handles.specs.Handles.{if_owned, look_up}
use Rattle.cm_handles.specs.declared.handle.Handle.{Handle}
use Rattle.cm_handles.specs.declared.fault.HandleFault.{HandleFault}
use Rattle.cm_handles.specs.declared.fault.HandleFault.TheVariants as handle_fault
use Rattle.cm_layout.specs.declared.layouts.HandleType.{HandleType}
use Rattle.cm_layout.specs.declared.layouts.HandleType.TheVariants as handle_type
use Rattle.cm_abi_model.specs.declared.fault.AbiFault.{AbiFault}
use Rattle.cm_abi_model.specs.declared.fault.AbiFault.TheVariants as fault
use Rattle.cm_abi_load.specs.declared.progress.MetHandle.{MetHandle}
use Rattle.cm_abi_load.specs.Outcomes.{Outcome, State}
use Rattle.cm_abi_model.specs.Lifts.{Hands}
use Rattle.cm_abi_lift.specs.declared.handing.Handed.{Handed}

-- those of the code
abbrev pub hands_of : Handles → Handed → Hands
hands_of table h = record { table = table; owns = h.owns.items; lends = h.lends.items }

-- nothing is handed over yet
abbrev pub untouched : Handles → Hands
untouched table = record { table = table; owns = []; lends = [] }

-- why a handle is not handed over
abbrev pub hand_fault : HandleFault → AbiFault
hand_fault handle_fault.NoHandle = fault.NoHandle
hand_fault handle_fault.WrongResource = fault.WrongResource
hand_fault handle_fault.StillLent = fault.StillLent
hand_fault handle_fault.NotOwned = fault.NotOwned
hand_fault handle_fault.Full = fault.TableFull
hand_fault handle_fault.Memory = fault.EngineMemory

-- a handle that was found goes out of the table
abbrev pub taken_out : Hands → ℕ → Result Handle HandleFault → Result Hands AbiFault
taken_out h index (Err e) = Err (hand_fault e)
taken_out h index (Ok entry) =
    Ok (record {
      table = after_release h.table index;
      owns = h.owns ++ entry ∷ [];
      lends = h.lends;
    })

-- a handle that was found is lent once more
abbrev pub lent_out : Hands → ℕ → Result Handle HandleFault → Result Hands AbiFault
lent_out h index (Err e) = Err (hand_fault e)
lent_out h index (Ok entry) =
    Ok (record {
      table = after_lend h.table index;
      owns = h.owns;
      lends = h.lends ++ index ∷ [];
    })

-- handing over the handle at an index: one to be owned is lent to nobody and is no borrow
unfoldable pub hand_one : Hands → HandleType → ℕ → Result Hands AbiFault
hand_one h (handle_type.Own r) index =
    taken_out h index (if_owned (if_not_lent (look_up h.table index r)))
hand_one h (handle_type.Borrow r) index = lent_out h index (look_up h.table index r)

-- the next handle, where the one before was handed over
abbrev pub hand_next : Result Hands AbiFault → (Hands → Result Hands AbiFault)
    → Result Hands AbiFault
hand_next (Err e) f = Err e
hand_next (Ok h) f = f h

-- handing over one handle after another, with the table as it is then, up to the first fault
abbrev pub hand_over : Hands → List MetHandle → Result Hands AbiFault
hand_over h [] = Ok h
hand_over h (m ∷ ms) = hand_next (hand_one h m.wanted m.index) (λ k. hand_over k ms)

-- where reading came to an end
abbrev pub state_in : Outcome Val → State
state_in (Ok r) = r.1
state_in (Err r) = r.1

-- what lifting comes to: the first fault in reading order is that of the first handle that cannot
-- be handed over, of those that were met; else the one at which reading stopped
abbrev pub handed : Outcome Val → Result Hands AbiFault → Result (Val × List Bool × Hands) AbiFault
handed r (Err e) = Err e
handed (Err r) (Ok h) = Err r.0
handed (Ok r) (Ok h) = Ok (r.0, r.1.tags, h)

abbrev pub lifted : Handles → Outcome Val → Result (Val × List Bool × Hands) AbiFault
lifted table r = handed r (hand_over (untouched table) (state_in r).handles)

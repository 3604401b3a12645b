-- What stands in core values, and the cases that they show.
use Rattle.std.proofs.Common.{◌≡◌, ℕ, zero, suc, ◌+◌, ◌*◌, ◌≤◌, List, refl, sym, ap, arith, Some}
use Rattle.cm_types.specs.declared.core_value.CoreValue.{CoreValue}
use Rattle.cm_types.specs.declared.limits.TheConstants.{MAX_FLAT_PARAMS}
use Rattle.cm_types.specs.Values.{Val, bearing, count_of}
use Rattle.cm_layout.specs.declared.heads.Head.{Head}
use Rattle.cm_layout.specs.Laid.{PartsLaid, PayloadsLaid, ArePartsMarked, ArePayloadsMarked}
use Rattle.cm_layout.specs.Shapes.{Parts, Payloads, Shape, cases_shape, fields_shape, fixed_list_shape, list_shape, no_parts, part, no_payloads, nothing, carried}
use Rattle.cm_abi_load.specs.Sized.{ArePartsSized, ArePayloadsSized}
use Rattle.cm_abi_model.specs.Views.{Way, flat_limit, params, results}
use Rattle.cm_abi_store.specs.FlatLowering.{ArePassedIn, IsPassedIn, PayloadsPassedIn}
use Rattle.cm_abi_store.specs.Sources.{IsCarriedReady, case_told, payload_in}
use Rattle.cm_abi_running.specs.Copying.{Copying}
use Rattle.cm_abi_running.specs.Ready.{IsSound}
use Rattle.cm_abi_running.specs.Shown.{values_each}
use Rattle.cm_abi_copy.specs.FlatReady.{AreFieldsInSlots, ArePayloadsInSlots, IsFlatCaseReady, IsFlatReady, IsInSlots}
use Rattle.cm_abi_copy.specs.FlatShown.{flat_shown, flat_shown_case}

fields_lie : (n s width j q size end : ℕ) (ps : Parts) → s + width ≤ n → q ≡ s + j → ArePassedIn width j ps → PartsLaid size end ps → ArePartsSized ps → ArePartsMarked ps → AreFieldsInSlots n q ps
fields_lie n s width j q size end no_parts inside is passed laid sized marked = tt
fields_lie n s width j q size end (part o e sh ps) inside is passed laid sized marked = (
  record { inside = omega (arith, inside, is, passed.0); passed = passed.1; sound = record { laid = laid.2; sized = sized.0; marked = marked.0 } },
  fields_lie n s width (j + e.width) (q + e.width) size (o + e.size) ps inside (omega (arith, is)) passed.2 laid.3 sized.1 marked.1,
)

payloads_lie : (n s width size o : ℕ) (ps : Payloads) → s + width ≤ n → PayloadsPassedIn width ps → PayloadsLaid size o ps → ArePayloadsSized ps → ArePayloadsMarked ps → ArePayloadsInSlots n (s + 1) ps
payloads_lie n s width size o no_payloads inside passed laid sized marked = tt
payloads_lie n s width size o (nothing ps) inside passed laid sized marked = payloads_lie n s width size o ps inside passed laid sized marked
payloads_lie n s width size o (carried e sh ps) inside passed laid sized marked = (
  record { inside = omega (arith, inside, passed.0); passed = passed.1; sound = record { laid = laid.1; sized = sized.0; marked = marked.0 } },
  payloads_lie n s width size o ps inside passed.2 laid.2 sized.1 marked.1,
)

-- a list's elements, those of a list in place, fields, and what cases carry
pub elements_sound : (n s : ℕ) (h e : Head) (sh : Shape) → IsInSlots n s (record { head = h; shape = list_shape e sh }) → IsSound (record { head = e; shape = sh })
elements_sound n s h e sh lies = record { laid = lies.sound.laid.1; sized = lies.sound.sized.1; marked = lies.sound.marked.1 }

pub items_lie : (n s count : ℕ) (h e : Head) (sh : Shape) → IsInSlots n s (record { head = h; shape = fixed_list_shape e sh count })
    → IsPassedIn e.width sh × IsSound (record { head = e; shape = sh }) × (s + count * e.width ≤ n)
items_lie n s count h e sh lies = (lies.passed.1, record { laid = lies.sound.laid.1; sized = lies.sound.sized; marked = lies.sound.marked.1 }, omega (arith, lies.inside, lies.passed.0))

pub tuple_lies : (n s : ℕ) (h : Head) (ps : Parts) → IsInSlots n s (record { head = h; shape = fields_shape ps }) → AreFieldsInSlots n s ps
tuple_lies n s h ps lies = fields_lie n s h.width 0 s h.size 0 ps lies.inside (omega arith) lies.passed lies.sound.laid lies.sound.sized lies.sound.marked.1

pub cases_lie : (n s d o : ℕ) (h : Head) (ps : Payloads) → IsInSlots n s (record { head = h; shape = cases_shape d o ps }) → ArePayloadsInSlots n (s + 1) ps
cases_lie n s d o h ps lies = payloads_lie n s h.width h.size o ps lies.inside lies.passed.1 lies.sound.laid.2 lies.sound.sized.2 lies.sound.marked.1

-- no call passes more core values flat
pub few_are_flat : (way : Way) (width : ℕ) → width ≤ flat_limit way → 0 + width ≤ MAX_FLAT_PARAMS
few_are_flat params width few = omega (arith, few)
few_are_flat results width few = omega (arith, few)

-- ---- values in a row

pub each_counted : (V : ℕ → Val) (size n p : ℕ) → count_of (values_each V size n p) ≡ n
each_counted V size zero p = refl
each_counted V size (suc n) p = let rest = each_counted V size n (p + size) in omega (arith, rest)

-- ---- cases

-- the case that is shown is told with what it carries there, from any source that shows this
pub case_shown_told : {S : Type 0} (V : S → Shape → Val) (x : S) (c : Copying) (slots : List CoreValue) (ps : Payloads) (i n s : ℕ) → ((sh : Shape) → V x sh ≡ flat_shown c slots sh s)
    → flat_shown_case c slots ps i n s ≡ case_told V i (payload_in ps n) (Some x)
case_shown_told V x c slots no_payloads i n s same = refl
case_shown_told V x c slots (nothing ps) i zero s same = refl
case_shown_told V x c slots (nothing ps) i (suc n) s same = case_shown_told V x c slots ps i n s same
case_shown_told V x c slots (carried h sh ps) i zero s same = ap (bearing i) (sym (same sh))
case_shown_told V x c slots (carried h sh ps) i (suc n) s same = case_shown_told V x c slots ps i n s same

-- and what it carries can be copied
pub carried_ready : {S : Type 0} (R : S → Head → Shape → Type 0) (x : S) (room n : ℕ) (c : Copying) (slots : List CoreValue) (ps : Payloads) (i s k h : ℕ)
    → ((e : Head) (sh : Shape) → IsInSlots room s (record { head = e; shape = sh }) → IsFlatReady n c slots sh s k h → R x e sh)
    → ArePayloadsInSlots room s ps → IsFlatCaseReady n c slots ps i s k h → IsCarriedReady R (payload_in ps i) (Some x)
carried_ready R x room n c slots no_payloads i s k h from lie ready = tt
carried_ready R x room n c slots (nothing ps) zero s k h from lie ready = tt
carried_ready R x room n c slots (nothing ps) (suc i) s k h from lie ready = carried_ready R x room n c slots ps i s k h from lie ready
carried_ready R x room n c slots (carried e sh ps) zero s k h from lie ready = from e sh lie.0 ready
carried_ready R x room n c slots (carried e sh ps) (suc i) s k h from lie ready = carried_ready R x room n c slots ps i s k h from lie.1 ready

-- What stands in a source, and the cases that it shows.
use Rattle.std.proofs.Common.{◌≡◌, ℕ, zero, suc, ◌+◌, ◌≤◌, List, refl, sym, ap, arith, Some}
use Rattle.cm_types.specs.Values.{Val, bare, bearing, count_of}
use Rattle.cm_layout.specs.declared.heads.Head.{Head}
use Rattle.cm_layout.specs.Laid.{PartsLaid, PayloadsLaid, ArePartsMarked, ArePayloadsMarked}
use Rattle.cm_layout.specs.Shapes.{Parts, Payloads, Shape, cases_shape, fields_shape, list_shape, no_parts, part, no_payloads, nothing, carried}
use Rattle.cm_abi_load.specs.Sized.{ArePartsSized, ArePayloadsSized}
use Rattle.cm_abi_model.specs.declared.encoding.StringEncoding.{StringEncoding}
use Rattle.cm_abi_store.specs.Sources.{IsCarriedReady, case_told, payload_in}
use Rattle.cm_abi_running.specs.Copying.{Copying}
use Rattle.cm_abi_running.specs.Ready.{FieldsLieIn, IsCaseReady, IsReady, IsSound, LiesIn, PayloadsLieIn}
use Rattle.cm_abi_running.specs.Shown.{case_at, value_at, values_each}

-- ---- what lies in the source

fields_lie : (n at size end : ℕ) (ps : Parts) → at + size ≤ n → PartsLaid size end ps → ArePartsSized ps → ArePartsMarked ps → FieldsLieIn n at ps
fields_lie n at size end no_parts within laid sized marked = tt
fields_lie n at size end (part o e s ps) within laid sized marked = (
  record { within = omega (arith, within, laid.1); sound = record { laid = laid.2; sized = sized.0; marked = marked.0 } },
  fields_lie n at size (o + e.size) ps within laid.3 sized.1 marked.1,
)

payloads_lie : (n at size o : ℕ) (ps : Payloads) → at + size ≤ n → PayloadsLaid size o ps → ArePayloadsSized ps → ArePayloadsMarked ps → PayloadsLieIn n (at + o) ps
payloads_lie n at size o no_payloads within laid sized marked = tt
payloads_lie n at size o (nothing ps) within laid sized marked = payloads_lie n at size o ps within laid sized marked
payloads_lie n at size o (carried e s ps) within laid sized marked = (
  record { within = omega (arith, within, laid.0); sound = record { laid = laid.1; sized = sized.0; marked = marked.0 } },
  payloads_lie n at size o ps within laid.2 sized.1 marked.1,
)

-- a list's elements, those of a list in place, fields, and what cases carry
pub elements_sound : (n at : ℕ) (h e : Head) (sh : Shape) → LiesIn n at (record { head = h; shape = list_shape e sh }) → IsSound (record { head = e; shape = sh })
elements_sound n at h e sh lies = record { laid = lies.sound.laid.1; sized = lies.sound.sized.1; marked = lies.sound.marked.1 }

pub tuple_lies : (n at : ℕ) (h : Head) (ps : Parts) → LiesIn n at (record { head = h; shape = fields_shape ps }) → FieldsLieIn n at ps
tuple_lies n at h ps lies = fields_lie n at h.size 0 ps lies.within lies.sound.laid lies.sound.sized lies.sound.marked.1

pub cases_lie : (n at d o : ℕ) (h : Head) (ps : Payloads) → LiesIn n at (record { head = h; shape = cases_shape d o ps }) → PayloadsLieIn n (at + o) ps
cases_lie n at d o h ps lies = payloads_lie n at h.size o ps lies.within lies.sound.laid.2 lies.sound.sized.2 lies.sound.marked.1

-- ---- values in a row

pub each_counted : (V : ℕ → Val) (size n p : ℕ) → count_of (values_each V size n p) ≡ n
each_counted V size zero p = refl
each_counted V size (suc n) p = let rest = each_counted V size n (p + size) in omega (arith, rest)

-- ---- cases

-- the case that is shown is told with what it carries there, from any source that shows this
pub case_shown_told : {S : Type 0} (V : S → Shape → Val) (x : S) (m : List ℕ) (e : StringEncoding) (ps : Payloads) (i n p : ℕ) → ((sh : Shape) → V x sh ≡ value_at m e sh p) → case_at m e ps i n p ≡ case_told V i (payload_in ps n) (Some x)
case_shown_told V x m e no_payloads i n p same = refl
case_shown_told V x m e (nothing ps) i zero p same = refl
case_shown_told V x m e (nothing ps) i (suc n) p same = case_shown_told V x m e ps i n p same
case_shown_told V x m e (carried h sh ps) i zero p same = ap (bearing i) (sym (same sh))
case_shown_told V x m e (carried h sh ps) i (suc n) p same = case_shown_told V x m e ps i n p same

-- and what it carries can be copied
pub carried_ready : {S : Type 0} (R : S → Head → Shape → Type 0) (x : S) (len n : ℕ) (c : Copying) (ps : Payloads) (i p k h : ℕ)
    → ((e : Head) (sh : Shape) → LiesIn len p (record { head = e; shape = sh }) → IsReady n c sh p k h → R x e sh)
    → PayloadsLieIn len p ps → IsCaseReady n c ps i p k h → IsCarriedReady R (payload_in ps i) (Some x)
carried_ready R x len n c no_payloads i p k h from lie ready = tt
carried_ready R x len n c (nothing ps) zero p k h from lie ready = tt
carried_ready R x len n c (nothing ps) (suc i) p k h from lie ready = carried_ready R x len n c ps i p k h from lie ready
carried_ready R x len n c (carried e sh ps) zero p k h from lie ready = from e sh lie.0 ready
carried_ready R x len n c (carried e sh ps) (suc i) p k h from lie ready = carried_ready R x len n c ps i p k h from lie.1 ready

-- a value is of the case of this number
abbrev pub IsOfCase : ℕ → Val → Type 0
IsOfCase i (bare j) = j ≡ i
IsOfCase i (bearing j v) = j ≡ i
IsOfCase i v = ⊥

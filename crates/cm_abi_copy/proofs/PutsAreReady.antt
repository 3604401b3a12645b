-- What can be copied can be copied by the puts of its type.
use Rattle.std.proofs.Common.{◌≡◌, ℕ, zero, suc, ◌+◌, ◌*◌, ◌==◌, List, sym, ap, subst, ◌∙◌, arith}
use Rattle.std.specs.Prelude.{Bool, true, false, nat_lt, if◌then◌else◌}
use Rattle.cm_types.specs.declared.core_value.CoreValue.{CoreValue}
use Rattle.cm_types.specs.Values.{Val}
use Rattle.cm_layout.specs.declared.layouts.Leaf.{Leaf}
use Rattle.cm_layout.specs.declared.layouts.Leaf.TheVariants as leaf
use Rattle.cm_layout.specs.Shapes.{Shape, Parts, Payloads, leaf_shape, string_shape, list_shape, fixed_list_shape, fields_shape, cases_shape, handle_shape, no_parts, part, no_payloads, nothing, carried}
use Rattle.cm_abi_model.specs.Numbers.{number_at, wrapped_at}
use Rattle.cm_abi_model.specs.Parts.{handle_count, part_count}
use Rattle.cm_abi_model.specs.Stores.{Given, place_of}
use Rattle.cm_abi_load.specs.Reading.{Source}
use Rattle.cm_abi_load.specs.Sized.{ArePartsSized, ArePayloadsSized, IsSized}
use Rattle.cm_abi_programs.specs.declared.limits.TheConstants.{FEW}
use Rattle.cm_abi_programs.specs.Puts.{Put, Puts, CasePuts, no_puts, put, run_put, truth_put, flags_put, text_put, list_put, each_put, cases_put, handle_put, part_put}
use Rattle.cm_abi_programs.specs.Puts.{are_unwritten, cases_puts, field_puts, is_bulk_of, leaf_puts, moved_put, one_put, payload_puts, put_count, put_then, puts_of, row_puts, two_puts, with_moved, with_placed, with_put}
use Rattle.cm_abi_programs.specs.SlotPuts.{SlotPut, SlotPuts, CaseSlotPuts, no_slots, slot, leaf_slot, text_slot, list_slot, each_slot, cases_slot, handle_slot, part_slot}
use Rattle.cm_abi_programs.specs.SlotPuts.{are_unput, both_slots, cases_slots, flat_field_puts, flat_payload_puts, flat_puts_of, moved_slot, moved_slots, one_slot, placed_slots, slot_count}
use Rattle.cm_abi_running.specs.Passing.{PassedOn, all_passed, lowered_as, passed_on}
use Rattle.cm_abi_running.specs.Putting.{Written, all_written, stored_as, written, written_then}
use Rattle.cm_abi_running.specs.Copying.{Copying, shown_to}
use Rattle.cm_abi_copy.specs.FlatReady.{AreFlatFieldsReady, IsFlatCaseReady, IsFlatReady}
use Rattle.cm_abi_copy.specs.FlatShown.{flat_shown}
use Rattle.cm_abi_running.specs.PutsReady.{AreEachPutReady, ArePutsReady, Asks, IsCasePutReady, IsListPutReady, IsPutReady, Runs, seen_from}
use Rattle.cm_abi_running.specs.Ready.{AreElementsReady, AreFieldsReady, AreReady, IsCaseReady, IsReady, IsTextReady}
use Rattle.cm_abi_running.specs.SlotPutsReady.{AreEachSlotReady, AreSlotsReady, IsCaseSlotReady, IsSlotReady}

-- what the laws of running puts promise of those that are listed together
pub record JoinsBelow : Type 0 where
  pub behind : (w : Source) (g : Given) (cs : Puts) (d : Put) (p q k h : ℕ) → all_written w g (with_put cs d) p q k h ≡ written_then (all_written w g cs p q k h) (written w g d p q)
  pub moved : (w : Source) (g : Given) (o : ℕ) (d : Put) (p q k h : ℕ) → written w g (moved_put o d) p q k h ≡ written w g d (p + o) (q + o) k h
  pub joined : (w : Source) (g : Given) (o : ℕ) (cs ds : Puts) (p q k h : ℕ)
      → all_written w g (with_placed o cs ds) p q k h ≡ written_then (all_written w g cs p q k h) (all_written w g ds (p + o) (q + o))

pub record SlotJoinsBelow : Type 0 where
  pub moved : (w : Source) (g : Given) (slots : List CoreValue) (o : ℕ) (d : SlotPut) (s k h : ℕ) → passed_on w g slots (moved_slot o d) s k h ≡ passed_on w g slots d (s + o) k h
  pub joined : (w : Source) (g : Given) (slots : List CoreValue) (o : ℕ) (cs : SlotPuts) (s k h : ℕ) → all_passed w g slots (placed_slots o cs) s k h ≡ all_passed w g slots cs (s + o) k h

-- what holds at one place and one more holds at one
at_first : (F : ℕ → Type 0) (p : ℕ) → F p → F (p + 0)
at_first F p h = subst F {x = p} {y = p + 0} (omega arith) h

at_both : (F : ℕ → ℕ → Type 0) (p q : ℕ) → F p q → F (p + 0) (q + 0)
at_both F p q h = at_first (λ b. F (p + 0) b) q (at_first (λ a. F a q) p h)

further : (F : ℕ → Type 0) (p o at : ℕ) → F (p + o + at) → F (p + (o + at))
further F p o at h = subst F {x = p + o + at} {y = p + (o + at)} (omega arith) h

further_both : (F : ℕ → ℕ → Type 0) (p q o at : ℕ) → F (p + o + at) (q + o + at) → F (p + (o + at)) (q + (o + at))
further_both F p q o at h = further (λ b. F (p + (o + at)) b) q o at (further (λ a. F a (q + o + at)) p o at h)

-- from the part and the handle that come next
abbrev Next : (ℕ → ℕ → Type 0) → Written → Type 0
Next F a = F a.part a.handle

from_next : (F : ℕ → ℕ → Type 0) (a b : Written) → a ≡ b → Next F b → Next F a
from_next F a b is h = subst (Next F) (sym is) h

module _ (laws : JoinsBelow) (n : ℕ) (c : Copying) where
  abbrev w : Source
  w = seen_from c

  abbrev g : Given
  g = c.given

  -- one behind others
  then_ready : (x d : Put) (p q k h : ℕ) → IsPutReady n c x p q k h → IsPutReady n c d p q (written w g x p q k h).part (written w g x p q k h).handle → ArePutsReady n c (put_then x d) p q k h
  then_ready (run_put at m) (run_put to l) p q k h a b = pick (at + m == to)
    where
      pick : (u : Bool) → ArePutsReady n c (if u then one_put (run_put at (m + l)) else two_puts (run_put at m) (run_put to l)) p q k h
      pick true = (tt, tt)
      pick false = (tt, (tt, tt))
  then_ready (run_put at m) d p q k h a b = (a, (b, tt))
  then_ready x d p q k h a b = (a, (b, tt))

  with_ready : (cs : Puts) (d : Put) (p q k h : ℕ) → ArePutsReady n c cs p q k h → IsPutReady n c d p q (all_written w g cs p q k h).part (all_written w g cs p q k h).handle → ArePutsReady n c (with_put cs d) p q k h
  with_ready no_puts d p q k h a b = (b, tt)
  with_ready (put x no_puts) d p q k h a b = then_ready x d p q k h a.0 b
  with_ready (put x (put y cs)) d p q k h a b = (a.0, with_ready (put y cs) d p q (written w g x p q k h).part (written w g x p q k h).handle a.1 b)

  -- of a value that begins so far behind
  moved_ready : (o : ℕ) (d : Put) (p q k h : ℕ) → IsPutReady n c d (p + o) (q + o) k h → IsPutReady n c (moved_put o d) p q k h
  moved_ready o (run_put at m) p q k h a = tt
  moved_ready o (truth_put at) p q k h a = tt
  moved_ready o (flags_put at b labels) p q k h a = tt
  moved_ready o (text_put at) p q k h a = further (λ x. IsTextReady n c (number_at 4 c.memory x) (number_at 4 c.memory (x + 4)) k) p o at a
  moved_ready o (list_put at d cs) p q k h a =
      further (λ x. IsListPutReady n c (ArePutsReady n c cs) (all_written w g cs) d (number_at 4 c.memory x) (number_at 4 c.memory (x + 4)) k h) p o at a
  moved_ready o (each_put at d m cs) p q k h a = further_both (λ x y. AreEachPutReady (ArePutsReady n c cs) (all_written w g cs) d m x y k h) p q o at a
  moved_ready o (cases_put at b d cs) p q k h a = further_both (λ x y. IsCasePutReady n c cs (number_at b c.memory x) (x + d) (y + d) k h) p q o at a
  moved_ready o (handle_put at) p q k h a = a
  moved_ready o (part_put at cs) p q k h a = further_both (λ x y. ArePutsReady n c cs x y k h) p q o at a

  all_moved : (o : ℕ) (cs ds : Puts) (p q k h : ℕ) → ArePutsReady n c cs p q k h
      → ArePutsReady n c ds (p + o) (q + o) (all_written w g cs p q k h).part (all_written w g cs p q k h).handle → ArePutsReady n c (with_moved o cs ds) p q k h
  all_moved o cs no_puts p q k h a b = a
  all_moved o cs (put d ds) p q k h a b =
      let here = all_written w g cs p q k h in
      let moved = laws.moved w g o d p q here.part here.handle in
      all_moved o (with_put cs (moved_put o d)) ds p q k h
      (with_ready cs (moved_put o d) p q k h a (moved_ready o d p q here.part here.handle b.0))
      (from_next (ArePutsReady n c ds (p + o) (q + o)) (all_written w g (with_put cs (moved_put o d)) p q k h) _ (laws.behind w g cs (moved_put o d) p q k h)
      (from_next (ArePutsReady n c ds (p + o) (q + o)) (written w g (moved_put o d) p q here.part here.handle) _ moved b.1))

  placed_ready : (o : ℕ) (cs ds : Puts) (p q k h : ℕ) → ArePutsReady n c cs p q k h
      → ArePutsReady n c ds (p + o) (q + o) (all_written w g cs p q k h).part (all_written w g cs p q k h).handle → ArePutsReady n c (with_placed o cs ds) p q k h
  placed_ready o cs ds p q k h a b = pick (nat_lt FEW (put_count ds))
    where
      pick : (u : Bool) → ArePutsReady n c (if u then with_put cs (part_put o ds) else with_moved o cs ds) p q k h
      pick true = with_ready cs (part_put o ds) p q k h a b
      pick false = all_moved o cs ds p q k h a b

  -- in a row
  each_ready : (x : Shape) (R : ℕ → ℕ → ℕ → Type 0) (V : ℕ → Val) (Q : Asks) (W : Runs) → ((p q k h : ℕ) → R p k h → Q p q k h) → ((p q k h : ℕ) → W p q k h ≡ stored_as g x (V p) q k h)
      → (d m p q k h : ℕ) → AreReady R V d m p k h → AreEachPutReady Q W d m p q k h
  each_ready x R V Q W one is d zero p q k h a = tt
  each_ready x R V Q W one is d (suc m) p q k h a = (
    one p q k h a.0,
    from_next (AreEachPutReady Q W d m (p + d) (q + d)) (W p q k h) (stored_as g x (V p) q k h) (is p q k h)
        (each_ready x R V Q W one is d m (p + d) (q + d) (k + part_count (V p)) (h + handle_count (V p)) a.1),
  )

  row_ready : (d m : ℕ) (cs : Puts) (p q k h : ℕ) → AreEachPutReady (ArePutsReady n c cs) (all_written w g cs) d m p q k h → ArePutsReady n c (row_puts d m cs) p q k h
  row_ready d m cs p q k h a = pick (is_bulk_of d cs)
    where
      pick : (u : Bool) → ArePutsReady n c (if u then one_put (run_put 0 (m * d)) else one_put (each_put 0 d m cs)) p q k h
      pick true = (tt, tt)
      pick false = (at_both (λ x y. AreEachPutReady (ArePutsReady n c cs) (all_written w g cs) d m x y k h) p q a, tt)

  cases_ready : (b d : ℕ) (cs : CasePuts) (p q k h : ℕ) → IsCasePutReady n c cs (number_at b c.memory p) (p + d) (q + d) k h → ArePutsReady n c (cases_puts b d cs) p q k h
  cases_ready b d cs p q k h a = pick (are_unwritten cs)
    where
      pick : (u : Bool) → ArePutsReady n c (if u then one_put (run_put 0 b) else one_put (cases_put 0 b d cs)) p q k h
      pick true = (tt, tt)
      pick false = (at_both (λ x y. IsCasePutReady n c cs (number_at b c.memory x) (x + d) (y + d) k h) p q a, tt)

  leaf_ready : (l : Leaf) (p q k h : ℕ) → ArePutsReady n c (leaf_puts l) p q k h
  leaf_ready leaf.Bool p q k h = (tt, tt)
  leaf_ready (leaf.Signed b) p q k h = (tt, tt)
  leaf_ready (leaf.Unsigned b) p q k h = (tt, tt)
  leaf_ready leaf.Char p q k h = (tt, tt)
  leaf_ready (leaf.Flags labels b) p q k h = pick (labels == 8 * b)
    where
      pick : (u : Bool) → ArePutsReady n c (if u then one_put (run_put 0 b) else one_put (flags_put 0 b labels)) p q k h
      pick true = (tt, tt)
      pick false = (tt, tt)

  module _ (stored : (x : Shape) (p q k h : ℕ) → IsSized x → all_written w g (puts_of x) p q k h ≡ stored_as g x (shown_to c x p) q k h) where
    pub list_ready : (d : ℕ) (x : Shape) → IsSized x → ((p q k h : ℕ) → IsReady n c x p k h → ArePutsReady n c (puts_of x) p q k h)
        → (at count k h : ℕ) → AreElementsReady n c (IsReady n c x) (shown_to c x) d at count k h → IsListPutReady n c (ArePutsReady n c (puts_of x)) (all_written w g (puts_of x)) d at count k h
    list_ready d x sized one at count k h a =
        (a.0, a.1, each_ready x (IsReady n c x) (shown_to c x) (ArePutsReady n c (puts_of x)) (all_written w g (puts_of x)) one (λ p q k h. stored x p q k h sized) d count at (place_of g k) (k + 1) h a.2)

    mutual
      pub puts_ready : (x : Shape) → IsSized x → (p q k h : ℕ) → IsReady n c x p k h → ArePutsReady n c (puts_of x) p q k h
      puts_ready (leaf_shape l) sized p q k h a = leaf_ready l p q k h
      puts_ready string_shape sized p q k h a = (at_first (λ x. IsTextReady n c (number_at 4 c.memory x) (number_at 4 c.memory (x + 4)) k) p a, tt)
      puts_ready (list_shape e x) sized p q k h a = (
        at_first (λ y. IsListPutReady n c (ArePutsReady n c (puts_of x)) (all_written w g (puts_of x)) e.size (number_at 4 c.memory y) (number_at 4 c.memory (y + 4)) k h) p
            (list_ready e.size x sized.1 (λ p q k h b. puts_ready x sized.1 p q k h b) (number_at 4 c.memory p) (number_at 4 c.memory (p + 4)) k h a),
        tt,
      )
      puts_ready (fixed_list_shape e x m) sized p q k h a =
          row_ready e.size m (puts_of x) p q k h
          (each_ready x (IsReady n c x) (shown_to c x) (ArePutsReady n c (puts_of x)) (all_written w g (puts_of x)) (λ p q k h b. puts_ready x sized p q k h b) (λ p q k h. stored x p q k h sized) e.size m p q k h a)
      puts_ready (fields_shape ps) sized p q k h a = fields_ready ps sized no_puts p q k h tt a
      puts_ready (cases_shape b d ps) sized p q k h a = cases_ready b d (payload_puts ps) p q k h (case_ready ps sized.2 (number_at b c.memory p) (p + d) (q + d) k h a)
      puts_ready (handle_shape t) sized p q k h a = (a, tt)

      fields_ready : (ps : Parts) → ArePartsSized ps → (cs : Puts) (p q k h : ℕ) → ArePutsReady n c cs p q k h
          → AreFieldsReady n c ps p (all_written w g cs p q k h).part (all_written w g cs p q k h).handle → ArePutsReady n c (field_puts ps cs) p q k h
      fields_ready no_parts sized cs p q k h a b = a
      fields_ready (part o e x ps) sized cs p q k h a b =
          let here = all_written w g cs p q k h in
          fields_ready ps sized.1 (with_placed o cs (puts_of x)) p q k h
          (placed_ready o cs (puts_of x) p q k h a (puts_ready x sized.0 (p + o) (q + o) here.part here.handle b.0))
          (from_next (AreFieldsReady n c ps p) (all_written w g (with_placed o cs (puts_of x)) p q k h) _ (laws.joined w g o cs (puts_of x) p q k h)
          (from_next (AreFieldsReady n c ps p) (all_written w g (puts_of x) (p + o) (q + o) here.part here.handle) _ (stored x (p + o) (q + o) here.part here.handle sized.0) b.1))

      case_ready : (ps : Payloads) → ArePayloadsSized ps → (i p q k h : ℕ) → IsCaseReady n c ps i p k h → IsCasePutReady n c (payload_puts ps) i p q k h
      case_ready no_payloads sized i p q k h a = tt
      case_ready (nothing ps) sized zero p q k h a = tt
      case_ready (nothing ps) sized (suc i) p q k h a = case_ready ps sized i p q k h a
      case_ready (carried e x ps) sized zero p q k h a = puts_ready x sized.0 p q k h a
      case_ready (carried e x ps) sized (suc i) p q k h a = case_ready ps sized.1 i p q k h a

-- ---- over core values

abbrev NextSlot : (ℕ → ℕ → Type 0) → PassedOn → Type 0
NextSlot F a = F a.part a.handle

from_next_slot : (F : ℕ → ℕ → Type 0) (a b : PassedOn) → a ≡ b → NextSlot F b → NextSlot F a
from_next_slot F a b is h = subst (NextSlot F) (sym is) h

module _ (laws : JoinsBelow) (slot_laws : SlotJoinsBelow) (n : ℕ) (c : Copying) (slots : List CoreValue) where
  abbrev from : Source
  from = seen_from c

  abbrev given : Given
  given = c.given

  both_ready : (cs ds : SlotPuts) (s k h : ℕ) → AreSlotsReady n c slots cs s k h
      → AreSlotsReady n c slots ds s (all_passed from given slots cs s k h).part (all_passed from given slots cs s k h).handle → AreSlotsReady n c slots (both_slots cs ds) s k h
  both_ready no_slots ds s k h a b = b
  both_ready (slot x cs) ds s k h a b = (a.0, both_ready cs ds s (passed_on from given slots x s k h).part (passed_on from given slots x s k h).handle a.1 b)

  slot_moved : (o : ℕ) (d : SlotPut) (s k h : ℕ) → IsSlotReady n c slots d (s + o) k h → IsSlotReady n c slots (moved_slot o d) s k h
  slot_moved o (leaf_slot at l) s k h a = tt
  slot_moved o (text_slot at) s k h a = further (λ x. IsTextReady n c (wrapped_at 4 slots x) (wrapped_at 4 slots (x + 1)) k) s o at a
  slot_moved o (list_slot at d cs) s k h a =
      further (λ x. IsListPutReady n c (ArePutsReady n c cs) (all_written from given cs) d (wrapped_at 4 slots x) (wrapped_at 4 slots (x + 1)) k h) s o at a
  slot_moved o (each_slot at d m cs) s k h a = further (λ x. AreEachSlotReady (AreSlotsReady n c slots cs) (all_passed from given slots cs) d m x k h) s o at a
  slot_moved o (cases_slot at cs) s k h a = further (λ x. IsCaseSlotReady n c slots cs (wrapped_at 4 slots x) (x + 1) k h) s o at a
  slot_moved o (handle_slot at) s k h a = a
  slot_moved o (part_slot at cs) s k h a = further (λ x. AreSlotsReady n c slots cs x k h) s o at a

  slots_moved : (o : ℕ) (cs : SlotPuts) (s k h : ℕ) → AreSlotsReady n c slots cs (s + o) k h → AreSlotsReady n c slots (moved_slots o cs) s k h
  slots_moved o no_slots s k h a = tt
  slots_moved o (slot d cs) s k h a = (
    slot_moved o d s k h a.0,
    from_next_slot (AreSlotsReady n c slots (moved_slots o cs) s) (passed_on from given slots (moved_slot o d) s k h) _ (slot_laws.moved from given slots o d s k h)
        (slots_moved o cs s (passed_on from given slots d (s + o) k h).part (passed_on from given slots d (s + o) k h).handle a.1),
  )

  slots_placed : (o : ℕ) (cs : SlotPuts) (s k h : ℕ) → AreSlotsReady n c slots cs (s + o) k h → AreSlotsReady n c slots (placed_slots o cs) s k h
  slots_placed o cs s k h a = pick (nat_lt FEW (slot_count cs))
    where
      pick : (u : Bool) → AreSlotsReady n c slots (if u then one_slot (part_slot o cs) else moved_slots o cs) s k h
      pick true = (a, tt)
      pick false = slots_moved o cs s k h a

  each_slot_ready : (x : Shape) (R : ℕ → ℕ → ℕ → Type 0) (V : ℕ → Val) (Q : ℕ → ℕ → ℕ → Type 0) (W : ℕ → ℕ → ℕ → PassedOn) → ((s k h : ℕ) → R s k h → Q s k h)
      → ((s k h : ℕ) → W s k h ≡ lowered_as given x (V s) s k h) → (d m s k h : ℕ) → AreReady R V d m s k h → AreEachSlotReady Q W d m s k h
  each_slot_ready x R V Q W one is d zero s k h a = tt
  each_slot_ready x R V Q W one is d (suc m) s k h a = (
    one s k h a.0,
    from_next_slot (AreEachSlotReady Q W d m (s + d)) (W s k h) (lowered_as given x (V s) s k h) (is s k h)
        (each_slot_ready x R V Q W one is d m (s + d) (k + part_count (V s)) (h + handle_count (V s)) a.1),
  )

  slot_cases : (cs : CaseSlotPuts) (s k h : ℕ) → IsCaseSlotReady n c slots cs (wrapped_at 4 slots s) (s + 1) k h → AreSlotsReady n c slots (cases_slots cs) s k h
  slot_cases cs s k h a = pick (are_unput cs)
    where
      pick : (u : Bool) → AreSlotsReady n c slots (if u then one_slot (leaf_slot 0 (leaf.Unsigned 4)) else one_slot (cases_slot 0 cs)) s k h
      pick true = (tt, tt)
      pick false = (at_first (λ x. IsCaseSlotReady n c slots cs (wrapped_at 4 slots x) (x + 1) k h) s a, tt)

  module _ (stored : (x : Shape) (p q k h : ℕ) → IsSized x → all_written from given (puts_of x) p q k h ≡ stored_as given x (shown_to c x p) q k h)
      (lowered : (x : Shape) (s k h : ℕ) → IsSized x → all_passed from given slots (flat_puts_of x) s k h ≡ lowered_as given x (flat_shown c slots x s) s k h) where
    mutual
      pub slots_ready : (x : Shape) → IsSized x → (s k h : ℕ) → IsFlatReady n c slots x s k h → AreSlotsReady n c slots (flat_puts_of x) s k h
      slots_ready (leaf_shape l) sized s k h a = (tt, tt)
      slots_ready string_shape sized s k h a = (at_first (λ x. IsTextReady n c (wrapped_at 4 slots x) (wrapped_at 4 slots (x + 1)) k) s a, tt)
      slots_ready (list_shape e x) sized s k h a = (
        at_first (λ y. IsListPutReady n c (ArePutsReady n c (puts_of x)) (all_written from given (puts_of x)) e.size (wrapped_at 4 slots y) (wrapped_at 4 slots (y + 1)) k h) s
            (list_ready laws n c stored e.size x sized.1 (λ p q k h b. puts_ready laws n c stored x sized.1 p q k h b) (wrapped_at 4 slots s) (wrapped_at 4 slots (s + 1)) k h a),
        tt,
      )
      slots_ready (fixed_list_shape e x m) sized s k h a = (
        at_first (λ y. AreEachSlotReady (AreSlotsReady n c slots (flat_puts_of x)) (all_passed from given slots (flat_puts_of x)) e.width m y k h) s
            (each_slot_ready x (IsFlatReady n c slots x) (flat_shown c slots x) (AreSlotsReady n c slots (flat_puts_of x)) (all_passed from given slots (flat_puts_of x)) (λ s k h b. slots_ready x sized s k h b) (λ s k h. lowered x s k h sized) e.width m s k h a),
        tt,
      )
      slots_ready (fields_shape ps) sized s k h a = slot_fields ps sized 0 s s (omega arith) k h a
      slots_ready (cases_shape b d ps) sized s k h a = slot_cases (flat_payload_puts ps) s k h (slot_case ps sized.2 (wrapped_at 4 slots s) (s + 1) k h a)
      slots_ready (handle_shape t) sized s k h a = (a, tt)

      slot_fields : (ps : Parts) → ArePartsSized ps → (at s m : ℕ) → m ≡ s + at → (k h : ℕ) → AreFlatFieldsReady n c slots ps m k h → AreSlotsReady n c slots (flat_field_puts ps at) s k h
      slot_fields no_parts sized at s m here k h a = tt
      slot_fields (part o e x ps) sized at s m here k h a =
          both_ready (placed_slots at (flat_puts_of x)) (flat_field_puts ps (at + e.width)) s k h
          (slots_placed at (flat_puts_of x) s k h (subst (λ i. AreSlotsReady n c slots (flat_puts_of x) i k h) here (slots_ready x sized.0 m k h a.0)))
          (from_next_slot (AreSlotsReady n c slots (flat_field_puts ps (at + e.width)) s) (all_passed from given slots (placed_slots at (flat_puts_of x)) s k h) _
          (slot_laws.joined from given slots at (flat_puts_of x) s k h ∙ (ap (λ i. all_passed from given slots (flat_puts_of x) i k h) (sym here) ∙ lowered x m k h sized.0))
          (slot_fields ps sized.1 (at + e.width) s (m + e.width) (omega (arith, here)) (k + part_count (flat_shown c slots x m)) (h + handle_count (flat_shown c slots x m)) a.1))

      slot_case : (ps : Payloads) → ArePayloadsSized ps → (i s k h : ℕ) → IsFlatCaseReady n c slots ps i s k h → IsCaseSlotReady n c slots (flat_payload_puts ps) i s k h
      slot_case no_payloads sized i s k h a = tt
      slot_case (nothing ps) sized zero s k h a = tt
      slot_case (nothing ps) sized (suc i) s k h a = slot_case ps sized i s k h a
      slot_case (carried e x ps) sized zero s k h a = slots_ready x sized.0 s k h a
      slot_case (carried e x ps) sized (suc i) s k h a = slot_case ps sized.1 i s k h a

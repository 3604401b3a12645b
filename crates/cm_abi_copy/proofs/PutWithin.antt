-- Where the puts of a type lie in its values.
use Rattle.std.proofs.Common.{◌≡◌, ℕ, ◌+◌, ◌-◌, ◌*◌, ◌≤◌, ◌==◌, inl, inr, refl, arith}
use Rattle.std.proofs.lemmas.Bool.{eqb-true}
use Rattle.std.specs.Prelude.{Bool, true, false, nat_lt, if◌then◌else◌}
use Rattle.cm_layout.specs.Laid.{Laid, PartsLaid, PayloadsLaid}
use Rattle.cm_layout.specs.Shapes.{Shape, Parts, Payloads, leaf_shape, string_shape, list_shape, fixed_list_shape, fields_shape, cases_shape, handle_shape, no_parts, part, no_payloads, nothing, carried}
use Rattle.cm_layout.specs.declared.layouts.Leaf.{Leaf}
use Rattle.cm_layout.specs.declared.layouts.Leaf.TheVariants as leaf
use Rattle.cm_abi_load.specs.Sized.{ArePartsSized, ArePayloadsSized, IsNumberSize, IsSized, IsSizedLeaf}
use Rattle.cm_abi_store.specs.FlatLowering.{ArePassedIn, IsPassedIn, PayloadsPassedIn}
use Rattle.cm_abi_programs.specs.declared.limits.TheConstants.{FEW}
use Rattle.cm_abi_programs.specs.Puts.{Put, Puts, CasePuts, no_puts, put, run_put, truth_put, flags_put, text_put, list_put, each_put, cases_put, handle_put, part_put}
use Rattle.cm_abi_programs.specs.Puts.{are_unwritten, cases_puts, field_puts, is_bulk_of, leaf_puts, moved_put, one_put, payload_puts, put_count, put_then, puts_of, row_puts, two_puts, with_moved, with_placed, with_put}
use Rattle.cm_abi_programs.specs.SlotPuts.{SlotPut, SlotPuts, CaseSlotPuts, no_slots, slot, leaf_slot, text_slot, list_slot, each_slot, cases_slot, handle_slot, part_slot}
use Rattle.cm_abi_programs.specs.SlotPuts.{are_unput, both_slots, cases_slots, flat_field_puts, flat_payload_puts, flat_puts_of, moved_slot, moved_slots, one_slot, placed_slots, slot_count}
use Rattle.cm_abi_running.specs.PutsWithin.{AreCasePutsWithin, ArePutsWithin, IsPutWithin}
use Rattle.cm_abi_running.specs.SlotPutsReady.{AreCaseSlotsWithin, AreSlotsWithin, IsSlotWithin}

-- ---- in memory

-- of a value that begins so far behind
moved_one : (m n o : ℕ) → o + m ≤ n → (c : Put) → IsPutWithin m c → IsPutWithin n (moved_put o c)
moved_one m n o le (run_put at b) h = omega (arith, le, h)
moved_one m n o le (truth_put at) h = omega (arith, le, h)
moved_one m n o le (flags_put at b labels) h = (omega (arith, le, h.0), h.1)
moved_one m n o le (text_put at) h = omega (arith, le, h)
moved_one m n o le (list_put at d cs) h = (omega (arith, le, h.0), h.1)
moved_one m n o le (each_put at d c cs) h = (omega (arith, le, h.0), h.1)
moved_one m n o le (cases_put at b d cs) h = (omega (arith, le, h.0), h.1, h.2, (h.3.0, omega (arith, le, h.3.1), h.3.2))
moved_one m n o le (handle_put at) h = omega (arith, le, h)
moved_one m n o le (part_put at cs) h = (h.0, omega (arith, le, h.1), h.2)

-- within more bytes
more_one : (m n : ℕ) → m ≤ n → (c : Put) → IsPutWithin m c → IsPutWithin n c
more_one m n le (run_put at b) h = omega (arith, le, h)
more_one m n le (truth_put at) h = omega (arith, le, h)
more_one m n le (flags_put at b labels) h = (omega (arith, le, h.0), h.1)
more_one m n le (text_put at) h = omega (arith, le, h)
more_one m n le (list_put at d cs) h = (omega (arith, le, h.0), h.1)
more_one m n le (each_put at d c cs) h = (omega (arith, le, h.0), h.1)
more_one m n le (cases_put at b d cs) h = (omega (arith, le, h.0), h.1, h.2, (h.3.0, omega (arith, le, h.3.1), h.3.2))
more_one m n le (handle_put at) h = omega (arith, le, h)
more_one m n le (part_put at cs) h = (h.0, omega (arith, le, h.1), h.2)

more_all : (m n : ℕ) → m ≤ n → (cs : Puts) → ArePutsWithin m cs → ArePutsWithin n cs
more_all m n le no_puts h = tt
more_all m n le (put c cs) h = (more_one m n le c h.0, more_all m n le cs h.1)

-- one behind others
then_within : (n : ℕ) (c d : Put) → IsPutWithin n c → IsPutWithin n d → ArePutsWithin n (put_then c d)
then_within n (run_put at m) (run_put to l) a b = pick (at + m == to) refl
  where
    pick : (u : Bool) → (at + m == to) ≡ u → ArePutsWithin n (if u then one_put (run_put at (m + l)) else two_puts (run_put at m) (run_put to l))
    pick true e = let is = eqb-true (at + m) to e in (omega (arith, is, b), tt)
    pick false e = (a, (b, tt))
then_within n (run_put at m) d a b = (a, (b, tt))
then_within n c d a b = (a, (b, tt))

with_within : (n : ℕ) (cs : Puts) (d : Put) → ArePutsWithin n cs → IsPutWithin n d → ArePutsWithin n (with_put cs d)
with_within n no_puts d a b = (b, tt)
with_within n (put c no_puts) d a b = then_within n c d a.0 b
with_within n (put c (put e cs)) d a b = (a.0, with_within n (put e cs) d a.1 b)

moved_within : (m n o : ℕ) → o + m ≤ n → (cs ds : Puts) → ArePutsWithin n cs → ArePutsWithin m ds → ArePutsWithin n (with_moved o cs ds)
moved_within m n o le cs no_puts a b = a
moved_within m n o le cs (put d ds) a b = moved_within m n o le (with_put cs (moved_put o d)) ds (with_within n cs (moved_put o d) a (moved_one m n o le d b.0)) b.1

placed_within : (m n o : ℕ) → o + m ≤ n → (cs ds : Puts) → ArePutsWithin n cs → ArePutsWithin m ds → ArePutsWithin n (with_placed o cs ds)
placed_within m n o le cs ds a b = pick (nat_lt FEW (put_count ds))
  where
    pick : (u : Bool) → ArePutsWithin n (if u then with_put cs (part_put o ds) else with_moved o cs ds)
    pick true = with_within n cs (part_put o ds) a (m, le, b)
    pick false = moved_within m n o le cs ds a b

leaf_within : (n : ℕ) (l : Leaf) → Laid n (leaf_shape l) → IsSizedLeaf l → ArePutsWithin n (leaf_puts l)
leaf_within n leaf.Bool laid sized = (omega (arith, laid), tt)
leaf_within n (leaf.Signed w) laid sized = (omega (arith, laid), tt)
leaf_within n (leaf.Unsigned w) laid sized = (omega (arith, laid), tt)
leaf_within n leaf.Char laid sized = (omega (arith, laid), tt)
leaf_within n (leaf.Flags labels w) laid sized = pick (labels == 8 * w)
  where
    pick : (u : Bool) → ArePutsWithin n (if u then one_put (run_put 0 w) else one_put (flags_put 0 w labels))
    pick true = (omega (arith, laid), tt)
    pick false = ((omega (arith, laid), sized), tt)

row_within : (n d c : ℕ) (cs : Puts) → n ≡ c * d → ArePutsWithin d cs → ArePutsWithin n (row_puts d c cs)
row_within n d c cs is h = pick (is_bulk_of d cs)
  where
    pick : (u : Bool) → ArePutsWithin n (if u then one_put (run_put 0 (c * d)) else one_put (each_put 0 d c cs))
    pick true = (omega (arith, is), tt)
    pick false = ((omega (arith, is), h), tt)

cases_within : (n m b d : ℕ) → b ≤ n → IsNumberSize b → b ≤ 4 → d + m ≤ n → (cs : CasePuts) → AreCasePutsWithin m cs → ArePutsWithin n (cases_puts b d cs)
cases_within n m b d within sized small behind cs h = pick (are_unwritten cs)
  where
    pick : (u : Bool) → ArePutsWithin n (if u then one_put (run_put 0 b) else one_put (cases_put 0 b d cs))
    pick true = (omega (arith, within), tt)
    pick false = ((omega (arith, within), sized, small, (m, omega (arith, behind), h)), tt)

mutual
  pub puts_within : (n : ℕ) (x : Shape) → Laid n x → IsSized x → ArePutsWithin n (puts_of x)
  puts_within n (leaf_shape l) laid sized = leaf_within n l laid sized
  puts_within n string_shape laid sized = (omega (arith, laid), tt)
  puts_within n (list_shape e x) laid sized = ((omega (arith, laid.0), puts_within e.size x laid.1 sized.1), tt)
  puts_within n (fixed_list_shape e x c) laid sized = row_within n e.size c (puts_of x) laid.0 (puts_within e.size x laid.1 sized)
  puts_within n (fields_shape ps) laid sized = fields_within n 0 ps no_puts tt laid sized
  puts_within n (cases_shape b d ps) laid sized =
      cases_within n (n - d) b d (omega (arith, laid.0, laid.1)) sized.0 sized.1 (omega (arith, laid.1)) (payload_puts ps) (payloads_within n d ps laid.1 laid.2 sized.2)
  puts_within n (handle_shape h) laid sized = (omega (arith, laid), tt)

  fields_within : (n end : ℕ) (ps : Parts) (cs : Puts) → ArePutsWithin n cs → PartsLaid n end ps → ArePartsSized ps → ArePutsWithin n (field_puts ps cs)
  fields_within n end no_parts cs within laid sized = within
  fields_within n end (part o e x ps) cs within laid sized =
      fields_within n (o + e.size) ps (with_placed o cs (puts_of x)) (placed_within e.size n o laid.1 cs (puts_of x) within (puts_within e.size x laid.2 sized.0)) laid.3 sized.1

  payloads_within : (n d : ℕ) (ps : Payloads) → d ≤ n → PayloadsLaid n d ps → ArePayloadsSized ps → AreCasePutsWithin (n - d) (payload_puts ps)
  payloads_within n d no_payloads le laid sized = tt
  payloads_within n d (nothing ps) le laid sized = (tt, payloads_within n d ps le laid sized)
  payloads_within n d (carried e x ps) le laid sized =
      (more_all e.size (n - d) (omega (arith, le, laid.0)) (puts_of x) (puts_within e.size x laid.1 sized.0), payloads_within n d ps le laid.2 sized.1)

-- ---- among core values

slot_moved : (m n o : ℕ) → o + m ≤ n → (c : SlotPut) → IsSlotWithin m c → IsSlotWithin n (moved_slot o c)
slot_moved m n o le (leaf_slot at l) h = (omega (arith, le, h.0), h.1)
slot_moved m n o le (text_slot at) h = omega (arith, le, h)
slot_moved m n o le (list_slot at d cs) h = (omega (arith, le, h.0), h.1)
slot_moved m n o le (each_slot at d c cs) h = (omega (arith, le, h.0), h.1)
slot_moved m n o le (cases_slot at cs) h = (h.0, omega (arith, le, h.1), h.2)
slot_moved m n o le (handle_slot at) h = omega (arith, le, h)
slot_moved m n o le (part_slot at cs) h = (h.0, omega (arith, le, h.1), h.2)

slots_moved : (m n o : ℕ) → o + m ≤ n → (cs : SlotPuts) → AreSlotsWithin m cs → AreSlotsWithin n (moved_slots o cs)
slots_moved m n o le no_slots h = tt
slots_moved m n o le (slot c cs) h = (slot_moved m n o le c h.0, slots_moved m n o le cs h.1)

slots_placed : (m n o : ℕ) → o + m ≤ n → (cs : SlotPuts) → AreSlotsWithin m cs → AreSlotsWithin n (placed_slots o cs)
slots_placed m n o le cs h = pick (nat_lt FEW (slot_count cs))
  where
    pick : (u : Bool) → AreSlotsWithin n (if u then one_slot (part_slot o cs) else moved_slots o cs)
    pick true = ((m, le, h), tt)
    pick false = slots_moved m n o le cs h

slots_both : (n : ℕ) (cs ds : SlotPuts) → AreSlotsWithin n cs → AreSlotsWithin n ds → AreSlotsWithin n (both_slots cs ds)
slots_both n no_slots ds a b = b
slots_both n (slot c cs) ds a b = (a.0, slots_both n cs ds a.1 b)

slot_more : (m n : ℕ) → m ≤ n → (c : SlotPut) → IsSlotWithin m c → IsSlotWithin n c
slot_more m n le (leaf_slot at l) h = (omega (arith, le, h.0), h.1)
slot_more m n le (text_slot at) h = omega (arith, le, h)
slot_more m n le (list_slot at d cs) h = (omega (arith, le, h.0), h.1)
slot_more m n le (each_slot at d c cs) h = (omega (arith, le, h.0), h.1)
slot_more m n le (cases_slot at cs) h = (h.0, omega (arith, le, h.1), h.2)
slot_more m n le (handle_slot at) h = omega (arith, le, h)
slot_more m n le (part_slot at cs) h = (h.0, omega (arith, le, h.1), h.2)

-- within more core values
pub slots_more : (m n : ℕ) → m ≤ n → (cs : SlotPuts) → AreSlotsWithin m cs → AreSlotsWithin n cs
slots_more m n le no_slots h = tt
slots_more m n le (slot c cs) h = (slot_more m n le c h.0, slots_more m n le cs h.1)

slot_cases : (n m : ℕ) → 1 + m ≤ n → (cs : CaseSlotPuts) → AreCaseSlotsWithin m cs → AreSlotsWithin n (cases_slots cs)
slot_cases n m le cs h = pick (are_unput cs)
  where
    pick : (u : Bool) → AreSlotsWithin n (if u then one_slot (leaf_slot 0 (leaf.Unsigned 4)) else one_slot (cases_slot 0 cs))
    pick true = ((omega (arith, le), inr (inr (inl refl))), tt)
    pick false = ((m, omega (arith, le), h), tt)

mutual
  pub slots_within : (n : ℕ) (x : Shape) → IsPassedIn n x → IsSized x → AreSlotsWithin n (flat_puts_of x)
  slots_within n (leaf_shape l) passed sized = ((omega (arith, passed), sized), tt)
  slots_within n string_shape passed sized = (omega (arith, passed), tt)
  slots_within n (list_shape e x) passed sized = ((omega (arith, passed.0), puts_within e.size x passed.1 sized.1), tt)
  slots_within n (fixed_list_shape e x c) passed sized = ((omega (arith, passed.0), slots_within e.width x passed.1 sized), tt)
  slots_within n (fields_shape ps) passed sized = slot_fields n 0 ps passed sized
  slots_within n (cases_shape b d ps) passed sized = slot_cases n (n - 1) (omega (arith, passed.0)) (flat_payload_puts ps) (slot_payloads n ps passed.0 passed.1 sized.2)
  slots_within n (handle_shape h) passed sized = (omega (arith, passed), tt)

  slot_fields : (n at : ℕ) (ps : Parts) → ArePassedIn n at ps → ArePartsSized ps → AreSlotsWithin n (flat_field_puts ps at)
  slot_fields n at no_parts passed sized = tt
  slot_fields n at (part o e x ps) passed sized =
      slots_both n (placed_slots at (flat_puts_of x)) (flat_field_puts ps (at + e.width)) (slots_placed e.width n at passed.0 (flat_puts_of x) (slots_within e.width x passed.1 sized.0))
      (slot_fields n (at + e.width) ps passed.2 sized.1)

  slot_payloads : (n : ℕ) (ps : Payloads) → 1 ≤ n → PayloadsPassedIn n ps → ArePayloadsSized ps → AreCaseSlotsWithin (n - 1) (flat_payload_puts ps)
  slot_payloads n no_payloads le passed sized = tt
  slot_payloads n (nothing ps) le passed sized = (tt, slot_payloads n ps le passed sized)
  slot_payloads n (carried e x ps) le passed sized =
      (slots_more e.width (n - 1) (omega (arith, le, passed.0)) (flat_puts_of x) (slots_within e.width x passed.1 sized.0), slot_payloads n ps le passed.2 sized.1)

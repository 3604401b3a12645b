-- Puts of core values that are listed one after another.
use Rattle.std.proofs.Common.{◌≡◌, ℕ, zero, suc, ◌+◌, ◌<◌, ◌≤◌, List, [], ◌∷◌, ◌++◌, append_assoc, append-nil, drop, length, map, get_or, refl, sym, ap, ◌∙◌, arith}
use Rattle.std.proofs.lemmas.Bool.{le-ltb, lt-ltb}
use Rattle.std.proofs.lemmas.Bool.Decides.{nat_tests}
use Rattle.std.proofs.lemmas.List.{drop_more, map-append}
use Rattle.std.specs.Prelude.{true, false, ◌&&◌, ◌==◌, Option, Some, None}
use Rattle.std.specs.declared.alloc.Global.{Global}
use Rattle.std.specs.declared.sync.Arc.{Arc}
use Rattle.std.specs.declared.vec.Vec.{Vec}
use Rattle.cm_layout.specs.Layouts.{nothings}
use Rattle.cm_layout.specs.Shapes.{LayoutTy, Parts, no_parts, part, payloads_from}
use Rattle.cm_layout.specs.declared.layouts.Leaf.TheVariants as leaf
use Rattle.cm_abi_programs.specs.declared.limits.TheConstants.{FEW}
use Rattle.cm_abi_programs.specs.SlotPuts.{SlotPuts, CaseSlotPuts, no_slots, slot, case, leaf_slot, cases_slot, part_slot}
use Rattle.cm_abi_programs.specs.SlotPuts.{are_unput, both_slots, cases_slots, flat_field_puts, flat_payload_puts, flat_puts_of, is_unput, moved_slot, moved_slots, one_slot, placed_slots, slot_count}
use Rattle.cm_abi_programs.specs.CodedSlots.{case_of, case_slots_from, slot_lists, slot_of, slots_from, slots_in}
use Rattle.cm_abi_programs.specs.declared.slots.CaseSlotPuts.{CaseSlotPuts as CodedCase}
use Rattle.cm_abi_programs.specs.declared.slots.SlotPut.TheViews as view
use Rattle.cm_abi_programs.proofs.SlotForms.{seen_case}
use Rattle.cm_abi_programs.specs.Held.{part_shapes, slot_offsets}
use Rattle.cm_abi_programs.specs.PlacedFields.{slots_placed}
use Rattle.cm_abi_programs.specs.declared.slots.SlotPut.{SlotPut as CodedSlot}
use Rattle.cm_abi_programs.proofs.ShapeLemmas.{carried_lists}
use Rattle.cm_lemmas.proofs.Lists.{drop_past, next_element}

-- ---- lists of puts

both_behind : (es bs cs : SlotPuts) → both_slots (both_slots es bs) cs ≡ both_slots es (both_slots bs cs)
both_behind no_slots bs cs = refl
both_behind (slot a es) bs cs = ap (λ xs. slot a xs) (both_behind es bs cs)

none_behind : (es : SlotPuts) → both_slots es no_slots ≡ es
none_behind no_slots = refl
none_behind (slot a es) = ap (λ xs. slot a xs) (none_behind es)

pushed : (xs : List CodedSlot) (c : CodedSlot) → slots_in (xs ++ c ∷ []) ≡ both_slots (slots_in xs) (one_slot (slot_of c))
pushed [] c = refl
pushed (x ∷ xs) c = ap (λ cs. slot (slot_of x) cs) (pushed xs c)

-- ---- puts for a value that begins elsewhere

pub moved_next : (cs : List CodedSlot) (i by : ℕ) (x y : CodedSlot) (front all : List CodedSlot) → i < length cs → x ≡ get_or cs i x
    → slot_of y ≡ moved_slot by (slot_of x) → all ≡ front ++ y ∷ []
    → both_slots (slots_in all) (moved_slots by (slots_in (drop (i + 1) cs)))
    ≡ both_slots (slots_in front) (moved_slots by (slots_in (drop i cs)))
moved_next cs i by x y front all lt is moved grown =
    ap (λ xs. both_slots (slots_in xs) (moved_slots by (slots_in (drop (i + 1) cs)))) grown
    ∙ ap (λ xs. both_slots xs (moved_slots by (slots_in (drop (i + 1) cs)))) (pushed front y)
    ∙ both_behind (slots_in front) (one_slot (slot_of y)) (moved_slots by (slots_in (drop (i + 1) cs)))
    ∙ ap (λ d. both_slots (slots_in front) (slot d (moved_slots by (slots_in (drop (i + 1) cs))))) moved
    ∙ ap (λ xs. both_slots (slots_in front) (moved_slots by (slots_from xs))) (sym (next_element slot_of cs i x lt is))

pub moved_end : (cs : List CodedSlot) (i by : ℕ) (front : SlotPuts) → length cs ≤ i
    → front ≡ both_slots front (moved_slots by (slots_in (drop i cs)))
moved_end cs i by front past = sym (none_behind front) ∙ ap (λ xs. both_slots front (moved_slots by (slots_in xs))) (sym (drop_past cs i past))

-- ---- fields

pub placed_next : (os : List ℕ) (cs : List (Arc (Vec CodedSlot Global) Global)) (i o : ℕ) (c : Arc (Vec CodedSlot Global) Global) (front all : SlotPuts)
    → i < length os → i < length cs → o ≡ get_or os i 0 → c ≡ get_or cs i c
    → all ≡ both_slots front (placed_slots o (slots_in c.value.items))
    → both_slots all (slots_placed (drop (i + 1) os) (slot_lists (drop (i + 1) cs))) ≡ both_slots front (slots_placed (drop i os) (slot_lists (drop i cs)))
placed_next os cs i o c front all within held place list grown =
    let rest = slots_placed (drop (i + 1) os) (slot_lists (drop (i + 1) cs)) in
    ap (λ xs. both_slots xs rest) grown
    ∙ both_behind front (placed_slots o (slots_in c.value.items)) rest
    ∙ ap (λ xs. both_slots front (slots_placed (o ∷ drop (i + 1) os) xs)) (sym (next_element (λ (l : Arc (Vec CodedSlot Global) Global). slots_in l.value.items) cs i c held list))
    ∙ ap (λ qs. both_slots front (slots_placed qs (slot_lists (drop i cs)))) (sym (drop_more os i 0 within ∙ ap (λ q. q ∷ drop (i + 1) os) (sym place)))

pub placed_end : (os : List ℕ) (cs : List SlotPuts) (i : ℕ) (front : SlotPuts) → length os ≤ i → front ≡ both_slots front (slots_placed (drop i os) cs)
placed_end os cs i front past = sym (none_behind front) ∙ ap (λ qs. both_slots front (slots_placed qs cs)) (sym (drop_past os i past))

pub fields_placed : (ps : Parts) (at : ℕ) → slots_placed (slot_offsets ps at) (map flat_puts_of (part_shapes ps)) ≡ flat_field_puts ps at
fields_placed no_parts at = refl
fields_placed (part o e x ps) at = ap (λ cs. both_slots (placed_slots at (flat_puts_of x)) cs) (fields_placed ps (at + e.width))

-- ---- what cases carry

pub case_next : (cs : List (Arc (Vec CodedSlot Global) Global)) (i : ℕ) (x y : Arc (Vec CodedSlot Global) Global) (front all : List CodedCase) → i < length cs → x ≡ get_or cs i x → y.value ≡ x.value
    → all ≡ front ++ view.roll-CaseSlotPuts (record { puts = y }) ∷ [] → map case_of all ++ slot_lists (drop (i + 1) cs) ≡ map case_of front ++ slot_lists (drop i cs)
case_next cs i x y front all lt is copy grown =
    let rest = slot_lists (drop (i + 1) cs) in
    ap (λ xs. map case_of xs ++ rest) grown
    ∙ ap (λ xs. xs ++ rest) (map-append case_of front (view.roll-CaseSlotPuts (record { puts = y }) ∷ []))
    ∙ append_assoc (map case_of front) (case_of (view.roll-CaseSlotPuts (record { puts = y })) ∷ []) rest
    ∙ ap (λ d. map case_of front ++ d ∷ rest) (seen_case y ∙ ap (λ (v : Vec CodedSlot Global). slots_in v.items) copy)
    ∙ ap (λ ls. map case_of front ++ ls) (sym (next_element (λ (l : Arc (Vec CodedSlot Global) Global). slots_in l.value.items) cs i x lt is))

pub case_end : (cs : List (Arc (Vec CodedSlot Global) Global)) (i : ℕ) (front : List CodedCase) → length cs ≤ i → map case_of front ≡ map case_of front ++ slot_lists (drop i cs)
case_end cs i front past = sym (append-nil (map case_of front)) ∙ ap (λ xs. map case_of front ++ slot_lists xs) (sym (drop_past cs i past))

pub cases_carried : (ps : List (Option LayoutTy)) → case_slots_from (carried_lists slots_in flat_puts_of ps) ≡ flat_payload_puts (payloads_from ps)
cases_carried [] = refl
cases_carried (None ∷ ps) = ap (λ cs. case no_slots cs) (cases_carried ps)
cases_carried (Some l ∷ ps) = ap (λ cs. case (flat_puts_of l.shape) cs) (cases_carried ps)

unput_nothings : (n : ℕ) → are_unput (flat_payload_puts (nothings n)) ≡ true
unput_nothings zero = refl
unput_nothings (suc n) = unput_nothings n

pub enum_slots : (n : ℕ) → one_slot (leaf_slot 0 (leaf.Unsigned 4)) ≡ cases_slots (flat_payload_puts (nothings n))
enum_slots n = rw (unput_nothings n) refl

-- ---- what is empty

pub empty_unput : (xs : List CodedSlot) → (length xs == 0) ≡ is_unput (slots_in xs)
empty_unput [] = refl
empty_unput (x ∷ xs) = neq_zero (length xs)
  where
    neq_zero : (n : ℕ) → (suc n == 0) ≡ false
    neq_zero n = grind (arith, nat_tests)

pub ruleset emptiness = (empty_unput)

pub unput_next : (cs : List (Arc (Vec CodedSlot Global) Global)) (i : ℕ) (x : Arc (Vec CodedSlot Global) Global) → i < length cs → x ≡ get_or cs i x
    → are_unput (case_slots_from (slot_lists (drop i cs))) ≡ (is_unput (slots_in x.value.items) && are_unput (case_slots_from (slot_lists (drop (i + 1) cs))))
unput_next cs i x lt is = ap (λ xs. are_unput (case_slots_from xs)) (next_element (λ (c : Arc (Vec CodedSlot Global) Global). slots_in c.value.items) cs i x lt is)

pub unput_end : (cs : List (Arc (Vec CodedSlot Global) Global)) (i : ℕ) → length cs ≤ i → are_unput (case_slots_from (slot_lists (drop i cs))) ≡ true
unput_end cs i past = ap (λ xs. are_unput (case_slots_from (slot_lists xs))) (drop_past cs i past)

-- ---- how many there are

count_slots : (xs : List CodedSlot) → slot_count (slots_in xs) ≡ length xs
count_slots [] = refl
count_slots (x ∷ xs) = ap suc (count_slots xs)

pub placed_few : (o : ℕ) (xs : List CodedSlot) → length xs ≤ FEW → placed_slots o (slots_in xs) ≡ moved_slots o (slots_in xs)
placed_few o xs few = rw (count_slots xs, le-ltb FEW (length xs) few) refl

placed_many : (o : ℕ) (xs : List CodedSlot) → FEW < length xs → placed_slots o (slots_in xs) ≡ one_slot (part_slot o (slots_in xs))
placed_many o xs many = rw (count_slots xs, lt-ltb FEW (length xs) many) refl

pub many_placed : (o : ℕ) (xs front : List CodedSlot) (c : CodedSlot) → FEW < length xs → slot_of c ≡ part_slot o (slots_in xs)
    → slots_in (front ++ c ∷ []) ≡ both_slots (slots_in front) (placed_slots o (slots_in xs))
many_placed o xs front c many is = pushed front c ∙ ap (λ d. both_slots (slots_in front) (one_slot d)) is ∙ ap (λ ds. both_slots (slots_in front) ds) (sym (placed_many o xs many))

pub cases_some : (cs : CaseSlotPuts) → are_unput cs ≡ false → cases_slots cs ≡ one_slot (cases_slot 0 cs)
cases_some cs some = rw some refl

pub cases_none : (cs : CaseSlotPuts) → are_unput cs ≡ true → cases_slots cs ≡ one_slot (leaf_slot 0 (leaf.Unsigned 4))
cases_none cs none = rw none refl

pub ruleset listed = (placed_few, many_placed)

use Rattle.std.proofs.Common.{rules, ◌≡◌, ◌∙◌, ◌+◌, ◌*◌, ◌<◌, ◌≤◌, ap, arith, length, get_or, refl, subst, sym}
use Rattle.std.specs.Prelude.{true, ◌==◌}
use Rattle.cm_abi_programs.specs.CodedSlots.{slot_of, slots_in}
use Rattle.cm_abi_programs.specs.SlotPuts.{each_slot}
use Rattle.cm_abi_programs.specs.declared.slots.SlotPut.{the_lemmas}
use Rattle.cm_abi_running.specs.Copying.{copying_of}
use Rattle.cm_abi_running.specs.SlotPutsReady.{AreSlotsReady, IsSlotReady}
use Rattle.cm_abi_running.specs.SlotsPassed.{SlotLiesWithin, SlotsLieWithin}
use Rattle.cm_abi_running.proofs.PuttingLemmas.{next_row, row_room}
use Rattle.cm_abi_running.proofs.PuttingFlatLemmas.{bare_passes, carried_lie, carried_ready, case_passes, empty_row, form_Each, lies_as, next_ready, one_lies, one_ready, ready_as, row_end, row_start, row_turn, slots_end, slots_start, slots_turn}
use Rattle.cm_abi_running.proofs.putting_flat.+putting_flat.Goals as goal

-- ---- puts in order

pub put_flat_all-loop-put-init : goal.put_flat_all-loop-put-init
put_flat_all-loop-put-init t c = slots_start (copying_of c.args.from.now) c.args.given.now c.args.puts.now c.args.at c.args.next.now c.args.slots.now c.args.memory.now c.requires.ready

pub put_flat_all-put_flat_one-requires : goal.put_flat_all-put_flat_one-requires
put_flat_all-put_flat_one-requires t c =
    let lies : SlotLiesWithin (slot_of c.put-item.result) c.args.at (length c.loop-put.slots) =
    one_lies (copying_of c.args.from.now) c.args.given.now c.args.puts.now c.loop-put.put-index c.args.at c.put-item.result _ c.loop-put.next c.args.slots.now c.loop-put.slots c.args.memory.now c.loop-put.memory c.loop-put-test.true c.put-item.is c.loop-put.invariant c.requires.within in
    let ready : IsSlotReady (length c.loop-put.memory) (copying_of c.args.from.now) c.args.given.now (slot_of c.put-item.result) c.args.at c.loop-put.next.part c.loop-put.next.handle =
    one_ready (copying_of c.args.from.now) c.args.given.now c.args.puts.now c.loop-put.put-index c.args.at c.put-item.result _ c.loop-put.next c.args.slots.now c.loop-put.slots c.args.memory.now c.loop-put.memory c.loop-put-test.true c.put-item.is c.loop-put.invariant in
    (search (rules, the_lemmas), (lies, ready))

pub put_flat_all-loop-put-preserved : goal.put_flat_all-loop-put-preserved
put_flat_all-loop-put-preserved t c =
    slots_turn (copying_of c.args.from.now) c.args.given.now c.args.puts.now c.loop-put.put-index c.args.at c.put-item.result _ c.loop-put.next c.args.slots.now c.loop-put.slots c.args.memory.now c.loop-put.memory c.loop-put-test.true c.put-item.is c.loop-put.invariant
    c.put_flat_one.new.next c.put_flat_one.new.slots c.put_flat_one.new.memory c.put_flat_one.ensures

pub put_flat_all-returns : goal.put_flat_all-returns
put_flat_all-returns t c =
    slots_end (copying_of c.args.from.now) c.args.given.now c.args.puts.now c.loop-put.put-index c.args.at _ c.loop-put.next c.args.slots.now c.loop-put.slots c.args.memory.now c.loop-put.memory c.loop-put-test.false c.loop-put.invariant

-- ---- values in a row

pub put_flat_each-returns-then-is_empty : goal.put_flat_each-returns-then-is_empty
put_flat_each-returns-then-is_empty t c =
    let none : (length c.args.puts.now == 0) ≡ true = sym c.is_empty.ensures ∙ c.if-is_empty.true in
    empty_row (copying_of c.args.from.now) c.args.given.now c.args.puts.now c.args.distance c.args.count c.args.at c.args.next.now c.args.slots.now c.args.memory.now none

pub put_flat_each-loop-init : goal.put_flat_each-loop-init
put_flat_each-loop-init t c =
    record {
      start = omega arith;
      row = row_start (copying_of c.args.from.now) c.args.given.now (slots_in c.args.puts.now) c.args.distance c.args.count c.args.at c.args.next.now c.args.slots.now c.args.memory.now c.requires.ready;
    }

pub put_flat_each-put_flat_all-requires : goal.put_flat_each-put_flat_all-requires
put_flat_each-put_flat_all-requires t c =
    let lie : SlotsLieWithin (slots_in c.args.puts.now) c.loop.start (length c.loop.slots) =
    record {
      size = c.args.distance;
      within = c.requires.each;
      room = rw c.loop.auto.slots (row_room c.args.at (length c.args.slots.now) c.args.distance c.args.count c.loop.counter c.loop.start c.requires.inside c.loop-test.true c.loop.invariant.start);
    } in
    let ready : AreSlotsReady (length c.loop.memory) (copying_of c.args.from.now) c.args.given.now (slots_in c.args.puts.now) c.loop.start c.loop.next.part c.loop.next.handle =
    next_ready (copying_of c.args.from.now) c.args.given.now (slots_in c.args.puts.now) c.args.distance c.args.count c.loop.counter c.loop.start _ c.loop.next c.args.slots.now c.loop.slots c.args.memory.now c.loop.memory c.loop-test.true c.loop.invariant.row in
    (search (rules, the_lemmas), (lie, ready))

pub put_flat_each-overflow_add-start : goal.put_flat_each-overflow_add-start
put_flat_each-overflow_add-start t c =
    omega (arith, row_room c.args.at (length c.args.slots.now) c.args.distance c.args.count c.loop.counter c.loop.start c.requires.inside c.loop-test.true c.loop.invariant.start, c.fits_slots.ensures)

pub put_flat_each-loop-preserved : goal.put_flat_each-loop-preserved
put_flat_each-loop-preserved t c =
    record {
      start = next_row c.loop.start c.args.at c.loop.counter c.args.distance c.loop.invariant.start;
      row = row_turn (copying_of c.args.from.now) c.args.given.now (slots_in c.args.puts.now) c.args.distance c.args.count c.loop.counter c.loop.start _ c.loop.next c.args.slots.now c.loop.slots c.args.memory.now c.loop.memory c.loop-test.true c.loop.invariant.row
          c.put_flat_all.new.next c.put_flat_all.new.slots c.put_flat_all.new.memory c.put_flat_all.ensures;
    }

pub put_flat_each-returns : goal.put_flat_each-returns
put_flat_each-returns t c =
    row_end (copying_of c.args.from.now) c.args.given.now (slots_in c.args.puts.now) c.args.distance c.args.count c.loop.counter c.loop.start _ c.loop.next c.args.slots.now c.loop.slots c.args.memory.now c.loop.memory c.loop-test.false c.loop.invariant.row

-- ---- a put

pub put_flat_one-put_flat_each-requires : goal.put_flat_one-put_flat_each-requires
put_flat_one-put_flat_each-requires t c =
    let items = c.deref-in-Each-2.result.now in
    let form : slot_of c.args.put.now ≡ each_slot c.in-Each.behind c.in-Each.distance c.in-Each.count (slots_in items) = form_Each c.args.put.now c.in-Each.behind c.in-Each.distance c.in-Each.count c.in-Each.puts items c.in-Each.is (c.deref-in-Each-2.ensures.value ∙ ap (λ v. v.items) c.deref-in-Each.ensures) in
    let lies = lies_as (slot_of c.args.put.now) (each_slot c.in-Each.behind c.in-Each.distance c.in-Each.count (slots_in items)) c.args.at (length c.args.slots.now) form c.requires.within in
    let ready = ready_as (length c.args.memory.now) (copying_of c.args.from.now) c.args.given.now (slot_of c.args.put.now) (each_slot c.in-Each.behind c.in-Each.distance c.in-Each.count (slots_in items)) c.args.at c.args.next.now.part c.args.next.now.handle form c.requires.ready in
    (search (rules, the_lemmas), (lies.within.1, (omega (arith, lies.within.0, lies.room), ready)))

pub put_flat_one-put_flat_all-requires : goal.put_flat_one-put_flat_all-requires
put_flat_one-put_flat_all-requires t c =
    let cases_are : c.deref-in-Cases-2.result.now ≡ c.in-Cases.cases.value.items = c.deref-in-Cases-2.ensures.value ∙ ap (λ v. v.items) c.deref-in-Cases.ensures in
    let lt : c.put_flat_case-index.result < length c.in-Cases.cases.value.items = subst (λ xs. c.put_flat_case-index.result < length xs) cases_are c.in-Some.ensures.lookup.3.0 in
    let there : c.in-Some.case.now ≡ get_or c.in-Cases.cases.value.items c.put_flat_case-index.result c.in-Some.case.now = subst (λ xs. c.in-Some.case.now ≡ get_or xs c.put_flat_case-index.result c.in-Some.case.now) cases_are c.in-Some.ensures.lookup.1 in
    let same = c.deref-in-Some-2.ensures.value ∙ ap (λ v. v.items) c.deref-in-Some.ensures in
    let lie = carried_lie (copying_of c.args.from.now) c.args.given.now c.args.put.now c.in-Cases.behind c.in-Cases.cases c.in-Cases.is c.args.at c.put_flat_case-index.result c.args.next.now c.args.slots.now c.put_flat_case-index.new.slots c.args.memory.now c.put_flat_case-index.ensures.case c.in-Some.case.now c.deref-in-Some-2.result.now lt there same c.put_flat_case-index.ensures.slots_stay c.requires.within in
    let ready = carried_ready (copying_of c.args.from.now) c.args.given.now c.args.put.now c.in-Cases.behind c.in-Cases.cases c.in-Cases.is c.args.at c.put_flat_case-index.result c.args.next.now c.args.slots.now c.put_flat_case-index.new.slots c.args.memory.now c.put_flat_case-index.ensures.case c.in-Some.case.now c.deref-in-Some-2.result.now lt there same c.requires.ready in
    (search (rules, the_lemmas, lt), (lie, ready))

pub put_flat_one-returns-in-Some : goal.put_flat_one-returns-in-Some
put_flat_one-returns-in-Some t c =
    let cases_are : c.deref-in-Cases-2.result.now ≡ c.in-Cases.cases.value.items = c.deref-in-Cases-2.ensures.value ∙ ap (λ v. v.items) c.deref-in-Cases.ensures in
    let lt : c.put_flat_case-index.result < length c.in-Cases.cases.value.items = subst (λ xs. c.put_flat_case-index.result < length xs) cases_are c.in-Some.ensures.lookup.3.0 in
    let there : c.in-Some.case.now ≡ get_or c.in-Cases.cases.value.items c.put_flat_case-index.result c.in-Some.case.now = subst (λ xs. c.in-Some.case.now ≡ get_or xs c.put_flat_case-index.result c.in-Some.case.now) cases_are c.in-Some.ensures.lookup.1 in
    case_passes (copying_of c.args.from.now) c.args.given.now c.args.put.now c.in-Cases.behind c.in-Cases.cases c.in-Cases.is c.args.at c.put_flat_case-index.result c.args.next.now c.args.slots.now c.put_flat_case-index.new.slots c.args.memory.now c.put_flat_case-index.ensures.case c.in-Some.case.now c.deref-in-Some-2.result.now lt there
    (c.deref-in-Some-2.ensures.value ∙ ap (λ v. v.items) c.deref-in-Some.ensures) c.put_flat_case-index.ensures.slots c.put_flat_case-index.ensures.slots_stay c.put_flat_all.new.next c.put_flat_all.new.slots c.put_flat_all.new.memory c.put_flat_all.ensures

pub put_flat_one-returns-in-None : goal.put_flat_one-returns-in-None
put_flat_one-returns-in-None t c =
    let cases_are : c.deref-in-Cases-2.result.now ≡ c.in-Cases.cases.value.items = c.deref-in-Cases-2.ensures.value ∙ ap (λ v. v.items) c.deref-in-Cases.ensures in
    let past : length c.in-Cases.cases.value.items ≤ c.put_flat_case-index.result = subst (λ xs. length xs ≤ c.put_flat_case-index.result) cases_are c.in-None.ensures.lookup.3 in
    bare_passes (copying_of c.args.from.now) c.args.given.now c.args.put.now c.in-Cases.behind c.in-Cases.cases c.in-Cases.is c.args.at c.put_flat_case-index.result c.args.next.now c.args.slots.now c.put_flat_case-index.new.slots c.args.memory.now c.put_flat_case-index.ensures.case past c.put_flat_case-index.ensures.slots c.put_flat_case-index.ensures.slots_stay

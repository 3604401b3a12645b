use Rattle.std.proofs.Common.{rules, ◌≡◌, ◌∙◌, ◌<◌, ◌≤◌, ap, arith, length, get_or, subst, sym}
use Rattle.std.specs.Prelude.{true, ◌==◌}
use Rattle.cm_abi_programs.specs.CodedPuts.{put_of, puts_in}
use Rattle.cm_abi_programs.specs.Puts.{each_put, is_bulk_of, list_put}
use Rattle.cm_abi_programs.specs.declared.puts.Put.{the_lemmas}
use Rattle.cm_abi_running.specs.Copying.{copying_of}
use Rattle.cm_abi_running.specs.PutsReady.{ArePutsReady, IsPutReady}
use Rattle.cm_abi_running.specs.PutsWritten.{LieBetween, LiesBetween}
use Rattle.cm_abi_running.proofs.PuttingLemmas.{bare_writes, bulk_row, carried_lie, carried_ready, case_writes, empty_row, form_Each, form_List, lies_as, list_writes, next_ready, next_row, one_lies, one_ready, puts_end, puts_start, puts_turn, ready_as, row_end, row_room, row_start, row_turn}
use Rattle.cm_abi_running.proofs.putting.+putting.Goals as goal

-- ---- puts in order

pub put_all-loop-put-init : goal.put_all-loop-put-init
put_all-loop-put-init t c = puts_start (copying_of c.args.from.now) c.args.puts.now c.args.source c.args.at c.args.next.now c.args.memory.now c.requires.ready

pub put_all-put_one-requires : goal.put_all-put_one-requires
put_all-put_one-requires t c =
    let lies : LiesBetween (put_of c.put-item.result) c.args.source (length c.args.from.now.memory.now) c.args.at (length c.loop-put.memory) =
    one_lies c.args.puts.now c.args.source (length c.args.from.now.memory.now) c.args.at (length c.args.memory.now) c.loop-put.put-index c.put-item.result c.loop-put-test.true c.put-item.is c.requires.within (length c.loop-put.memory) c.loop-put.auto.memory in
    let ready : IsPutReady (length c.loop-put.memory) (copying_of c.args.from.now) (put_of c.put-item.result) c.args.source c.args.at c.loop-put.next.part c.loop-put.next.handle =
    one_ready (copying_of c.args.from.now) c.args.puts.now c.loop-put.put-index c.args.source c.args.at c.put-item.result _ c.loop-put.next c.args.memory.now c.loop-put.memory c.loop-put-test.true c.put-item.is c.loop-put.invariant in
    (search (rules, the_lemmas), (lies, ready))

pub put_all-loop-put-preserved : goal.put_all-loop-put-preserved
put_all-loop-put-preserved t c =
    puts_turn (copying_of c.args.from.now) c.args.puts.now c.loop-put.put-index c.args.source c.args.at c.put-item.result _ c.loop-put.next c.args.memory.now c.loop-put.memory c.loop-put-test.true c.put-item.is c.loop-put.invariant
    c.put_one.new.next c.put_one.new.memory c.put_one.ensures

pub put_all-returns : goal.put_all-returns
put_all-returns t c =
    puts_end (copying_of c.args.from.now) c.args.puts.now c.loop-put.put-index c.args.source c.args.at _ c.loop-put.next c.args.memory.now c.loop-put.memory c.loop-put-test.false c.loop-put.invariant

-- ---- values in a row

pub put_each-returns-then-is_empty : goal.put_each-returns-then-is_empty
put_each-returns-then-is_empty t c =
    let none : (length c.args.puts.now == 0) ≡ true = sym c.is_empty.ensures ∙ c.if-is_empty.true in
    empty_row (copying_of c.args.from.now) c.args.puts.now c.args.distance c.args.count c.args.source c.args.at c.args.next.now c.args.memory.now none

pub put_each-loop-init : goal.put_each-loop-init
put_each-loop-init t c =
    record {
      start = omega arith;
      to = omega arith;
      row = row_start (copying_of c.args.from.now) (puts_in c.args.puts.now) c.args.distance c.args.count c.args.source c.args.at c.args.next.now c.args.memory.now c.requires.ready;
    }

pub put_each-put_all-requires : goal.put_each-put_all-requires
put_each-put_all-requires t c =
    let lie : LieBetween (puts_in c.args.puts.now) c.loop.start (length c.args.from.now.memory.now) c.loop.to (length c.loop.memory) =
    record {
      size = c.args.distance;
      within = c.requires.each;
      read = row_room c.args.source (length c.args.from.now.memory.now) c.args.distance c.args.count c.loop.counter c.loop.start c.requires.within c.loop-test.true c.loop.invariant.start;
      room = rw c.loop.auto.memory (row_room c.args.at (length c.args.memory.now) c.args.distance c.args.count c.loop.counter c.loop.to c.requires.inside c.loop-test.true c.loop.invariant.to);
    } in
    let ready : ArePutsReady (length c.loop.memory) (copying_of c.args.from.now) (puts_in c.args.puts.now) c.loop.start c.loop.to c.loop.next.part c.loop.next.handle =
    next_ready (copying_of c.args.from.now) (puts_in c.args.puts.now) c.args.distance c.args.count c.loop.counter c.loop.start c.loop.to _ c.loop.next c.args.memory.now c.loop.memory c.loop-test.true c.loop.invariant.row in
    (search (rules, the_lemmas), (lie, ready))

pub put_each-overflow_add-start : goal.put_each-overflow_add-start
put_each-overflow_add-start t c =
    omega (arith, row_room c.args.source (length c.args.from.now.memory.now) c.args.distance c.args.count c.loop.counter c.loop.start c.requires.within c.loop-test.true c.loop.invariant.start, c.fits_a_slice.ensures)

pub put_each-overflow_add-to : goal.put_each-overflow_add-to
put_each-overflow_add-to t c =
    omega (arith, row_room c.args.at (length c.args.memory.now) c.args.distance c.args.count c.loop.counter c.loop.to c.requires.inside c.loop-test.true c.loop.invariant.to, c.fits_a_slice-2.ensures)

pub put_each-loop-preserved : goal.put_each-loop-preserved
put_each-loop-preserved t c =
    record {
      start = next_row c.loop.start c.args.source c.loop.counter c.args.distance c.loop.invariant.start;
      to = next_row c.loop.to c.args.at c.loop.counter c.args.distance c.loop.invariant.to;
      row = row_turn (copying_of c.args.from.now) (puts_in c.args.puts.now) c.args.distance c.args.count c.loop.counter c.loop.start c.loop.to _ c.loop.next c.args.memory.now c.loop.memory c.loop-test.true c.loop.invariant.row
          c.put_all.new.next c.put_all.new.memory c.put_all.ensures;
    }

pub put_each-returns : goal.put_each-returns
put_each-returns t c =
    row_end (copying_of c.args.from.now) (puts_in c.args.puts.now) c.args.distance c.args.count c.loop.counter c.loop.start c.loop.to _ c.loop.next c.args.memory.now c.loop.memory c.loop-test.false c.loop.invariant.row

-- ---- lists

pub put_elements-returns-then-is_bulk : goal.put_elements-returns-then-is_bulk
put_elements-returns-then-is_bulk t c =
    let is : is_bulk_of c.args.size (puts_in c.args.puts.now) ≡ true = sym c.is_bulk.ensures ∙ c.if-is_bulk.true in
    bulk_row (copying_of c.args.from.now) (puts_in c.args.puts.now) c.args.size c.args.count c.args.source c.args.at c.args.next.now c.args.memory.now c.copy_run.new.memory is c.copy_run.ensures.stored c.copy_run.ensures.stays

pub put_list-returns : goal.put_list-returns
put_list-returns t c =
    list_writes (copying_of c.args.from.now) (puts_in c.args.puts.now) c.args.size c.args.source c.args.at c.args.next.now.part c.args.next.now.handle c.store_pointer-place.new.next c.put_elements.new.next c.args.memory.now c.store_pointer-place.new.memory c.put_elements.new.memory
    c.number_32-pointer.result c.number_32-count.result c.store_pointer-place.result c.number_32-pointer.ensures c.number_32-count.ensures c.store_pointer-place.ensures.place c.store_pointer-place.ensures.stored c.store_pointer-place.ensures.stays c.store_pointer-place.ensures.part c.store_pointer-place.ensures.handle c.put_elements.ensures

-- ---- a put

pub put_one-put_list-requires : goal.put_one-put_list-requires
put_one-put_list-requires t c =
    let items = c.deref-in-List.result.now in
    let form : put_of c.args.put.now ≡ list_put c.in-List.behind c.in-List.size (puts_in items) = form_List c.args.put.now c.in-List.behind c.in-List.size c.in-List.puts items c.in-List.is (c.deref-in-List.ensures.value ∙ ap (λ v. v.items) c.deref.ensures) in
    let lies = lies_as (put_of c.args.put.now) (list_put c.in-List.behind c.in-List.size (puts_in items)) c.args.source (length c.args.from.now.memory.now) c.args.at (length c.args.memory.now) form c.requires.within in
    let ready = ready_as (length c.args.memory.now) (copying_of c.args.from.now) (put_of c.args.put.now) (list_put c.in-List.behind c.in-List.size (puts_in items)) c.args.source c.args.at c.args.next.now.part c.args.next.now.handle form c.requires.ready in
    (search (rules, the_lemmas), (lies.within.1, (omega (arith, lies.within.0, lies.read), (omega (arith, lies.within.0, lies.room), ready))))

pub put_one-put_each-requires : goal.put_one-put_each-requires
put_one-put_each-requires t c =
    let items = c.deref-in-Each-2.result.now in
    let form : put_of c.args.put.now ≡ each_put c.in-Each.behind c.in-Each.distance c.in-Each.count (puts_in items) = form_Each c.args.put.now c.in-Each.behind c.in-Each.distance c.in-Each.count c.in-Each.puts items c.in-Each.is (c.deref-in-Each-2.ensures.value ∙ ap (λ v. v.items) c.deref-in-Each.ensures) in
    let lies = lies_as (put_of c.args.put.now) (each_put c.in-Each.behind c.in-Each.distance c.in-Each.count (puts_in items)) c.args.source (length c.args.from.now.memory.now) c.args.at (length c.args.memory.now) form c.requires.within in
    let ready = ready_as (length c.args.memory.now) (copying_of c.args.from.now) (put_of c.args.put.now) (each_put c.in-Each.behind c.in-Each.distance c.in-Each.count (puts_in items)) c.args.source c.args.at c.args.next.now.part c.args.next.now.handle form c.requires.ready in
    (search (rules, the_lemmas), (lies.within.1, (omega (arith, lies.within.0, lies.read), (omega (arith, lies.within.0, lies.room), ready))))

pub put_one-put_all-requires : goal.put_one-put_all-requires
put_one-put_all-requires t c =
    let cases_are : c.deref-in-Cases-2.result.now ≡ c.in-Cases.cases.value.items = c.deref-in-Cases-2.ensures.value ∙ ap (λ v. v.items) c.deref-in-Cases.ensures in
    let lt : c.put_case-index.result < length c.in-Cases.cases.value.items = subst (λ xs. c.put_case-index.result < length xs) cases_are c.in-Some.ensures.lookup.3.0 in
    let there : c.in-Some.case.now ≡ get_or c.in-Cases.cases.value.items c.put_case-index.result c.in-Some.case.now = subst (λ xs. c.in-Some.case.now ≡ get_or xs c.put_case-index.result c.in-Some.case.now) cases_are c.in-Some.ensures.lookup.1 in
    let same = c.deref-in-Some-2.ensures.value ∙ ap (λ v. v.items) c.deref-in-Some.ensures in
    let lie = carried_lie (copying_of c.args.from.now) c.args.put.now c.in-Cases.behind c.in-Cases.bytes c.in-Cases.offset c.in-Cases.cases c.in-Cases.is c.args.source c.args.at c.put_case-index.result c.args.next.now c.args.memory.now c.put_case-index.new.memory c.put_case-index.ensures.case c.in-Some.case.now c.deref-in-Some-2.result.now lt there same c.put_case-index.ensures.stays c.requires.within in
    let ready = carried_ready (copying_of c.args.from.now) c.args.put.now c.in-Cases.behind c.in-Cases.bytes c.in-Cases.offset c.in-Cases.cases c.in-Cases.is c.args.source c.args.at c.put_case-index.result c.args.next.now c.args.memory.now c.put_case-index.new.memory c.put_case-index.ensures.case c.in-Some.case.now c.deref-in-Some-2.result.now lt there same c.put_case-index.ensures.stays c.requires.ready in
    (search (rules, the_lemmas, lt), (lie, ready))

pub put_one-returns-in-Some : goal.put_one-returns-in-Some
put_one-returns-in-Some t c =
    let cases_are : c.deref-in-Cases-2.result.now ≡ c.in-Cases.cases.value.items = c.deref-in-Cases-2.ensures.value ∙ ap (λ v. v.items) c.deref-in-Cases.ensures in
    let lt : c.put_case-index.result < length c.in-Cases.cases.value.items = subst (λ xs. c.put_case-index.result < length xs) cases_are c.in-Some.ensures.lookup.3.0 in
    let there : c.in-Some.case.now ≡ get_or c.in-Cases.cases.value.items c.put_case-index.result c.in-Some.case.now = subst (λ xs. c.in-Some.case.now ≡ get_or xs c.put_case-index.result c.in-Some.case.now) cases_are c.in-Some.ensures.lookup.1 in
    case_writes (copying_of c.args.from.now) c.args.put.now c.in-Cases.behind c.in-Cases.bytes c.in-Cases.offset c.in-Cases.cases c.in-Cases.is c.args.source c.args.at c.put_case-index.result c.args.next.now c.args.memory.now c.put_case-index.new.memory c.put_case-index.ensures.case c.in-Some.case.now c.deref-in-Some-2.result.now lt there
    (c.deref-in-Some-2.ensures.value ∙ ap (λ v. v.items) c.deref-in-Some.ensures) c.put_case-index.ensures.stored c.put_case-index.ensures.stays c.put_all.new.next c.put_all.new.memory c.put_all.ensures

pub put_one-returns-in-None : goal.put_one-returns-in-None
put_one-returns-in-None t c =
    let cases_are : c.deref-in-Cases-2.result.now ≡ c.in-Cases.cases.value.items = c.deref-in-Cases-2.ensures.value ∙ ap (λ v. v.items) c.deref-in-Cases.ensures in
    let past : length c.in-Cases.cases.value.items ≤ c.put_case-index.result = subst (λ xs. length xs ≤ c.put_case-index.result) cases_are c.in-None.ensures.lookup.3 in
    bare_writes (copying_of c.args.from.now) c.args.put.now c.in-Cases.behind c.in-Cases.bytes c.in-Cases.offset c.in-Cases.cases c.in-Cases.is c.args.source c.args.at c.put_case-index.result c.args.next.now c.args.memory.now c.put_case-index.new.memory c.put_case-index.ensures.case past c.put_case-index.ensures.stored c.put_case-index.ensures.stays

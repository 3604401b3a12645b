use Rattle.std.proofs.Common.{rules, ◌≡◌, ◌∙◌, ◌+◌, ◌*◌, ◌<◌, ◌≤◌, ap, arith, length, get_or, refl, subst, sym}
use Rattle.std.specs.Prelude.{true, ◌==◌}
use Rattle.std.proofs.lemmas.Result.{err_from_is_err_and}
use Rattle.cm_abi_load.specs.Outcomes.{state_of}
use Rattle.cm_abi_load.specs.Reading.{source_of}
use Rattle.cm_abi_programs.specs.Coded.{check_of, checks_in}
use Rattle.cm_abi_programs.specs.declared.checks.Check.{the_lemmas}
use Rattle.cm_abi_running.specs.Checking.{all_checked, in_memory}
use Rattle.cm_abi_running.specs.Within.{AreWithin, LieWithin, LiesWithin}
use Rattle.cm_abi_running.proofs.LookingLemmas.{checks_end, checks_halt, checks_turn, keeps_all, row_end, row_halt, row_starts, row_turn, starts}
use Rattle.cm_abi_running.proofs.LookLemmas.{elements_look, elements_stop, empty_row, look_Below, look_Case, look_Char, look_Each, look_Handle, look_List, look_Part, look_Text, look_past}
use Rattle.cm_abi_running.proofs.RoomLemmas.{aligned_List, case_Cases, each_Each, each_List, fits_Below, fits_Cases, next_row, one_lies, part_Part, room_Below, room_Cases, room_Char, room_Each, room_Handle, room_List, room_Part, room_Text, room_payload, row_lies, row_room, size_Below, size_Cases}
use Rattle.cm_abi_running.proofs.looking.+looking.Goals as goal

-- ---- checks in order

pub look_at-loop-check-init : goal.look_at-loop-check-init
look_at-loop-check-init t c = starts _ c.args.records.now.items (state_of c.args.progress.now)

pub look_at-look-requires : goal.look_at-look-requires
look_at-look-requires t c =
    let one : LiesWithin (check_of c.check-item.result) c.args.at (length c.args.reader.now.giver.memory.now) = one_lies c.args.checks.now c.args.at (length c.args.reader.now.giver.memory.now) c.loop-check.check-index c.check-item.result c.loop-check-test.true c.check-item.is c.requires.within in
    (search (rules, the_lemmas), search (rules, the_lemmas, one))

pub look_at-returns-in_err-look : goal.look_at-returns-in_err-look
look_at-returns-in_err-look t c =
    let p = err_from_is_err_and c.from_residual.result c.from_residual.ensures.1 in
    rw (p.1, p.2) (checks_halt (source_of c.args.reader.now.giver) c.args.reader.now.maker.target (in_memory c.args.reader.now.giver.memory.now) c.args.checks.now c.loop-check.check-index c.args.at c.check-item.result _ c.args.records.now.items c.loop-check.records.items (state_of c.args.progress.now) (state_of c.loop-check.progress) (state_of c.look.new.progress) c.in_err-look.field-0.0
    c.loop-check-test.true c.check-item.is c.loop-check.invariant c.in_err-look.ensures)

pub look_at-loop-check-preserved : goal.look_at-loop-check-preserved
look_at-loop-check-preserved t c =
    checks_turn (source_of c.args.reader.now.giver) c.args.reader.now.maker.target (in_memory c.args.reader.now.giver.memory.now) c.args.checks.now c.loop-check.check-index c.args.at c.check-item.result _ c.args.records.now.items c.loop-check.records.items c.look.new.records.items (state_of c.args.progress.now) (state_of c.loop-check.progress) (state_of c.look.new.progress)
    c.loop-check-test.true c.check-item.is c.loop-check.invariant c.in_ok-look.ensures

pub look_at-returns : goal.look_at-returns
look_at-returns t c =
    checks_end (source_of c.args.reader.now.giver) c.args.reader.now.maker.target (in_memory c.args.reader.now.giver.memory.now) c.args.checks.now c.loop-check.check-index c.args.at _ c.args.records.now.items c.loop-check.records.items (state_of c.args.progress.now) (state_of c.loop-check.progress) c.loop-check-test.false c.loop-check.invariant

-- ---- a check

pub look-returns-in-Char : goal.look-returns-in-Char
look-returns-in-Char t c =
    look_Char (source_of c.args.reader.now.giver) c.args.reader.now.maker.target (in_memory c.args.reader.now.giver.memory.now) c.args.check.now c.args.at (state_of c.args.progress.now) (state_of c.args.progress.now) c.args.records.now.items c.args.records.now.items c.look_at_char.result c.in-Char.behind c.number_32.result c.in-Char.is c.number_32.ensures (c.look_at_char.ensures (state_of c.args.progress.now) c.args.records.now.items)

pub look-returns-in-Below : goal.look-returns-in-Below
look-returns-in-Below t c =
    look_Below (source_of c.args.reader.now.giver) c.args.reader.now.maker.target (in_memory c.args.reader.now.giver.memory.now) c.args.check.now c.args.at (state_of c.args.progress.now) (state_of c.args.progress.now) c.args.records.now.items c.args.records.now.items c.look_at_case.result c.in-Below.behind c.in-Below.bytes c.in-Below.count c.number_at-index.result c.in-Below.is c.number_at-index.ensures.value (c.look_at_case.ensures (state_of c.args.progress.now) c.args.records.now.items)

pub look-returns-in-Text : goal.look-returns-in-Text
look-returns-in-Text t c =
    look_Text (source_of c.args.reader.now.giver) c.args.reader.now.maker.target (in_memory c.args.reader.now.giver.memory.now) c.args.check.now c.args.at (state_of c.args.progress.now) (state_of c.look_at_text.new.progress) c.args.records.now.items c.look_at_text.new.records.items c.look_at_text.result c.in-Text.behind c.number_32-pointer.result c.number_32-tagged.result c.in-Text.is c.number_32-pointer.ensures c.number_32-tagged.ensures c.look_at_text.ensures

pub look-returns-in-List : goal.look-returns-in-List
look-returns-in-List t c =
    look_List (source_of c.args.reader.now.giver) c.args.reader.now.maker.target (in_memory c.args.reader.now.giver.memory.now) c.args.check.now c.args.at (state_of c.args.progress.now) (state_of c.look_at_elements.new.progress) c.args.records.now.items c.look_at_elements.new.records.items c.look_at_elements.result c.in-List.behind c.number_32-pointer-in-List.result c.number_32-count.result c.in-List.element c.in-List.checks c.deref-in-List.result.now c.in-List.is (c.deref-in-List.ensures.value ∙ ap (λ v. v.items) c.deref.ensures) c.number_32-pointer-in-List.ensures c.number_32-count.ensures c.look_at_elements.ensures

pub look-returns-in-Each : goal.look-returns-in-Each
look-returns-in-Each t c =
    look_Each (source_of c.args.reader.now.giver) c.args.reader.now.maker.target (in_memory c.args.reader.now.giver.memory.now) c.args.check.now c.args.at (state_of c.args.progress.now) (state_of c.look_at_each.new.progress) c.args.records.now.items c.look_at_each.new.records.items c.look_at_each.result c.in-Each.behind c.in-Each.distance c.in-Each.count c.in-Each.checks c.deref-in-Each-2.result.now c.in-Each.is (c.deref-in-Each-2.ensures.value ∙ ap (λ v. v.items) c.deref-in-Each.ensures) c.look_at_each.ensures

pub look-returns-in-Some : goal.look-returns-in-Some
look-returns-in-Some t c =
    let cases_are : c.deref-in-Cases-2.result.now ≡ c.in-Cases.cases.value.items = c.deref-in-Cases-2.ensures.value ∙ ap (λ v. v.items) c.deref-in-Cases.ensures in
    let lt : c.number_at-index-in-Cases.result < length c.in-Cases.cases.value.items = subst (λ xs. c.number_at-index-in-Cases.result < length xs) cases_are c.in-Some.ensures.lookup.3.0 in
    let there : c.in-Some.case.now ≡ get_or c.in-Cases.cases.value.items c.number_at-index-in-Cases.result c.in-Some.case.now = subst (λ xs. c.in-Some.case.now ≡ get_or xs c.number_at-index-in-Cases.result c.in-Some.case.now) cases_are c.in-Some.ensures.lookup.1 in
    look_Case (source_of c.args.reader.now.giver) c.args.reader.now.maker.target (in_memory c.args.reader.now.giver.memory.now) c.args.check.now c.args.at (state_of c.args.progress.now) (state_of c.look_at.new.progress) c.args.records.now.items c.look_at.new.records.items c.look_at.result c.in-Cases.behind c.in-Cases.bytes c.in-Cases.offset c.number_at-index-in-Cases.result c.in-Cases.cases c.in-Some.case.now c.deref-in-Some-2.result.now c.in-Cases.is c.number_at-index-in-Cases.ensures.value
    lt there (c.deref-in-Some-2.ensures.value ∙ ap (λ v. v.items) c.deref-in-Some.ensures) c.look_at.ensures

pub look-returns-in-None : goal.look-returns-in-None
look-returns-in-None t c =
    let cases_are : c.deref-in-Cases-2.result.now ≡ c.in-Cases.cases.value.items = c.deref-in-Cases-2.ensures.value ∙ ap (λ v. v.items) c.deref-in-Cases.ensures in
    let past : length c.in-Cases.cases.value.items ≤ c.number_at-index-in-Cases.result = subst (λ xs. length xs ≤ c.number_at-index-in-Cases.result) cases_are c.in-None.ensures.lookup.3 in
    look_past (source_of c.args.reader.now.giver) c.args.reader.now.maker.target (in_memory c.args.reader.now.giver.memory.now) c.args.check.now c.args.at (state_of c.args.progress.now) c.in-Cases.behind c.in-Cases.bytes c.in-Cases.offset c.number_at-index-in-Cases.result c.in-Cases.cases c.in-Cases.is c.number_at-index-in-Cases.ensures.value past

pub look-returns-in-Handle : goal.look-returns-in-Handle
look-returns-in-Handle t c =
    look_Handle (source_of c.args.reader.now.giver) c.args.reader.now.maker.target (in_memory c.args.reader.now.giver.memory.now) c.args.check.now c.args.at (state_of c.args.progress.now) (state_of c.look_at_handle.new.progress) c.args.records.now.items c.args.records.now.items c.look_at_handle.result c.in-Handle.behind c.number_32-index.result c.in-Handle.wanted c.in-Handle.is c.number_32-index.ensures (c.look_at_handle.ensures c.args.records.now)

pub look-returns-in-Part : goal.look-returns-in-Part
look-returns-in-Part t c =
    look_Part (source_of c.args.reader.now.giver) c.args.reader.now.maker.target (in_memory c.args.reader.now.giver.memory.now) c.args.check.now c.args.at (state_of c.args.progress.now) (state_of c.look_at-in-Part.new.progress) c.args.records.now.items c.look_at-in-Part.new.records.items c.look_at-in-Part.result c.in-Part.behind c.in-Part.checks c.deref-in-Part-2.result.now c.in-Part.is (c.deref-in-Part-2.ensures.value ∙ ap (λ v. v.items) c.deref-in-Part.ensures) c.look_at-in-Part.ensures

pub look-look_at_elements-requires : goal.look-look_at_elements-requires
look-look_at_elements-requires t c =
    let aligned = aligned_List c.args.check.now c.args.at (length c.args.reader.now.giver.memory.now) c.in-List.behind c.in-List.element c.in-List.checks c.in-List.is c.requires.within in
    let each = each_List c.args.check.now c.args.at (length c.args.reader.now.giver.memory.now) c.in-List.behind c.in-List.element c.in-List.checks c.deref-in-List.result.now c.in-List.is c.requires.within (c.deref-in-List.ensures.value ∙ ap (λ v. v.items) c.deref.ensures) in
    (search (rules, the_lemmas), search (rules, the_lemmas, aligned, each))

pub look-look_at_each-requires : goal.look-look_at_each-requires
look-look_at_each-requires t c =
    let each = each_Each c.args.check.now c.args.at (length c.args.reader.now.giver.memory.now) c.in-Each.behind c.in-Each.distance c.in-Each.count c.in-Each.checks c.deref-in-Each-2.result.now c.in-Each.is c.requires.within (c.deref-in-Each-2.ensures.value ∙ ap (λ v. v.items) c.deref-in-Each.ensures) in
    let room = room_Each c.args.check.now c.args.at (length c.args.reader.now.giver.memory.now) c.in-Each.behind c.in-Each.distance c.in-Each.count c.in-Each.checks c.in-Each.is c.requires.within in
    (search (rules, the_lemmas), search (rules, the_lemmas, each, room))

pub look-look_at-requires : goal.look-look_at-requires
look-look_at-requires t c =
    let cases_are : c.deref-in-Cases-2.result.now ≡ c.in-Cases.cases.value.items = c.deref-in-Cases-2.ensures.value ∙ ap (λ v. v.items) c.deref-in-Cases.ensures in
    let lt : c.number_at-index-in-Cases.result < length c.in-Cases.cases.value.items = subst (λ xs. c.number_at-index-in-Cases.result < length xs) cases_are c.in-Some.ensures.lookup.3.0 in
    let there : c.in-Some.case.now ≡ get_or c.in-Cases.cases.value.items c.number_at-index-in-Cases.result c.in-Some.case.now = subst (λ xs. c.in-Some.case.now ≡ get_or xs c.number_at-index-in-Cases.result c.in-Some.case.now) cases_are c.in-Some.ensures.lookup.1 in
    let lie = case_Cases c.args.check.now c.args.at (length c.args.reader.now.giver.memory.now) c.in-Cases.behind c.in-Cases.bytes c.in-Cases.offset c.in-Cases.cases c.number_at-index-in-Cases.result c.in-Some.case.now c.deref-in-Some-2.result.now c.in-Cases.is c.requires.within lt there (c.deref-in-Some-2.ensures.value ∙ ap (λ v. v.items) c.deref-in-Some.ensures) in
    (search (rules, the_lemmas, lt), search (rules, the_lemmas, lie))

pub look-look_at-requires-in-Part : goal.look-look_at-requires-in-Part
look-look_at-requires-in-Part t c =
    let lie = part_Part c.args.check.now c.args.at (length c.args.reader.now.giver.memory.now) c.in-Part.behind c.in-Part.checks c.deref-in-Part-2.result.now c.in-Part.is c.requires.within (c.deref-in-Part-2.ensures.value ∙ ap (λ v. v.items) c.deref-in-Part.ensures) in
    (search (rules, the_lemmas), search (rules, the_lemmas, lie))

-- ---- bounds of a check

pub look-overflow_add-at : goal.look-overflow_add-at
look-overflow_add-at t c = omega (arith, room_Char c.args.check.now c.args.at (length c.args.reader.now.giver.memory.now) c.in-Char.behind c.in-Char.is c.requires.within, c.fits_a_slice.ensures)

pub look-number_32-requires : goal.look-number_32-requires
look-number_32-requires t c = omega (arith, room_Char c.args.check.now c.args.at (length c.args.reader.now.giver.memory.now) c.in-Char.behind c.in-Char.is c.requires.within)

pub look-overflow_add-at-in-Below : goal.look-overflow_add-at-in-Below
look-overflow_add-at-in-Below t c = omega (arith, room_Below c.args.check.now c.args.at (length c.args.reader.now.giver.memory.now) c.in-Below.behind c.in-Below.bytes c.in-Below.count c.in-Below.is c.requires.within, c.fits_a_slice.ensures)

pub look-number_at-index-requires : goal.look-number_at-index-requires
look-number_at-index-requires t c = record { size = size_Below c.args.check.now c.args.at (length c.args.reader.now.giver.memory.now) c.in-Below.behind c.in-Below.bytes c.in-Below.count c.in-Below.is c.requires.within; within = room_Below c.args.check.now c.args.at (length c.args.reader.now.giver.memory.now) c.in-Below.behind c.in-Below.bytes c.in-Below.count c.in-Below.is c.requires.within }

pub look-overflow_cast-index : goal.look-overflow_cast-index
look-overflow_cast-index t c = omega (arith, fits_Below c.args.check.now c.args.at (length c.args.reader.now.giver.memory.now) c.in-Below.behind c.in-Below.bytes c.in-Below.count c.number_at-index.result c.in-Below.is c.requires.within c.number_at-index.ensures.fits)

pub look-overflow_add-start : goal.look-overflow_add-start
look-overflow_add-start t c = omega (arith, room_Text c.args.check.now c.args.at (length c.args.reader.now.giver.memory.now) c.in-Text.behind c.in-Text.is c.requires.within, c.fits_a_slice.ensures)

pub look-number_32-pointer-requires : goal.look-number_32-pointer-requires
look-number_32-pointer-requires t c = omega (arith, room_Text c.args.check.now c.args.at (length c.args.reader.now.giver.memory.now) c.in-Text.behind c.in-Text.is c.requires.within)

pub look-overflow_add-start-in-Text : goal.look-overflow_add-start-in-Text
look-overflow_add-start-in-Text t c = omega (arith, room_Text c.args.check.now c.args.at (length c.args.reader.now.giver.memory.now) c.in-Text.behind c.in-Text.is c.requires.within, c.fits_a_slice.ensures)

pub look-number_32-tagged-requires : goal.look-number_32-tagged-requires
look-number_32-tagged-requires t c = omega (arith, room_Text c.args.check.now c.args.at (length c.args.reader.now.giver.memory.now) c.in-Text.behind c.in-Text.is c.requires.within)

pub look-overflow_add-start-in-List : goal.look-overflow_add-start-in-List
look-overflow_add-start-in-List t c = omega (arith, room_List c.args.check.now c.args.at (length c.args.reader.now.giver.memory.now) c.in-List.behind c.in-List.element c.in-List.checks c.in-List.is c.requires.within, c.fits_a_slice.ensures)

pub look-number_32-pointer-requires-in-List : goal.look-number_32-pointer-requires-in-List
look-number_32-pointer-requires-in-List t c = omega (arith, room_List c.args.check.now c.args.at (length c.args.reader.now.giver.memory.now) c.in-List.behind c.in-List.element c.in-List.checks c.in-List.is c.requires.within)

pub look-overflow_add-start-in-List-2 : goal.look-overflow_add-start-in-List-2
look-overflow_add-start-in-List-2 t c = omega (arith, room_List c.args.check.now c.args.at (length c.args.reader.now.giver.memory.now) c.in-List.behind c.in-List.element c.in-List.checks c.in-List.is c.requires.within, c.fits_a_slice.ensures)

pub look-number_32-count-requires : goal.look-number_32-count-requires
look-number_32-count-requires t c = omega (arith, room_List c.args.check.now c.args.at (length c.args.reader.now.giver.memory.now) c.in-List.behind c.in-List.element c.in-List.checks c.in-List.is c.requires.within)

pub look-overflow_add-start-in-Each : goal.look-overflow_add-start-in-Each
look-overflow_add-start-in-Each t c = omega (arith, room_Each c.args.check.now c.args.at (length c.args.reader.now.giver.memory.now) c.in-Each.behind c.in-Each.distance c.in-Each.count c.in-Each.checks c.in-Each.is c.requires.within, c.fits_a_slice.ensures)

pub look-overflow_add-start-in-Cases : goal.look-overflow_add-start-in-Cases
look-overflow_add-start-in-Cases t c = omega (arith, room_Cases c.args.check.now c.args.at (length c.args.reader.now.giver.memory.now) c.in-Cases.behind c.in-Cases.bytes c.in-Cases.offset c.in-Cases.cases c.in-Cases.is c.requires.within, c.fits_a_slice.ensures)

pub look-number_at-index-requires-in-Cases : goal.look-number_at-index-requires-in-Cases
look-number_at-index-requires-in-Cases t c = record { size = size_Cases c.args.check.now c.args.at (length c.args.reader.now.giver.memory.now) c.in-Cases.behind c.in-Cases.bytes c.in-Cases.offset c.in-Cases.cases c.in-Cases.is c.requires.within; within = room_Cases c.args.check.now c.args.at (length c.args.reader.now.giver.memory.now) c.in-Cases.behind c.in-Cases.bytes c.in-Cases.offset c.in-Cases.cases c.in-Cases.is c.requires.within }

pub look-overflow_cast-index-in-Cases : goal.look-overflow_cast-index-in-Cases
look-overflow_cast-index-in-Cases t c = omega (arith, fits_Cases c.args.check.now c.args.at (length c.args.reader.now.giver.memory.now) c.in-Cases.behind c.in-Cases.bytes c.in-Cases.offset c.number_at-index-in-Cases.result c.in-Cases.cases c.in-Cases.is c.requires.within c.number_at-index-in-Cases.ensures.fits)

pub look-overflow_add-payload : goal.look-overflow_add-payload
look-overflow_add-payload t c = omega (arith, room_payload c.args.check.now c.args.at (length c.args.reader.now.giver.memory.now) c.in-Cases.behind c.in-Cases.bytes c.in-Cases.offset c.in-Cases.cases c.in-Cases.is c.requires.within, c.fits_a_slice.ensures)

pub look-overflow_add-at-in-Handle : goal.look-overflow_add-at-in-Handle
look-overflow_add-at-in-Handle t c = omega (arith, room_Handle c.args.check.now c.args.at (length c.args.reader.now.giver.memory.now) c.in-Handle.behind c.in-Handle.wanted c.in-Handle.is c.requires.within, c.fits_a_slice.ensures)

pub look-number_32-index-requires : goal.look-number_32-index-requires
look-number_32-index-requires t c = omega (arith, room_Handle c.args.check.now c.args.at (length c.args.reader.now.giver.memory.now) c.in-Handle.behind c.in-Handle.wanted c.in-Handle.is c.requires.within)

pub look-overflow_add-at-in-Part : goal.look-overflow_add-at-in-Part
look-overflow_add-at-in-Part t c = omega (arith, room_Part c.args.check.now c.args.at (length c.args.reader.now.giver.memory.now) c.in-Part.behind c.in-Part.checks c.in-Part.is c.requires.within, c.fits_a_slice.ensures)

-- ---- elements

pub look_at_elements-returns-in_err-keep_list : goal.look_at_elements-returns-in_err-keep_list
look_at_elements-returns-in_err-keep_list t c =
    let p = err_from_is_err_and c.from_residual.result c.from_residual.ensures.1 in
    rw (p.1, p.2) (elements_stop (source_of c.args.reader.now.giver) (all_checked (source_of c.args.reader.now.giver) c.args.reader.now.maker.target (in_memory c.args.reader.now.giver.memory.now) (checks_in c.args.checks.now)) (λ q u. keeps_all (source_of c.args.reader.now.giver) c.args.reader.now.maker.target (in_memory c.args.reader.now.giver.memory.now) (checks_in c.args.checks.now) q u) c.args.element c.args.pointer c.args.count (state_of c.args.progress.now) c.args.records.now.items c.keep_list.new.records.items (state_of c.keep_list.new.progress) c.in_err-keep_list.field-0.0 c.in_err-keep_list.ensures.keeps)

pub look_at_elements-returns : goal.look_at_elements-returns
look_at_elements-returns t c =
    elements_look (source_of c.args.reader.now.giver) (all_checked (source_of c.args.reader.now.giver) c.args.reader.now.maker.target (in_memory c.args.reader.now.giver.memory.now) (checks_in c.args.checks.now)) (λ q u. keeps_all (source_of c.args.reader.now.giver) c.args.reader.now.maker.target (in_memory c.args.reader.now.giver.memory.now) (checks_in c.args.checks.now) q u) c.args.element c.args.pointer c.args.count (state_of c.args.progress.now) c.args.records.now.items c.keep_list.new.records.items c.look_at_each.new.records.items (state_of c.keep_list.new.progress) (state_of c.look_at_each.new.progress) c.look_at_each.result
    c.in_ok-keep_list.ensures.keeps c.look_at_each.ensures

-- ---- values in a row

pub look_at_each-returns-then-is_empty : goal.look_at_each-returns-then-is_empty
look_at_each-returns-then-is_empty t c =
    let none : (length c.args.checks.now == 0) ≡ true = sym c.is_empty.ensures ∙ c.if-is_empty.true in
    empty_row (source_of c.args.reader.now.giver) c.args.reader.now.maker.target (in_memory c.args.reader.now.giver.memory.now) c.args.checks.now c.args.distance c.args.count c.args.at (state_of c.args.progress.now) c.args.records.now.items none

pub look_at_each-loop-init : goal.look_at_each-loop-init
look_at_each-loop-init t c = (omega arith, row_starts (all_checked (source_of c.args.reader.now.giver) c.args.reader.now.maker.target (in_memory c.args.reader.now.giver.memory.now) (checks_in c.args.checks.now)) c.args.distance (λ q u. keeps_all (source_of c.args.reader.now.giver) c.args.reader.now.maker.target (in_memory c.args.reader.now.giver.memory.now) (checks_in c.args.checks.now) q u) c.args.count c.args.at c.args.records.now.items (state_of c.args.progress.now))

pub look_at_each-look_at-requires : goal.look_at_each-look_at-requires
look_at_each-look_at-requires t c =
    let lie : LieWithin (checks_in c.args.checks.now) c.loop.next (length c.args.reader.now.giver.memory.now) = row_lies c.args.checks.now c.args.at (length c.args.reader.now.giver.memory.now) c.args.distance c.args.count c.loop.counter c.loop.next c.requires.each c.requires.within c.loop-test.true c.loop.invariant.0 in
    (search (rules, the_lemmas), search (rules, the_lemmas, lie))

pub look_at_each-overflow_add-next : goal.look_at_each-overflow_add-next
look_at_each-overflow_add-next t c =
    omega (arith, row_room c.args.at (length c.args.reader.now.giver.memory.now) c.args.distance c.args.count c.loop.counter c.loop.next c.requires.within c.loop-test.true c.loop.invariant.0, c.fits_a_slice.ensures)

pub look_at_each-returns-in_err-look_at : goal.look_at_each-returns-in_err-look_at
look_at_each-returns-in_err-look_at t c =
    let p = err_from_is_err_and c.from_residual.result c.from_residual.ensures.1 in
    rw (p.1, p.2) (row_halt (all_checked (source_of c.args.reader.now.giver) c.args.reader.now.maker.target (in_memory c.args.reader.now.giver.memory.now) (checks_in c.args.checks.now)) c.args.distance (λ q u. keeps_all (source_of c.args.reader.now.giver) c.args.reader.now.maker.target (in_memory c.args.reader.now.giver.memory.now) (checks_in c.args.checks.now) q u) c.args.count c.loop.counter c.loop.next _ c.args.records.now.items c.loop.records.items (state_of c.args.progress.now) (state_of c.loop.progress) (state_of c.look_at.new.progress) c.in_err-look_at.field-0.0
    c.loop-test.true c.loop.invariant.1 c.in_err-look_at.ensures)

pub look_at_each-loop-preserved : goal.look_at_each-loop-preserved
look_at_each-loop-preserved t c = (
  next_row c.loop.next c.args.at c.loop.counter c.args.distance c.loop.invariant.0,
  row_turn (all_checked (source_of c.args.reader.now.giver) c.args.reader.now.maker.target (in_memory c.args.reader.now.giver.memory.now) (checks_in c.args.checks.now)) c.args.distance (λ q u. keeps_all (source_of c.args.reader.now.giver) c.args.reader.now.maker.target (in_memory c.args.reader.now.giver.memory.now) (checks_in c.args.checks.now) q u) c.args.count c.loop.counter c.loop.next (c.loop.next + c.args.distance) _ c.args.records.now.items c.loop.records.items c.look_at.new.records.items (state_of c.args.progress.now) (state_of c.loop.progress) (state_of c.look_at.new.progress)
      c.loop-test.true refl c.loop.invariant.1 c.in_ok-look_at.ensures,
)

pub look_at_each-returns : goal.look_at_each-returns
look_at_each-returns t c =
    row_end (all_checked (source_of c.args.reader.now.giver) c.args.reader.now.maker.target (in_memory c.args.reader.now.giver.memory.now) (checks_in c.args.checks.now)) c.args.distance (λ q u. keeps_all (source_of c.args.reader.now.giver) c.args.reader.now.maker.target (in_memory c.args.reader.now.giver.memory.now) (checks_in c.args.checks.now) q u) c.args.count c.loop.counter c.loop.next _ c.args.records.now.items c.loop.records.items (state_of c.args.progress.now) (state_of c.loop.progress) c.loop-test.false c.loop.invariant.1

use Rattle.std.proofs.Common.{rules, ◌≡◌, ◌∙◌, ◌+◌, ◌<◌, ◌≤◌, ap, arith, length, get_or, refl, subst, sym}
use Rattle.std.proofs.lemmas.Result.{err_from_is_err_and}
use Rattle.cm_abi_load.specs.Outcomes.{state_of}
use Rattle.cm_abi_load.specs.Reading.{source_of}
use Rattle.cm_abi_programs.specs.Coded.{check_of, checks_in}
use Rattle.cm_abi_programs.specs.declared.checks.Check.{the_lemmas}
use Rattle.cm_abi_running.specs.Checking.{all_checked, in_slots}
use Rattle.cm_abi_running.specs.Within.{AreBehind, IsBehind}
use Rattle.cm_abi_running.proofs.LookingLemmas.{checks_end, checks_halt, checks_turn, keeps_all, row_starts, starts}
use Rattle.cm_abi_running.proofs.LookLemmas.{look_Below, look_Case, look_Char, look_Each, look_Handle, look_List, look_Part, look_Text, look_past}
use Rattle.cm_abi_running.proofs.FlatLookingLemmas.{flat_row_end, flat_row_halt, flat_row_turn, part_looked, payload_looked, row_looked, zero_next, zero_slot}
use Rattle.cm_abi_running.proofs.RoomLemmas.{aligned_behind, elements_behind, one_behind, part_behind, payload_behind, row_behind}
use Rattle.cm_abi_running.proofs.looking_flat.+looking_flat.Goals as goal

-- ---- checks in order

pub look_at_flat-loop-check-init : goal.look_at_flat-loop-check-init
look_at_flat-loop-check-init t c = starts _ c.args.records.now.items (state_of c.args.progress.now)

pub look_at_flat-look_flat-requires : goal.look_at_flat-look_flat-requires
look_at_flat-look_flat-requires t c =
    let one : IsBehind (check_of c.check-item.result) = one_behind c.args.checks.now c.loop-check.check-index c.check-item.result c.loop-check-test.true c.check-item.is c.requires.behind in
    (search (rules, the_lemmas), search (rules, the_lemmas, one))

pub look_at_flat-returns-in_err-look_flat : goal.look_at_flat-returns-in_err-look_flat
look_at_flat-returns-in_err-look_flat t c =
    let p = err_from_is_err_and c.from_residual.result c.from_residual.ensures.1 in
    rw (p.1, p.2) (checks_halt (source_of c.args.reader.now.giver) c.args.reader.now.maker.target (in_slots c.args.slots.now) c.args.checks.now c.loop-check.check-index 0 c.check-item.result _ c.args.records.now.items c.loop-check.records.items (state_of c.args.progress.now) (state_of c.loop-check.progress) (state_of c.look_flat.new.progress) c.in_err-look_flat.field-0.0
    c.loop-check-test.true c.check-item.is c.loop-check.invariant c.in_err-look_flat.ensures)

pub look_at_flat-loop-check-preserved : goal.look_at_flat-loop-check-preserved
look_at_flat-loop-check-preserved t c =
    checks_turn (source_of c.args.reader.now.giver) c.args.reader.now.maker.target (in_slots c.args.slots.now) c.args.checks.now c.loop-check.check-index 0 c.check-item.result _ c.args.records.now.items c.loop-check.records.items c.look_flat.new.records.items (state_of c.args.progress.now) (state_of c.loop-check.progress) (state_of c.look_flat.new.progress)
    c.loop-check-test.true c.check-item.is c.loop-check.invariant c.in_ok-look_flat.ensures

pub look_at_flat-returns : goal.look_at_flat-returns
look_at_flat-returns t c =
    checks_end (source_of c.args.reader.now.giver) c.args.reader.now.maker.target (in_slots c.args.slots.now) c.args.checks.now c.loop-check.check-index 0 _ c.args.records.now.items c.loop-check.records.items (state_of c.args.progress.now) (state_of c.loop-check.progress) c.loop-check-test.false c.loop-check.invariant

-- ---- a check

pub look_flat-returns-in-Char : goal.look_flat-returns-in-Char
look_flat-returns-in-Char t c =
    look_Char (source_of c.args.reader.now.giver) c.args.reader.now.maker.target (in_slots c.args.slots.now) c.args.check.now 0 (state_of c.args.progress.now) (state_of c.args.progress.now) c.args.records.now.items c.args.records.now.items c.look_at_char.result c.in-Char.at c.number_32.result c.in-Char.is (c.number_32.ensures ∙ zero_slot c.args.slots.now c.in-Char.at) (c.look_at_char.ensures (state_of c.args.progress.now) c.args.records.now.items)

pub look_flat-returns-in-Below : goal.look_flat-returns-in-Below
look_flat-returns-in-Below t c =
    look_Below (source_of c.args.reader.now.giver) c.args.reader.now.maker.target (in_slots c.args.slots.now) c.args.check.now 0 (state_of c.args.progress.now) (state_of c.args.progress.now) c.args.records.now.items c.args.records.now.items c.look_at_case.result c.in-Below.at c.in-Below.bytes c.in-Below.count c.number_32-in-Below.result c.in-Below.is (c.number_32-in-Below.ensures ∙ zero_slot c.args.slots.now c.in-Below.at) (c.look_at_case.ensures (state_of c.args.progress.now) c.args.records.now.items)

pub look_flat-returns-in-Text : goal.look_flat-returns-in-Text
look_flat-returns-in-Text t c =
    look_Text (source_of c.args.reader.now.giver) c.args.reader.now.maker.target (in_slots c.args.slots.now) c.args.check.now 0 (state_of c.args.progress.now) (state_of c.look_at_text.new.progress) c.args.records.now.items c.look_at_text.new.records.items c.look_at_text.result c.in-Text.at c.number_32-pointer.result c.number_32-tagged.result c.in-Text.is (c.number_32-pointer.ensures ∙ zero_slot c.args.slots.now c.in-Text.at) (c.number_32-tagged.ensures ∙ zero_next c.args.slots.now c.in-Text.at) c.look_at_text.ensures

pub look_flat-returns-in-List : goal.look_flat-returns-in-List
look_flat-returns-in-List t c =
    look_List (source_of c.args.reader.now.giver) c.args.reader.now.maker.target (in_slots c.args.slots.now) c.args.check.now 0 (state_of c.args.progress.now) (state_of c.look_at_elements.new.progress) c.args.records.now.items c.look_at_elements.new.records.items c.look_at_elements.result c.in-List.at c.number_32-pointer-in-List.result c.number_32-count.result c.in-List.element c.in-List.checks c.deref-in-List.result.now c.in-List.is (c.deref-in-List.ensures.value ∙ ap (λ v. v.items) c.deref.ensures) (c.number_32-pointer-in-List.ensures ∙ zero_slot c.args.slots.now c.in-List.at) (c.number_32-count.ensures ∙ zero_next c.args.slots.now c.in-List.at) c.look_at_elements.ensures

pub look_flat-returns-in-Each : goal.look_flat-returns-in-Each
look_flat-returns-in-Each t c =
    look_Each (source_of c.args.reader.now.giver) c.args.reader.now.maker.target (in_slots c.args.slots.now) c.args.check.now 0 (state_of c.args.progress.now) (state_of c.look_at_flat_each.new.progress) c.args.records.now.items c.look_at_flat_each.new.records.items c.look_at_flat_each.result c.in-Each.at c.in-Each.distance c.in-Each.count c.in-Each.checks c.deref-in-Each-2.result.now c.in-Each.is (c.deref-in-Each-2.ensures.value ∙ ap (λ v. v.items) c.deref-in-Each.ensures)
    (row_looked (source_of c.args.reader.now.giver) c.args.reader.now.maker.target c.args.slots.now c.behind-row.result.now c.args.records.now.items c.look_at_flat_each.new.records.items (state_of c.args.progress.now) (state_of c.look_at_flat_each.new.progress) c.look_at_flat_each.result (checks_in c.deref-in-Each-2.result.now) c.in-Each.distance c.in-Each.count c.in-Each.at c.behind-row.ensures c.look_at_flat_each.ensures)

pub look_flat-returns-in-Some : goal.look_flat-returns-in-Some
look_flat-returns-in-Some t c =
    let cases_are : c.deref-in-Cases-2.result.now ≡ c.in-Cases.cases.value.items = c.deref-in-Cases-2.ensures.value ∙ ap (λ v. v.items) c.deref-in-Cases.ensures in
    let lt : c.number_32-index.result < length c.in-Cases.cases.value.items = subst (λ xs. c.number_32-index.result < length xs) cases_are c.in-Some.ensures.lookup.3.0 in
    let there : c.in-Some.case.now ≡ get_or c.in-Cases.cases.value.items c.number_32-index.result c.in-Some.case.now = subst (λ xs. c.in-Some.case.now ≡ get_or xs c.number_32-index.result c.in-Some.case.now) cases_are c.in-Some.ensures.lookup.1 in
    look_Case (source_of c.args.reader.now.giver) c.args.reader.now.maker.target (in_slots c.args.slots.now) c.args.check.now 0 (state_of c.args.progress.now) (state_of c.look_at_flat.new.progress) c.args.records.now.items c.look_at_flat.new.records.items c.look_at_flat.result c.in-Cases.at c.in-Cases.bytes c.in-Cases.offset c.number_32-index.result c.in-Cases.cases c.in-Some.case.now c.deref-in-Some-2.result.now c.in-Cases.is (c.number_32-index.ensures ∙ zero_slot c.args.slots.now c.in-Cases.at)
    lt there (c.deref-in-Some-2.ensures.value ∙ ap (λ v. v.items) c.deref-in-Some.ensures)
    (payload_looked (source_of c.args.reader.now.giver) c.args.reader.now.maker.target c.args.slots.now c.behind-payload.result.now c.args.records.now.items c.look_at_flat.new.records.items (state_of c.args.progress.now) (state_of c.look_at_flat.new.progress) c.look_at_flat.result (checks_in c.deref-in-Some-2.result.now) c.in-Cases.at c.in-Cases.offset c.behind.result.now c.behind.ensures c.behind-payload.ensures c.look_at_flat.ensures)

pub look_flat-returns-in-None : goal.look_flat-returns-in-None
look_flat-returns-in-None t c =
    let cases_are : c.deref-in-Cases-2.result.now ≡ c.in-Cases.cases.value.items = c.deref-in-Cases-2.ensures.value ∙ ap (λ v. v.items) c.deref-in-Cases.ensures in
    let past : length c.in-Cases.cases.value.items ≤ c.number_32-index.result = subst (λ xs. length xs ≤ c.number_32-index.result) cases_are c.in-None.ensures.lookup.3 in
    look_past (source_of c.args.reader.now.giver) c.args.reader.now.maker.target (in_slots c.args.slots.now) c.args.check.now 0 (state_of c.args.progress.now) c.in-Cases.at c.in-Cases.bytes c.in-Cases.offset c.number_32-index.result c.in-Cases.cases c.in-Cases.is (c.number_32-index.ensures ∙ zero_slot c.args.slots.now c.in-Cases.at) past

pub look_flat-returns-in-Handle : goal.look_flat-returns-in-Handle
look_flat-returns-in-Handle t c =
    look_Handle (source_of c.args.reader.now.giver) c.args.reader.now.maker.target (in_slots c.args.slots.now) c.args.check.now 0 (state_of c.args.progress.now) (state_of c.look_at_handle.new.progress) c.args.records.now.items c.args.records.now.items c.look_at_handle.result c.in-Handle.at c.number_32-index-in-Handle.result c.in-Handle.wanted c.in-Handle.is (c.number_32-index-in-Handle.ensures ∙ zero_slot c.args.slots.now c.in-Handle.at) (c.look_at_handle.ensures c.args.records.now)

pub look_flat-returns-in-Part : goal.look_flat-returns-in-Part
look_flat-returns-in-Part t c =
    look_Part (source_of c.args.reader.now.giver) c.args.reader.now.maker.target (in_slots c.args.slots.now) c.args.check.now 0 (state_of c.args.progress.now) (state_of c.look_at_flat-in-Part.new.progress) c.args.records.now.items c.look_at_flat-in-Part.new.records.items c.look_at_flat-in-Part.result c.in-Part.at c.in-Part.checks c.deref-in-Part-2.result.now c.in-Part.is (c.deref-in-Part-2.ensures.value ∙ ap (λ v. v.items) c.deref-in-Part.ensures)
    (part_looked (source_of c.args.reader.now.giver) c.args.reader.now.maker.target c.args.slots.now c.behind-in-Part.result.now c.args.records.now.items c.look_at_flat-in-Part.new.records.items (state_of c.args.progress.now) (state_of c.look_at_flat-in-Part.new.progress) c.look_at_flat-in-Part.result (checks_in c.deref-in-Part-2.result.now) c.in-Part.at c.behind-in-Part.ensures c.look_at_flat-in-Part.ensures)

pub look_flat-look_at_elements-requires : goal.look_flat-look_at_elements-requires
look_flat-look_at_elements-requires t c =
    let aligned = aligned_behind c.args.check.now c.in-List.at c.in-List.element c.in-List.checks c.in-List.is c.requires.behind in
    let each = elements_behind c.args.check.now c.in-List.at c.in-List.element c.in-List.checks c.deref-in-List.result.now c.in-List.is c.requires.behind (c.deref-in-List.ensures.value ∙ ap (λ v. v.items) c.deref.ensures) in
    search (rules, the_lemmas, aligned, each)

pub look_flat-look_at_flat_each-requires : goal.look_flat-look_at_flat_each-requires
look_flat-look_at_flat_each-requires t c =
    let lies = row_behind c.args.check.now c.in-Each.at c.in-Each.distance c.in-Each.count c.in-Each.checks c.deref-in-Each-2.result.now c.in-Each.is c.requires.behind (c.deref-in-Each-2.ensures.value ∙ ap (λ v. v.items) c.deref-in-Each.ensures) in
    (search (rules, the_lemmas), search (rules, the_lemmas, lies))

pub look_flat-look_at_flat-requires : goal.look_flat-look_at_flat-requires
look_flat-look_at_flat-requires t c =
    let cases_are : c.deref-in-Cases-2.result.now ≡ c.in-Cases.cases.value.items = c.deref-in-Cases-2.ensures.value ∙ ap (λ v. v.items) c.deref-in-Cases.ensures in
    let lt : c.number_32-index.result < length c.in-Cases.cases.value.items = subst (λ xs. c.number_32-index.result < length xs) cases_are c.in-Some.ensures.lookup.3.0 in
    let there : c.in-Some.case.now ≡ get_or c.in-Cases.cases.value.items c.number_32-index.result c.in-Some.case.now = subst (λ xs. c.in-Some.case.now ≡ get_or xs c.number_32-index.result c.in-Some.case.now) cases_are c.in-Some.ensures.lookup.1 in
    let lies = payload_behind c.args.check.now c.in-Cases.at c.in-Cases.bytes c.in-Cases.offset c.in-Cases.cases c.number_32-index.result c.in-Some.case.now c.deref-in-Some-2.result.now c.in-Cases.is c.requires.behind lt there (c.deref-in-Some-2.ensures.value ∙ ap (λ v. v.items) c.deref-in-Some.ensures) in
    (search (rules, the_lemmas, lt), search (rules, the_lemmas, lies))

pub look_flat-look_at_flat-requires-in-Part : goal.look_flat-look_at_flat-requires-in-Part
look_flat-look_at_flat-requires-in-Part t c =
    let lies = part_behind c.args.check.now c.in-Part.at c.in-Part.checks c.deref-in-Part-2.result.now c.in-Part.is c.requires.behind (c.deref-in-Part-2.ensures.value ∙ ap (λ v. v.items) c.deref-in-Part.ensures) in
    (search (rules, the_lemmas), search (rules, the_lemmas, lies))

-- ---- values in a row

pub look_at_flat_each-loop-init : goal.look_at_flat_each-loop-init
look_at_flat_each-loop-init t c =
    row_starts (all_checked (source_of c.args.reader.now.giver) c.args.reader.now.maker.target (in_slots c.args.slots.now) (checks_in c.args.checks.now)) c.args.distance (λ q u. keeps_all (source_of c.args.reader.now.giver) c.args.reader.now.maker.target (in_slots c.args.slots.now) (checks_in c.args.checks.now) q u) c.args.count 0 c.args.records.now.items (state_of c.args.progress.now)

pub look_at_flat_each-returns-in_err-look_at_flat : goal.look_at_flat_each-returns-in_err-look_at_flat
look_at_flat_each-returns-in_err-look_at_flat t c =
    let p = err_from_is_err_and c.from_residual.result c.from_residual.ensures.1 in
    rw (p.1, p.2) (flat_row_halt (source_of c.args.reader.now.giver) c.args.reader.now.maker.target (checks_in c.args.checks.now) c.loop.rest.now c.args.distance c.args.count c.loop.counter _ c.args.records.now.items c.loop.records.items (state_of c.args.progress.now) (state_of c.loop.progress) (state_of c.look_at_flat.new.progress) c.in_err-look_at_flat.field-0.0
    c.loop-test.true c.loop.invariant c.in_err-look_at_flat.ensures)

pub look_at_flat_each-loop-preserved : goal.look_at_flat_each-loop-preserved
look_at_flat_each-loop-preserved t c =
    flat_row_turn (source_of c.args.reader.now.giver) c.args.reader.now.maker.target (checks_in c.args.checks.now) c.loop.rest.now c.args.distance c.behind-rest.result.now c.args.count c.loop.counter _ c.args.records.now.items c.loop.records.items c.look_at_flat.new.records.items (state_of c.args.progress.now) (state_of c.loop.progress) (state_of c.look_at_flat.new.progress)
    c.loop-test.true c.behind-rest.ensures c.loop.invariant c.in_ok-look_at_flat.ensures

pub look_at_flat_each-returns : goal.look_at_flat_each-returns
look_at_flat_each-returns t c =
    flat_row_end (source_of c.args.reader.now.giver) c.args.reader.now.maker.target (checks_in c.args.checks.now) c.loop.rest.now c.args.distance c.args.count c.loop.counter _ c.args.records.now.items c.loop.records.items (state_of c.args.progress.now) (state_of c.loop.progress) c.loop-test.false c.loop.invariant

use Rattle.std.proofs.Common.{◌≡◌, ◌∙◌, ap, sym, map, true, false}
use Rattle.cm_abi_programs.specs.Puts.{are_unwritten, cases_put, one_put}
use Rattle.cm_abi_programs.specs.CodedPuts.{case_of, case_puts_from, put_lists, puts_in}
use Rattle.cm_abi_programs.proofs.PutForms.{seen_Cases, seen_Run}
use Rattle.cm_abi_programs.proofs.PutMakingLemmas.{cases_none, cases_some}
use Rattle.cm_abi_programs.proofs.ShapeLemmas.{becomes}
use Rattle.cm_abi_programs.proofs.listed_puts.cases_puts.Goals as goal

pub returns-then-are_unwritten : goal.returns-then-are_unwritten
returns-then-are_unwritten c =
    let none : are_unwritten (case_puts_from (put_lists c.args.cases.items)) ≡ true =
    sym (c.are_unwritten.ensures ∙ ap (λ xs. are_unwritten (case_puts_from (put_lists xs))) c.deref.ensures.value) ∙ c.if-are_unwritten.true in
    becomes puts_in c.one_put.result _ _
    (ap one_put (seen_Run 0 c.args.bytes) ∙ sym (cases_none c.args.bytes c.args.offset (case_puts_from (put_lists c.args.cases.items)) none)) c.one_put.ensures

pub returns : goal.returns
returns c =
    let some : are_unwritten (case_puts_from (put_lists c.args.cases.items)) ≡ false =
    sym (c.are_unwritten.ensures ∙ ap (λ xs. are_unwritten (case_puts_from (put_lists xs))) c.deref.ensures.value) ∙ c.if-are_unwritten.false in
    let same : map case_of c.in_ok-cases.cases.value.items ≡ put_lists c.args.cases.items =
    ap (λ v. map case_of v.items) c.in_ok-cases.ensures.ok ∙ (c.in_ok-case_puts.ensures ∙ ap put_lists c.deref-2.ensures.value) in
    becomes puts_in c.one_put-2.result _ _
    (ap one_put (seen_Cases 0 c.args.bytes c.args.offset c.in_ok-cases.cases)
    ∙ (ap (λ cs. one_put (cases_put 0 c.args.bytes c.args.offset (case_puts_from cs))) same ∙ sym (cases_some c.args.bytes c.args.offset (case_puts_from (put_lists c.args.cases.items)) some))) c.one_put-2.ensures

use Rattle.std.proofs.Common.{◌≡◌, ◌∙◌, ap, sym, length, map, true, false}
use Rattle.cm_abi_programs.specs.Checks.{are_unchecked, below_check, cases_check, one_check}
use Rattle.cm_abi_programs.specs.Coded.{case_of, cases_from, check_lists, checks_in}
use Rattle.cm_abi_programs.proofs.CheckForms.{seen_Below, seen_Cases}
use Rattle.cm_abi_programs.proofs.MakingLemmas.{cases_none, cases_some}
use Rattle.cm_abi_programs.proofs.ShapeLemmas.{becomes}
use Rattle.cm_abi_programs.proofs.listed_checks.cases_checks.Goals as goal

pub returns-then-are_unchecked : goal.returns-then-are_unchecked
returns-then-are_unchecked c =
    let none : are_unchecked (cases_from (check_lists c.args.cases.items)) ≡ true =
    sym (c.are_unchecked.ensures ∙ ap (λ xs. are_unchecked (cases_from (check_lists xs))) c.deref.ensures.value) ∙ c.if-are_unchecked.true in
    let count : c.len-count.result ≡ length c.args.cases.items = c.len-count.ensures ∙ c.args.cases.ok.0 in
    becomes checks_in c.one_check.result _ _
    (ap one_check (seen_Below 0 c.args.bytes c.len-count.result) ∙ (ap (λ n. one_check (below_check 0 c.args.bytes n)) count ∙ sym (cases_none c.args.bytes c.args.offset c.args.cases.items none))) c.one_check.ensures

pub returns : goal.returns
returns c =
    let some : are_unchecked (cases_from (check_lists c.args.cases.items)) ≡ false =
    sym (c.are_unchecked.ensures ∙ ap (λ xs. are_unchecked (cases_from (check_lists xs))) c.deref.ensures.value) ∙ c.if-are_unchecked.false in
    let same : map case_of c.in_ok-cases.cases.value.items ≡ check_lists c.args.cases.items =
    ap (λ v. map case_of v.items) c.in_ok-cases.ensures.ok ∙ (c.in_ok-case_checks.ensures ∙ ap check_lists c.deref-2.ensures.value) in
    becomes checks_in c.one_check-2.result _ _
    (ap one_check (seen_Cases 0 c.args.bytes c.args.offset c.in_ok-cases.cases)
    ∙ (ap (λ cs. one_check (cases_check 0 c.args.bytes c.args.offset (cases_from cs))) same ∙ sym (cases_some c.args.bytes c.args.offset (cases_from (check_lists c.args.cases.items)) some))) c.one_check-2.ensures

use Rattle.std.proofs.Common.{◌≡◌, ◌∙◌, ap, sym, true, false}
use Rattle.cm_abi_programs.specs.Checks.{is_unchecked, no_checks, one_check}
use Rattle.cm_abi_programs.specs.Coded.{checks_in}
use Rattle.cm_abi_programs.proofs.CheckForms.{seen_Each}
use Rattle.cm_abi_programs.proofs.MakingLemmas.{row_none, row_some}
use Rattle.cm_abi_programs.proofs.ShapeLemmas.{becomes}
use Rattle.cm_abi_programs.proofs.listed_checks.row_checks.Goals as goal

pub returns-then-is_unchecked : goal.returns-then-is_unchecked
returns-then-is_unchecked c =
    let items : c.deref-2.result.now ≡ c.args.checks.value.items = c.deref-2.ensures.value ∙ ap (λ v. v.items) c.deref.ensures in
    let none : is_unchecked (checks_in c.args.checks.value.items) ≡ true = sym (c.is_unchecked.ensures ∙ ap (λ xs. is_unchecked (checks_in xs)) items) ∙ c.if-is_unchecked.true in
    let empty : checks_in c.new.result.items ≡ no_checks = ap checks_in c.new.ensures.items in
    empty ∙ sym (row_none c.args.distance c.args.count (checks_in c.args.checks.value.items) none)

pub returns : goal.returns
returns c =
    let items : c.deref-2.result.now ≡ c.args.checks.value.items = c.deref-2.ensures.value ∙ ap (λ v. v.items) c.deref.ensures in
    let some : is_unchecked (checks_in c.args.checks.value.items) ≡ false = sym (c.is_unchecked.ensures ∙ ap (λ xs. is_unchecked (checks_in xs)) items) ∙ c.if-is_unchecked.false in
    becomes checks_in c.one_check.result _ _
    (ap one_check (seen_Each 0 c.args.distance c.args.count c.args.checks) ∙ sym (row_some c.args.distance c.args.count (checks_in c.args.checks.value.items) some)) c.one_check.ensures

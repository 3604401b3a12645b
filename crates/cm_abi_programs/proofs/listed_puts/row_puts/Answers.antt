use Rattle.std.proofs.Common.{◌≡◌, ◌∙◌, ap, sym, true, false}
use Rattle.cm_abi_programs.specs.Puts.{is_bulk_of, one_put, run_put}
use Rattle.cm_abi_programs.specs.CodedPuts.{puts_in}
use Rattle.cm_abi_programs.proofs.PutForms.{seen_Each, seen_Run}
use Rattle.cm_abi_programs.proofs.PutMakingLemmas.{row_bulk, row_each}
use Rattle.cm_abi_programs.proofs.ShapeLemmas.{becomes}
use Rattle.cm_abi_programs.proofs.listed_puts.row_puts.Goals as goal

pub returns-then-is_bulk_of : goal.returns-then-is_bulk_of
returns-then-is_bulk_of c =
    let items : c.deref-2.result.now ≡ c.args.puts.value.items = c.deref-2.ensures.value ∙ ap (λ v. v.items) c.deref.ensures in
    let bulk : is_bulk_of c.args.distance (puts_in c.args.puts.value.items) ≡ true = sym (c.is_bulk_of.ensures ∙ ap (λ xs. is_bulk_of c.args.distance (puts_in xs)) items) ∙ c.if-is_bulk_of.true in
    becomes puts_in c.one_put.result _ _
    (ap one_put (seen_Run 0 c.in_ok-length.length ∙ ap (λ n. run_put 0 n) c.in_ok-length.ensures) ∙ sym (row_bulk c.args.distance c.args.count (puts_in c.args.puts.value.items) bulk)) c.one_put.ensures

pub returns : goal.returns
returns c =
    let items : c.deref-2.result.now ≡ c.args.puts.value.items = c.deref-2.ensures.value ∙ ap (λ v. v.items) c.deref.ensures in
    let each : is_bulk_of c.args.distance (puts_in c.args.puts.value.items) ≡ false = sym (c.is_bulk_of.ensures ∙ ap (λ xs. is_bulk_of c.args.distance (puts_in xs)) items) ∙ c.if-is_bulk_of.false in
    becomes puts_in c.one_put-2.result _ _
    (ap one_put (seen_Each 0 c.args.distance c.args.count c.args.puts) ∙ sym (row_each c.args.distance c.args.count (puts_in c.args.puts.value.items) each)) c.one_put-2.ensures

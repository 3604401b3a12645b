use Rattle.std.proofs.Common.{ap, sym, ◌∙◌}
use Rattle.std.proofs.lemmas.Result.{err_from_is_err_and}
use Rattle.cm_lemmas.proofs.Results.{ok_of}
use Rattle.cm_types.specs.Values.{Val}
use Rattle.cm_types.proofs.ValuesLaws.{seen_bare}
use Rattle.cm_values.specs.declared.value_fault.Fault.{Fault}
use Rattle.cm_values.proofs.CaseReads.{enum_fails, enum_reads}
use Rattle.cm_values.proofs.reader.read_enum.Goals as goal

pub returns-in_err-index : goal.returns-in_err-index
returns-in_err-index c =
    let p = err_from_is_err_and c.from_residual.result c.from_residual.ensures.1 in
    rw (p.1, p.2) (enum_fails c.args.labels.now c.in_err-index.field-0.0 c.args.cursor.now.rest.now c.in_err-index.ensures.place)

pub returns : goal.returns
returns c =
    let rest = c.read_enum_name.new.cursor.rest.now in
    enum_reads c.args.labels.now c.in_ok-index.index c.args.cursor.now.rest.now rest c.in_ok-index.ensures.within c.in_ok-index.ensures.place
    ∙ ap (λ (v : Val). ok_of Fault (v, rest)) (sym (seen_bare c.in_ok-index.index))

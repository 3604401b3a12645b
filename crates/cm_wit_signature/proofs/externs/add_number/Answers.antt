use Rattle.std.proofs.Common.{rules}
use Rattle.cm_wit_signature.proofs.externs.add_number.Goals as goal

pub returns-in_err-add_instance-clause-fault : goal.returns-in_err-add_instance-clause-fault
returns-in_err-add_instance-clause-fault c = λ ns.
    let h = c.in_err-add_instance.ensures.fault ns in
    search (rules, h)

pub returns-in_err-add_own_func-clause-fault : goal.returns-in_err-add_own_func-clause-fault
returns-in_err-add_own_func-clause-fault c = λ ns.
    let h = c.in_err-add_own_func.ensures.fault ns in
    search (rules, h)

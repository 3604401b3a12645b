use Rattle.std.proofs.Common.{ℕ, List, OnOk, ◌<◌, length, subst, sym, rules}
use Rattle.cm_wit_package.specs.Appends.{Appends}
use Rattle.cm_wit_package.proofs.PrintLaws.{rest_some}
use Rattle.cm_wit_package.proofs.interfaces.print_resource_rest.Goals as goal

pub returns : goal.returns
returns c =
    let some : 0 < length c.args.funcs.now = search rules in
    subst (λ (z : List ℕ). OnOk c.print_resource_funcs.result (Appends z c.args.out.now c.print_resource_funcs.new.out)) (sym (rest_some c.args.funcs.now some)) c.print_resource_funcs.ensures

use Rattle.std.proofs.Common.{◌≡◌, arith}
use Rattle.std.proofs.lemmas.Bool.Decides.{nat_tests}
use Rattle.std.specs.Prelude.{true, false}
use Rattle.cm_types.specs.TypedValues.{is_scalar_value}
use Rattle.cm_abi_running.proofs.LookLemmas.{bad_char, fine_char}
use Rattle.cm_abi_running.proofs.looking.look_at_char.Goals as goal

pub returns-in-Some : goal.returns-in-Some
returns-in-Some c = λ s rs.
    let fine : is_scalar_value c.args.number ≡ true = grind (arith, nat_tests, c.in-Some.ensures.cases) in
    fine_char c.args.number s rs fine

pub returns-in-None : goal.returns-in-None
returns-in-None c = λ s rs.
    let bad : is_scalar_value c.args.number ≡ false = grind (arith, nat_tests, c.in-None.ensures.cases) in
    bad_char c.args.number s bad

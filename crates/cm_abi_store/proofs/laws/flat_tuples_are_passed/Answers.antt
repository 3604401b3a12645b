use Rattle.cm_abi_store.proofs.CallLemmas.{bytes_flat, numbers_flat, when_flat}
use Rattle.cm_abi_store.proofs.laws.flat_tuples_are_passed.Goals as goal

pub returns-clause-ready : goal.returns-clause-ready
returns-clause-ready c = λ l way types limit v target g n slots limit_is l_is charset_is provided under.
    when_flat l way types limit v target g n slots c.layouts_are_passed.ensures c.placed_values_fit.ensures limit_is l_is charset_is provided under

pub returns-clause-bytes : goal.returns-clause-bytes
returns-clause-bytes c = λ l way types limit v g limit_is l_is typed under. bytes_flat l way types limit v g limit_is l_is typed c.layouts_pass_what_types_do.ensures.behind under

pub returns-clause-numbers : goal.returns-clause-numbers
returns-clause-numbers c = λ l way types limit v g limit_is l_is typed under. numbers_flat l way types limit v g limit_is l_is typed c.layouts_pass_what_types_do.ensures.slots under

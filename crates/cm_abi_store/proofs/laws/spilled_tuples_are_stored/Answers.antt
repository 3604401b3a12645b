use Rattle.cm_abi_store.proofs.CallLemmas.{bytes_spilled, numbers_spilled, when_spilled}
use Rattle.cm_abi_store.proofs.laws.spilled_tuples_are_stored.Goals as goal

pub returns-clause-ready : goal.returns-clause-ready
returns-clause-ready c = λ l way types limit v target g n slots limit_is l_is charset_is provided over.
    when_spilled l way types limit v target g n slots c.layouts.ensures.laid c.placed_values_fit.ensures limit_is l_is charset_is provided over

pub returns-clause-bytes : goal.returns-clause-bytes
returns-clause-bytes c = λ l way types limit v g limit_is l_is typed over. bytes_spilled l way types limit v g limit_is l_is typed c.layouts_store_what_types_do.ensures over

pub returns-clause-numbers : goal.returns-clause-numbers
returns-clause-numbers c = λ l way types limit v g limit_is l_is typed over. numbers_spilled l way types limit v g limit_is l_is typed over

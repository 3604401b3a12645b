use Rattle.std.proofs.Common.{◌∙◌}
use Rattle.cm_abi_model.specs.Taken.{met}
use Rattle.cm_abi_copy.proofs.FoundLaws.{found_leaves, found_wanted}
use Rattle.cm_abi_copy.proofs.LeafLaws.{passed}
use Rattle.cm_abi_copy.proofs.met_laws.handles_that_are_met_are_the_values.Goals as goal

pub returns-clause-met : goal.returns-clause-met
returns-clause-met c = λ w way types slots v denoted. passed w way types slots v denoted

pub returns-clause-found : goal.returns-clause-found
returns-clause-found c = λ w way types slots v before after denoted none met_in.
    found_leaves w.table before after (met w way types slots v) none met_in ∙ passed w way types slots v denoted

pub returns-clause-wanted : goal.returns-clause-wanted
returns-clause-wanted c = λ w way types slots v before after none met_in. found_wanted w.table before after (met w way types slots v) none met_in

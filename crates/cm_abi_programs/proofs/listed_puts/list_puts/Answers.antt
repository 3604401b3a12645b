use Rattle.std.proofs.Common.{ap}
use Rattle.cm_abi_programs.specs.Puts.{one_put}
use Rattle.cm_abi_programs.specs.CodedPuts.{puts_in}
use Rattle.cm_abi_programs.proofs.PutForms.{seen_List}
use Rattle.cm_abi_programs.proofs.ShapeLemmas.{becomes}
use Rattle.cm_abi_programs.proofs.listed_puts.list_puts.Goals as goal

pub returns : goal.returns
returns c = becomes puts_in c.one_put.result _ _ (ap one_put (seen_List 0 c.args.size c.args.puts)) c.one_put.ensures

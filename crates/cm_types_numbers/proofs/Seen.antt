-- What type each kind of node is.
use Rattle.std.proofs.Common.{◌≡◌, Option, Global, rules}
use Rattle.std.specs.declared.rc.Rc.{Rc}
use Rattle.cm_types.specs.Types.{cases, result_type}
use Rattle.cm_types.specs.TypeTrees.{type_of, shared_payload}
use Rattle.cm_types.specs.declared.type_trees.TypeNode.{TypeNode, the_lemmas}
use Rattle.cm_types.specs.declared.type_trees.TypeNode.TheViews as node
use Rattle.cm_types_numbers.specs.Numbering.{result_cases}

pub seen_Result : (ok error : Option (Rc TypeNode Global)) → type_of (node.Result ok error) ≡ cases result_type (result_cases (shared_payload ok) (shared_payload error))
seen_Result ok error = search (rules, the_lemmas)

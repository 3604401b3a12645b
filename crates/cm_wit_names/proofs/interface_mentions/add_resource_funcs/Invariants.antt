use Rattle.std.proofs.Common.{◌++◌, map, drop, length}
use Rattle.cm_wit_reading.specs.Views.{resource_func_tree}
use Rattle.cm_wit_names.specs.FileMentions.{resource_func_marks}
use Rattle.cm_wit_names.specs.Marks.{each}
use Rattle.cm_wit_names.specs.MentionViews.{mention_view}
use Rattle.cm_wit_names.proofs.AddLaws.{MakesAll}
use Rattle.cm_wit_names.proofs.interface_mentions.add_resource_funcs.Given as goal

abbrev pub invariant-loop-func : goal.invariant-loop-func
invariant-loop-func l = MakesAll (each (resource_func_marks l.scope.number l.resource.number) (map resource_func_tree (drop l.func-index l.funcs))) l.out (map mention_view l.fn.out.items ++ each (resource_func_marks l.scope.number l.resource.number) (map resource_func_tree l.funcs) (length l.fn.out.items))

use Rattle.std.proofs.Common.{◌++◌, map, drop, length}
use Rattle.cm_wit_reading.specs.Views.{used_name_tree}
use Rattle.cm_wit_reading.specs.SignatureViews.{path_tree}
use Rattle.cm_wit_names.specs.FileMentions.{used_marks}
use Rattle.cm_wit_names.specs.Marks.{each}
use Rattle.cm_wit_names.specs.MentionViews.{mention_view}
use Rattle.cm_wit_names.proofs.AddLaws.{MakesAll}
use Rattle.cm_wit_names.proofs.interface_mentions.add_used_names.Given as goal

abbrev pub invariant-loop-used : goal.invariant-loop-used
invariant-loop-used l = MakesAll (each (λ x. used_marks l.scope.number (path_tree l.path) x.name x.new_name) (map used_name_tree (drop l.used-index l.names))) l.out (map mention_view l.fn.out.items ++ each (λ x. used_marks l.scope.number (path_tree l.path) x.name x.new_name) (map used_name_tree l.names) (length l.fn.out.items))

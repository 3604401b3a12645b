use Rattle.std.proofs.Common.{◌++◌, map, drop, length, false}
use Rattle.cm_wit_names.specs.FileMentions.{label, label_marks}
use Rattle.cm_wit_names.specs.Marks.{each, one}
use Rattle.cm_wit_names.specs.MentionViews.{mention_view}
use Rattle.cm_wit_names.proofs.AddLaws.{MakesAll}
use Rattle.cm_wit_names.proofs.func_mentions.add_labels.Given as goal

abbrev pub invariant-loop-name : goal.invariant-loop-name
invariant-loop-name l = MakesAll (each (λ text. one (label false l.in_list text)) (map (λ text. text) (drop l.name-index l.names))) l.out (map mention_view l.fn.out.items ++ label_marks l.names (length l.fn.out.items))

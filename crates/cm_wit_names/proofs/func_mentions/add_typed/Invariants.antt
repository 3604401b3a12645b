use Rattle.std.proofs.Common.{◌++◌, map, drop, length}
use Rattle.cm_wit_reading.specs.SignatureViews.{typed_tree}
use Rattle.cm_wit_names.specs.FileMentions.{label, type_marks, typed_marks}
use Rattle.cm_wit_names.specs.Marks.{each, one, ◌then◌}
use Rattle.cm_wit_names.specs.MentionViews.{mention_view}
use Rattle.cm_wit_names.proofs.AddLaws.{MakesAll}
use Rattle.cm_wit_names.proofs.func_mentions.add_typed.Given as goal

abbrev pub invariant-loop-typed : goal.invariant-loop-typed
invariant-loop-typed l = MakesAll (each (λ x. one (label l.after_self l.in_list x.0) then type_marks l.place x.1) (map typed_tree (drop l.typed-index l.list))) l.out (map mention_view l.fn.out.items ++ typed_marks l.after_self l.place (map typed_tree l.list) (length l.fn.out.items))

use Rattle.std.proofs.Common.{◌++◌, map, drop, length, false}
use Rattle.cm_wit_reading.specs.Views.{case_tree}
use Rattle.cm_wit_names.specs.FileMentions.{label, type_marks, case_marks}
use Rattle.cm_wit_names.specs.Marks.{each, one, ◌then◌, optional}
use Rattle.cm_wit_names.specs.MentionViews.{mention_view}
use Rattle.cm_wit_names.proofs.AddLaws.{MakesAll}
use Rattle.cm_wit_names.proofs.func_mentions.add_cases.Given as goal

abbrev pub invariant-loop-case : goal.invariant-loop-case
invariant-loop-case l = MakesAll (each (λ c. one (label false l.in_list c.name) then optional (type_marks l.place) c.ty) (map case_tree (drop l.case-index l.cases))) l.out (map mention_view l.fn.out.items ++ case_marks l.place (map case_tree l.cases) (length l.fn.out.items))

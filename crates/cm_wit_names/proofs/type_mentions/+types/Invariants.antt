use Rattle.std.proofs.Common.{◌++◌, map, drop, length}
use Rattle.cm_wit_reading.specs.TypeViews.{type_tree}
use Rattle.cm_wit_names.specs.FileMentions.{type_marks}
use Rattle.cm_wit_names.specs.Marks.{each}
use Rattle.cm_wit_names.specs.MentionViews.{mention_view}
use Rattle.cm_wit_names.proofs.AddLaws.{MakesAll}
use Rattle.cm_wit_names.proofs.type_mentions.+types.Given as goal

abbrev pub invariant-add_types-loop-ty : goal.invariant-add_types-loop-ty
invariant-add_types-loop-ty l = MakesAll (each (type_marks l.place) (map type_tree (drop l.ty-index l.types))) l.out (map mention_view l.initial.out.items ++ each (type_marks l.place) (map type_tree l.types) (length l.initial.out.items))

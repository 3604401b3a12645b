use Rattle.std.proofs.Common.{rules, ◌++◌, map, length, refl, sym, ap, ◌∙◌, arith}
use Rattle.cm_wit_reading.specs.TypeViews.{type_tree}
use Rattle.cm_wit_reading.proofs.TypesSeen.{seen_both}
use Rattle.cm_wit_names.specs.FileMentions.{type_marks}
use Rattle.cm_wit_names.specs.MentionViews.{mention_view}
use Rattle.cm_wit_names.proofs.AddLaws.{adds_then, each_end, each_step, types_each}
use Rattle.cm_wit_names.proofs.type_mentions.+types.Goals as goal

pub add_type-returns-in_ok-add_type-in-Some-Some-2 : goal.add_type-returns-in_ok-add_type-in-Some-Some-2
add_type-returns-in_ok-add_type-in-Some-Some-2 t c = search (rules, seen_both, adds_then)

pub add_types-returns : goal.add_types-returns
add_types-returns t c = each_end (type_marks c.args.place) type_tree c.args.types.now c.loop-ty.ty-index c.loop-ty.out _ (omega arith) c.loop-ty.invariant ∙ ap (λ (ms : _). map mention_view c.args.out.now.items ++ ms) (sym (types_each c.args.place (map type_tree c.args.types.now) (length c.args.out.now.items)))

pub add_types-loop-ty-init : goal.add_types-loop-ty-init
add_types-loop-ty-init t c = refl

pub add_types-loop-ty-preserved : goal.add_types-loop-ty-preserved
add_types-loop-ty-preserved t c = each_step (type_marks c.args.place) type_tree c.args.types.now c.loop-ty.ty-index c.ty-item.result c.loop-ty.out c.add_type.new.out _ c.loop-ty-test.true c.ty-item.is c.in_ok-add_type.ensures c.loop-ty.invariant

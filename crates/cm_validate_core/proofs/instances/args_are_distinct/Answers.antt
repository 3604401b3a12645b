use Rattle.std.proofs.Common.{map, refl, ap, ◌∙◌}
use Rattle.std.specs.String.{string_bytes}
use Rattle.cm_binary_model.specs.Trees.{ArgTree, arg_tree}
use Rattle.cm_validate_core.specs.NameMaps.{entries_of}
use Rattle.cm_validate_model.specs.Rules.{are_distinct_texts}
use Rattle.cm_validate_core.proofs.PlaceLaws.{has_name, name_more}
use Rattle.cm_validate_core.proofs.TextLaws.{seen_first}
use Rattle.cm_validate_core.proofs.instances.args_are_distinct.Goals as goal
use Rattle.cm_validate_model.proofs.RulesLaws.{at_first}
use Rattle.cm_lemmas.proofs.Lists.{mapped_twice}
use Rattle.cm_lemmas.proofs.Bools.{was_new}

pub loop-arg-init : goal.loop-arg-init
loop-arg-init c =
    at_first (has_name (entries_of c.new-seen.result)) (map (λ a. string_bytes a.name) c.args.args.now) (λ q. rw c.new-seen.ensures refl)
    ∙ ap are_distinct_texts (mapped_twice (λ (a : ArgTree). a.name) arg_tree c.args.args.now)

pub loop-arg-preserved : goal.loop-arg-preserved
loop-arg-preserved c =
    let old = entries_of c.loop-arg.seen in
    let new = was_new (has_name old c.as_str.result.now) _ c.in_ok-insert.ensures.told c.if-not-branch.false in
    seen_first (λ a. string_bytes a.name) c.args.args.now c.loop-arg.arg-index c.arg-item.result c.as_str.result.now c.loop-arg-test.true c.arg-item.is c.as_str.ensures.value
    (has_name old) _ (has_name (entries_of c.insert.new.self)) new
    (name_more old (entries_of c.insert.new.self) (c.as_str.result, tt) (c.in_ok-insert.ensures.added new))
    c.loop-arg.invariant

use Rattle.std.proofs.Common.{List, subst}
use Rattle.cm_binary_model.specs.Trees.{lift}
use Rattle.cm_types.specs.Types.{Ty}
use Rattle.cm_layout_placed.specs.Placed.{AreOfFirst, layouts_in}
use Rattle.cm_validate_canons.specs.Spaces.{Answers as CanonAnswers}
use Rattle.cm_validate_spaces.proofs.AnswerLaws.{types_at}
use Rattle.cm_validate_spaces.proofs.CanonLaws.{lift_answer, placed_in}
use Rattle.cm_validate_spaces.proofs.ResultLaws.{if_one}
use Rattle.cm_validate_spaces.proofs.spaces.IndexSpaces.lift.Goals as goal

pub returns : goal.returns
returns c =
    let w = c.args.self.now in
    let laid = c.laid-types.result in
    let ls = c.extend.new.self in
    let first = subst (λ (ts : List Ty). AreOfFirst (layouts_in ls) ts) c.types.ensures.types c.extend.ensures.first in
    let there = placed_in w laid c.laid-types.ensures.types c.laid-types.ensures.funcs c.laid-types.ensures.placed in
    if_one (λ r. CanonAnswers laid (lift c.args.core_func c.args.options.now c.args.ty) w.core w.component r c.add_lift.new.core c.add_lift.new.component) _ c.add_lift.result
    (λ r a. lift_answer w laid c.laid-types.ensures.types c.laid-types.ensures.funcs (types_at w laid.entries.now c.laid-types.ensures.entries there)
    c.args.core_func c.args.ty c.args.options.now r c.add_lift.new.core c.add_lift.new.component ls first a)
    c.add_lift.ensures.answer

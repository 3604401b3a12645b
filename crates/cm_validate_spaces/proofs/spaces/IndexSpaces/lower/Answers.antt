use Rattle.std.proofs.Common.{List, subst, sym, refl}
use Rattle.cm_binary_model.specs.Trees.{CanonTree, canon_tree}
use Rattle.cm_types.specs.Types.{Ty}
use Rattle.cm_layout_placed.specs.Placed.{AreOfFirst, layouts_in}
use Rattle.cm_validate_model.specs.Items.{canon_item}
use Rattle.cm_validate_spaces.specs.IndexSpaces.{Answers, funcs_in, types_in}
use Rattle.cm_validate_spaces.specs.Making.{Makes}
use Rattle.cm_validate_spaces.proofs.CanonLaws.{answer_relaid, component_laid}
use Rattle.cm_validate_spaces.proofs.MadeLaws.{tells, told_by}
use Rattle.cm_validate_spaces.proofs.ResultLaws.{if_one}
use Rattle.cm_validate_spaces.proofs.spaces.IndexSpaces.lower.Goals as goal

pub make-requires : goal.make-requires
make-requires c =
    let w = c.args.self.now in
    let laid = c.laid-types.result in
    subst (λ (t : CanonTree). Makes (record w { layouts = c.extend.new.self }) t c.lower_fault-fault.result c.lowered-made.result) (sym c.requires.lower)
    (record {
      fault_is = λ s k. c.lower_fault-fault.ensures (told_by (funcs_in w) w.made.items) s (k.core_is (told_by (funcs_in w) w.made.items) (tells (funcs_in w) w.made.items)) (component_laid w laid c.laid-types.ensures.types c.laid-types.ensures.funcs w.component s k.component_is);
      made_is = λ s k. c.lowered-made.ensures.def (types_in w) (funcs_in w) s k.component_is;
      there = λ s k. c.lowered-made.ensures.there (types_in w) (funcs_in w) s k.component_is;
      makes = refl;
      others = c.others_add_nothing.ensures.lowers c.args.func c.args.options.now;
    })

pub returns : goal.returns
returns c =
    let w = c.args.self.now in
    let ls = c.extend.new.self in
    let x = canon_item (canon_tree c.args.canon.now) in
    let first = subst (λ (ts : List Ty). AreOfFirst (layouts_in ls) ts) c.types.ensures.types c.extend.ensures.first in
    if_one (λ r. Answers x (record w { layouts = ls }) r c.make.new.self) _ c.make.result (λ r a. answer_relaid x w ls r c.make.new.self first a) c.make.ensures

use Rattle.std.proofs.Common.{None, sym, subst, ◌∙◌, Option}
use Rattle.cm_binary_model.specs.Trees.{canon_tree}
use Rattle.cm_validate_model.specs.declared.fault.ValidReason.{ValidReason}
use Rattle.cm_validate_spaces.specs.Making.{Makes}
use Rattle.cm_validate_spaces.specs.declared.made.MadeFunc.{MadeFunc}
use Rattle.cm_validate_spaces.proofs.CanonLaws.{nothing_answer}
use Rattle.cm_validate_spaces.proofs.spaces.IndexSpaces.make.Goals as goal
use Rattle.cm_lemmas.proofs.Options.{is_none}

pub returns-in-None : goal.returns-in-None
returns-in-None c =
    let w = c.args.self.now in
    let t = canon_tree c.args.canon.now in
    let one = subst (λ (r : Option ValidReason). Makes w t r c.args.made) (is_none c.args.fault (sym c.is_some.ensures ∙ c.if-is_some.false)) c.requires in
    nothing_answer w t (subst (λ (m : Option MadeFunc). Makes w t None m) c.in-None.is one)

use Rattle.cm_binary_model.specs.Trees.{canon_tree}
use Rattle.cm_validate_spaces.proofs.CanonLaws.{made_answer}
use Rattle.cm_validate_spaces.proofs.spaces.IndexSpaces.push_made.Goals as goal

pub returns : goal.returns
returns c =
    made_answer c.args.self.now (canon_tree c.args.canon.now) c.args.made c.add_canon.new.self c.push.new.self c.requires
    c.in_ok-add_canon.ensures.added c.in_ok-add_canon.ensures.counted c.in_ok-push.ensures.items

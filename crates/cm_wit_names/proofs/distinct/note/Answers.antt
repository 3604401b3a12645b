use Rattle.std.proofs.Common.{rules}
use Rattle.cm_types.specs.ExternNameForms.{form_tree}
use Rattle.cm_wit_names.specs.MentionViews.{mention_view}
use Rattle.cm_wit_names.specs.Rules.{folded}
use Rattle.cm_wit_names.proofs.DistinctLaws.{in_key}
use Rattle.cm_wit_names.proofs.distinct.note.Goals as goal

pub returns-in_ok-is_new-in-Some-clause-taken : goal.returns-in_ok-is_new-in-Some-clause-taken
returns-in_ok-is_new-in-Some-clause-taken c = λ known. in_key (mention_view c.args.mention.now) (c.in-Some.declared.in_list, folded (form_tree c.told_by-name.result)) c.args.seen.now (search rules) (c.in_ok-is_new-in-Some.ensures.present known)

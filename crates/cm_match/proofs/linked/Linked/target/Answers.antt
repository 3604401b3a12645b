use Rattle.std.proofs.Common.{◌∙◌, ◌+◌, ℕ, List, add-one, ap, sym}
use Rattle.std.specs.Option.{option_map}
use Rattle.cm_match_model.specs.Imports.{LinkSet, links_of}
use Rattle.cm_match_model.specs.Targets.{target_within}
use Rattle.cm_match_serving.specs.cm_validate_spaces.declared.checked.Checked.{Checked}
use Rattle.cm_match.specs.Linked.{set_in}
use Rattle.cm_match.specs.Targets.{target_def}
use Rattle.cm_match.proofs.linked.Linked.target.Goals as goal

pub returns-clause-target : goal.returns-clause-target
returns-clause-target c =
    let set = set_in c.args.self.now in
    let n = c.args.component in
    ap (λ (cs : List Checked). option_map (target_def cs) c.target_within.result) (sym c.linking.ensures.components)
    ∙ c.target_within.ensures.target
    ∙ ap (λ (s : LinkSet). target_within (n + 1) s.spaces (links_of s) n c.args.import c.args.item) c.linking.ensures.set
    ∙ ap (λ (m : ℕ). target_within m set.spaces (links_of set) n c.args.import c.args.item) (add-one n)

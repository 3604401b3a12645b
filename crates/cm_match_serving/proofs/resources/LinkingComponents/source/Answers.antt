use Rattle.std.proofs.Common.{◌∙◌, Some, None, List, ℕ, Option, ap, sym, slice_get}
use Rattle.std.specs.Option.{option_map}
use Rattle.cm_validate_items.specs.Ranges.{resource_def}
use Rattle.cm_validate_items.specs.declared.ranges.Resource.{Resource}
use Rattle.cm_match_serving.specs.Components.{source_view}
use Rattle.cm_match_serving.specs.ToldSets.{source_by}
use Rattle.cm_match_serving.specs.Linkings.{components_in, set_in}
use Rattle.cm_match_serving.proofs.Found.{source_told}
use Rattle.cm_match_serving.proofs.resources.LinkingComponents.source.Goals as goal
use Rattle.cm_lemmas.proofs.Lists.{got}

pub returns-in_err-resource : goal.returns-in_err-resource
returns-in_err-resource c =
    let cs = components_in c.args.self.now in
    let at = c.args.resource.component in
    let there = sym (got c.components.result.now at (Some c.in_ok-get.field-0) c.in_ok-get.ensures.lookup ∙ ap (λ ys. slice_get ys at) c.components.ensures.components) in
    ap (option_map source_view) c.from_residual-in_err-resource.ensures ∙ sym (source_told cs at c.in_ok-get.field-0.now there c.args.resource.number None c.in_err-resource.ensures)

pub returns-in-Defined : goal.returns-in-Defined
returns-in-Defined c =
    let cs = components_in c.args.self.now in
    let at = c.args.resource.component in
    let there = sym (got c.components.result.now at (Some c.in_ok-get.field-0) c.in_ok-get.ensures.lookup ∙ ap (λ ys. slice_get ys at) c.components.ensures.components) in
    sym (source_told cs at c.in_ok-get.field-0.now there c.args.resource.number (Some c.in_ok-resource.field-0) c.in_ok-resource.ensures
    ∙ ap (λ (r : Resource). Some (source_by (set_in c.args.self.now).spaces at (resource_def r))) c.in-Defined.is)

pub returns-in-Some : goal.returns-in-Some
returns-in-Some c =
    let cs = components_in c.args.self.now in
    let at = c.args.resource.component in
    let there = sym (got c.components.result.now at (Some c.in_ok-get.field-0) c.in_ok-get.ensures.lookup ∙ ap (λ ys. slice_get ys at) c.components.ensures.components) in
    sym (source_told cs at c.in_ok-get.field-0.now there c.args.resource.number (Some c.in_ok-resource.field-0) c.in_ok-resource.ensures
    ∙ ap (λ (r : Resource). Some (source_by (set_in c.args.self.now).spaces at (resource_def r))) c.in-Brought.is
    ∙ ap (λ (o : Option (List ℕ)). Some (option_map (λ name. (c.in-Brought.import, name)) o)) (sym c.in-Some.ensures))

pub returns-in-None : goal.returns-in-None
returns-in-None c =
    let cs = components_in c.args.self.now in
    let at = c.args.resource.component in
    let there = sym (got c.components.result.now at (Some c.in_ok-get.field-0) c.in_ok-get.ensures.lookup ∙ ap (λ ys. slice_get ys at) c.components.ensures.components) in
    sym (source_told cs at c.in_ok-get.field-0.now there c.args.resource.number (Some c.in_ok-resource.field-0) c.in_ok-resource.ensures
    ∙ ap (λ (r : Resource). Some (source_by (set_in c.args.self.now).spaces at (resource_def r))) c.in-Brought.is
    ∙ ap (λ (o : Option (List ℕ)). Some (option_map (λ name. (c.in-Brought.import, name)) o)) (sym c.in-None.ensures))

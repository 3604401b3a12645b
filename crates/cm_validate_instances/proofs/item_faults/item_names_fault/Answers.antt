use Rattle.std.proofs.Common.{◌≡◌, ◌∙◌, ap, sym, map}
use Rattle.cm_validate_model.specs.declared.fault.ValidReason.TheVariants as reason
use Rattle.cm_validate_model.specs.Reasons.{least, lesser, unless}
use Rattle.cm_validate_model.specs.TypeRules.{are_distinct_names}
use Rattle.cm_validate_instances.specs.Names.{are_all_well_named}
use Rattle.cm_validate_instances.specs.ItemSketches.{sketch_named}
use Rattle.cm_validate_instances.proofs.ItemFaultLaws.{code_names}
use Rattle.cm_validate_instances.proofs.item_faults.item_names_fault.Goals as goal

pub returns : goal.returns
returns c =
    let texts = ap (map (λ n. n.now)) c.deref.ensures.value ∙ c.in_ok-names.ensures ∙ sym (code_names c.args.items.now) in
    let items = map sketch_named c.args.items.now in
    let distinct : c.in_ok-distinct.distinct ≡ are_distinct_names (map (λ i. i.0) items) = c.in_ok-distinct.ensures ∙ ap are_distinct_names texts in
    c.lesser.ensures
    ∙ ap (λ v. lesser v c.broken_unless.result) c.broken_unless-twice.ensures
    ∙ ap (lesser (least (unless c.in_ok-distinct.distinct reason.DuplicateName))) c.broken_unless.ensures
    ∙ ap (λ b. lesser (least (unless b reason.DuplicateName)) (least (unless c.in_ok-named.named reason.BadAnnotatedName))) distinct
    ∙ ap (λ b. lesser (least (unless (are_distinct_names (map (λ i. i.0) items)) reason.DuplicateName)) (least (unless b reason.BadAnnotatedName))) c.in_ok-named.ensures
    ∙ sym (c.least_of_both.ensures (unless (are_distinct_names (map (λ i. i.0) items)) reason.DuplicateName) (unless (are_all_well_named items) reason.BadAnnotatedName))

use Rattle.std.proofs.Common.{not, ap, sym, ◌∙◌}
use Rattle.std.specs.List.{list_any}
use Rattle.std.specs.Str.{bytes_eq}
use Rattle.cm_names.specs.TextTables.{texts_of}
use Rattle.cm_validate_model.specs.declared.fault.ValidReason.TheVariants as reason
use Rattle.cm_validate_model.specs.Reasons.{least, lesser, unless}
use Rattle.cm_validate_core.specs.Forms.{form_broken}
use Rattle.cm_validate_core.specs.NameSets.{known_broken, name_of}
use Rattle.cm_validate_core.proofs.name_set.NameSet.fault.Goals as goal

pub returns : goal.returns
returns c =
    let form = form_broken c.args.sort (name_of c.args.name.now) in
    let texts = texts_of c.args.self.now.folded in
    let there = c.is_some-is_known.ensures ∙ c.number.ensures.known ∙ ap (λ t. list_any (bytes_eq t) texts) (c.as_str.ensures.value ∙ c.args.name.now.is_folded) in
    c.lesser.ensures
    ∙ ap (λ v. lesser v c.broken_unless.result) c.form_fault-form.ensures
    ∙ ap (lesser (least form)) (c.broken_unless.ensures ∙ ap (λ b. least (unless (not b) reason.DuplicateName)) there)
    ∙ sym (c.least_of_both.ensures form (known_broken (name_of c.args.name.now) c.args.self.now))

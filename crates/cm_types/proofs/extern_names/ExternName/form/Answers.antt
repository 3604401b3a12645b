use Rattle.std.proofs.Common.{◌≡◌, true, sym, ap, ◌∙◌}
use Rattle.cm_types.specs.ExternNames.{form_of, is_extern_name}
use Rattle.cm_types.specs.ExternNameForms.{form_tree}
use Rattle.cm_types.specs.SharedTexts.{text_bytes}
use Rattle.cm_types.proofs.ExternNameLaws.{form_fine}
use Rattle.cm_types.proofs.extern_names.ExternName.form.Goals as goal

pub returns-clause-spelled : goal.returns-clause-spelled
returns-clause-spelled c =
    let holds : is_extern_name (text_bytes c.self.inside.text) ≡ true = c.self.invariant in
    (form_fine c.args.self.now (form_tree c.in-Some.form) (ap is_extern_name (sym c.self.view_is) ∙ holds) (ap form_of (sym c.self.view_is ∙ sym c.as_str.ensures) ∙ sym c.in-Some.ensures)).0

pub returns-clause-labels : goal.returns-clause-labels
returns-clause-labels c =
    let holds : is_extern_name (text_bytes c.self.inside.text) ≡ true = c.self.invariant in
    (form_fine c.args.self.now (form_tree c.in-Some.form) (ap is_extern_name (sym c.self.view_is) ∙ holds) (ap form_of (sym c.self.view_is ∙ sym c.as_str.ensures) ∙ sym c.in-Some.ensures)).1

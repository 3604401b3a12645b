use Rattle.std.proofs.Common.{◌≡◌, ◌∙◌}
use Rattle.cm_validate_spaces.specs.Checked.{funcs_in, spaces_in, types_in}
use Rattle.cm_validate_functions.proofs.LeadingLaws.{exports_keyed, imports_keyed}
use Rattle.cm_validate_functions.proofs.leading.Names.of.Goals as goal

pub returns : goal.returns
returns c =
    let checked = c.args.checked.now in
    record {
      exports_are = c.in_ok-exports.ensures ∙ c.in_ok-exported.ensures ∙ exports_keyed (spaces_in checked) (types_in checked) (funcs_in checked) c.exports.result.now c.exports.ensures.are;
      imports_are = c.in_ok-imports.ensures ∙ c.in_ok-imported.ensures ∙ imports_keyed (spaces_in checked) (types_in checked) (funcs_in checked) c.imports.result.now c.imports.ensures.are;
      lowered_are = c.in_ok-lowered.ensures ∙ c.in_ok-of_imports.ensures;
      items_are = c.in_ok-items.ensures ∙ c.in_ok-of_items.ensures;
    }

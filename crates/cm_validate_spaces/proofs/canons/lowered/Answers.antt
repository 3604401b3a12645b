use Rattle.std.proofs.Common.{ap, length, sym, ◌∙◌}
use Rattle.cm_validate_entries.specs.Entries.{is_func_there}
use Rattle.cm_validate_spaces.proofs.canons.lowered.Goals as goal

pub returns-in-Some-Imported-clause-there : goal.returns-in-Some-Imported-clause-there
returns-in-Some-Imported-clause-there c = λ types funcs s r.
    ap (is_func_there (length funcs)) (sym c.in-Some-Imported.field-0-is) ∙ c.in-Some-Imported.ensures.there types funcs s r

use Rattle.std.proofs.Common.{Some, ap, sym, ◌∙◌, length}
use Rattle.std.specs.Option.{option_map}
use Rattle.cm_validate_spaces.specs.ComponentEntries.{funcs_in}
use Rattle.cm_validate_spaces.specs.Made.{core_func_def}
use Rattle.cm_validate_spaces.proofs.MadeLaws.{guest_func, made_func, no_func, none_behind, one_there}
use Rattle.cm_validate_spaces.proofs.entries.ComponentEntries.core_func.Goals as goal

pub returns-in_err-export-clause-is : goal.returns-in_err-export-clause-is
returns-in_err-export-clause-is c = λ s are.
    ap (option_map (core_func_def (funcs_in c.args.self.now))) c.from_residual.ensures
    ∙ no_func c.args.self.now s are c.args.index c.core_entry.result c.core_entry.ensures c.in_err-export.was

pub returns-in_err-made_func-in-Made-clause-is : goal.returns-in_err-made_func-in-Made-clause-is
returns-in_err-made_func-in-Made-clause-is c = λ s are.
    absurd (none_behind c.args.self.now s are c.args.index c.core_entry.result c.core_entry.ensures c.in-Made.number (c.in_ok-export.was ∙ ap Some c.in-Made.is) (sym c.made_func.ensures ∙ c.in_err-made_func-in-Made.was))

pub returns-in-Guest-clause-is : goal.returns-in-Guest-clause-is
returns-in-Guest-clause-is c = λ s are.
    guest_func c.args.self.now s are c.args.index c.core_entry.result c.core_entry.ensures c.in-Guest.export (c.in_ok-export.was ∙ ap Some c.in-Guest.is)

pub returns-in_ok-made_func-in-Made-clause-is : goal.returns-in_ok-made_func-in-Made-clause-is
returns-in_ok-made_func-in-Made-clause-is c = λ s are.
    made_func c.args.self.now s are c.args.index c.core_entry.result c.core_entry.ensures c.in-Made.number c.in_ok-made_func-in-Made.field-0 (c.in_ok-export.was ∙ ap Some c.in-Made.is) (sym c.made_func.ensures ∙ c.in_ok-made_func-in-Made.was)

pub returns-in_ok-made_func-in-Made-clause-there : goal.returns-in_ok-made_func-in-Made-clause-there
returns-in_ok-made_func-in-Made-clause-there c = λ s are.
    one_there (length (funcs_in c.args.self.now)) c.args.self.now.made.items c.in-Made.number c.in_ok-made_func-in-Made.field-0 are.made_there (sym c.made_func.ensures ∙ c.in_ok-made_func-in-Made.was)

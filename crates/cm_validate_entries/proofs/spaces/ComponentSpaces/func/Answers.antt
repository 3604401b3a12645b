use Rattle.std.proofs.Common.{ap, ◌∙◌, sym, subst, true, length, ◌≡◌, IfSome}
use Rattle.std.specs.Option.{option_map}
use Rattle.cm_validate_entries.specs.Entries.{func_def, is_func_there}
use Rattle.cm_validate_entries.proofs.StayLaws.{func_there, func_told}
use Rattle.cm_validate_entries.proofs.spaces.ComponentSpaces.func.Goals as goal

pub returns-clause-def : goal.returns-clause-def
returns-clause-def c = λ types funcs s r. ap (option_map (func_def funcs)) c.func_entry.ensures ∙ func_told types funcs c.args.self.now s c.args.index r

pub returns-clause-there : goal.returns-clause-there
returns-clause-there c = λ types funcs s r. subst (λ o. IfSome o (λ f. is_func_there (length funcs) f ≡ true)) (sym c.func_entry.ensures) (func_there types funcs c.args.self.now s c.args.index r)

use Rattle.std.proofs.Common.{◌≡◌, ◌∙◌, ◌<◌, ℕ, Option, Some, None, length, ap, sym, arith}
use Rattle.std.specs.Option.{option_and_then}
use Rattle.cm_validate_spaces.specs.Checked.{spaces_in}
use Rattle.cm_validate_spaces.specs.Exported.{exported_func_of}
use Rattle.cm_validate_spaces.proofs.SetLaws.{held}
use Rattle.cm_validate_functions.proofs.HeldLaws.{number_set}
use Rattle.cm_validate_functions.specs.FuncNames.{NameParts}
use Rattle.cm_validate_functions.specs.Leading.{imported_core, lowered_in}
use Rattle.cm_validate_functions.specs.FuncNames.{parts_of}
use Rattle.cm_validate_functions.proofs.LeadingLaws.{lowered_there}
use Rattle.cm_validate_functions.proofs.functions.Functions.import.Goals as goal

pub returns-in-None : goal.returns-in-None
returns-in-None c =
    let s = spaces_in c.args.self.now.checked.now in
    sym c.in-None.is ∙ held number_set _ _ c.args.self.now.named (c.lowered.ensures s) ∙ ap (λ (n : NameParts). lowered_in s n.interface n.name) c.func_name.ensures

pub index_at-requires : goal.index_at-requires
index_at-requires c =
    let s = spaces_in c.args.self.now.checked.now in
    let n = parts_of c.args.name.now in
    lowered_there s n.interface n.name c.in-Some.place (sym (held number_set _ _ c.args.self.now.named (c.lowered.ensures s) ∙ ap (λ (n : NameParts). lowered_in s n.interface n.name) c.func_name.ensures) ∙ c.in-Some.is)

pub returns-in-Some : goal.returns-in-Some
returns-in-Some c =
    let s = spaces_in c.args.self.now.checked.now in
    ap (λ (x : ℕ). Some x) c.index_at.ensures ∙ sym c.in-Some.is ∙ held number_set _ _ c.args.self.now.named (c.lowered.ensures s) ∙ ap (λ (n : NameParts). lowered_in s n.interface n.name) c.func_name.ensures

use Rattle.std.proofs.Common.{◌≡◌, ◌∙◌, ◌<◌, ℕ, Option, Some, None, length, ap, sym, arith}
use Rattle.std.specs.Option.{option_and_then}
use Rattle.cm_validate_spaces.specs.Checked.{spaces_in}
use Rattle.cm_validate_spaces.specs.Exported.{exported_func_of}
use Rattle.cm_validate_spaces.proofs.SetLaws.{held}
use Rattle.cm_validate_functions.proofs.HeldLaws.{number_set}
use Rattle.cm_lemmas.proofs.Lists.{position_below}
use Rattle.cm_validate_functions.specs.Options.{is_number}
use Rattle.cm_validate_functions.specs.Used.{lower_allocating, lower_allocator}
use Rattle.cm_validate_functions.proofs.functions.Functions.allocator_of_lower.Goals as goal

pub returns-in-None : goal.returns-in-None
returns-in-None c =
    let s = spaces_in c.args.self.now.checked.now in
    sym c.in-None.is ∙ held number_set _ _ c.args.self.now.used (c.allocating.ensures s)

pub index_at-requires : goal.index_at-requires
index_at-requires c =
    let s = spaces_in c.args.self.now.checked.now in
    let below = position_below (λ d. is_number c.args.index (lower_allocator d)) 0 s.core_funcs c.in-Some.place (sym (held number_set _ _ c.args.self.now.used (c.allocating.ensures s)) ∙ c.in-Some.is) in
    omega (arith, below)

pub returns-in-Some : goal.returns-in-Some
returns-in-Some c =
    let s = spaces_in c.args.self.now.checked.now in
    ap (λ (x : ℕ). Some x) c.index_at.ensures ∙ sym c.in-Some.is ∙ held number_set _ _ c.args.self.now.used (c.allocating.ensures s)

use Rattle.std.proofs.Common.{◌≡◌, ap, ◌∙◌, sym, not, Bool, Option}
use Rattle.std.specs.Option.{option_map}
use Rattle.cm_types.specs.declared.def_types.ValType.{ValType}
use Rattle.cm_types.specs.Holds.{holds, is_borrow}
use Rattle.cm_types_arena.specs.declared.summaries.Summary.{Summary}
use Rattle.cm_validate_model.specs.declared.fault.ValidReason.TheVariants as reason
use Rattle.cm_validate_model.specs.Reasons.{if_found, least, unless}
use Rattle.cm_validate_model.specs.TypeRules.{no_borrow_broken}
use Rattle.cm_validate_types.specs.Expansion.{value_or_bool}
use Rattle.cm_validate_types.specs.TypeScopes.{arena_funcs, arena_types, own_types}
use Rattle.cm_validate_types.proofs.MovedLaws.{told_same}
use Rattle.cm_validate_types.proofs.scope.TypeScope.borrow_fault.Goals as goal

pub returns-in-Some : goal.returns-in-Some
returns-in-Some c =
    let s = c.args.self.now in
    let known : c.summary-known.result.holds_borrow ≡ holds is_borrow (value_or_bool (own_types s) c.in-Some.ty) =
    ap (λ (k : Summary). k.holds_borrow) c.summary-known.ensures
    ∙ ap (holds is_borrow) c.value_place.ensures.ty
    ∙ sym (told_same (arena_types s) (arena_funcs s) (holds is_borrow) c.what_stays.ensures.borrows s.own.entries.items c.in-Some.ty) in
    c.broken_unless.ensures
    ∙ ap (λ (b : Bool). least (unless (not b) reason.BorrowInResult)) known
    ∙ sym (ap (λ (o : Option ValType). least (if_found no_borrow_broken (option_map (value_or_bool (own_types s)) o))) c.in-Some.is)

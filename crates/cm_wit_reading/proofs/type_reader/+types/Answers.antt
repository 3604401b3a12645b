use Rattle.std.proofs.Common.{Option, Ok, ap, ◌∙◌, rules}
use Rattle.std.specs.Option.{option_map}
use Rattle.std.proofs.lemmas.Result.{err_from_is_err_and}
use Rattle.cm_wit_reading.specs.TypeViews.{type_tree}
use Rattle.cm_wit_reading.proofs.TypesSeen.{seen_error, seen_both, types_fail, types_go_on, types_fewer, types_end}
use Rattle.cm_wit_reading.proofs.type_reader.+types.Goals as goal

pub read_error-returns-in_ok-expect-2 : goal.read_error-returns-in_ok-expect-2
read_error-returns-in_ok-expect-2 t c = search (rules, seen_both)

pub read_only_error-returns : goal.read_only_error-returns
read_only_error-returns t c = search (rules, seen_error)

pub read_further_types-returns-in_err-ty : goal.read_further_types-returns-in_err-ty
read_further_types-returns-in_err-ty t c =
    let p = err_from_is_err_and c.from_residual.result c.from_residual.ensures.1 in
    rw (p.1, p.2) (types_fail c.args.borrows c.args.room c.loop-types.types.items c.loop-types.cursor c.read_next_type.new.cursor c.in_err-ty.field-0.0 _ c.loop-types.invariant c.in_err-ty.ensures)

pub read_further_types-loop-types-smaller : goal.read_further_types-loop-types-smaller
read_further_types-loop-types-smaller t c = types_fewer c.args.borrows c.args.room c.in-Some.ty c.loop-types.cursor c.read_next_type.new.cursor (c.in_ok-ty.ensures ∙ ap (λ (o : Option _). Ok (option_map type_tree o, c.read_next_type.new.cursor)) c.in-Some.is)

pub read_further_types-loop-types-preserved : goal.read_further_types-loop-types-preserved
read_further_types-loop-types-preserved t c = rw c.in_ok-push.ensures.items (types_go_on c.args.borrows c.args.room c.loop-types.types.items c.in-Some.ty c.loop-types.cursor c.read_next_type.new.cursor _ c.loop-types.invariant (c.in_ok-ty.ensures ∙ ap (λ (o : Option _). Ok (option_map type_tree o, c.read_next_type.new.cursor)) c.in-Some.is))

pub read_further_types-returns : goal.read_further_types-returns
read_further_types-returns t c = types_end c.args.borrows c.args.room c.loop-types.types.items c.loop-types.cursor c.read_next_type.new.cursor _ c.loop-types.invariant (c.in_ok-ty.ensures ∙ ap (λ (o : Option _). Ok (option_map type_tree o, c.read_next_type.new.cursor)) c.in_default.is)

use Rattle.std.proofs.Common.{ℕ, [], ◌∷◌, ◌++◌, Option, refl, ap, ◌∙◌}
use Rattle.std.proofs.lemmas.Result.{err_from_is_err_and}
use Rattle.cm_lemmas.proofs.Results.{ok_of}
use Rattle.cm_values.specs.declared.value_fault.Fault.{Fault}
use Rattle.cm_values.specs.Lists.{next_item}
use Rattle.cm_values.specs.Words.{known}
use Rattle.cm_values.proofs.LoopLaws.{flags_end, flags_fail, flags_go_on, flags_whole, steps_start}
use Rattle.cm_values.proofs.StepLaws.{steps_go_on}
use Rattle.cm_values.proofs.WordLaws.{known_lawful, next_item_moves}
use Rattle.cm_values.proofs.parsed_flags.read_some_flags.Goals as goal

pub loop-place-init : goal.loop-place-init
loop-place-init c = ([], refl, steps_start (next_item 0x7D (known c.args.labels.now)) c.read_label.new.cursor.rest.now)

pub loop-place-smaller : goal.loop-place-smaller
loop-place-smaller c = next_item_moves 0x7D (known c.args.labels.now) (known_lawful c.args.labels.now) c.loop-place.cursor.rest.now c.in-Some.place c.read_next_label.new.cursor.rest.now (c.in_ok-place.ensures.place ∙ ap (λ (o : Option ℕ). ok_of Fault (o, c.read_next_label.new.cursor.rest.now)) c.in-Some.is)

pub loop-place-preserved : goal.loop-place-preserved
loop-place-preserved c =
    let i = c.loop-place.invariant in (
      i.0 ++ c.in-Some.place ∷ [],
      flags_go_on _ _ _ i.0 c.in-Some.place i.1 (cc),
      steps_go_on (next_item 0x7D (known c.args.labels.now)) (next_item_moves 0x7D (known c.args.labels.now) (known_lawful c.args.labels.now)) i.0 c.in-Some.place c.loop-place.cursor.rest.now c.read_next_label.new.cursor.rest.now _ i.2 (c.in_ok-place.ensures.place ∙ ap (λ (o : Option ℕ). ok_of Fault (o, c.read_next_label.new.cursor.rest.now)) c.in-Some.is),
    )

pub returns-in_err-place : goal.returns-in_err-place
returns-in_err-place c =
    let p = err_from_is_err_and c.from_residual-in_err-place.result c.from_residual-in_err-place.ensures.1 in
    let i = c.loop-place.invariant in
    rw (p.1, p.2) (flags_fail c.args.labels.now c.in_ok-first.first i.0 c.loop-place.cursor.rest.now c.read_label.new.cursor.rest.now c.args.cursor.now.rest.now c.in_err-place.field-0.0 c.in_ok-first.ensures.place i.2 c.in_err-place.ensures.place)

pub returns : goal.returns
returns c =
    let i = c.loop-place.invariant in
    let rest = c.read_next_label.new.cursor.rest.now in
    flags_end c.args.labels.now c.in_ok-first.first i.0 c.loop-place.cursor.rest.now c.read_label.new.cursor.rest.now c.args.cursor.now.rest.now rest c.in_ok-first.ensures.place i.2 (c.in_ok-place.ensures.place ∙ ap (λ (o : Option ℕ). ok_of Fault (o, rest)) c.in_default.is)
    ∙ ap (λ (n : ℕ). ok_of Fault (n, rest)) (flags_whole _ c.loop-place.bits c.in_ok-first.first i.0 i.1 (cc))

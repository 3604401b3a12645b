use Rattle.std.proofs.Common.{map, sym, ap, ◌∙◌}
use Rattle.std.specs.Option.{option_map}
use Rattle.std.specs.String.{string_bytes}
use Rattle.cm_names.specs.Finding.{IsFoundOf}
use Rattle.cm_names.proofs.TextLaws.{again_none, again_some, at_some}
use Rattle.cm_names.proofs.placing.put_again.Goals as goal

pub returns-in-Some-text_at-clause-found : goal.returns-in-Some-text_at-clause-found
returns-in-Some-text_at-clause-found c = λ y.
    let ts = map string_bytes c.args.texts.now in
    at_some (IsFoundOf ts c.put.new.marks.items) c.args.number c.in-Some.number c.in-Some.is
    (again_some ts c.put.new.marks.items c.in-Some.number c.in-Some-text_at.text.now (sym c.text_at.ensures ∙ ap (option_map (λ t. t.now)) c.in-Some-text_at.is) (c.put.ensures.found y))

pub returns-in-None-clause-found : goal.returns-in-None-clause-found
returns-in-None-clause-found c = λ y.
    let ts = map string_bytes c.args.texts.now in
    at_some (IsFoundOf ts c.args.marks.now.items) c.args.number c.in-Some.number c.in-Some.is
    (again_none ts c.args.marks.now.items c.in-Some.number (sym c.text_at.ensures ∙ ap (option_map (λ t. t.now)) c.in-None.is))

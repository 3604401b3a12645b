use Rattle.std.proofs.Common.{◌≡◌, sym, ap, ◌∙◌, arith, slice_get}
use Rattle.std.proofs.lemmas.Grind.{common_steps}
use Rattle.std.proofs.lemmas.Option.{gets}
use Rattle.std.specs.Option.{option_map}
use Rattle.cm_validate_core.proofs.NamePlaceLaws.{no_place, read_at}
use Rattle.cm_validate_core.proofs.name_map.NameMap.get.Goals as goal

pub returns-in_err-place : goal.returns-in_err-place
returns-in_err-place g c =
    ap (option_map (λ v. v.now)) c.from_residual.ensures
    ∙ sym (no_place c.args.name.now c.args.self.now.entries.items (sym c.place.ensures ∙ c.in_err-place.was))

pub returns-in_err-value : goal.returns-in_err-value
returns-in_err-value g c =
    let es = c.args.self.now.entries.items in
    let reads : option_map (λ x. x.now) c.get.result ≡ slice_get es c.in_ok-place.field-0 = grind (arith, common_steps, gets) in
    ap (option_map (λ v. v.now)) c.from_residual-in_err-value.ensures
    ∙ sym (ap (option_map (λ x. x.now.1)) c.in_err-value.was)
    ∙ read_at c.args.name.now es c.in_ok-place.field-0 c.get.result (sym c.place.ensures ∙ c.in_ok-place.was) reads

pub returns : goal.returns
returns g c =
    let es = c.args.self.now.entries.items in
    let reads : option_map (λ x. x.now) c.get.result ≡ slice_get es c.in_ok-place.field-0 = grind (arith, common_steps, gets) in
    sym (ap (option_map (λ x. x.now.1)) c.in_ok-value.was)
    ∙ read_at c.args.name.now es c.in_ok-place.field-0 c.get.result (sym c.place.ensures ∙ c.in_ok-place.was) reads

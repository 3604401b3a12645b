use Rattle.std.proofs.Common.{◌≡◌, ℕ, ◌+◌, ◌<◌, List, [], ◌++◌, map, OnOk, IsErrOf, length, sym, ap, subst, ◌∙◌, append-nil}
use Rattle.std.specs.Fmt.{decimal}
use Rattle.std.specs.String.{string_bytes}
use Rattle.cm_types.specs.declared.resource.ResourceId.{ResourceId}
use Rattle.cm_tool_show.specs.Pages.{key_resource, seen_on}
use Rattle.cm_tool_show.specs.Pieces.{number_behind, appeared}
use Rattle.cm_tool_show.specs.declared.fault.ShowFault.TheVariants as fault
use Rattle.cm_tool_show.specs.declared.page.TheConstants.{MAX_SHOWN}
use Rattle.cm_tool_show.proofs.KeyLaws.{same_number, same_seen}
use Rattle.cm_tool_show.proofs.page.Page.put_resource.Goals as goal

pub returns-clause-text : goal.returns-clause-text
returns-clause-text c =
    let number : c.in_ok-number.number ≡ number_behind (seen_on c.args.self.now) c.args.id = c.in_ok-number.ensures.index ∙ same_number (c.args.id.component, c.args.id.number) c.args.self.now.seen.keys in
    subst (λ (z : List ℕ). OnOk c.put_number.result (string_bytes c.put_number.new.self.text ≡ string_bytes c.args.self.now.text ++ z)) (ap decimal number ∙ sym (append-nil (decimal (number_behind (seen_on c.args.self.now) c.args.id)))) c.put_number.ensures.text

pub returns-clause-seen : goal.returns-clause-seen
returns-clause-seen c =
    let seen : seen_on (record { text = c.args.self.now.text; seen = c.insert_full.new.self }) ≡ appeared (seen_on c.args.self.now) c.args.id = ap (map key_resource) c.in_ok-number.ensures.keys ∙ same_seen (c.args.id.component, c.args.id.number) c.args.self.now.seen.keys in
    subst (λ (z : List ResourceId). OnOk c.put_number.result (seen_on c.put_number.new.self ≡ z)) seen c.put_number.ensures.seen

pub returns-clause-over : goal.returns-clause-over
returns-clause-over c =
    let number : c.in_ok-number.number ≡ number_behind (seen_on c.args.self.now) c.args.id = c.in_ok-number.ensures.index ∙ same_number (c.args.id.component, c.args.id.number) c.args.self.now.seen.keys in
    subst (λ (z : ℕ). IsErrOf c.put_number.result fault.TooLong → MAX_SHOWN < length (string_bytes c.args.self.now.text) + length (decimal z ++ [])) number c.put_number.ensures.over

use Rattle.std.proofs.Common.{◌∙◌, Option, Some, None, ap}
use Rattle.std.specs.Option.{option_map}
use Rattle.cm_hux_diff.specs.Held.{Entry, Held, desc_held, item_entry}
use Rattle.cm_hux_diff.specs.Views.{brought_desc, entry_view, item_brought}
use Rattle.cm_hux_diff.proofs.Entries.{held_so}
use Rattle.cm_hux_diff.proofs.held.entry_at.Goals as goal

pub returns-in_err-item : goal.returns-in_err-item
returns-in_err-item c = λ w o.
    let f = c.args.two in
    ap (option_map (entry_view w o)) c.from_residual.ensures
    ∙ held_so w o f.place c.args.number f.wanted f.offered c.args.found None (c.requires w o) (c.in_err-item.ensures.is w)

pub returns : goal.returns
returns c = λ w o.
    let f = c.args.two in
    let n = c.args.number in
    let item = c.in_ok-item.item in
    let found = item_brought o f.offered c.args.found in
    ap (λ (held : Held). let x : Option Entry = Some (item_entry f.place n held) in x)
    (c.item_held-held.ensures w o ∙ ap (λ by. desc_held (brought_desc w by item.desc) found) c.by.ensures)
    ∙ held_so w o f.place n f.wanted f.offered c.args.found (Some item) (c.requires w o) (c.in_ok-item.ensures.is w)

use Rattle.std.proofs.Common.{◌∙◌, Option, Some, None, ap}
use Rattle.std.specs.Option.{option_map}
use Rattle.cm_wit_conforms.specs.Comparisons.{Comparison, Entry, facing, item_entry, or_nothing, two_items}
use Rattle.cm_wit_conforms.specs.Views.{brought_desc, entry_of, item_found, other, own}
use Rattle.cm_wit_conforms.proofs.PlacedLaws.{compared_so}
use Rattle.cm_wit_conforms.proofs.facing.compared_at.Goals as goal

pub returns-in_err-item : goal.returns-in_err-item
returns-in_err-item c = λ h w.
    let f = c.args.facing in
    let mine = own f.list h w in
    let theirs = other f.list h w in
    ap (option_map (entry_of h w)) c.from_residual.ensures
    ∙ compared_so mine theirs f.list f.place c.args.number f.items f.others c.args.found None (c.requires mine theirs) (c.in_err-item.ensures.is mine)

pub returns : goal.returns
returns c = λ h w.
    let f = c.args.facing in
    let n = c.args.number in
    let item = c.in_ok-item.item in
    let mine = own f.list h w in
    let theirs = other f.list h w in
    let found = item_found theirs f.others c.args.found in
    ap (λ (what : Comparison). let o : Option Entry = Some (item_entry f.list f.place n what) in o)
    (c.compared_item-what.ensures h w ∙ ap (λ by. or_nothing (option_map (facing two_items f.list (brought_desc mine by item.desc)) found)) c.by.ensures)
    ∙ compared_so mine theirs f.list f.place n f.items f.others c.args.found (Some item) (c.requires mine theirs) (c.in_ok-item.ensures.is mine)

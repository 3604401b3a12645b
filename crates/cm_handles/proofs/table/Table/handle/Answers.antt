use Rattle.std.proofs.Common.{◌∙◌, ap, sym}
use Rattle.std.specs.Prelude.{is_some}
use Rattle.cm_handles.proofs.TableSteps.{read_slot, used_within}
use Rattle.cm_handles.proofs.table.Table.handle.Goals as goal

pub unwrap-requires : goal.unwrap-requires
unwrap-requires c =
    let s = c.self.inside in
    let here = used_within s.slots.items s.first s.free _ c.args.index c.args.self.now c.self.invariant c.self.view_is c.requires in
    let slot = read_slot s.slots.items s.first s.free _ c.args.index c.index.result.now c.args.self.now c.self.view_is here.0 here.1 c.index.ensures in
    ap is_some (c.handle.ensures ∙ sym slot) ∙ c.requires

pub returns : goal.returns
returns c =
    let s = c.self.inside in
    let here = used_within s.slots.items s.first s.free _ c.args.index c.args.self.now c.self.invariant c.self.view_is c.requires in
    let slot = read_slot s.slots.items s.first s.free _ c.args.index c.index.result.now c.args.self.now c.self.view_is here.0 here.1 c.index.ensures in
    slot ∙ (sym c.handle.ensures ∙ c.unwrap.ensures)

use Rattle.std.proofs.Common.{◌≡◌, ◌<◌, List, length, sym, ap, ◌∙◌, arith}
use Rattle.std.specs.Prelude.{slice_set}
use Rattle.cm_handles.specs.Handles.{Handles, TableState, after_release}
use Rattle.cm_machine_model.specs.State.{table_at}
use Rattle.cm_machine_parts.specs.States.{handles_in}
use Rattle.cm_machine_resources.proofs.drops.release.Goals as goal

pub returns : goal.returns
returns c =
    let items : List TableState = c.args.tables.now.items in
    let i = c.args.dropped.now.instance in
    let old : TableState = c.index_mut-table.result.now in
    let lt : i < length items = omega (arith, c.requires.0, c.tables_are_handles.ensures.count items) in
    let here : table_at (handles_in items) i ≡ old.handles = c.tables_are_handles.ensures.read items i old lt c.index_mut-table.ensures.value in
    c.tables_are_handles.ensures.changed items i c.drop_handle.new.self
    ∙ ap (λ (t : Handles). slice_set (handles_in items) i t) (c.in-Ok.ensures.handles ∙ ap (λ (t : Handles). after_release t c.args.dropped.now.index) (sym here))

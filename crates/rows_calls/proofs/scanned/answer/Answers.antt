use Rattle.std.proofs.Common.{refl, subst}
use Rattle.cm_abi_model.specs.Views.{View}
use Rattle.cm_abi_model.specs.Ways.{way_of}
use Rattle.cm_abi_model.specs.Scanned.{ScansCall}
use Rattle.rows_calls.proofs.scanned.answer.Goals as goal

-- what the scan kept is that of the call, in the view of its giver
pub copy_values-requires : goal.copy_values-requires
copy_values-requires c =
    let types = c.requires.0 in
    let is = c.requires.1 in
    let w : View = record { memory = c.deref-3.result.now; table = c.read_table-table.result.handles; instance = 0; encoding = c.args.call.now.sides.source; call = 0 } in
    let scans = c.in-Ok.ensures.scans w types (record { memory_is = refl; table_is = refl; encoding_is = refl }) is.layout in (
      types,
      is,
      record {
        giver = w;
        value = scans.0;
        table = c.scan.new.table.handles;
        memory = c.deref-3.ensures.value;
        scans = subst (λ slots. ScansCall w c.args.call.now.sides.target (way_of c.args.call.now.way) types slots scans.0 c.scan.new.table.handles c.scan.new.kept) c.deref.ensures.value scans.1;
      },
    )

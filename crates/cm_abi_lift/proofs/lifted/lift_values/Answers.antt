use Rattle.cm_layout.specs.Layouts.{layout_of}
use Rattle.cm_abi_model.specs.Views.{flat_limit}
use Rattle.cm_abi_model.specs.Ways.{way_of}
use Rattle.cm_abi_lift.proofs.PassedLaws.{fields_read}
use Rattle.cm_abi_lift.proofs.lifted.lift_values.Goals as goal

pub fields_of-requires : goal.fields_of-requires
fields_of-requires c =
    fields_read (record { memory = c.args.memory.now; table = c.args.table.now.handles; encoding = c.args.encoding }) (flat_limit (way_of c.args.passed.now.way)) c.requires.layout.0
    (layout_of c.args.passed.now.layout.now) c.args.passed.now.slots.now _ _ _ c.requires.layout.1 c.in-Ok.ensures

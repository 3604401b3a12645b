use Rattle.std.proofs.Common.{refl}
use Rattle.cm_types.specs.declared.limits.TheConstants.{MAX_FLAT_PARAMS}
use Rattle.cm_abi_copy.proofs.FlatLemmas.{items_lie}
use Rattle.cm_abi_copy.proofs.slots.SlotsValueSource.items.Goals as goal

pub returns : goal.returns
returns c = λ n g e element sh k h ready.
    let lie = items_lie MAX_FLAT_PARAMS c.args.self.at c.args.count e element sh ready.1 in
    (refl, (ready.0, lie.0, lie.1, lie.2, ready.2))

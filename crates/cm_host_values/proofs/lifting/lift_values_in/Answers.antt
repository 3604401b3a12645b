use Rattle.std.proofs.Common.{subst}
use Rattle.cm_types.specs.Values.{parts}
use Rattle.cm_types.specs.ValueTrees.{values_of}
use Rattle.cm_abi_model.specs.Denotes.{Denotes}
use Rattle.cm_host_values.specs.HostTypes.{types_in, way_in}
use Rattle.cm_host_values.specs.Sees.{host_of}
use Rattle.cm_host_values.proofs.LiftingLaws.{given_by}
use Rattle.cm_host_values.proofs.lifting.lift_values_in.Goals as goal

pub returns-clause-denoted : goal.returns-clause-denoted
returns-clause-denoted c = λ w read.
    let lifts = c.in_ok-lifted.ensures.lifts (host_of w) (types_in c.args.types.now) (given_by w c.args.memory.now _ c.args.encoding read c.new-table.ensures.empty) c.in-Ok.ensures.layout in
    subst (λ way. Denotes (host_of w) way (types_in c.args.types.now) c.args.slots.now (parts (values_of c.in_ok-lifted.lifted.values.items))) c.way.ensures lifts.denoted

pub returns-clause-seen : goal.returns-clause-seen
returns-clause-seen c = λ w all v read types denoted.
    let u = parts (values_of c.in_ok-lifted.lifted.values.items) in
    let lifts = c.in_ok-lifted.ensures.lifts (host_of w) (types_in c.args.types.now) (given_by w c.args.memory.now _ c.args.encoding read c.new-table.ensures.empty) c.in-Ok.ensures.layout in
    let there = subst (λ way. Denotes (host_of w) way (types_in c.args.types.now) c.args.slots.now u) c.way.ensures lifts.denoted in
    c.hosts_see_what_is_denoted.ensures.seen w (way_in c.args.types.now) all c.args.slots.now v u denoted (subst (λ ts. Denotes (host_of w) (way_in c.args.types.now) ts c.args.slots.now u) types there)

use Rattle.std.proofs.Common.{refl, ap, sym, ◌∙◌, ◌<◌, ◌≤◌, length}
use Rattle.cm_layout.specs.Layouts.{layout_of}
use Rattle.cm_layout.specs.declared.heads.Head.{Head}
use Rattle.cm_abi_model.specs.Stores.{poke}
use Rattle.cm_abi_model.specs.Views.{flat_limit}
use Rattle.cm_abi_model.specs.Ways.{way_of}
use Rattle.cm_abi_running.specs.Copying.{copying_of}
use Rattle.cm_abi_running.specs.Known.{CanBeCopied}
use Rattle.cm_abi_copy.proofs.FlatLemmas.{few_are_flat}
use Rattle.cm_abi_copy.proofs.calls.copy_call.Goals as goal
use Rattle.cm_layout.proofs.LayoutLemmas.{seen_head}

pub copy_value-requires-clause-copied : goal.copy_value-requires-clause-copied
copy_value-requires-clause-copied c =
    let width_is = ap (λ (h : Head). h.width) (seen_head c.args.passed.now.layout.now) in
    let over : flat_limit (way_of c.args.passed.now.way) < (layout_of c.args.passed.now.layout.now).head.width = rw (width_is, sym c.flat_limit.ensures) c.if-passed-flat_limit.true in
    let there = c.what_is_denoted_is_copied.ensures.spilled (length c.args.memory.now) (length c.args.slots.now) c.args.from.now c.args.passed.now c.requires.0 c.requires.1 c.requires.2 over in
    (c.requires.1, rw c.number_32-pointer.ensures there.copied)

pub pass_value-requires-clause-passed : goal.pass_value-requires-clause-passed
pass_value-requires-clause-passed c =
    let width_is = ap (λ (h : Head). h.width) (seen_head c.args.passed.now.layout.now) in
    let under : (layout_of c.args.passed.now.layout.now).head.width ≤ flat_limit (way_of c.args.passed.now.way) = rw (width_is, sym c.flat_limit.ensures) c.if-passed-flat_limit.false in
    let there = c.what_is_denoted_is_copied.ensures.flat (length c.args.memory.now) (length c.args.slots.now) c.args.from.now c.args.passed.now c.requires.0 c.requires.1 c.requires.2 under in
    there.lies.passed

pub pass_value-requires-clause-inside : goal.pass_value-requires-clause-inside
pass_value-requires-clause-inside c =
    let width_is = ap (λ (h : Head). h.width) (seen_head c.args.passed.now.layout.now) in
    let under : (layout_of c.args.passed.now.layout.now).head.width ≤ flat_limit (way_of c.args.passed.now.way) = rw (width_is, sym c.flat_limit.ensures) c.if-passed-flat_limit.false in
    let there = c.what_is_denoted_is_copied.ensures.flat (length c.args.memory.now) (length c.args.slots.now) c.args.from.now c.args.passed.now c.requires.0 c.requires.1 c.requires.2 under in
    there.lies.inside

pub pass_value-requires-clause-ready : goal.pass_value-requires-clause-ready
pass_value-requires-clause-ready c =
    let width_is = ap (λ (h : Head). h.width) (seen_head c.args.passed.now.layout.now) in
    let under : (layout_of c.args.passed.now.layout.now).head.width ≤ flat_limit (way_of c.args.passed.now.way) = rw (width_is, sym c.flat_limit.ensures) c.if-passed-flat_limit.false in
    let there = c.what_is_denoted_is_copied.ensures.flat (length c.args.memory.now) (length c.args.slots.now) c.args.from.now c.args.passed.now c.requires.0 c.requires.1 c.requires.2 under in
    let few = few_are_flat (way_of c.args.passed.now.way) (layout_of c.args.passed.now.layout.now).head.width under in
    (refl, record { inside = few; passed = there.lies.passed; sound = there.lies.sound }, there.ready)

pub returns-then-passed-flat_limit-clause-stored : goal.returns-then-passed-flat_limit-clause-stored
returns-then-passed-flat_limit-clause-stored c =
    let width_is = ap (λ (h : Head). h.width) (seen_head c.args.passed.now.layout.now) in
    let over : flat_limit (way_of c.args.passed.now.way) < (layout_of c.args.passed.now.layout.now).head.width = rw (width_is, sym c.flat_limit.ensures) c.if-passed-flat_limit.true in
    λ types v can.
    let there = c.what_is_denoted_is_copied.ensures.spilled (length c.args.memory.now) (length c.args.slots.now) c.args.from.now c.args.passed.now types v can over in
    let copied : CanBeCopied (length c.args.memory.now) (copying_of c.args.from.now) (layout_of c.args.passed.now.layout.now).shape c.number_32-pointer.result v 1 0 = rw c.number_32-pointer.ensures there.copied in
    c.copy_value.ensures.stored v copied ∙ ap (λ bs. poke bs c.args.memory.now) there.bytes

pub returns-else-passed-flat_limit-clause-stored : goal.returns-else-passed-flat_limit-clause-stored
returns-else-passed-flat_limit-clause-stored c =
    let width_is = ap (λ (h : Head). h.width) (seen_head c.args.passed.now.layout.now) in
    let under : (layout_of c.args.passed.now.layout.now).head.width ≤ flat_limit (way_of c.args.passed.now.way) = rw (width_is, sym c.flat_limit.ensures) c.if-passed-flat_limit.false in
    λ types v can.
    c.pass_value.ensures.stored ∙ ap (λ bs. poke bs c.args.memory.now)
    (c.what_is_denoted_is_copied.ensures.flat (length c.args.memory.now) (length c.args.slots.now) c.args.from.now c.args.passed.now types v can under).bytes

pub returns-else-passed-flat_limit-clause-passed : goal.returns-else-passed-flat_limit-clause-passed
returns-else-passed-flat_limit-clause-passed c =
    let width_is = ap (λ (h : Head). h.width) (seen_head c.args.passed.now.layout.now) in
    let under : (layout_of c.args.passed.now.layout.now).head.width ≤ flat_limit (way_of c.args.passed.now.way) = rw (width_is, sym c.flat_limit.ensures) c.if-passed-flat_limit.false in
    λ types v can.
    c.pass_value.ensures.slots ∙ ap (λ bs. poke bs c.args.slots.now)
    (c.what_is_denoted_is_copied.ensures.flat (length c.args.memory.now) (length c.args.slots.now) c.args.from.now c.args.passed.now types v can under).numbers

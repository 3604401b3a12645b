use Rattle.std.proofs.Common.{rules, refl, ap, ◌∙◌, ◌<◌, ◌≤◌, length}
use Rattle.cm_types.specs.Values.{parts}
use Rattle.cm_layout.specs.Layouts.{layout_of}
use Rattle.cm_layout.specs.declared.heads.Head.{Head}
use Rattle.cm_types.specs.ValueTrees.{values_of}
use Rattle.cm_abi_model.specs.Stores.{poke}
use Rattle.cm_abi_store.specs.Storing.{given_of}
use Rattle.cm_abi_lower.proofs.WalkLemmas.{tuple_shape}
use Rattle.cm_abi_lower.proofs.calls.store_call.Goals as goal
use Rattle.cm_layout.proofs.LayoutLemmas.{seen_head}

pub store_tuple-requires-clause-tuple : goal.store_tuple-requires-clause-tuple
store_tuple-requires-clause-tuple c = tuple_shape (layout_of c.args.layout.now) c.requires.1 c.requires.3

pub store_tuple-requires-clause-laid : goal.store_tuple-requires-clause-laid
store_tuple-requires-clause-laid c =
    let width_is = ap (λ (h : Head). h.width) (seen_head c.args.layout.now) in
    let over : c.args.limit < (layout_of c.args.layout.now).head.width = rw width_is c.if-layout-limit.true in
    let ready = c.spilled_tuples_are_stored.ensures.ready (layout_of c.args.layout.now) c.requires.0 c.requires.1 c.args.limit (parts (values_of c.args.values.now)) c.args.to.now.encoding (given_of c.args.to.now) (length c.args.memory.now) (length c.args.slots.now) c.requires.2 c.requires.3 refl c.requires.4 over in
    ready.laid

pub store_tuple-requires-clause-inside : goal.store_tuple-requires-clause-inside
store_tuple-requires-clause-inside c =
    let width_is = ap (λ (h : Head). h.width) (seen_head c.args.layout.now) in
    let over : c.args.limit < (layout_of c.args.layout.now).head.width = rw width_is c.if-layout-limit.true in
    let ready = c.spilled_tuples_are_stored.ensures.ready (layout_of c.args.layout.now) c.requires.0 c.requires.1 c.args.limit (parts (values_of c.args.values.now)) c.args.to.now.encoding (given_of c.args.to.now) (length c.args.memory.now) (length c.args.slots.now) c.requires.2 c.requires.3 refl c.requires.4 over in
    ready.inside

pub store_tuple-requires-clause-fits : goal.store_tuple-requires-clause-fits
store_tuple-requires-clause-fits c =
    let width_is = ap (λ (h : Head). h.width) (seen_head c.args.layout.now) in
    let over : c.args.limit < (layout_of c.args.layout.now).head.width = rw width_is c.if-layout-limit.true in
    let ready = c.spilled_tuples_are_stored.ensures.ready (layout_of c.args.layout.now) c.requires.0 c.requires.1 c.args.limit (parts (values_of c.args.values.now)) c.args.to.now.encoding (given_of c.args.to.now) (length c.args.memory.now) (length c.args.slots.now) c.requires.2 c.requires.3 refl c.requires.4 over in
    ready.fits

pub bounds-slots-0 : goal.bounds-slots-0
bounds-slots-0 c =
    let width_is = ap (λ (h : Head). h.width) (seen_head c.args.layout.now) in
    let over : c.args.limit < (layout_of c.args.layout.now).head.width = rw width_is c.if-layout-limit.true in
    let ready = c.spilled_tuples_are_stored.ensures.ready (layout_of c.args.layout.now) c.requires.0 c.requires.1 c.args.limit (parts (values_of c.args.values.now)) c.args.to.now.encoding (given_of c.args.to.now) (length c.args.memory.now) (length c.args.slots.now) c.requires.2 c.requires.3 refl c.requires.4 over in
    let slot = ready.slot in
    search (rules, slot)

pub lower_tuple-requires-clause-tuple : goal.lower_tuple-requires-clause-tuple
lower_tuple-requires-clause-tuple c = tuple_shape (layout_of c.args.layout.now) c.requires.1 c.requires.3

pub lower_tuple-requires-clause-passed : goal.lower_tuple-requires-clause-passed
lower_tuple-requires-clause-passed c =
    let width_is = ap (λ (h : Head). h.width) (seen_head c.args.layout.now) in
    let under : (layout_of c.args.layout.now).head.width ≤ c.args.limit = rw width_is c.if-layout-limit.false in
    let ready = c.flat_tuples_are_passed.ensures.ready (layout_of c.args.layout.now) c.requires.0 c.requires.1 c.args.limit (parts (values_of c.args.values.now)) c.args.to.now.encoding (given_of c.args.to.now) (length c.args.memory.now) (length c.args.slots.now) c.requires.2 c.requires.3 refl c.requires.4 under in
    ready.passed

pub lower_tuple-requires-clause-inside : goal.lower_tuple-requires-clause-inside
lower_tuple-requires-clause-inside c =
    let width_is = ap (λ (h : Head). h.width) (seen_head c.args.layout.now) in
    let under : (layout_of c.args.layout.now).head.width ≤ c.args.limit = rw width_is c.if-layout-limit.false in
    let ready = c.flat_tuples_are_passed.ensures.ready (layout_of c.args.layout.now) c.requires.0 c.requires.1 c.args.limit (parts (values_of c.args.values.now)) c.args.to.now.encoding (given_of c.args.to.now) (length c.args.memory.now) (length c.args.slots.now) c.requires.2 c.requires.3 refl c.requires.4 under in
    ready.inside

pub lower_tuple-requires-clause-fits : goal.lower_tuple-requires-clause-fits
lower_tuple-requires-clause-fits c =
    let width_is = ap (λ (h : Head). h.width) (seen_head c.args.layout.now) in
    let under : (layout_of c.args.layout.now).head.width ≤ c.args.limit = rw width_is c.if-layout-limit.false in
    let ready = c.flat_tuples_are_passed.ensures.ready (layout_of c.args.layout.now) c.requires.0 c.requires.1 c.args.limit (parts (values_of c.args.values.now)) c.args.to.now.encoding (given_of c.args.to.now) (length c.args.memory.now) (length c.args.slots.now) c.requires.2 c.requires.3 refl c.requires.4 under in
    ready.fits

pub returns-then-layout-limit-clause-stored : goal.returns-then-layout-limit-clause-stored
returns-then-layout-limit-clause-stored c =
    let width_is = ap (λ (h : Head). h.width) (seen_head c.args.layout.now) in
    let over : c.args.limit < (layout_of c.args.layout.now).head.width = rw width_is c.if-layout-limit.true in
    λ way types limit_is layout_is typed. c.store_tuple.ensures.stored ∙ ap (λ bs. poke bs c.args.memory.now)
    (c.spilled_tuples_are_stored.ensures.bytes (layout_of c.args.layout.now) way types c.args.limit (parts (values_of c.args.values.now)) (given_of c.args.to.now) limit_is layout_is typed over)

pub returns-then-layout-limit-clause-passed : goal.returns-then-layout-limit-clause-passed
returns-then-layout-limit-clause-passed c =
    let width_is = ap (λ (h : Head). h.width) (seen_head c.args.layout.now) in
    let over : c.args.limit < (layout_of c.args.layout.now).head.width = rw width_is c.if-layout-limit.true in
    λ way types limit_is layout_is typed. rw c.from.ensures (ap (λ ns. poke ns c.args.slots.now)
    (c.spilled_tuples_are_stored.ensures.numbers (layout_of c.args.layout.now) way types c.args.limit (parts (values_of c.args.values.now)) (given_of c.args.to.now) limit_is layout_is typed over))

pub returns-else-layout-limit-clause-stored : goal.returns-else-layout-limit-clause-stored
returns-else-layout-limit-clause-stored c =
    let width_is = ap (λ (h : Head). h.width) (seen_head c.args.layout.now) in
    let under : (layout_of c.args.layout.now).head.width ≤ c.args.limit = rw width_is c.if-layout-limit.false in
    λ way types limit_is layout_is typed. c.lower_tuple.ensures.stored ∙ ap (λ bs. poke bs c.args.memory.now)
    (c.flat_tuples_are_passed.ensures.bytes (layout_of c.args.layout.now) way types c.args.limit (parts (values_of c.args.values.now)) (given_of c.args.to.now) limit_is layout_is typed under)

pub returns-else-layout-limit-clause-passed : goal.returns-else-layout-limit-clause-passed
returns-else-layout-limit-clause-passed c =
    let width_is = ap (λ (h : Head). h.width) (seen_head c.args.layout.now) in
    let under : (layout_of c.args.layout.now).head.width ≤ c.args.limit = rw width_is c.if-layout-limit.false in
    λ way types limit_is layout_is typed. c.lower_tuple.ensures.slots ∙ ap (λ ns. poke ns c.args.slots.now)
    (c.flat_tuples_are_passed.ensures.numbers (layout_of c.args.layout.now) way types c.args.limit (parts (values_of c.args.values.now)) (given_of c.args.to.now) limit_is layout_is typed under)

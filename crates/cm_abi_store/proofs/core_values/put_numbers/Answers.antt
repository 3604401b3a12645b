use Rattle.std.proofs.Common.{◌≡◌, ◌∙◌, ◌<◌, ◌≤◌, arith, length, map}
use Rattle.cm_types.specs.CoreValues.{kind_of}
use Rattle.cm_types.specs.declared.core_value.CoreValue.TheVariants as core_value
use Rattle.cm_abi_store.proofs.CoreValueLemmas.{all_put, limit_there, one_more, set_kinds, set_slots}
use Rattle.cm_abi_store.proofs.core_values.put_numbers.Goals as goal

pub of_kind-requires : goal.of_kind-requires
of_kind-requires c =
    let lt : c.loop-i.i < length c.loop-i.slots = omega (arith, c.loop-i-test.true, c.loop-i.invariant.0) in
    record { fits = limit_there c.loop-i.slots (map kind_of c.args.slots.now) c.loop-i.i _ (core_value.I32 0) c.loop-i.invariant.1 lt (c.requires.fits c.loop-i.i) }

pub loop-i-preserved : goal.loop-i-preserved
loop-i-preserved c =
    let lt : c.loop-i.i < length c.loop-i.slots = omega (arith, c.loop-i-test.true, c.loop-i.invariant.0) in (
      set_slots c.loop-i.slots c.loop-i.i c.of_kind.result ∙ c.loop-i.invariant.0,
      set_kinds c.loop-i.slots c.loop-i.i c.of_kind.result (core_value.I32 0) lt c.of_kind.ensures.kind ∙ c.loop-i.invariant.1,
      one_more c.loop-i.slots c.args.numbers.now c.loop-i.i c.of_kind.result lt c.of_kind.ensures.number c.loop-i.invariant.2,
    )

pub returns : goal.returns
returns c =
    let past : length c.loop-i.slots ≤ c.loop-i.i = omega (arith, c.loop-i-test.false, c.loop-i.invariant.0) in
    let same : length c.loop-i.slots ≡ length c.args.numbers.now = c.loop-i.invariant.0 ∙ c.requires.length in
    all_put c.loop-i.slots c.args.numbers.now (map kind_of c.args.slots.now) c.loop-i.i same past c.loop-i.invariant.1 c.loop-i.invariant.2

use Rattle.std.proofs.Common.{◌<◌, ◌≤◌, arith, length, subst}
use Rattle.cm_layout.specs.Layouts.{layout_of}
use Rattle.cm_types_arena.specs.Places.{types_of}
use Rattle.cm_layout_placed.specs.Placed.{layouts_in, types_by}
use Rattle.cm_abi_programs.specs.Placed.{ArePutsOf}
use Rattle.cm_abi_programs.proofs.HeldLaws.{all_types, as_many_laid, elements_placed, layout_placed, parts_placed}
use Rattle.cm_layout_placed.proofs.ReplacedLaws.{as_many_by}
use Rattle.cm_abi_programs.proofs.placed_puts.PlacedPuts.of.Goals as goal

pub loop-place-init : goal.loop-place-init
loop-place-init c = λ s laid. c.in_ok-puts.ensures

pub get-requires : goal.get-requires
get-requires c = omega (arith, c.loop-place-test.true, c.len-place-end.ensures, as_many_laid (layouts_in c.args.layouts.now) c.requires.laid.0 (types_of c.args.types.now) c.requires.laid.1)

pub types_are_lawful-requires : goal.types_are_lawful-requires
types_are_lawful-requires c = omega (arith, c.loop-place-test.true, c.len-place-end.ensures)

pub parts-requires : goal.parts-requires
parts-requires c = omega (arith, c.loop-place-test.true, c.len-place-end.ensures)

pub add-requires : goal.add-requires
add-requires c =
    let s = c.requires.laid.0 in
    let lt : c.loop-place.place < length (types_by s (types_of c.args.types.now)) = omega (arith, c.loop-place-test.true, c.len-place-end.ensures, as_many_by s (types_of c.args.types.now)) in
    record {
      next = (
        types_by s (types_of c.args.types.now),
        c.loop-place.place,
        c.loop-place.invariant s c.requires.laid.1,
        lt,
        c.parts.ensures.earlier,
        parts_placed s (types_of c.args.types.now) c.loop-place.place c.parts.result.now c.parts.ensures.parts,
        layout_placed (layouts_in c.args.layouts.now) (types_by s (types_of c.args.types.now)) c.loop-place.place (layout_of c.get.result.now) c.requires.laid.1 c.get.ensures,
        elements_placed s (types_of c.args.types.now) c.loop-place.place c.types_are_lawful.ensures.spellable,
      );
    }

pub loop-place-preserved : goal.loop-place-preserved
loop-place-preserved c = λ s laid.
    let lt : c.loop-place.place < length (types_by s (types_of c.args.types.now)) = omega (arith, c.loop-place-test.true, c.len-place-end.ensures, as_many_by s (types_of c.args.types.now)) in
    c.in_ok-add.ensures (types_by s (types_of c.args.types.now)) c.loop-place.place (c.loop-place.invariant s laid) lt c.parts.ensures.earlier (parts_placed s (types_of c.args.types.now) c.loop-place.place c.parts.result.now c.parts.ensures.parts)
    (layout_placed (layouts_in c.args.layouts.now) (types_by s (types_of c.args.types.now)) c.loop-place.place (layout_of c.get.result.now) laid c.get.ensures)
    (elements_placed s (types_of c.args.types.now) c.loop-place.place c.types_are_lawful.ensures.spellable)

pub returns : goal.returns
returns c = λ s laid.
    let all : length (types_by s (types_of c.args.types.now)) ≤ c.loop-place.place = omega (arith, c.loop-place-test.false, c.len-place-end.ensures, as_many_by s (types_of c.args.types.now)) in
    subst (λ ts. ArePutsOf ts c.loop-place.puts) (all_types (types_by s (types_of c.args.types.now)) c.loop-place.place all) (c.loop-place.invariant s laid)

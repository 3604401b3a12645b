use Rattle.std.proofs.Common.{rules, arith, List, get_or, Some, refl, sym, ap, subst, ◌∙◌}
use Rattle.std.specs.List.{flat_map}
use Rattle.cm_types.specs.Signatures.{NamedExtern}
use Rattle.cm_types_arena.specs.Places.{types_of}
use Rattle.cm_wit_signature.specs.Functions.{extern_funcs}
use Rattle.cm_wit_signature.specs.ItemFaults.{AreWithin}
use Rattle.cm_wit_signature.specs.PartViews.{fronts_in}
use Rattle.cm_wit_signature.proofs.ExternLaws.{listed_of}
use Rattle.cm_wit_signature.proofs.LoopLaws.{made_own, made_next, made_fault, made_all}
use Rattle.cm_wit_signature.proofs.externs.push_externs.Goals as goal
use Rattle.cm_wit_meanings.proofs.GrowthLaws.{extends_more}

pub add_number-requires-clause-placed : goal.add_number-requires-clause-placed
add_number-requires-clause-placed c = c.tables_stay.ensures.placed _ _ c.args.parts.now.table.now c.loop-number.invariant.types c.requires.placed

pub add_number-requires-clause-own : goal.add_number-requires-clause-own
add_number-requires-clause-own c = made_own c.args.parts.now c.args.types.now c.args.first c.args.numbers.now c.tables_stay.ensures.same c.requires.placed c.loop-number.number-index c.loop-number.types c.loop-number.list c.loop-number.externs.items c.loop-number.invariant c.requires.own

pub loop-number-preserved : goal.loop-number-preserved
loop-number-preserved c =
    made_next c.args.parts.now c.args.types.now c.args.first c.args.numbers.now c.tables_stay.ensures.same c.requires.placed c.loop-number.number-index c.loop-number.types c.loop-number.list c.loop-number.externs.items c.loop-number.invariant c.add_number.new.types (get_or c.args.numbers.now c.loop-number.number-index 0) c.in_ok-list.list c.add_number.new.out.items (omega arith) refl c.in_ok-list.ensures.adds c.in_ok-list.ensures.next c.in_ok-list.ensures.there c.in_ok-list.ensures.within c.in_ok-list.ensures.grown c.in_ok-list.ensures.funcs

pub returns-in_err-list-clause-fault : goal.returns-in_err-list-clause-fault
returns-in_err-list-clause-fault c =
    let h = made_fault c.args.parts.now c.args.types.now c.args.first c.args.numbers.now c.tables_stay.ensures.same c.requires.placed c.loop-number.number-index c.loop-number.types c.loop-number.list c.loop-number.externs.items c.loop-number.invariant (get_or c.args.numbers.now c.loop-number.number-index 0) c.in_err-list.field-0.0 (omega arith) refl c.in_err-list.ensures.fault in
    search (rules, h)

pub returns-clause-externs : goal.returns-clause-externs
returns-clause-externs c = made_all c.args.parts.now c.args.types.now c.args.first c.args.numbers.now c.tables_stay.ensures.same c.requires.placed c.loop-number.number-index c.loop-number.types c.loop-number.list c.loop-number.externs.items c.loop-number.invariant (omega arith) ∙ ap Some (sym (listed_of (fronts_in c.args.parts.now) c.loop-number.types (record { fronts = c.in_ok-fronts.fronts; externs = c.loop-number.externs }) c.in_ok-fronts.ensures))

pub returns-in_err-list-clause-grown : goal.returns-in_err-list-clause-grown
returns-in_err-list-clause-grown c = extends_more (types_of c.args.types.now) (types_of c.loop-number.types) (types_of c.add_number.new.types) c.loop-number.invariant.types c.add_number.ensures.grown

pub returns-clause-within : goal.returns-clause-within
returns-clause-within c =
    subst (λ (es : List NamedExtern). AreWithin (flat_map extern_funcs es)) (sym (listed_of (fronts_in c.args.parts.now) c.loop-number.types (record { fronts = c.in_ok-fronts.fronts; externs = c.loop-number.externs }) c.in_ok-fronts.ensures)) c.loop-number.invariant.within

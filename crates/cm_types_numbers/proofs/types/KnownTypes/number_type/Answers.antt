use Rattle.std.proofs.Common.{◌≡◌, Some, rules, sym, subst}
use Rattle.std.specs.BTreeMap.{BTreeMap, get}
use Rattle.cm_types_arena.specs.Places.{types_of}
use Rattle.cm_types_numbers.specs.Numbering.{numbering}
use Rattle.cm_types_numbers.specs.declared.known.Known.{Known}
use Rattle.cm_types_numbers.specs.PlacedTables.{KnowsTypes, moves_order}
use Rattle.cm_types_numbers.specs.declared.moves.Moves.{Moves}
use Rattle.cm_types_numbers.proofs.KnownPlacedLaws.{tables_more, tables_same}
use Rattle.cm_types_numbers.proofs.PlacedStays.{types_stay}
use Rattle.cm_types_numbers.proofs.types.KnownTypes.number_type.Goals as goal

pub number_type-requires : goal.number_type-requires
number_type-requires g c =
    let found : get moves_order c.args.self.now.tables c.args.through.now.moves ≡ Some c.in-Some.known.now = search rules in
    c.requires c.args.through.now.moves c.in-Some.known.now found

pub returns-in-Some-clause-known : goal.returns-in-Some-clause-known
returns-in-Some-clause-known g c =
    let s = g.R.Replacement.replacement c.args.through.now.replacement.now in
    let ts = types_of c.args.types.now in
    let before = numbering c.args.numbers.now in
    let after = numbering c.number_type.new.self in
    tables_more after s ts c.args.self.now (record { tables = c.get_mut.follows.lender c.number_type.new.known }) c.args.through.now.moves c.number_type.new.known
    ((c.get_mut.follows.holds c.number_type.new.known).3 (search rules)).0
    (types_stay before after (λ u us ns. c.numbers_stay.ensures.types before after u us ns c.number_type.ensures.kept) s ts c.args.self.now c.requires)
    c.number_type.ensures.known

pub returns-in_err-number-clause-known : goal.returns-in_err-number-clause-known
returns-in_err-number-clause-known g c =
    let s = g.R.Replacement.replacement c.args.through.now.replacement.now in
    let ts = types_of c.args.types.now in
    let before = numbering c.args.numbers.now in
    let after = numbering c.number_type-2.new.self in
    subst (λ (m : BTreeMap Moves Known). KnowsTypes after s ts (record { tables = m })) (sym c.get_mut.follows.holds-at-none)
    (types_stay before after (λ u us ns. c.numbers_stay.ensures.types before after u us ns c.number_type-2.ensures.kept) s ts c.args.self.now c.requires)

pub returns-in_err-insert-clause-known : goal.returns-in_err-insert-clause-known
returns-in_err-insert-clause-known g c =
    let s = g.R.Replacement.replacement c.args.through.now.replacement.now in
    let ts = types_of c.args.types.now in
    let before = numbering c.args.numbers.now in
    let after = numbering c.number_type-2.new.self in
    let here : KnowsTypes after s ts (record { tables = c.get_mut.follows.lender-at-none }) =
    subst (λ (m : BTreeMap Moves Known). KnowsTypes after s ts (record { tables = m })) (sym c.get_mut.follows.holds-at-none)
    (types_stay before after (λ u us ns. c.numbers_stay.ensures.types before after u us ns c.number_type-2.ensures.kept) s ts c.args.self.now c.requires) in
    tables_same after s ts (record { tables = c.get_mut.follows.lender-at-none }) (record { tables = c.insert.new.self }) c.in_err-insert.ensures.err here

pub returns-clause-known : goal.returns-clause-known
returns-clause-known g c =
    let s = g.R.Replacement.replacement c.args.through.now.replacement.now in
    let ts = types_of c.args.types.now in
    let before = numbering c.args.numbers.now in
    let after = numbering c.number_type-2.new.self in
    let here : KnowsTypes after s ts (record { tables = c.get_mut.follows.lender-at-none }) =
    subst (λ (m : BTreeMap Moves Known). KnowsTypes after s ts (record { tables = m })) (sym c.get_mut.follows.holds-at-none)
    (types_stay before after (λ u us ns. c.numbers_stay.ensures.types before after u us ns c.number_type-2.ensures.kept) s ts c.args.self.now c.requires) in
    tables_more after s ts (record { tables = c.get_mut.follows.lender-at-none }) (record { tables = c.insert.new.self }) c.args.through.now.moves c.number_type-2.new.known
    c.in_ok-insert.ensures.updates.0 here c.number_type-2.ensures.known

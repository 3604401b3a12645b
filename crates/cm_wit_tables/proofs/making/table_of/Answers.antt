use Rattle.std.proofs.Common.{rules, map, length}
use Rattle.std.proofs.lemmas.Option.{MatchOption-at_some}
use Rattle.cm_wit_graph.specs.Orders.{IsOrder}
use Rattle.cm_types_arena.specs.Places.{types_of}
use Rattle.cm_wit_meanings.specs.Places.{table_in}
use Rattle.cm_wit_tables.specs.Declarations.{HasTypeCycle, uses}
use Rattle.cm_wit_tables.specs.TypeFaults.{AllHaveTypes}
use Rattle.cm_wit_tables.specs.DeclaredViews.{declaration_view}
use Rattle.cm_wit_tables.proofs.FaultLaws.{within_each, fault_is}
use Rattle.cm_wit_tables.proofs.making.table_of.Goals as goal

pub returns-in-Ok-clause-whole : goal.returns-in-Ok-clause-whole
returns-in-Ok-clause-whole c =
    let ds = map declaration_view c.args.declarations.now in
    let ordered : IsOrder (length ds) (uses ds) c.in-Some.order.items = MatchOption-at_some (HasTypeCycle ds) (λ v. IsOrder (length ds) (uses ds) v.items) c.in-Some.order c.in-Some.is c.in_ok-order.ensures in
    let r = c.ordered_ones_can_be_ranked.ensures ds c.in-Some.order.items ordered in
    let all : AllHaveTypes ds = c.in_ok-all_lead.ensures.0 (search rules) in
    (c.each_stands_where_names_lead.ensures ds (table_in (types_of c.filled.new.types) c.in-Ok.meanings.items) (c.ranked_ones_are_acyclic.ensures ds r.0 r.1) c.in-Ok.ensures.solves).0 all

pub returns-in-Ok-clause-within : goal.returns-in-Ok-clause-within
returns-in-Ok-clause-within c = within_each (types_of c.filled.new.types) c.in-Ok.meanings.items c.in-Ok.ensures.within

pub returns-in-Ok-clause-acyclic : goal.returns-in-Ok-clause-acyclic
returns-in-Ok-clause-acyclic c =
    let ds = map declaration_view c.args.declarations.now in
    let ordered : IsOrder (length ds) (uses ds) c.in-Some.order.items = MatchOption-at_some (HasTypeCycle ds) (λ v. IsOrder (length ds) (uses ds) v.items) c.in-Some.order c.in-Some.is c.in_ok-order.ensures in
    let r = c.ordered_ones_can_be_ranked.ensures ds c.in-Some.order.items ordered in
    c.ranked_ones_are_acyclic.ensures ds r.0 r.1

pub returns-clause-fault : goal.returns-clause-fault
returns-clause-fault c =
    let ds = map declaration_view c.args.declarations.now in
    let ordered : IsOrder (length ds) (uses ds) c.in-Some.order.items = MatchOption-at_some (HasTypeCycle ds) (λ v. IsOrder (length ds) (uses ds) v.items) c.in-Some.order c.in-Some.is c.in_ok-order.ensures in
    let r = c.ordered_ones_can_be_ranked.ensures ds c.in-Some.order.items ordered in
    let all : AllHaveTypes ds = c.in_ok-all_lead.ensures.0 (search rules) in
    fault_is ds c.in-Err.fault c.table_fault.result c.table_fault.ensures all (c.ranked_ones_are_acyclic.ensures ds r.0 r.1) c.in-Err.ensures.fault

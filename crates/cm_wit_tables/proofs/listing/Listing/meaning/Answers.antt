use Rattle.std.proofs.Common.{rules, Some, length, ap, sym, ◌∙◌}
use Rattle.std.specs.Option.{option_map}
use Rattle.cm_names.specs.Keys.{key_view}
use Rattle.cm_types_arena.specs.Places.{types_of}
use Rattle.cm_wit_meanings.specs.Places.{table_in}
use Rattle.cm_wit_reading.specs.Views.{type_def_tree}
use Rattle.cm_wit_tables.specs.DeclaredViews.{declared_view}
use Rattle.cm_wit_tables.specs.Declarations.{brought}
use Rattle.cm_wit_tables.specs.Filled.{entry_at}
use Rattle.cm_wit_tables.specs.Listings.{declared}
use Rattle.cm_wit_tables.proofs.EntryLaws.{nth, entry_is, defined_is, entry_fault}
use Rattle.cm_wit_tables.proofs.listing.Listing.meaning.Goals as goal

pub returns-in_err-push_def-in-Defined-clause-fault :
    goal.returns-in_err-push_def-in-Defined-clause-fault
returns-in_err-push_def-in-Defined-clause-fault c =
    let x = c.args.self.now in
    let types = types_of c.args.types.now in
    let entry = defined_is types x c.scope-scope.result c.args.table.now c.args.place c.index-self-place.result (type_def_tree c.in-Defined.definition.now) (record { component = 0; number = 0 }) c.requires.listing c.scope-scope.ensures.names c.scope-scope.ensures.table c.scope-scope.ensures.list c.requires.place (ap declared_view c.in-Defined.is) in
    let h = entry_fault (entry_at (declared x) (table_in types c.args.table.now) c.args.place) _ c.in_err-push_def-in-Defined.field-0.0 entry c.in_err-push_def-in-Defined.ensures.fault in
    search (rules, h)

pub returns-in-Brought-clause-meaning : goal.returns-in-Brought-clause-meaning
returns-in-Brought-clause-meaning c =
    let x = c.args.self.now in
    let d = c.index-self-place.result in
    let types = types_of c.args.types.now in
    entry_is x (table_in types c.args.table.now) c.args.place d (brought (option_map key_view c.in-Brought.key)) c.requires.place (ap declared_view c.in-Brought.is)
    ∙ ap Some (sym (c.brought.ensures.meaning types c.args.place (nth x c.args.place d).in_list))

pub returns-in_ok-push_def-in-Defined-clause-meaning :
    goal.returns-in_ok-push_def-in-Defined-clause-meaning
returns-in_ok-push_def-in-Defined-clause-meaning c =
    let entry = defined_is (types_of c.args.types.now) c.args.self.now c.scope-scope.result c.args.table.now c.args.place c.index-self-place.result (type_def_tree c.in-Defined.definition.now) (record { component = 0; number = 0 }) c.requires.listing c.scope-scope.ensures.names c.scope-scope.ensures.table c.scope-scope.ensures.list c.requires.place (ap declared_view c.in-Defined.is) in
    entry ∙ ap Some c.in_ok-push_def-in-Defined.ensures.meaning

pub returns-in-Brought-clause-placed : goal.returns-in-Brought-clause-placed
returns-in-Brought-clause-placed c = c.brought.ensures.placed (length (types_of c.args.types.now)) c.requires.placed

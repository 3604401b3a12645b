use Rattle.std.proofs.Common.{length, map, sym, subst}
use Rattle.std.proofs.lemmas.List.{length-map}
use Rattle.cm_names.specs.Listed.{listed}
use Rattle.cm_types_arena.specs.Signatures.{signature_of}
use Rattle.cm_types_arena.specs.Places.{types_of}
use Rattle.cm_wit_tables.specs.DeclaredViews.{declaration_view, instance_view}
use Rattle.cm_wit_worlds.specs.InterfaceViews.{placed_interface, placed_world}
use Rattle.cm_wit_meanings.specs.Places.{table_in}
use Rattle.cm_wit_signature.specs.Faults.{IsFaultIn}
use Rattle.cm_wit_signature.proofs.SignLaws.{table_fault_in, signed, made_fault_in}
use Rattle.cm_wit_signature.proofs.signing.tabled.Goals as goal

pub returns-in-Err-clause-fault : goal.returns-in-Err-clause-fault
returns-in-Err-clause-fault c = λ fs t.
    subst (IsFaultIn fs (placed_world c.args.sources.now.world.now)) (sym c.fault_of_table.ensures)
    (table_fault_in fs (placed_world c.args.sources.now.world.now) (map placed_interface c.args.sources.now.interfaces.now) c.args.externs.now.imports.items c.args.externs.now.exports.items (map instance_view c.args.instances.now.list.items) c.args.instances.now.imported (map declaration_view c.args.declarations.now) t c.in-Err.fault c.in-Err.ensures.fault)

pub returns-in-Ok-made-clause-signature : goal.returns-in-Ok-made-clause-signature
returns-in-Ok-made-clause-signature c = λ fs name is t.
    signed fs (placed_world c.args.sources.now.world.now) (map placed_interface c.args.sources.now.interfaces.now) c.args.externs.now.imports.items c.args.externs.now.exports.items (map instance_view c.args.instances.now.list.items) c.args.instances.now.imported (map declaration_view c.args.declarations.now) t
    (listed c.in-Ok.table.names) (table_in (types_of c.table_of.new.types) c.in-Ok.table.meanings.items) (length c.args.instances.now.list.items) c.in-Ok.ensures.names c.in-Ok.ensures.solves (sym (length-map c.args.instances.now.list.items instance_view)) c.in-Ok.ensures.acyclic
    name is c.in-Ok.ensures.within (signature_of c.in-Ok-made.signature) c.in-Ok-made.ensures.signature c.in-Ok-made.ensures.within

pub returns-clause-fault : goal.returns-clause-fault
returns-clause-fault c = λ fs t.
    subst (IsFaultIn fs (placed_world c.args.sources.now.world.now)) (sym c.fault_of_meaning.ensures)
    (made_fault_in fs (placed_world c.args.sources.now.world.now) (map placed_interface c.args.sources.now.interfaces.now) c.args.externs.now.imports.items c.args.externs.now.exports.items (map instance_view c.args.instances.now.list.items) c.args.instances.now.imported (map declaration_view c.args.declarations.now) t
    (listed c.in-Ok.table.names) (table_in (types_of c.table_of.new.types) c.in-Ok.table.meanings.items) (length c.args.instances.now.list.items) c.in-Ok.ensures.names c.in-Ok.ensures.solves (sym (length-map c.args.instances.now.list.items instance_view)) c.in-Ok.ensures.acyclic
    c.typed_ones_have_signatures.ensures c.in-Err-made.fault c.in-Err-made.ensures.fault)

use Rattle.std.proofs.Common.{rules, ◌≡◌, ℕ, List, Option, IfOk, IfErr, Some, length, map}
use Rattle.cm_names.specs.Listed.{listed}
use Rattle.cm_types_arena.specs.Signatures.{signature_of}
use Rattle.cm_types_arena.specs.Places.{types_of}
use Rattle.cm_wit_worlds.specs.InterfaceViews.{placed_interface, placed_world}
use Rattle.cm_wit_signature.specs.ItemFaults.{IsFaultWith}
use Rattle.cm_wit_meanings.specs.Places.{table_in}
use Rattle.cm_wit_meanings.specs.declared.scope.Meaning.{Meaning}
use Rattle.cm_wit_signature.specs.Functions.{funcs_in}
use Rattle.cm_wit_signature.specs.Made.{signature_made}
use Rattle.cm_wit_signature.proofs.MadeLaws.{four}
use Rattle.cm_wit_signature.proofs.signing.made.Goals as goal

pub returns-clause-signature : goal.returns-clause-signature
returns-clause-signature c =
    let own : c.len.result ≡ length c.args.instances.now.list.items = search rules in
    four (λ (t : List (Option Meaning)) (n : ℕ) (i o : List ℕ). IfOk c.signature_with.result (λ s. signature_made (map placed_interface c.args.sources.now.interfaces.now) (placed_world c.args.sources.now.world.now) (listed c.args.table.now.names) (table_in (types_of c.args.types) t) n c.args.instances.now.imported i o ≡ Some (signature_of s)))
    c.args.table.now.meanings.items c.deref.result.now (length c.args.instances.now.list.items) c.len.result c.args.externs.now.imports.items c.deref-2.result.now c.args.externs.now.exports.items c.deref-3.result.now
    c.deref.ensures.value own c.deref-2.ensures.value c.deref-3.ensures.value c.signature_with.ensures.signature

pub returns-clause-fault : goal.returns-clause-fault
returns-clause-fault c =
    let own : c.len.result ≡ length c.args.instances.now.list.items = search rules in
    four (λ (t : List (Option Meaning)) (n : ℕ) (i o : List ℕ). IfErr c.signature_with.result (IsFaultWith funcs_in (signature_made (map placed_interface c.args.sources.now.interfaces.now) (placed_world c.args.sources.now.world.now) (listed c.args.table.now.names) (table_in (types_of c.args.types) t) n c.args.instances.now.imported i o)))
    c.args.table.now.meanings.items c.deref.result.now (length c.args.instances.now.list.items) c.len.result c.args.externs.now.imports.items c.deref-2.result.now c.args.externs.now.exports.items c.deref-3.result.now
    c.deref.ensures.value own c.deref-2.ensures.value c.deref-3.ensures.value c.signature_with.ensures.fault

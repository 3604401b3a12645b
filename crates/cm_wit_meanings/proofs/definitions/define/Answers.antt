use Rattle.std.proofs.Common.{ap}
use Rattle.cm_types_arena.specs.Places.{types_of}
use Rattle.cm_wit_reading.specs.Views.{type_def_tree}
use Rattle.cm_wit_meanings.specs.declared.scope.Meaning.TheVariants as meant
use Rattle.cm_wit_meanings.specs.Faults.{IsFaultIn}
use Rattle.cm_wit_meanings.specs.Meanings.{def_meaning}
use Rattle.cm_wit_meanings.specs.Places.{IsPlaced, meaning_in, scope_in}
use Rattle.cm_wit_meanings.specs.Scopes.{as_type}
use Rattle.cm_wit_meanings.proofs.PartsAddedLaws.{added, answers_so, meant_so, place_named, stands}
use Rattle.cm_wit_meanings.proofs.DefinitionLaws.{record_means, variant_means}
use Rattle.cm_wit_meanings.proofs.definitions.define.Goals as goal

pub returns-in-Alias : goal.returns-in-Alias
returns-in-Alias c =
    answers_so c.named_place.ensures (meant_so (ap (λ x. def_meaning (scope_in (types_of c.args.types.now) c.args.scope.now) c.args.resource (type_def_tree x)) c.in-Alias.is) (place_named c.push_type.result (added c.push_type.ensures.there c.push_type.ensures.meaning c.push_type.ensures.fault c.push_type.ensures.grown c.push_type.ensures.funcs)))

pub returns-in-Record : goal.returns-in-Record
returns-in-Record c =
    answers_so c.named_place-in-Record.ensures (meant_so (record_means (scope_in (types_of c.args.types.now) c.args.scope.now) c.args.resource c.args.text.now c.in-Record.fields c.deref.result.now c.in-Record.is c.deref.ensures.value) (place_named c.push_record.result c.push_record.ensures))

pub returns-in-Variant : goal.returns-in-Variant
returns-in-Variant c =
    answers_so c.named_place-in-Variant.ensures (meant_so (variant_means (scope_in (types_of c.args.types.now) c.args.scope.now) c.args.resource c.args.text.now c.in-Variant.cases c.deref-in-Variant.result.now c.in-Variant.is c.deref-in-Variant.ensures.value) (place_named c.push_variant.result c.push_variant.ensures))

pub returns-in-Enum : goal.returns-in-Enum
returns-in-Enum c =
    answers_so c.named_place-in-Enum.ensures (meant_so (ap (λ x. def_meaning (scope_in (types_of c.args.types.now) c.args.scope.now) c.args.resource (type_def_tree x)) c.in-Enum.is) (place_named c.push_enum.result c.push_enum.ensures))

pub returns-in-Flags : goal.returns-in-Flags
returns-in-Flags c =
    answers_so c.named_place-in-Flags.ensures (meant_so (ap (λ x. def_meaning (scope_in (types_of c.args.types.now) c.args.scope.now) c.args.resource (type_def_tree x)) c.in-Flags.is) (place_named c.push_flags.result c.push_flags.ensures))

pub returns-in-Resource : goal.returns-in-Resource
returns-in-Resource c =
    stands meaning_in IsPlaced (IsFaultIn as_type) c.args.types.now _ (meant.Resource c.args.resource) tt (ap (λ x. def_meaning (scope_in (types_of c.args.types.now) c.args.scope.now) c.args.resource (type_def_tree x)) c.in-Resource.is)

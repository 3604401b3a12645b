use Rattle.std.proofs.Common.{◌≡◌, sym, ap, ◌∙◌}
use Rattle.cm_types.specs.DefTypes.{def_val_type_tree}
use Rattle.cm_types.specs.Spellable.{is_spellable}
use Rattle.cm_types.specs.Types.{Ty}
use Rattle.cm_types_arena.specs.Places.{funcs_of}
use Rattle.cm_types_arena.specs.TypeDefs.{def_type}
use Rattle.cm_validate_model.specs.Definitions.{value}
use Rattle.cm_validate_model.specs.Reasons.{least}
use Rattle.cm_validate_model.specs.Scopes.{value_def_of}
use Rattle.cm_validate_model.specs.TypeRules.{limits_broken, value_def_broken}
use Rattle.cm_validate_types.specs.Expansion.{type_or_bool}
use Rattle.cm_validate_types.specs.TypeScopes.{arena_types, own_types}
use Rattle.cm_validate_types.proofs.LimitLaws.{value_left, value_made}
use Rattle.cm_validate_types.proofs.ScopeLaws.{values_spelled}
use Rattle.cm_validate_types.proofs.SettledLaws.{too_many_nodes, value_settled}
use Rattle.cm_validate_types.proofs.SpellLaws.{def_spelled}
use Rattle.cm_validate_types.proofs.StayLaws.{stays_on}
use Rattle.cm_validate_types.proofs.scope.TypeScope.define_parts.Goals as goal

pub returns-then-not-are_within-clause-fault : goal.returns-then-not-are_within-clause-fault
returns-then-not-are_within-clause-fault c =
    too_many_nodes (own_types c.args.self.now) _ (def_val_type_tree c.args.def.now) (c.deref.ensures.value ∙ c.in_ok-uses.ensures) c.requires.parts (sym c.if-not-are_within.true ∙ c.are_within.ensures)

pub add_value-requires-clause-spellable : goal.add_value-requires-clause-spellable
add_value-requires-clause-spellable c =
    let s = c.args.self.now in
    let v = def_val_type_tree c.args.def.now in
    let made : def_type (arena_types c.settle_all.new.self) c.in_ok-placed.placed ≡ type_or_bool (own_types s) v =
    value_settled c.unmoved.ensures.types c.settle_all.new.self (own_types s) _ v _ (c.deref-2.ensures.value ∙ c.in_ok-uses.ensures) c.in_ok-settle_all.ensures.settled c.settle_all.ensures.own c.in_ok-placed.ensures.ty in
    ap is_spellable made ∙ def_spelled (own_types s) (values_spelled c.what_stays.ensures.spellable s.types.entries.items s.types.arena (funcs_of s.types) s.own.entries.items) v c.requires.parts

pub returns-clause-fault : goal.returns-clause-fault
returns-clause-fault c =
    let s = c.args.self.now in
    let v = def_val_type_tree c.args.def.now in
    let made : def_type (arena_types c.settle_all.new.self) c.in_ok-placed.placed ≡ type_or_bool (own_types s) v =
    value_settled c.unmoved.ensures.types c.settle_all.new.self (own_types s) _ v _ (c.deref-2.ensures.value ∙ c.in_ok-uses.ensures) c.in_ok-settle_all.ensures.settled c.settle_all.ensures.own c.in_ok-placed.ensures.ty in
    let told : least (value_def_broken (own_types s) v) ≡ least (limits_broken (def_type (arena_types c.settle_all.new.self) c.in_ok-placed.placed)) =
    value_left (own_types s) v c.requires.parts ∙ ap (λ (t : Ty). least (limits_broken t)) (sym made) in
    rw told c.add_value.ensures.fault

pub returns-clause-defined : goal.returns-clause-defined
returns-clause-defined c =
    let s = c.args.self.now in
    let v = def_val_type_tree c.args.def.now in
    let made : def_type (arena_types c.settle_all.new.self) c.in_ok-placed.placed ≡ type_or_bool (own_types s) v =
    value_settled c.unmoved.ensures.types c.settle_all.new.self (own_types s) _ v _ (c.deref-2.ensures.value ∙ c.in_ok-uses.ensures) c.in_ok-settle_all.ensures.settled c.settle_all.ensures.own c.in_ok-placed.ensures.ty in
    let told : value_def_of (own_types s) v ≡ value (def_type (arena_types c.settle_all.new.self) c.in_ok-placed.placed) = value_made (own_types s) v c.requires.parts ∙ ap value (sym made) in
    rw (told, sym c.settle_all.ensures.own) c.add_value.ensures.added

pub returns-clause-stays : goal.returns-clause-stays
returns-clause-stays c = stays_on c.args.self.now c.settle_all.new.self c.add_value.new.self c.settle_all.ensures.stays c.add_value.ensures.stays

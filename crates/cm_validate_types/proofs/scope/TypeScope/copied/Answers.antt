use Rattle.std.proofs.Common.{refl}
use Rattle.cm_types_arena.specs.Places.{types_of, funcs_of}
use Rattle.cm_validate_types.specs.TypeScopes.{Extends}
use Rattle.cm_validate_types.proofs.ScopeLaws.{grown_not, defs_among_more, placed_among_more}
use Rattle.cm_validate_types.proofs.StayLaws.{stays_grown}
use Rattle.cm_validate_types.proofs.scope.TypeScope.copied.Goals as goal

pub invariant_of-self : goal.invariant_of-self
invariant_of-self c =
    let old = c.args.self.now.types in
    let new = c.push_replaced.new.types in
    let p : Extends (types_of old) (types_of new) = c.push_replaced.ensures.kept in
    let q : Extends (funcs_of old) (funcs_of new) = grown_not (funcs_of old) (funcs_of new) c.push_replaced.ensures.funcs in
    record {
      own_placed = placed_among_more (types_of old) (types_of new) (funcs_of old) (funcs_of new) p q c.args.self.now.own.entries.items c.args.self.now.own_placed;
      around_placed = placed_among_more (types_of old) (types_of new) (funcs_of old) (funcs_of new) p q c.args.self.now.around.entries.items c.args.self.now.around_placed;
    }

pub returns-clause-own : goal.returns-clause-own
returns-clause-own c =
    let old = c.args.self.now.types in
    let new = c.push_replaced.new.types in
    let p : Extends (types_of old) (types_of new) = c.push_replaced.ensures.kept in
    let q : Extends (funcs_of old) (funcs_of new) = grown_not (funcs_of old) (funcs_of new) c.push_replaced.ensures.funcs in
    defs_among_more (types_of old) (types_of new) (funcs_of old) (funcs_of new) p q c.args.self.now.own.entries.items c.args.self.now.own_placed

pub returns-clause-around : goal.returns-clause-around
returns-clause-around c =
    let old = c.args.self.now.types in
    let new = c.push_replaced.new.types in
    let p : Extends (types_of old) (types_of new) = c.push_replaced.ensures.kept in
    let q : Extends (funcs_of old) (funcs_of new) = grown_not (funcs_of old) (funcs_of new) c.push_replaced.ensures.funcs in
    defs_among_more (types_of old) (types_of new) (funcs_of old) (funcs_of new) p q c.args.self.now.around.entries.items c.args.self.now.around_placed

pub returns-clause-stays : goal.returns-clause-stays
returns-clause-stays c =
    let old = c.args.self.now.types in
    let new = c.push_replaced.new.types in
    let p : Extends (types_of old) (types_of new) = c.push_replaced.ensures.kept in
    let q : Extends (funcs_of old) (funcs_of new) = grown_not (funcs_of old) (funcs_of new) c.push_replaced.ensures.funcs in
    stays_grown c.args.self.now _ (p, q) refl refl

use Rattle.std.proofs.Common.{refl}
use Rattle.cm_types_arena.specs.Places.{types_of, funcs_of}
use Rattle.cm_types_arena.specs.TypeDefs.{def_type}
use Rattle.cm_validate_types.specs.TypeScopes.{Extends}
use Rattle.cm_validate_types.proofs.ScopeLaws.{grown_by, grown_not, defs_among_more, placed_among_more}
use Rattle.cm_validate_types.proofs.StayLaws.{stays_grown}
use Rattle.cm_validate_types.proofs.scope.TypeScope.push_type.Goals as goal

pub invariant_of-self : goal.invariant_of-self
invariant_of-self c =
    let p : Extends (types_of c.args.self.now.types) (types_of c.push.new.self) = grown_by c.push.result (types_of c.args.self.now.types) (types_of c.push.new.self) (def_type (types_of c.args.self.now.types) c.args.def) c.push.ensures.pushed c.push.ensures.kept in
    let q : Extends (funcs_of c.args.self.now.types) (funcs_of c.push.new.self) = grown_not (funcs_of c.args.self.now.types) (funcs_of c.push.new.self) c.push.ensures.funcs in
    record {
      own_placed = placed_among_more (types_of c.args.self.now.types) (types_of c.push.new.self) (funcs_of c.args.self.now.types) (funcs_of c.push.new.self) p q c.args.self.now.own.entries.items c.args.self.now.own_placed;
      around_placed = placed_among_more (types_of c.args.self.now.types) (types_of c.push.new.self) (funcs_of c.args.self.now.types) (funcs_of c.push.new.self) p q c.args.self.now.around.entries.items c.args.self.now.around_placed;
    }

pub returns-clause-own : goal.returns-clause-own
returns-clause-own c =
    let p : Extends (types_of c.args.self.now.types) (types_of c.push.new.self) = grown_by c.push.result (types_of c.args.self.now.types) (types_of c.push.new.self) (def_type (types_of c.args.self.now.types) c.args.def) c.push.ensures.pushed c.push.ensures.kept in
    let q : Extends (funcs_of c.args.self.now.types) (funcs_of c.push.new.self) = grown_not (funcs_of c.args.self.now.types) (funcs_of c.push.new.self) c.push.ensures.funcs in
    defs_among_more (types_of c.args.self.now.types) (types_of c.push.new.self) (funcs_of c.args.self.now.types) (funcs_of c.push.new.self) p q c.args.self.now.own.entries.items c.args.self.now.own_placed

pub returns-clause-around : goal.returns-clause-around
returns-clause-around c =
    let p : Extends (types_of c.args.self.now.types) (types_of c.push.new.self) = grown_by c.push.result (types_of c.args.self.now.types) (types_of c.push.new.self) (def_type (types_of c.args.self.now.types) c.args.def) c.push.ensures.pushed c.push.ensures.kept in
    let q : Extends (funcs_of c.args.self.now.types) (funcs_of c.push.new.self) = grown_not (funcs_of c.args.self.now.types) (funcs_of c.push.new.self) c.push.ensures.funcs in
    defs_among_more (types_of c.args.self.now.types) (types_of c.push.new.self) (funcs_of c.args.self.now.types) (funcs_of c.push.new.self) p q c.args.self.now.around.entries.items c.args.self.now.around_placed

pub returns-clause-grown : goal.returns-clause-grown
returns-clause-grown c =
    let p : Extends (types_of c.args.self.now.types) (types_of c.push.new.self) = grown_by c.push.result (types_of c.args.self.now.types) (types_of c.push.new.self) (def_type (types_of c.args.self.now.types) c.args.def) c.push.ensures.pushed c.push.ensures.kept in
    let q : Extends (funcs_of c.args.self.now.types) (funcs_of c.push.new.self) = grown_not (funcs_of c.args.self.now.types) (funcs_of c.push.new.self) c.push.ensures.funcs in
    (p, q)

pub returns-clause-stays : goal.returns-clause-stays
returns-clause-stays c =
    let p : Extends (types_of c.args.self.now.types) (types_of c.push.new.self) = grown_by c.push.result (types_of c.args.self.now.types) (types_of c.push.new.self) (def_type (types_of c.args.self.now.types) c.args.def) c.push.ensures.pushed c.push.ensures.kept in
    let q : Extends (funcs_of c.args.self.now.types) (funcs_of c.push.new.self) = grown_not (funcs_of c.args.self.now.types) (funcs_of c.push.new.self) c.push.ensures.funcs in
    stays_grown c.args.self.now _ (p, q) refl refl

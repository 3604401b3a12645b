use Rattle.cm_types.specs.DefTypes.{func_type_tree}
use Rattle.cm_validate_model.specs.Scopes.{func_def_of}
use Rattle.cm_types_arena.specs.Instances.{items_of}
use Rattle.cm_validate_types.specs.TypeScopes.{arena_funcs, arena_types, own_types, types_around}
use Rattle.cm_validate_instances.specs.DeclaredScopes.{scope_so_far}
use Rattle.cm_validate_instances.proofs.MovedLaws.{around_before}
use Rattle.cm_validate_instances.proofs.PropLaws.{items_known, moved_known}
use Rattle.cm_validate_instances.proofs.ScopeLaws.{declared_by, kept_by}
use Rattle.cm_validate_instances.proofs.declarations.Declarations.declare_func.Goals as goal

pub invariant_of-self : goal.invariant_of-self
invariant_of-self c =
    record {
      counted = c.args.self.now.counted;
      items_placed = c.items_stay.ensures.there (arena_types c.args.self.now.scope) (arena_types c.define_func.new.self) (arena_funcs c.args.self.now.scope) (arena_funcs c.define_func.new.self) c.args.self.now.items.items c.define_func.ensures.grown.0 c.define_func.ensures.grown.1 c.args.self.now.items_placed;
      moved_counted = ∣ (λ a. c.define_func.ensures.stays.moved c.args.self.now.first (moved_known c.args.self.now.first c.args.self.now.scope c.args.self.now.moved_counted (around_before c.args.self.now.first c.args.self.now.scope c.define_func.new.self c.define_func.ensures.around a))) ∣₁;
      items_settled = ∣ (λ a. c.moves_stay.ensures.items (arena_types c.args.self.now.scope) (arena_types c.define_func.new.self) (arena_funcs c.args.self.now.scope) (arena_funcs c.define_func.new.self) c.args.self.now.first c.args.self.now.items.items c.define_func.ensures.grown.0 c.define_func.ensures.grown.1 c.args.self.now.items_placed
          (items_known c.args.self.now.first c.args.self.now.scope c.args.self.now.items.items c.args.self.now.items_settled (around_before c.args.self.now.first c.args.self.now.scope c.define_func.new.self c.define_func.ensures.around a))) ∣₁;
    }

pub returns-clause-declared : goal.returns-clause-declared
returns-clause-declared c =
    declared_by (scope_so_far c.args.self.now) (own_types c.define_func.new.self) (types_around c.define_func.new.self) (items_of (arena_types c.define_func.new.self) (arena_funcs c.define_func.new.self) c.args.self.now.items.items) c.define_func.ensures.around (c.items_stay.ensures.items (arena_types c.args.self.now.scope) (arena_types c.define_func.new.self) (arena_funcs c.args.self.now.scope) (arena_funcs c.define_func.new.self) c.args.self.now.items.items c.define_func.ensures.grown.0 c.define_func.ensures.grown.1 c.args.self.now.items_placed)
    c.define_func.result (func_def_of (own_types c.args.self.now.scope) (func_type_tree c.args.def.now)) c.define_func.ensures.defined

pub returns-clause-kept : goal.returns-clause-kept
returns-clause-kept c =
    kept_by (scope_so_far c.args.self.now) (own_types c.define_func.new.self) (types_around c.define_func.new.self) (items_of (arena_types c.define_func.new.self) (arena_funcs c.define_func.new.self) c.args.self.now.items.items) c.define_func.ensures.around (c.items_stay.ensures.items (arena_types c.args.self.now.scope) (arena_types c.define_func.new.self) (arena_funcs c.args.self.now.scope) (arena_funcs c.define_func.new.self) c.args.self.now.items.items c.define_func.ensures.grown.0 c.define_func.ensures.grown.1 c.args.self.now.items_placed)
    c.define_func.result c.define_func.ensures.kept

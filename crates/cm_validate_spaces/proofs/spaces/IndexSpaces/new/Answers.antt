use Rattle.std.proofs.Common.{ap, length, sym, subst, ◌∙◌, List}
use Rattle.std.specs.List.{AllByRecursion, list_all}
use Rattle.cm_layout_placed.specs.Placed.{AreOfFirst}
use Rattle.cm_layout.specs.Shapes.{LayoutTy}
use Rattle.cm_validate_types.specs.Settled.{IsEntrySettled}
use Rattle.cm_validate_types.specs.TypeScopes.{arena_funcs, arena_types}
use Rattle.cm_validate_spaces.specs.Made.{is_made_there}
use Rattle.cm_validate_spaces.proofs.spaces.IndexSpaces.new.Goals as goal

pub returns : goal.returns
returns c =
    let t = c.in_ok-new.field-0 in
    record {
      core_is = λ tell told. c.new.ensures.empty tell told.no_guests;
      component_is = c.new-2.ensures (arena_types t) (arena_funcs t);
      types_are = sym c.in_ok-new.ensures.own;
      settled = subst (AllByRecursion (IsEntrySettled (arena_types t) (arena_funcs t))) (sym c.in_ok-new.ensures.entries) tt;
      counted = c.new.ensures.counted ∙ sym (ap length c.new-5.ensures.items);
      made_there = ap (list_all (is_made_there (length (arena_funcs t)))) c.new-5.ensures.items;
      laid = subst (λ (ls : List LayoutTy). AreOfFirst ls (arena_types t)) (sym c.new-4.ensures) (c.first_layouts_stay.ensures.none (arena_types t));
    }

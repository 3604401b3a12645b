use Rattle.std.proofs.Common.{◌≡◌, ◌∙◌, ap, arith, length, map}
use Rattle.cm_layout.specs.Layouts.{layout_of}
use Rattle.cm_layout.specs.Shapes.{LayoutTy}
use Rattle.cm_types_arena.specs.TypeDefs.{type_at}
use Rattle.cm_abi_programs.specs.Checks.{checks_of, flat_checks_of, no_checks}
use Rattle.cm_abi_programs.specs.Coded.{check_lists, checks_in}
use Rattle.cm_abi_programs.specs.Held.{items_at, items_of, shapes_in}
use Rattle.cm_abi_programs.specs.Placed.{passed_of, stored_of}
use Rattle.cm_abi_programs.proofs.HeldLaws.{all_below, as_many, flat_is, held_are, pushed_are}
use Rattle.cm_abi_programs.proofs.placed_checks.PlacedChecks.add.Goals as goal

pub gather-requires : goal.gather-requires
gather-requires c =
    let many = as_many checks_in stored_of c.args.self.now.stored.items c.requires.next.0 c.requires.next.1 (omega (arith, c.requires.next.3)) c.requires.next.2.stored_are in
    all_below c.requires.next.1 (length c.deref.result.now) c.args.places.now (omega (arith, ap length c.deref.ensures.value, many)) c.requires.next.4

pub stored_checks-requires : goal.stored_checks-requires
stored_checks-requires c =
    ap check_lists c.deref-2.ensures.value
    ∙ held_are checks_in checks_of c.args.self.now.stored.items c.requires.next.0 c.requires.next.1 (omega (arith, c.requires.next.3)) c.requires.next.2.stored_are c.in_ok-stored.stored.items c.args.places.now (type_at c.requires.next.0 c.requires.next.1) (layout_of c.args.layout.now) c.requires.next.4 (c.in_ok-stored.ensures ∙ ap (λ xs. map (items_at (items_of xs)) c.args.places.now) c.deref.ensures.value) c.requires.next.5 c.requires.next.6

pub flat-requires : goal.flat-requires
flat-requires c =
    let stored : check_lists c.deref-3.result.now ≡ map checks_of (shapes_in (layout_of c.args.layout.now).shape) =
    ap check_lists c.deref-3.ensures.value
    ∙ held_are checks_in checks_of c.args.self.now.stored.items c.requires.next.0 c.requires.next.1 (omega (arith, c.requires.next.3)) c.requires.next.2.stored_are c.in_ok-stored.stored.items c.args.places.now (type_at c.requires.next.0 c.requires.next.1) (layout_of c.args.layout.now) c.requires.next.4 (c.in_ok-stored.ensures ∙ ap (λ xs. map (items_at (items_of xs)) c.args.places.now) c.deref.ensures.value) c.requires.next.5 c.requires.next.6 in
    record {
      stored = stored;
      parts = (
        c.requires.next.0,
        c.requires.next.1,
        type_at c.requires.next.0 c.requires.next.1,
        c.requires.next.2,
        omega (arith, c.requires.next.3),
        c.requires.next.4,
        c.requires.next.5,
        c.requires.next.6,
        c.requires.next.7,
      );
    }

pub returns : goal.returns
returns c = λ ts n are lt below parts laid some. record {
  stored_are = pushed_are checks_in stored_of c.args.self.now.stored.items c.push.new.self.items c.in_ok-new.field-0 ts n lt c.in_ok-push.ensures.items are.stored_are
      (ap (λ v. checks_in v.items) c.in_ok-new.ensures.ok ∙ (c.in_ok-checks.ensures ∙ ap (λ (l : LayoutTy). checks_of l.shape) laid));
  passed_are = pushed_are checks_in passed_of c.args.self.now.flat.items c.push-2.new.self.items c.in_ok-new-2.field-0 ts n lt c.in_ok-push-2.ensures.items are.passed_are
      (ap (λ v. checks_in v.items) c.in_ok-new-2.ensures.ok ∙ flat_is checks_in flat_checks_of no_checks (type_at ts n) (layout_of c.args.layout.now) (checks_in c.in_ok-passed.passed.items) laid c.in_ok-passed.ensures);
}

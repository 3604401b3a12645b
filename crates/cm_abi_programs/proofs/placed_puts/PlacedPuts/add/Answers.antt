use Rattle.std.proofs.Common.{◌≡◌, ◌∙◌, ap, arith, length, map}
use Rattle.cm_layout.specs.Layouts.{layout_of}
use Rattle.cm_layout.specs.Shapes.{LayoutTy}
use Rattle.cm_types_arena.specs.TypeDefs.{type_at}
use Rattle.cm_abi_programs.specs.Puts.{puts_of}
use Rattle.cm_abi_programs.specs.SlotPuts.{flat_puts_of, no_slots}
use Rattle.cm_abi_programs.specs.CodedPuts.{put_lists, puts_in}
use Rattle.cm_abi_programs.specs.CodedSlots.{slots_in}
use Rattle.cm_abi_programs.specs.Held.{items_at, items_of, shapes_in}
use Rattle.cm_abi_programs.specs.Placed.{passed_puts_of, stored_puts_of}
use Rattle.cm_abi_programs.proofs.HeldLaws.{all_below, as_many, flat_is, held_are, pushed_are}
use Rattle.cm_abi_programs.proofs.placed_puts.PlacedPuts.add.Goals as goal

pub gather-requires : goal.gather-requires
gather-requires c =
    let many = as_many puts_in stored_puts_of c.args.self.now.stored.items c.requires.next.0 c.requires.next.1 (omega (arith, c.requires.next.3)) c.requires.next.2.stored_are in
    all_below c.requires.next.1 (length c.deref.result.now) c.args.places.now (omega (arith, ap length c.deref.ensures.value, many)) c.requires.next.4

pub stored_puts-requires : goal.stored_puts-requires
stored_puts-requires c =
    ap put_lists c.deref-2.ensures.value
    ∙ held_are puts_in puts_of c.args.self.now.stored.items c.requires.next.0 c.requires.next.1 (omega (arith, c.requires.next.3)) c.requires.next.2.stored_are c.in_ok-stored.stored.items c.args.places.now (type_at c.requires.next.0 c.requires.next.1) (layout_of c.args.layout.now) c.requires.next.4 (c.in_ok-stored.ensures ∙ ap (λ xs. map (items_at (items_of xs)) c.args.places.now) c.deref.ensures.value) c.requires.next.5 c.requires.next.6

pub flat-requires : goal.flat-requires
flat-requires c =
    let stored : put_lists c.deref-3.result.now ≡ map puts_of (shapes_in (layout_of c.args.layout.now).shape) =
    ap put_lists c.deref-3.ensures.value
    ∙ held_are puts_in puts_of c.args.self.now.stored.items c.requires.next.0 c.requires.next.1 (omega (arith, c.requires.next.3)) c.requires.next.2.stored_are c.in_ok-stored.stored.items c.args.places.now (type_at c.requires.next.0 c.requires.next.1) (layout_of c.args.layout.now) c.requires.next.4 (c.in_ok-stored.ensures ∙ ap (λ xs. map (items_at (items_of xs)) c.args.places.now) c.deref.ensures.value) c.requires.next.5 c.requires.next.6 in
    record {
      stored = stored;
      parts = (
        c.requires.next.0,
        c.requires.next.1,
        type_at c.requires.next.0 c.requires.next.1,
        c.requires.next.2,
        omega (arith, c.requires.next.3),
        c.requires.next.4,
        c.requires.next.5,
        c.requires.next.6,
        c.requires.next.7,
      );
    }

pub returns : goal.returns
returns c = λ ts n are lt below parts laid some. record {
  stored_are = pushed_are puts_in stored_puts_of c.args.self.now.stored.items c.push.new.self.items c.in_ok-new.field-0 ts n lt c.in_ok-push.ensures.items are.stored_are
      (ap (λ v. puts_in v.items) c.in_ok-new.ensures.ok ∙ (c.in_ok-puts.ensures ∙ ap (λ (l : LayoutTy). puts_of l.shape) laid));
  passed_are = pushed_are slots_in passed_puts_of c.args.self.now.flat.items c.push-2.new.self.items c.in_ok-new-2.field-0 ts n lt c.in_ok-push-2.ensures.items are.passed_are
      (ap (λ v. slots_in v.items) c.in_ok-new-2.ensures.ok ∙ flat_is slots_in flat_puts_of no_slots (type_at ts n) (layout_of c.args.layout.now) (slots_in c.in_ok-passed.passed.items) laid c.in_ok-passed.ensures);
}

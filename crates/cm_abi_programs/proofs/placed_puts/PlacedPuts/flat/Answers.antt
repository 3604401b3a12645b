use Rattle.std.proofs.Common.{◌≡◌, ◌∙◌, ap, arith, false, length, map, sym}
use Rattle.std.proofs.lemmas.Result.{IfOk-weaker}
use Rattle.cm_layout.specs.Layouts.{layout_of}
use Rattle.cm_abi_programs.specs.SlotPuts.{flat_puts_of, no_slots}
use Rattle.cm_abi_programs.specs.CodedSlots.{slot_lists, slots_in}
use Rattle.cm_abi_programs.specs.Held.{items_at, items_of}
use Rattle.cm_abi_programs.specs.Placed.{is_wide, passed_puts_of}
use Rattle.cm_abi_programs.proofs.HeldLaws.{all_below, as_many, flat_held, some_narrow, wide_none}
use Rattle.cm_abi_programs.proofs.placed_puts.PlacedPuts.flat.Goals as goal

pub gather-requires : goal.gather-requires
gather-requires c =
    let many = as_many slots_in passed_puts_of c.args.self.now.flat.items c.requires.parts.0 c.requires.parts.1 c.requires.parts.4 c.requires.parts.3.passed_are in
    all_below c.requires.parts.1 (length c.deref.result.now) c.args.places.now (omega (arith, ap length c.deref.ensures.value, many)) c.requires.parts.5

pub flat_puts-requires : goal.flat_puts-requires
flat_puts-requires c =
    let narrow : is_wide (layout_of c.args.layout.now).head ≡ false = sym c.is_wide.ensures ∙ c.if-is_wide.false in
    record {
      stored = c.requires.stored;
      held = λ place.
          ap slot_lists c.deref-2.ensures.value
          ∙ flat_held slots_in flat_puts_of no_slots c.args.self.now.flat.items c.requires.parts.0 c.requires.parts.1 c.requires.parts.4 c.requires.parts.3.passed_are c.in_ok-flat.flat.items c.args.places.now c.requires.parts.2 (layout_of c.args.layout.now) c.requires.parts.5 (c.in_ok-flat.ensures ∙ ap (λ xs. map (items_at (items_of xs)) c.args.places.now) c.deref.ensures.value) c.requires.parts.6 c.requires.parts.7 c.requires.parts.8 narrow place;
    }

pub returns-then-is_wide : goal.returns-then-is_wide
returns-then-is_wide c = wide_none (is_wide (layout_of c.args.layout.now).head) no_slots (flat_puts_of (layout_of c.args.layout.now).shape) _ (sym c.is_wide.ensures ∙ c.if-is_wide.true) (ap slots_in c.new.ensures.items)

pub returns : goal.returns
returns c =
    let narrow : is_wide (layout_of c.args.layout.now).head ≡ false = sym c.is_wide.ensures ∙ c.if-is_wide.false in
    IfOk-weaker c.flat_puts.result _ _ (λ cs e. some_narrow (is_wide (layout_of c.args.layout.now).head) no_slots (flat_puts_of (layout_of c.args.layout.now).shape) (slots_in cs.items) narrow e) c.flat_puts.ensures

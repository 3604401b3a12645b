use Rattle.std.proofs.Common.{◌≡◌, ◌+◌, ◌*◌, ◌-◌, length, map, drop}
use Rattle.cm_layout.specs.Layouts.{layout_of, part_of}
use Rattle.cm_layout.specs.Shapes.{parts_from}
use Rattle.cm_abi_model.specs.Parts.{handle_count_each, part_count_each}
use Rattle.cm_abi_model.specs.Receives.{behind_each}
use Rattle.cm_abi_model.specs.Stores.{poke, store_each}
use Rattle.cm_abi_store.specs.FlatLowering.{behind_by, behind_by_fields, slots_by, slots_by_fields}
use Rattle.cm_abi_store.specs.Storing.{given_of}
use Rattle.cm_abi_lower.proofs.WalkLemmas.{PartsPass}
use Rattle.cm_abi_lower.proofs.passing.+passing.Given as goal

-- what was passed, and what is still to be passed, is all of it
abbrev pub invariant-pass_row-loop : goal.invariant-pass_row-loop
invariant-pass_row-loop g l =
    (length l.memory ≡ length l.initial.memory)
    × (length l.slots ≡ length l.initial.slots)
    × (l.slot ≡ l.at + l.counter * (layout_of l.element).head.width)
    × g.S.ValueSource.values_ready l.rest (length l.initial.memory) (given_of l.to) (layout_of l.element).head (layout_of l.element).shape (l.count - l.counter) l.next.part l.next.handle
    × (poke (store_each (slots_by (given_of l.to) (layout_of l.element).shape) (layout_of l.element).head.width (g.S.ValueSource.values_left l.rest (layout_of l.element).head (layout_of l.element).shape (l.count - l.counter)) l.slot l.next.part l.next.handle) l.slots
    ≡ poke (store_each (slots_by (given_of l.to) (layout_of l.element).shape) (layout_of l.element).head.width (g.S.ValueSource.values_left l.fn.items (layout_of l.element).head (layout_of l.element).shape l.count) l.at l.initial.next.part l.initial.next.handle) l.initial.slots)
    × (poke (behind_each (behind_by (given_of l.to) (layout_of l.element).shape) (g.S.ValueSource.values_left l.rest (layout_of l.element).head (layout_of l.element).shape (l.count - l.counter)) l.next.part l.next.handle) l.memory
    ≡ poke (behind_each (behind_by (given_of l.to) (layout_of l.element).shape) (g.S.ValueSource.values_left l.fn.items (layout_of l.element).head (layout_of l.element).shape l.count) l.initial.next.part l.initial.next.handle) l.initial.memory)
    × (l.next.part + part_count_each (g.S.ValueSource.values_left l.rest (layout_of l.element).head (layout_of l.element).shape (l.count - l.counter)) ≡ l.initial.next.part + part_count_each (g.S.ValueSource.values_left l.fn.items (layout_of l.element).head (layout_of l.element).shape l.count))
    × (l.next.handle + handle_count_each (g.S.ValueSource.values_left l.rest (layout_of l.element).head (layout_of l.element).shape (l.count - l.counter)) ≡ l.initial.next.handle + handle_count_each (g.S.ValueSource.values_left l.fn.items (layout_of l.element).head (layout_of l.element).shape l.count))

abbrev pub invariant-pass_fields-loop-part : goal.invariant-pass_fields-loop-part
invariant-pass_fields-loop-part g l =
    (length l.memory ≡ length l.initial.memory)
    × (length l.slots ≡ length l.initial.slots)
    × PartsPass (length l.initial.slots) l.slot (parts_from (map part_of (drop l.part-index l.parts)))
    × g.S.ValueSource.fields_ready l.rest (length l.initial.memory) (given_of l.to) (parts_from (map part_of (drop l.part-index l.parts))) l.next.part l.next.handle
    × (poke (slots_by_fields (given_of l.to) (parts_from (map part_of (drop l.part-index l.parts))) (g.S.ValueSource.fields_left l.rest (parts_from (map part_of (drop l.part-index l.parts)))) l.slot l.next.part l.next.handle) l.slots
    ≡ poke (slots_by_fields (given_of l.to) (parts_from (map part_of l.parts)) (g.S.ValueSource.fields_left l.fn.fields (parts_from (map part_of l.parts))) l.at l.initial.next.part l.initial.next.handle) l.initial.slots)
    × (poke (behind_by_fields (given_of l.to) (parts_from (map part_of (drop l.part-index l.parts))) (g.S.ValueSource.fields_left l.rest (parts_from (map part_of (drop l.part-index l.parts)))) l.next.part l.next.handle) l.memory
    ≡ poke (behind_by_fields (given_of l.to) (parts_from (map part_of l.parts)) (g.S.ValueSource.fields_left l.fn.fields (parts_from (map part_of l.parts))) l.initial.next.part l.initial.next.handle) l.initial.memory)
    × (l.next.part + part_count_each (g.S.ValueSource.fields_left l.rest (parts_from (map part_of (drop l.part-index l.parts)))) ≡ l.initial.next.part + part_count_each (g.S.ValueSource.fields_left l.fn.fields (parts_from (map part_of l.parts))))
    × (l.next.handle + handle_count_each (g.S.ValueSource.fields_left l.rest (parts_from (map part_of (drop l.part-index l.parts)))) ≡ l.initial.next.handle + handle_count_each (g.S.ValueSource.fields_left l.fn.fields (parts_from (map part_of l.parts))))

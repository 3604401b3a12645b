use Rattle.std.proofs.Common.{◌≡◌, ◌+◌, ◌*◌, ◌-◌, length, map, drop}
use Rattle.cm_layout.specs.Layouts.{layout_of, part_of}
use Rattle.cm_layout.specs.Shapes.{parts_from}
use Rattle.cm_abi_model.specs.Parts.{handle_count_each, part_count_each}
use Rattle.cm_abi_model.specs.Stores.{poke, store_each}
use Rattle.cm_abi_store.specs.Storing.{given_of, stored_by, stored_by_fields}
use Rattle.cm_abi_store.proofs.WalkLemmas.{PartsLie}
use Rattle.cm_abi_store.proofs.storing.+storing.Given as goal

-- what was stored, and what is still to be stored, is all of it
abbrev pub invariant-store_row-loop : goal.invariant-store_row-loop
invariant-store_row-loop g l =
    (length l.memory ≡ length l.initial.memory)
    × (l.place ≡ l.at + l.counter * (layout_of l.element).head.size)
    × g.S.ValueSource.values_ready l.rest (length l.initial.memory) (given_of l.to) (layout_of l.element).head (layout_of l.element).shape (l.count - l.counter) l.next.part l.next.handle
    × (poke (store_each (stored_by (given_of l.to) (layout_of l.element).shape) (layout_of l.element).head.size (g.S.ValueSource.values_left l.rest (layout_of l.element).head (layout_of l.element).shape (l.count - l.counter)) l.place l.next.part l.next.handle) l.memory
    ≡ poke (store_each (stored_by (given_of l.to) (layout_of l.element).shape) (layout_of l.element).head.size (g.S.ValueSource.values_left l.fn.items (layout_of l.element).head (layout_of l.element).shape l.count) l.at l.initial.next.part l.initial.next.handle) l.initial.memory)
    × (l.next.part + part_count_each (g.S.ValueSource.values_left l.rest (layout_of l.element).head (layout_of l.element).shape (l.count - l.counter)) ≡ l.initial.next.part + part_count_each (g.S.ValueSource.values_left l.fn.items (layout_of l.element).head (layout_of l.element).shape l.count))
    × (l.next.handle + handle_count_each (g.S.ValueSource.values_left l.rest (layout_of l.element).head (layout_of l.element).shape (l.count - l.counter)) ≡ l.initial.next.handle + handle_count_each (g.S.ValueSource.values_left l.fn.items (layout_of l.element).head (layout_of l.element).shape l.count))

abbrev pub invariant-store_fields-loop-part : goal.invariant-store_fields-loop-part
invariant-store_fields-loop-part g l =
    (length l.memory ≡ length l.initial.memory)
    × PartsLie (length l.initial.memory) l.at (parts_from (map part_of (drop l.part-index l.parts)))
    × g.S.ValueSource.fields_ready l.rest (length l.initial.memory) (given_of l.to) (parts_from (map part_of (drop l.part-index l.parts))) l.next.part l.next.handle
    × (poke (stored_by_fields (given_of l.to) (parts_from (map part_of (drop l.part-index l.parts))) (g.S.ValueSource.fields_left l.rest (parts_from (map part_of (drop l.part-index l.parts)))) l.at l.next.part l.next.handle) l.memory
    ≡ poke (stored_by_fields (given_of l.to) (parts_from (map part_of l.parts)) (g.S.ValueSource.fields_left l.fn.fields (parts_from (map part_of l.parts))) l.at l.initial.next.part l.initial.next.handle) l.initial.memory)
    × (l.next.part + part_count_each (g.S.ValueSource.fields_left l.rest (parts_from (map part_of (drop l.part-index l.parts)))) ≡ l.initial.next.part + part_count_each (g.S.ValueSource.fields_left l.fn.fields (parts_from (map part_of l.parts))))
    × (l.next.handle + handle_count_each (g.S.ValueSource.fields_left l.rest (parts_from (map part_of (drop l.part-index l.parts)))) ≡ l.initial.next.handle + handle_count_each (g.S.ValueSource.fields_left l.fn.fields (parts_from (map part_of l.parts))))

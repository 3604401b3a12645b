use Rattle.std.proofs.Common.{◌≡◌, ◌∙◌, ◌<◌, ◌≤◌, ap, arith, false, length, map, refl, subst, sym, take}
use Rattle.std.proofs.lemmas.Bool.{le-ltb, lt-ltb}
use Rattle.std.specs.List.{AllByRecursion}
use Rattle.cm_types.specs.Types.{fields, tuple_type}
use Rattle.cm_layout.specs.Layouts.{layout_of}
use Rattle.cm_layout.specs.declared.heads.Head.{Head}
use Rattle.cm_layout.specs.declared.layouts.Layout.{out-Layout}
use Rattle.cm_layout.proofs.LayoutLemmas.{seen_head}
use Rattle.cm_abi_programs.specs.CallPuts.{call_puts_of, flat, stored}
use Rattle.cm_abi_programs.specs.Puts.{puts_of}
use Rattle.cm_abi_programs.specs.SlotPuts.{flat_puts_of, no_slots}
use Rattle.cm_abi_programs.specs.CodedPuts.{put_lists, puts_in}
use Rattle.cm_abi_programs.specs.CodedSlots.{slots_in}
use Rattle.cm_abi_programs.specs.Held.{items_at, items_of, shapes_in}
use Rattle.cm_abi_programs.specs.Placed.{ArePutsOf, is_wide, stored_puts_of}
use Rattle.cm_abi_programs.proofs.HeldLaws.{all_types, narrow_some, tuple_held, whole_many}
use Rattle.cm_abi_programs.proofs.placed_puts.PlacedPuts.passed.Goals as goal

pub gather-requires : goal.gather-requires
gather-requires c = subst (λ m. AllByRecursion (λ p. p < m) c.args.places.now) (sym (ap length c.deref.ensures.value ∙ whole_many puts_in stored_puts_of c.args.self.now.stored.items c.requires.tuple.0 c.requires.tuple.2.stored_are)) c.requires.tuple.3

pub stored_puts-requires : goal.stored_puts-requires
stored_puts-requires c =
    ap put_lists c.deref-then-layout-limit.ensures.value
    ∙ tuple_held puts_in puts_of c.args.self.now.stored.items c.requires.tuple.0 c.requires.tuple.2.stored_are c.in_ok-stored.stored.items c.args.places.now c.requires.tuple.1 (layout_of c.args.layout.now) c.requires.tuple.3 (c.in_ok-stored.ensures ∙ ap (λ xs. map (items_at (items_of xs)) c.args.places.now) c.deref.ensures.value) c.requires.tuple.4 c.requires.tuple.5

pub flat-requires : goal.flat-requires
flat-requires c =
    let ts = c.requires.tuple.0 in
    let stored : put_lists c.deref-2.result.now ≡ map puts_of (shapes_in (layout_of c.args.layout.now).shape) =
    ap put_lists c.deref-2.ensures.value
    ∙ tuple_held puts_in puts_of c.args.self.now.stored.items c.requires.tuple.0 c.requires.tuple.2.stored_are c.in_ok-stored.stored.items c.args.places.now c.requires.tuple.1 (layout_of c.args.layout.now) c.requires.tuple.3 (c.in_ok-stored.ensures ∙ ap (λ xs. map (items_at (items_of xs)) c.args.places.now) c.deref.ensures.value) c.requires.tuple.4 c.requires.tuple.5 in
    let all : ArePutsOf (take (length ts) ts) c.args.self.now = subst (λ xs. ArePutsOf xs c.args.self.now) (sym (all_types ts (length ts) (omega arith))) c.requires.tuple.2 in
    record {
      stored = stored;
      parts = (ts, length ts, fields tuple_type c.requires.tuple.1, all, omega arith, c.requires.tuple.3, c.requires.tuple.4, c.requires.tuple.5, refl);
    }

pub returns-then-layout-limit : goal.returns-then-layout-limit
returns-then-layout-limit c =
    let width_is : (layout_of c.args.layout.now).head.width ≡ (out-Layout c.args.layout.now).head.width = ap (λ (h : Head). h.width) (seen_head c.args.layout.now) in
    let wide : c.args.limit < (layout_of c.args.layout.now).head.width = omega (arith, c.if-layout-limit.true, width_is) in
    let is : call_puts_of c.args.limit (layout_of c.args.layout.now) ≡ stored (puts_of (layout_of c.args.layout.now).shape) = rw (lt-ltb c.args.limit (layout_of c.args.layout.now).head.width wide) refl in
    ap stored c.in_ok-puts.ensures ∙ sym is

pub returns : goal.returns
returns c =
    let width_is : (layout_of c.args.layout.now).head.width ≡ (out-Layout c.args.layout.now).head.width = ap (λ (h : Head). h.width) (seen_head c.args.layout.now) in
    let narrow : (layout_of c.args.layout.now).head.width ≤ c.args.limit = omega (arith, c.if-layout-limit.false, width_is) in
    let is : call_puts_of c.args.limit (layout_of c.args.layout.now) ≡ flat (flat_puts_of (layout_of c.args.layout.now).shape) = rw (le-ltb c.args.limit (layout_of c.args.layout.now).head.width narrow) refl in
    let few : is_wide (layout_of c.args.layout.now).head ≡ false = sym c.is_wide.ensures ∙ c.if-is_wide.false in
    ap flat (narrow_some (is_wide (layout_of c.args.layout.now).head) no_slots (flat_puts_of (layout_of c.args.layout.now).shape) (slots_in c.in_ok-puts-2.puts.items) few c.in_ok-puts-2.ensures) ∙ sym is

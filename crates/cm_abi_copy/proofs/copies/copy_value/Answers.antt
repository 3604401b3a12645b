use Rattle.std.proofs.Common.{◌≡◌, ◌+◌, length, ap, ◌∙◌}
use Rattle.cm_types.specs.Types.{Ty}
use Rattle.cm_types.specs.Values.{Val}
use Rattle.cm_layout.specs.Laid.{IsMarked, Laid}
use Rattle.cm_layout.specs.Layouts.{layout_of}
use Rattle.cm_layout.specs.Shapes.{LayoutTy, head_of, layout_at, shape_of_type}
use Rattle.cm_layout.specs.Sizes.{size_of}
use Rattle.cm_abi_load.specs.Sized.{IsSized}
use Rattle.cm_abi_model.specs.Parts.{handle_count, part_count}
use Rattle.cm_abi_model.specs.Stores.{poke}
use Rattle.cm_abi_store.specs.Storing.{given_of, stored_by}
use Rattle.cm_abi_running.specs.Copying.{copying_of}
use Rattle.cm_abi_running.specs.Ready.{IsSound}
use Rattle.cm_abi_copy.proofs.copies.copy_value.Goals as goal

sound : (l : LayoutTy) (t : Ty) → l ≡ layout_at t → ((t : Ty) → Laid (size_of t) (shape_of_type t)) → ((t : Ty) → IsSized (shape_of_type t)) → ((t : Ty) → IsMarked (head_of t) (shape_of_type t)) → IsSound l
sound l t is laid sized marked = rw is (record { laid = laid t; sized = sized t; marked = marked t })

pub store_value-requires-clause-laid : goal.store_value-requires-clause-laid
store_value-requires-clause-laid c =
    (sound (layout_of c.args.layout.now) c.requires.layout.0 c.requires.layout.1 c.layouts.ensures.laid c.numbers_are_sized.ensures.sized c.layouts.ensures.marked).laid

pub store_value-requires-clause-ready : goal.store_value-requires-clause-ready
store_value-requires-clause-ready c = (
  record {
    within = c.requires.within;
    sound = sound (layout_of c.args.layout.now) c.requires.layout.0 c.requires.layout.1 c.layouts.ensures.laid c.numbers_are_sized.ensures.sized c.layouts.ensures.marked;
  },
  c.what_is_read_is_copied.ensures.ready (length c.args.memory.now) (copying_of c.args.from.now) (layout_of c.args.layout.now).shape c.args.source c.requires.copied.0 c.args.next.now.part c.args.next.now.handle c.requires.copied.1,
)

pub returns-clause-stored : goal.returns-clause-stored
returns-clause-stored c = λ v can.
    let sh = (layout_of c.args.layout.now).shape in
    let is = c.what_is_read_is_copied.ensures.shown (length c.args.memory.now) (copying_of c.args.from.now) sh c.args.source v c.args.next.now.part c.args.next.now.handle can in
    c.store_value.ensures.stored ∙ ap (λ bs. poke bs c.args.memory.now)
    (ap (λ (u : Val). stored_by (given_of c.args.from.now.target) sh u c.args.at c.args.next.now.part c.args.next.now.handle) is
    ∙ c.handles_are_stored_as_numbers.ensures.bytes (given_of c.args.from.now.target) sh v c.args.at c.args.next.now.part c.args.next.now.handle)

pub returns-clause-part : goal.returns-clause-part
returns-clause-part c = λ v can.
    let is = c.what_is_read_is_copied.ensures.shown (length c.args.memory.now) (copying_of c.args.from.now) (layout_of c.args.layout.now).shape c.args.source v c.args.next.now.part c.args.next.now.handle can in
    c.store_value.ensures.part ∙ ap (λ n. c.args.next.now.part + n) (ap part_count is ∙ c.handles_are_stored_as_numbers.ensures.parts v)

pub returns-clause-handle : goal.returns-clause-handle
returns-clause-handle c = λ v can.
    let is = c.what_is_read_is_copied.ensures.shown (length c.args.memory.now) (copying_of c.args.from.now) (layout_of c.args.layout.now).shape c.args.source v c.args.next.now.part c.args.next.now.handle can in
    c.store_value.ensures.handle ∙ ap (λ n. c.args.next.now.handle + n) (ap handle_count is ∙ c.handles_are_stored_as_numbers.ensures.handles v)

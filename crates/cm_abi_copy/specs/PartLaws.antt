-- What is known of a string and of elements that are to be copied, as sentences that laws promise.
use Rattle.std.specs.Prelude.{◌≡◌, ℕ, Ok}
use Rattle.cm_types.specs.Values.{Val, Vals, elements, text}
use Rattle.cm_handles.specs.Handles.{Handles}
use Rattle.cm_layout.specs.declared.heads.Head.{Head}
use Rattle.cm_layout.specs.Shapes.{Shape, list_shape, string_shape}
use Rattle.cm_abi_load.specs.Outcomes.{State}
use Rattle.cm_abi_load.specs.Reading.{read_at, read_elements, read_text}
use Rattle.cm_abi_store.specs.Fitting.{Fits}
use Rattle.cm_abi_running.specs.Copying.{Copying, shown_to}
use Rattle.cm_abi_running.specs.Known.{HasSizes, source_with}
use Rattle.cm_abi_running.specs.Ready.{AreElementsReady, IsReady, IsTextReady}
use Rattle.cm_abi_running.specs.Shown.{scalars_at, values_each, without_handles}

-- a string that is read at a pointer is the one that the source shows there, and can be copied
-- where it fits and its size is known
abbrev pub TextIsCopied : Type 0
TextIsCopied =
    (n : ℕ) (c : Copying) (table : Handles) (at tagged : ℕ) (before after : State) (v : Val)
    → read_text c.memory c.encoding at tagged before ≡ Ok (v, after)
    → (text (scalars_at c.memory c.encoding at tagged) ≡ v)
    × ((k h : ℕ) → Fits n c.given string_shape v k h → HasSizes c.sizes c.given.charset v k
    → IsTextReady n c at tagged k)

-- elements that are read at a pointer are those that the source shows there, but for their handles,
-- and can be copied where they fit and the sizes of their strings are known
abbrev pub ElementsAreCopied : Type 0
ElementsAreCopied =
    (n : ℕ) (c : Copying) (table : Handles) (e : Head) (sh : Shape) (at count : ℕ)
    (before after : State) (vs : Vals)
    → read_elements (read_at (source_with c table) sh) c.memory e at count before ≡ Ok (vs, after)
    → (elements (values_each (shown_to c sh) e.size count at) ≡ without_handles (elements vs))
    × ((k h : ℕ) → Fits n c.given (list_shape e sh) (elements vs) k h
    → HasSizes c.sizes c.given.charset (elements vs) k
    → AreElementsReady n c (IsReady n c sh) (shown_to c sh) e.size at count k h)

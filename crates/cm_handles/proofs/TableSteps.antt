-- What a change of the slots makes of a table, where only its view is known.
use Rattle.std.proofs.Common.{◌≡◌, ℕ, zero, suc, ◌+◌, ◌-◌, ◌<◌, ◌≤◌, min, List, [], ◌∷◌, ◌++◌, length, get_or, set, Option, Some, None, slice_get, refl, sym, ap, ◌∙◌, subst, arith, inl, inr}
use Rattle.std.specs.Prelude.{IsSome}
use Rattle.std.proofs.lemmas.List.{length-map, get_or-set_same, get_or-set_other, set-set, set-get_or, get_or_push, get_or_append_left, get_or_past, length_push}
use Rattle.std.proofs.lemmas.Bool.{false≢true, cases_lt}
use Rattle.std.proofs.lemmas.Option.{slice_get_within, slice_get_read, get_or_from_slice_get, none-some, same_Some}
use Rattle.cm_handles.specs.declared.handle.Handle.{Handle}
use Rattle.cm_handles.specs.declared.slot.Slot.{Slot}
use Rattle.cm_handles.specs.declared.slot.Slot.TheVariants.{Free}
use Rattle.cm_handles.specs.declared.table.TheConstants.{MAX_HANDLES}
use Rattle.cm_handles.specs.Handles.{Handles, TableState, handle_at, IsSoundHandles, IsSoundTable, Changes, next_index, indices_left, after_add_at, with_lends, after_change, after_release, after_restore, after_add}
use Rattle.cm_handles.specs.Slots.{handle_in, thread, handles_of, room_of, IsThreaded}
use Rattle.cm_handles.proofs.SoundHandles.{positive_index, within_slots}
use Rattle.std.specs.Option.{option_and_then, option_map}
use Rattle.cm_handles.proofs.ThreadedSlots.{handle_at-slot, linked_released, linked_written, linked_restored, linked_pushed, length-thread, threaded_first}

-- the table of these slots
abbrev pub table_of : List Slot → ℕ → ℕ → ℕ → TableState
table_of es first free capacity = record { handles = handles_of es first free; room = room_of es free capacity }

pub sound_table : (es : List Slot) (first free capacity : ℕ) → IsThreaded es first free → IsSoundTable (table_of es first free capacity)
sound_table es first free capacity linked =
    record {
      handles = linked.sound;
      freed_room = omega (arith, length-thread free es first);
      room_left = omega (arith, length-thread free es first, length-map es handle_in);
    }

pub some_value : (o : Option Handle) → IsSome o → (h : Handle) × (o ≡ Some h)
some_value None some = absurd (false≢true some)
some_value (Some h) some = (h, refl)

-- the handle of an index goes
pub released_step : (es : List Slot) (first free capacity i : ℕ) (old : TableState) → IsThreaded es first free → table_of es first free capacity ≡ old → IsSome (handle_at old.handles i)
    → IsThreaded (set es (i - 1) (Free first)) i (free + 1) × (handles_of (set es (i - 1) (Free first)) i (free + 1) ≡ after_release old.handles i)
released_step es first free capacity i old linked view some =
    let h = some_value (handle_at old.handles i) some in
    let step = linked_released es first free i h.0 linked (ap (λ (s : TableState). handle_at s.handles i) view ∙ h.1) in
    (step.0, step.1 ∙ ap (λ (s : TableState). after_release s.handles i) view)

-- the handle of an index is written
pub written_step : (es : List Slot) (first free capacity i : ℕ) (k : Handle) (e : Slot) (old : TableState) → handle_in e ≡ Some k → IsThreaded es first free → table_of es first free capacity ≡ old → IsSome (handle_at old.handles i)
    → IsThreaded (set es (i - 1) e) first free × (handles_of (set es (i - 1) e) first free ≡ record { slots = set old.handles.slots i (Some k); freed = old.handles.freed })
written_step es first free capacity i k e old is linked view some =
    let h = some_value (handle_at old.handles i) some in
    let step = linked_written es first free i h.0 k e is linked (ap (λ (s : TableState). handle_at s.handles i) view ∙ h.1) in
    let make : TableState → Handles = λ s. record { slots = set s.handles.slots i (Some k); freed = s.handles.freed } in
    (step.0, step.1 ∙ ap make view)

-- the slot of the index freed last
pub freed_slot : (es : List Slot) (first free capacity f : ℕ) (old : TableState) → IsThreaded es first free → table_of es first free capacity ≡ old → slice_get old.handles.freed 0 ≡ Some f
    → (0 < f) × (f - 1 < length es) × (0 < free) × (next : ℕ) × (slice_get es (f - 1) ≡ Some (Free next))
freed_slot es first free capacity f old linked view freed =
    let here : slice_get (thread free es first) 0 ≡ Some f = ap (λ (s : TableState). slice_get s.handles.freed 0) view ∙ freed in
    let threads = threaded_first es first free f linked here in
    (threads.1, slice_get_within es (f - 1) (Free threads.2) threads.3, omega (arith, length-thread free es first, slice_get_within (thread free es first) 0 f here), threads.2, threads.3)

-- a handle is put at the index freed last
pub restored_step : (es : List Slot) (first free capacity f next : ℕ) (h : Handle) (e : Slot) (old : TableState) → handle_in e ≡ Some h → IsThreaded es first free → table_of es first free capacity ≡ old → slice_get old.handles.freed 0 ≡ Some f → slice_get es (f - 1) ≡ Some (Free next)
    → IsThreaded (set es (f - 1) e) next (free - 1) × (handles_of (set es (f - 1) e) next (free - 1) ≡ after_restore old.handles f h)
restored_step es first free capacity f next h e old is linked view freed slot =
    let here : slice_get (thread free es first) 0 ≡ Some f = ap (λ (s : TableState). slice_get s.handles.freed 0) view ∙ freed in
    let step = linked_restored es first free f next h e is linked here slot in
    (step.0, step.1 ∙ ap (λ (s : TableState). after_restore s.handles f h) view)

-- what was read at the index freed last is an empty slot
pub freed_read : (es : List Slot) (first free capacity f : ℕ) (x : Slot) (old : TableState) → IsThreaded es first free → table_of es first free capacity ≡ old → slice_get old.handles.freed 0 ≡ Some f → x ≡ get_or es (f - 1) x → slice_get es (f - 1) ≡ Some x
freed_read es first free capacity f x old linked view freed read =
    let here = freed_slot es first free capacity f old linked view freed in
    slice_get_read es (length es) (f - 1) x refl here.1 read

pub freed_empty : (es : List Slot) (first free capacity f : ℕ) (x : Slot) (old : TableState) → IsThreaded es first free → table_of es first free capacity ≡ old → slice_get old.handles.freed 0 ≡ Some f → x ≡ get_or es (f - 1) x → (next : ℕ) × (x ≡ Free next)
freed_empty es first free capacity f x old linked view freed read =
    let here = freed_slot es first free capacity f old linked view freed in
    (here.3, same_Some x (Free here.3) (sym (freed_read es first free capacity f x old linked view freed read) ∙ here.4))

-- the index freed last is one of the table's
pub freed_within : (t : Handles) (f : ℕ) → IsSoundHandles t → slice_get t.freed 0 ≡ Some f → (0 < f) × (f < length t.slots) × (handle_at t f ≡ None)
freed_within t f sound freed =
    (sound.freed f).0 (0, slice_get_within t.freed 0 f freed, get_or_from_slice_get t.freed 0 f f freed)

pub Changes-after_restore : (t : Handles) (f : ℕ) (h : Handle) → IsSoundHandles t → slice_get t.freed 0 ≡ Some f → Changes t (after_restore t f h) f (Some h)
Changes-after_restore t f h sound freed =
    record {
      here = get_or-set_same t.slots f (Some h) None (freed_within t f sound freed).1;
      others = λ j apart. get_or-set_other t.slots f j (Some h) None apart;
    }

pub after_restore-after_release : (t : Handles) (i : ℕ) (h : Handle) → handle_at t i ≡ Some h → after_restore (after_release t i) i h ≡ t
after_restore-after_release t i h stands =
    let slots : set (set t.slots i None) i (Some h) ≡ t.slots = set-set t.slots i None (Some h) ∙ (ap (λ o. set t.slots i o) (sym stands) ∙ set-get_or t.slots i None) in
    let make : List (Option Handle) → Handles = λ xs. record { slots = xs; freed = t.freed } in ap make slots

-- a table of which no index is freed has no empty slot
pub none_free : (es : List Slot) (first free capacity : ℕ) (old : TableState) → table_of es first free capacity ≡ old → old.handles.freed ≡ [] → free ≡ 0
none_free es first free capacity old view freed =
    sym (length-thread free es first) ∙ ap length (ap (λ (s : TableState). s.handles.freed) view ∙ freed)

-- a handle is added where no index is freed
pub pushed_step : (es more : List Slot) (first free capacity : ℕ) (h : Handle) (e : Slot) (old : TableState) → handle_in e ≡ Some h → IsThreaded es first free → table_of es first free capacity ≡ old → old.handles.freed ≡ [] → length es < MAX_HANDLES → more ≡ es ++ e ∷ []
    → IsThreaded more first free × (handles_of more first free ≡ after_add old.handles h)
pushed_step es more first free capacity h e old is linked view freed room grown =
    let zero_free : free ≡ 0 = none_free es first free capacity old view freed in
    let step = linked_pushed es first h e is (subst (λ n. IsThreaded es first n) zero_free linked) room in
    let same : handles_of es first 0 ≡ old.handles = ap (λ n. handles_of es first n) (sym zero_free) ∙ ap (λ (s : TableState). s.handles) view in
    let Holds : List Slot → ℕ → Type 0 = λ xs n. IsThreaded xs first n × (handles_of xs first n ≡ after_add old.handles h) in
    let made : Holds (es ++ e ∷ []) 0 = (step.0, step.1 ∙ ap (λ t. after_add t h) same) in
    subst (λ xs. Holds xs free) (sym grown) (subst (λ n. Holds (es ++ e ∷ []) n) (sym zero_free) made)

-- the room of a table of which no index is freed
pub room_after : (es : List Slot) (first free capacity : ℕ) (old : TableState) → table_of es first free capacity ≡ old → old.handles.freed ≡ [] → old.room ≡ min MAX_HANDLES capacity - length es
room_after es first free capacity old view freed =
    omega (arith, none_free es first free capacity old view freed, ap (λ (s : TableState). s.room) view)

-- the next index where none is freed
pub next-pushed : (t : Handles) → t.freed ≡ [] → next_index t ≡ length t.slots
next-pushed t freed = ap (λ fs. get_or fs 0 (length t.slots)) freed

pub Changes-pushed : (t : Handles) (h : Handle) → t.freed ≡ [] → Changes t (after_add t h) (next_index t) (Some h)
Changes-pushed t h freed =
    let made : Changes t (after_add_at t.slots [] h) (length t.slots) (Some h) = record {
      here = get_or_push t.slots (Some h) None (length t.slots) refl;
      others = λ j apart. elim (cases_lt j (length t.slots)) [
        | inl below ↦ get_or_append_left t.slots (Some h ∷ []) None j below
        | inr past ↦ (let after : length (t.slots ++ Some h ∷ []) ≤ j = omega (arith, length_push t.slots (Some h)) in
            get_or_past (t.slots ++ Some h ∷ []) j None after ∙ sym (get_or_past t.slots j None past))
      ];
    } in
    subst (λ i. Changes t (after_add t h) i (Some h)) (sym (next-pushed t freed)) (subst (λ fs. Changes t (after_add_at t.slots fs h) (length t.slots) (Some h)) (sym freed) made)

pub vacant-pushed : (t : Handles) → t.freed ≡ [] → handle_at t (next_index t) ≡ None
vacant-pushed t freed = get_or_past t.slots (next_index t) None (omega (arith, next-pushed t freed))

-- the next index where one is freed
pub next-freed : (t : Handles) (f : ℕ) → slice_get t.freed 0 ≡ Some f → next_index t ≡ f
next-freed t f freed = get_or_from_slice_get t.freed 0 f (length t.slots) freed

pub after_add-freed : (slots : List (Option Handle)) (fs : List ℕ) (f : ℕ) (h : Handle) → slice_get fs 0 ≡ Some f → after_add_at slots fs h ≡ after_restore (record { slots = slots; freed = fs }) f h
after_add-freed slots [] f h freed = absurd (none-some f freed)
after_add-freed slots (x ∷ xs) f h freed =
    let make : ℕ → Handles = λ i. record { slots = set slots i (Some h); freed = xs } in ap make (same_Some x f freed)

-- the index freed last stands first in the thread
pub thread_first : (free : ℕ) (es : List Slot) (first : ℕ) → 0 < free → slice_get (thread free es first) 0 ≡ Some first
unfolding thread
thread_first zero es first positive = absurd (omega arith)
thread_first (suc n) es first positive = refl

-- how many indices such a table has left
pub left_of : (es : List Slot) (first free capacity : ℕ) (old : TableState) → table_of es first free capacity ≡ old → indices_left old.handles ≡ free + (MAX_HANDLES - length es)
left_of es first free capacity old view =
    sym (ap (λ (s : TableState). indices_left s.handles) view) ∙ omega (arith, length-thread free es first, length-map es handle_in)

-- the index at which the empty slots begin is the one freed last
pub freed_first : (es : List Slot) (first free capacity : ℕ) (old : TableState) → table_of es first free capacity ≡ old → 0 < free → slice_get old.handles.freed 0 ≡ Some first
freed_first es first free capacity old view positive =
    sym (ap (λ (s : TableState). slice_get s.handles.freed 0) view) ∙ thread_first free es first positive

-- what was read at an index is what stands there
pub read_slot : (es : List Slot) (first free capacity i : ℕ) (x : Slot) (old : TableState) → table_of es first free capacity ≡ old → 0 < i → i - 1 < length es → x ≡ get_or es (i - 1) x → handle_at old.handles i ≡ handle_in x
read_slot es first free capacity i x old view positive within read =
    sym (ap (λ (s : TableState). handle_at s.handles i) view) ∙ (handle_at-slot es i positive ∙ ap (λ o. option_and_then handle_in o) (slice_get_read es (length es) (i - 1) x refl within read))

-- an index at which a handle stands is one of the slots'
pub used_within : (es : List Slot) (first free capacity i : ℕ) (old : TableState) → IsThreaded es first free → table_of es first free capacity ≡ old → IsSome (handle_at old.handles i) → (0 < i) × (i - 1 < length es)
used_within es first free capacity i old linked view some =
    let h = some_value (handle_at old.handles i) some in
    let t = handles_of es first free in
    let stands : handle_at t i ≡ Some h.0 = ap (λ (s : TableState). handle_at s.handles i) view ∙ h.1 in
    let positive : 0 < i = positive_index t i h.0 linked.sound stands in
    (positive, omega (arith, within_slots t i h.0 stands, length-map es handle_in))

pub slots_length : (es : List Slot) (first free capacity : ℕ) (old : TableState) → table_of es first free capacity ≡ old → length old.handles.slots ≡ length es + 1
slots_length es first free capacity old view =
    sym (ap (λ (s : TableState). length s.handles.slots) view) ∙ omega (arith, length-map es handle_in)

-- how often the handle of an index is lent is written
pub lends_step : (es : List Slot) (first free capacity i lends : ℕ) (x e : Slot) (old : TableState) → x ≡ get_or es (i - 1) x → handle_in e ≡ option_map (with_lends lends) (handle_in x) → IsThreaded es first free → table_of es first free capacity ≡ old → IsSome (handle_at old.handles i)
    → IsThreaded (set es (i - 1) e) first free × (handles_of (set es (i - 1) e) first free ≡ after_change old.handles i (with_lends lends))
lends_step es first free capacity i lends x e old read is linked view some =
    let h = some_value (handle_at old.handles i) some in
    let here = used_within es first free capacity i old linked view some in
    let slot : handle_at old.handles i ≡ handle_in x = read_slot es first free capacity i x old view here.0 here.1 read in
    let now : handle_in e ≡ Some (with_lends lends h.0) = is ∙ ap (λ o. option_map (with_lends lends) o) (sym slot ∙ h.1) in
    let step = written_step es first free capacity i (with_lends lends h.0) e old now linked view some in
    let make : Option Handle → Handles = λ o. record { slots = set old.handles.slots i (option_map (with_lends lends) o); freed = old.handles.freed } in
    (step.0, step.1 ∙ ap make (sym h.1))

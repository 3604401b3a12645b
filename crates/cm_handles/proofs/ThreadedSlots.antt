-- How the slots of a table give its handles, and what a write to one of them leaves.
use Rattle.std.proofs.Common.{◌≡◌, ℕ, zero, suc, ◌+◌, ◌-◌, ◌<◌, cond, List, [], ◌∷◌, ◌++◌, length, map, get_or, set, drop, Option, Some, None, slice_get, count_by, refl, sym, ap, ◌∙◌, subst, arith}
use Rattle.std.specs.Prelude.{Contains}
use Rattle.std.specs.Option.{option_and_then}
use Rattle.std.proofs.lemmas.List.{length-map, map-set, map_push}
use Rattle.std.proofs.lemmas.List.Sums.{sum_by-set, sum_by_push}
use Rattle.std.proofs.lemmas.Option.{get_or_from_slice_get, slice_get_within, none-some, same_Some}
use Rattle.cm_handles.specs.declared.handle.Handle.{Handle}
use Rattle.cm_handles.specs.declared.slot.Slot.{Slot}
use Rattle.cm_handles.specs.declared.slot.Slot.TheVariants.{Free, Owned, Borrowed}
use Rattle.cm_handles.specs.declared.table.TheConstants.{MAX_HANDLES}
use Rattle.cm_handles.specs.Handles.{Handles, no_handles, handle_at, IsSoundHandles, after_release, after_restore, after_add}
use Rattle.cm_handles.specs.Slots.{handle_in, is_free, next_of, thread, Threads, handles_of, IsThreaded}
use Rattle.cm_handles.proofs.SoundHandles.{IsSoundHandles-after_release, IsSoundHandles-reused, IsSoundHandles-pushed, IsSoundHandles-written, positive_index, IsSoundHandles-none}
use Rattle.cm_lemmas.proofs.Lists.{Contains-first, Contains-rest}

handle_in-at : (es : List Slot) (k : ℕ) → get_or (map handle_in es) k None ≡ option_and_then handle_in (slice_get es k)
handle_in-at [] k = refl
handle_in-at (x ∷ es) zero = refl
handle_in-at (x ∷ es) (suc k) = handle_in-at es k

slot_by_handle : (o : Option Slot) (h : Handle) → option_and_then handle_in o ≡ Some h → (e : Slot) × (o ≡ Some e) × (handle_in e ≡ Some h)
slot_by_handle None h is = absurd (none-some h is)
slot_by_handle (Some e) h is = (e, refl, is)

-- the slot of an index is that of the slot before it
pub handle_at-slot : (es : List Slot) (i : ℕ) → 0 < i → get_or (None ∷ map handle_in es) i None ≡ option_and_then handle_in (slice_get es (i - 1))
handle_at-slot es zero positive = absurd (omega arith)
handle_at-slot es (suc k) positive = let e : suc k - 1 ≡ k = omega arith in rw e (handle_in-at es k)

-- the slot of a handle
pub slot-from_handle : (es : List Slot) (i : ℕ) (h : Handle) → 0 < i → get_or (None ∷ map handle_in es) i None ≡ Some h → (e : Slot) × (slice_get es (i - 1) ≡ Some e) × (handle_in e ≡ Some h)
slot-from_handle es i h positive stands = slot_by_handle (slice_get es (i - 1)) h (sym (handle_at-slot es i positive) ∙ stands)

-- a slot that has a handle is not empty
is_free-used : (e : Slot) (h : Handle) → handle_in e ≡ Some h → ◌≡◌ {A = ℕ} (cond (is_free e) 1 0) 0
is_free-used (Free next) h is = absurd (none-some h is)
is_free-used (Owned serial lends resource rep) h is = refl
is_free-used (Borrowed call serial lends resource rep) h is = refl

-- the slots after a write to the slot of an index
pub slots-set : (es : List Slot) (i : ℕ) (e : Slot) → 0 < i → None ∷ map handle_in (set es (i - 1) e) ≡ set (None ∷ map handle_in es) i (handle_in e)
slots-set es zero e positive = absurd (omega arith)
slots-set es (suc k) e positive = let p : suc k - 1 ≡ k = omega arith in rw p (ap (λ xs. None ∷ xs) (map-set handle_in es k e))

slice_get-set_same : (es : List Slot) (k : ℕ) (e : Slot) → k < length es → slice_get (set es k e) k ≡ Some e
slice_get-set_same [] k e within = absurd (omega arith)
slice_get-set_same (x ∷ es) zero e within = refl
slice_get-set_same (x ∷ es) (suc k) e within = slice_get-set_same es k e (omega arith)

slice_get-set_other : (es : List Slot) (k j : ℕ) (e : Slot) → (j ≡ k → ⊥) → slice_get (set es k e) j ≡ slice_get es j
slice_get-set_other [] k j e apart = refl
slice_get-set_other (x ∷ es) zero zero e apart = absurd (apart refl)
slice_get-set_other (x ∷ es) zero (suc j) e apart = refl
slice_get-set_other (x ∷ es) (suc k) zero e apart = refl
slice_get-set_other (x ∷ es) (suc k) (suc j) e apart = slice_get-set_other es k j e (λ p. apart (ap suc p))

-- a write to a slot that is not threaded keeps the thread
Threads-set : (es : List Slot) (i : ℕ) (e : Slot) (at : ℕ) (fs : List ℕ) → 0 < i → (Contains fs i → ⊥) → Threads es at fs → Threads (set es (i - 1) e) at fs
Threads-set es i e at [] positive out t = tt
Threads-set es i e at (f ∷ fs) positive out t =
    let apart : f - 1 ≡ i - 1 → ⊥ = λ p. out (let same : f ≡ i = omega (arith, t.1) in subst (λ k. Contains (f ∷ fs) k) same (Contains-first f fs)) in
    (t.0, t.1, t.2, slice_get-set_other es (i - 1) (f - 1) e apart ∙ t.3, Threads-set es i e t.2 fs positive (λ c. out (Contains-rest f fs i c)) t.4)

-- a thread, as its list
thread-list : (es : List Slot) (at : ℕ) (fs : List ℕ) → Threads es at fs → thread (length fs) es at ≡ fs
unfolding thread
thread-list es at [] t = refl
thread-list es at (f ∷ fs) t =
    let next : next_of (get_or es (at - 1) (Free 0)) ≡ t.2 = ap (λ k. next_of (get_or es (k - 1) (Free 0))) t.0 ∙ ap next_of (get_or_from_slice_get es (f - 1) (Free t.2) (Free 0) t.3) in
    ap (λ xs. at ∷ xs) (ap (λ k. thread (length fs) es k) next ∙ thread-list es t.2 fs t.4) ∙ ap (λ k. k ∷ fs) t.0

-- slots whose thread is known, and their handles
pub linked_from : (es : List Slot) (first free : ℕ) (fs : List ℕ) → Threads es first fs → free ≡ length fs → free ≡ count_by is_free es → IsSoundHandles (record { slots = None ∷ map handle_in es; freed = fs }) → IsThreaded es first free × (handles_of es first free ≡ record { slots = None ∷ map handle_in es; freed = fs })
linked_from es first free fs t long counted sound =
    let is : thread free es first ≡ fs = ap (λ n. thread n es first) long ∙ thread-list es first fs t in (
      record {
        threads = subst (λ xs. Threads es first xs) (sym is) t;
        counted = counted;
        sound = subst (λ xs. IsSoundHandles (record { slots = None ∷ map handle_in es; freed = xs })) (sym is) sound;
      },
      let make : List ℕ → Handles = λ xs. record { slots = None ∷ map handle_in es; freed = xs } in ap make is,
    )

pub length-thread : (n : ℕ) (es : List Slot) (at : ℕ) → length (thread n es at) ≡ n
unfolding thread
length-thread zero es at = refl
length-thread (suc n) es at = ap suc (length-thread n es (next_of (get_or es (at - 1) (Free 0))))

-- how a count of empty slots changes with one of them
count-set : (es : List Slot) (k : ℕ) (e d : Slot) → slice_get es k ≡ Some d → count_by is_free (set es k e) + cond (is_free d) 1 0 ≡ count_by is_free es + cond (is_free e) 1 0
count-set es k e d is =
    let within : k < length es = slice_get_within es k d is in
    let was : get_or es k d ≡ d = get_or_from_slice_get es k d d is in
    subst (λ x. count_by is_free (set es k e) + cond (is_free x) 1 0 ≡ count_by is_free es + cond (is_free e) 1 0) was (sum_by-set (λ x. cond (is_free x) 1 0) es k e d within)

-- the slot of a handle that goes becomes the first empty one
pub linked_released : (es : List Slot) (first free i : ℕ) (h : Handle) → IsThreaded es first free → handle_at (handles_of es first free) i ≡ Some h
    → IsThreaded (set es (i - 1) (Free first)) i (free + 1) × (handles_of (set es (i - 1) (Free first)) i (free + 1) ≡ after_release (handles_of es first free) i)
linked_released es first free i h linked stands =
    let t = handles_of es first free in
    let positive : 0 < i = positive_index t i h linked.sound stands in
    let used = slot-from_handle es i h positive stands in
    let within : i - 1 < length es = slice_get_within es (i - 1) used.0 used.1 in
    let out : Contains t.freed i → ⊥ = λ c. none-some h (sym ((linked.sound.freed i).0 c).2 ∙ stands) in
    let slots : None ∷ map handle_in (set es (i - 1) (Free first)) ≡ set t.slots i None = slots-set es i (Free first) positive in
    let threads : Threads (set es (i - 1) (Free first)) i (i ∷ t.freed) =
    (refl, positive, first, slice_get-set_same es (i - 1) (Free first) within, Threads-set es i (Free first) first t.freed positive out linked.threads) in
    let sound = IsSoundHandles-after_release t i h stands linked.sound in
    let whole = linked_from (set es (i - 1) (Free first)) i (free + 1) (i ∷ t.freed) threads
    (omega (arith, length-thread free es first))
    (omega (arith, count-set es (i - 1) (Free first) used.0 used.1, is_free-used used.0 h used.2, linked.counted))
    (subst (λ xs. IsSoundHandles (record { slots = xs; freed = i ∷ t.freed })) (sym slots) sound) in
    (whole.0, whole.1 ∙ (let make : List (Option Handle) → Handles = λ xs. record { slots = xs; freed = i ∷ t.freed } in ap make slots))

-- the slot of a handle takes another handle
pub linked_written : (es : List Slot) (first free i : ℕ) (h k : Handle) (e : Slot) → handle_in e ≡ Some k → IsThreaded es first free → handle_at (handles_of es first free) i ≡ Some h
    → IsThreaded (set es (i - 1) e) first free × (handles_of (set es (i - 1) e) first free ≡ record { slots = set (handles_of es first free).slots i (Some k); freed = thread free es first })
linked_written es first free i h k e is linked stands =
    let t = handles_of es first free in
    let positive : 0 < i = positive_index t i h linked.sound stands in
    let used = slot-from_handle es i h positive stands in
    let out : Contains t.freed i → ⊥ = λ c. none-some h (sym ((linked.sound.freed i).0 c).2 ∙ stands) in
    let slots : None ∷ map handle_in (set es (i - 1) e) ≡ set t.slots i (Some k) = slots-set es i e positive ∙ ap (λ o. set t.slots i o) is in
    let sound = IsSoundHandles-written t i h k stands linked.sound in
    let whole = linked_from (set es (i - 1) e) first free t.freed
    (Threads-set es i e first t.freed positive out linked.threads)
    (omega (arith, length-thread free es first))
    (omega (arith, count-set es (i - 1) e used.0 used.1, is_free-used used.0 h used.2, is_free-used e k is, linked.counted))
    (subst (λ xs. IsSoundHandles (record { slots = xs; freed = t.freed })) (sym slots) sound) in
    (whole.0, whole.1 ∙ (let make : List (Option Handle) → Handles = λ xs. record { slots = xs; freed = t.freed } in ap make slots))

-- the first element of a list, and the rest
pub first-drop : (xs : List ℕ) (f : ℕ) → slice_get xs 0 ≡ Some f → xs ≡ f ∷ drop 1 xs
first-drop [] f e = absurd (none-some f e)
first-drop (x ∷ xs) f e = ap (λ k. k ∷ xs) (same_Some x f e)

-- the slot of the index freed last, and the slots before it
pub threaded_first : (es : List Slot) (first free f : ℕ) → IsThreaded es first free → slice_get (thread free es first) 0 ≡ Some f → Threads es first (f ∷ drop 1 (thread free es first))
threaded_first es first free f linked freed = subst (λ xs. Threads es first xs) (first-drop (thread free es first) f freed) linked.threads

same_next : (o : Option Slot) (n m : ℕ) → o ≡ Some (Free n) → o ≡ Some (Free m) → n ≡ m
same_next o n m a b = cc

-- the slot of the index freed last takes a handle, and the list goes on at the index that it held
pub linked_restored : (es : List Slot) (first free f next : ℕ) (h : Handle) (e : Slot) → handle_in e ≡ Some h → IsThreaded es first free → slice_get (thread free es first) 0 ≡ Some f → slice_get es (f - 1) ≡ Some (Free next)
    → IsThreaded (set es (f - 1) e) next (free - 1) × (handles_of (set es (f - 1) e) next (free - 1) ≡ after_restore (handles_of es first free) f h)
linked_restored es first free f next h e is linked freed slot =
    let t = handles_of es first free in
    let fs : List ℕ = drop 1 t.freed in
    let list : t.freed ≡ f ∷ fs = first-drop t.freed f freed in
    let threads = threaded_first es first free f linked freed in
    let rest : Threads es next fs = subst (λ n. Threads es n fs) (same_next (slice_get es (f - 1)) threads.2 next threads.3 slot) threads.4 in
    let sound : IsSoundHandles (record { slots = t.slots; freed = f ∷ fs }) = subst (λ xs. IsSoundHandles (record { slots = t.slots; freed = xs })) list linked.sound in
    let slots : None ∷ map handle_in (set es (f - 1) e) ≡ set t.slots f (Some h) = slots-set es f e threads.1 ∙ ap (λ o. set t.slots f o) is in
    let long : length t.freed ≡ suc (length fs) = ap length list in
    let whole = linked_from (set es (f - 1) e) next (free - 1) fs
    (Threads-set es f e next fs threads.1 sound.once.0 rest)
    (omega (arith, length-thread free es first, long))
    (omega (arith, count-set es (f - 1) e (Free next) slot, is_free-used e h is, linked.counted))
    (subst (λ xs. IsSoundHandles (record { slots = xs; freed = fs })) (sym slots) (IsSoundHandles-reused t.slots f fs h sound)) in
    (whole.0, whole.1 ∙ (let make : List (Option Handle) → Handles = λ xs. record { slots = xs; freed = fs } in ap make slots))

-- one more slot, where none is empty
pub linked_pushed : (es : List Slot) (first : ℕ) (h : Handle) (e : Slot) → handle_in e ≡ Some h → IsThreaded es first 0 → length es < MAX_HANDLES
    → IsThreaded (es ++ e ∷ []) first 0 × (handles_of (es ++ e ∷ []) first 0 ≡ after_add (handles_of es first 0) h)
unfolding thread
linked_pushed es first h e is linked room =
    let slots : None ∷ map handle_in (es ++ e ∷ []) ≡ (None ∷ map handle_in es) ++ Some h ∷ [] = ap (λ xs. None ∷ xs) (map_push handle_in es e ∙ ap (λ o. map handle_in es ++ o ∷ []) is) in
    let whole = linked_from (es ++ e ∷ []) first 0 [] tt refl
    (linked.counted ∙ (omega (arith, sum_by_push (λ x. cond (is_free x) 1 0) es e, is_free-used e h is)))
    (subst (λ xs. IsSoundHandles (record { slots = xs; freed = [] })) (sym slots) (IsSoundHandles-pushed (None ∷ map handle_in es) h (omega (arith, length-map es handle_in)) linked.sound)) in
    (whole.0, whole.1 ∙ (let make : List (Option Handle) → Handles = λ xs. record { slots = xs; freed = [] } in ap make slots))

-- no slots
pub linked_none : IsThreaded [] 0 0
unfolding thread
linked_none = record { threads = tt; counted = refl; sound = IsSoundHandles-none }

pub handles-none : handles_of [] 0 0 ≡ no_handles
unfolding thread
handles-none = refl

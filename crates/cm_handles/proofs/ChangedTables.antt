-- What each change of a sound table does.
use Rattle.std.proofs.Common.{◌≡◌, ℕ, zero, suc, ◌+◌, ◌-◌, ◌<◌, ◌≤◌, Bool, true, false, cond, List, [], ◌∷◌, ◌++◌, length, get_or, set, inl, inr, Option, Some, None, refl, sym, ap, ◌∙◌, subst, arith}
use Rattle.std.specs.Prelude.{reverse}
use Rattle.std.specs.Option.{option_map}
use Rattle.std.proofs.lemmas.List.{get_or-set_same, get_or-set_other, get_or_past, get_or_append_left, get_or_push, length_push, length-set, length-map, length-reverse, length-append}
use Rattle.std.proofs.lemmas.Bool.{cases_lt}
use Rattle.cm_handles.specs.declared.handle.Handle.{Handle}
use Rattle.cm_handles.specs.Changes.{AddsTo, ClosesAll, ReleasesFrom, WritesLends}
use Rattle.cm_handles.specs.Handles.{Handles, IsSoundHandles, after_change, after_close, after_release, borrows_from, handle_at, indices_left, is_borrow, slot_after_close, with_lends}
use Rattle.cm_handles.specs.Slots.{after_close_at}
use Rattle.cm_handles.proofs.ClosingTable.{IsClosing, closed-at_each, closing_end, closing_start, closing_step}
use Rattle.cm_handles.proofs.SoundHandles.{IsSoundHandles-after_release, IsSoundHandles-pushed, IsSoundHandles-reused, IsSoundHandles-written, within_slots}
use Rattle.cm_lemmas.proofs.Lists.{Contains-first}

adds_at : (slots : List (Option Handle)) (freed : List ℕ) (h : Handle) → IsSoundHandles (record { slots = slots; freed = freed }) → 0 < indices_left (record { slots = slots; freed = freed }) → AddsTo (record { slots = slots; freed = freed }) h
adds_at slots [] h sound room = record {
  sound = IsSoundHandles-pushed slots h (omega (arith, room)) sound;
  changes = record {
    here = get_or_push slots (Some h) None (length slots) refl;
    others = λ j apart. elim (cases_lt j (length slots)) as (λ r. get_or (slots ++ Some h ∷ []) j None ≡ get_or slots j None) [
      | inl below ↦ get_or_append_left slots (Some h ∷ []) None j below
      | inr past ↦ (let after : length (slots ++ Some h ∷ []) ≤ j = omega (arith, length_push slots (Some h), apart) in
          get_or_past (slots ++ Some h ∷ []) j None after ∙ sym (get_or_past slots j None past))
    ];
  };
  vacant = get_or_past slots (length slots) None (omega arith);
  positive = sound.some_slot;
  limit = omega (arith, room);
  freed = refl;
  left = omega (arith, length_push slots (Some h), room);
}
adds_at slots (f ∷ fs) h sound room =
    let vacant = (sound.freed f).0 (Contains-first f fs) in
    record {
      sound = IsSoundHandles-reused slots f fs h sound;
      changes = record {
        here = get_or-set_same slots f (Some h) None vacant.1;
        others = λ j apart. get_or-set_other slots f j (Some h) None apart;
      };
      vacant = vacant.2;
      positive = vacant.0;
      limit = omega (arith, vacant.1, sound.limit);
      freed = refl;
      left = omega (arith, length-set slots f (Some h), sound.limit);
    }

pub add_changes : (t : Handles) (h : Handle) → IsSoundHandles t → 0 < indices_left t → AddsTo t h
add_changes t h sound room = adds_at t.slots t.freed h sound room

pub release_changes : (t : Handles) (index : ℕ) (h : Handle) → IsSoundHandles t → handle_at t index ≡ Some h → ReleasesFrom t index
release_changes t index h sound stands = record {
  sound = IsSoundHandles-after_release t index h stands sound;
  changes = record {
    here = get_or-set_same t.slots index None None (within_slots t index h stands);
    others = λ j apart. get_or-set_other t.slots index j None None apart;
  };
  freed = refl;
  next = refl;
  left = omega (arith, length-set t.slots index None);
}

-- a handle is written where one stands
written_at : (t : Handles) (index : ℕ) (h : Handle) (lends : ℕ) (o : Option Handle) → IsSoundHandles t → handle_at t index ≡ Some h → o ≡ Some (with_lends lends h)
    → WritesLends t (record t { slots = set t.slots index o }) index h lends
written_at t index h lends o sound stands is = record {
  sound = rw is (IsSoundHandles-written t index h (with_lends lends h) stands sound);
  changes = record {
    here = get_or-set_same t.slots index o None (within_slots t index h stands) ∙ is;
    others = λ j apart. get_or-set_other t.slots index j o None apart;
  };
  freed = refl;
  left = omega (arith, length-set t.slots index o);
}

pub lends_change : (t : Handles) (index : ℕ) (h : Handle) (count : Handle → ℕ) → IsSoundHandles t → handle_at t index ≡ Some h
    → WritesLends t (after_change t index (λ x. with_lends (count x) x)) index h (count h)
lends_change t index h count sound stands =
    written_at t index h (count h) (option_map (λ x. with_lends (count x) x) (handle_at t index)) sound stands (ap (λ o. option_map (λ x. with_lends (count x) x) o) stands)

-- ---- closing

closed_handle : (b : Bool) (t : Handles) (i : ℕ) (h : Handle) → handle_at t i ≡ Some h → IsSoundHandles t
    → IsSoundHandles (cond b (after_release t i) (record t { slots = set t.slots i (Some (with_lends 0 h)) }))
closed_handle true t i h stands sound = IsSoundHandles-after_release t i h stands sound
closed_handle false t i h stands sound = IsSoundHandles-written t i h (with_lends 0 h) stands sound

closed_slot : (t : Handles) (i : ℕ) (o : Option Handle) → handle_at t i ≡ o → IsSoundHandles t → IsSoundHandles (after_close_at t i o)
closed_slot t i None stands sound = sound
closed_slot t i (Some h) stands sound = closed_handle (is_borrow h.kind) t i h stands sound

-- the first indices are closed, and the table is sound
closed_so_far : (t : Handles) (k : ℕ) → IsSoundHandles t → k + 1 ≤ length t.slots → (new : Handles) × IsClosing t new (k + 1) × IsSoundHandles new
closed_so_far t zero sound within = (t, closing_start t sound, sound)
closed_so_far t (suc k) sound within =
    let before = closed_so_far t k sound (omega (arith, within)) in
    let next = after_close_at before.0 (k + 1) (handle_at before.0 (k + 1)) in
    let more : IsClosing t next (k + 1 + 1) = closing_step t before.0 (k + 1) (omega (arith, within)) before.1 in
    (next, subst (λ n. IsClosing t next n) (omega arith) more, closed_slot before.0 (k + 1) (handle_at before.0 (k + 1)) refl before.2)

closed_sound : (t : Handles) → IsSoundHandles t → IsSoundHandles (after_close t)
closed_sound t sound =
    let all = closed_so_far t (length t.slots - 1) sound (omega (arith, sound.some_slot)) in
    subst (λ x. IsSoundHandles x) (closing_end t all.0 (length t.slots - 1 + 1) (omega (arith, sound.some_slot)) all.1) all.2

pub close_changes : (t : Handles) → IsSoundHandles t → ClosesAll t
close_changes t sound = record {
  sound = closed_sound t sound;
  each = closed-at_each t;
  freed = refl;
  left = omega (arith, length-append (reverse (borrows_from 0 t.slots)) t.freed, length-reverse (borrows_from 0 t.slots), length-map t.slots slot_after_close);
}

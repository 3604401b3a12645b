-- Why a machine is valid before anything ran, and when a root call begins.
use Rattle.std.proofs.Common.{◌≡◌, ℕ, zero, suc, ◌*◌, ◌<◌, ◌≤◌, Bool, true, false, List, [], ◌∷◌}
use Rattle.std.proofs.Common.{length, Some, refl, sym, ap, subst, ◌∙◌, arith}
use Rattle.std.specs.Prelude.{slice_get, slice_index, map, replicate, Contains, ◌^◌, ◌==◌, nat_le}
use Rattle.std.specs.List.{list_all}
use Rattle.std.proofs.lemmas.List.{length-map, length-replicate}
use Rattle.std.proofs.lemmas.Bool.{leb-true, eqb-true, and_parts, true≢false}
use Rattle.std.proofs.lemmas.Option.{none-some, same_Some}
use Rattle.cm_handles.specs.Handles.{Handles, IsSoundHandles, handle_at, no_handles}
use Rattle.cm_handles.specs.declared.handle.Handle.{Handle}
use Rattle.cm_machine_model.specs.declared.limits.TheConstants.{MAX_MEMORY_SIZE, MAX_PAGES}
use Rattle.cm_machine_model.specs.declared.limits.TheConstants.{PAGE_SIZE}
use Rattle.cm_machine_model.specs.declared.frame.Frame.{Frame}
use Rattle.cm_machine_model.specs.declared.frame.Purpose.TheVariants as purpose
use Rattle.cm_machine_model.specs.Memories.{memory_at}
use Rattle.cm_machine_model.specs.declared.frame.Place.TheVariants as place
use Rattle.cm_machine_model.specs.Owning.{HaveOnePlace, owners_of, standing, travelling}
use Rattle.cm_machine_model.specs.Stack.{below_top}
use Rattle.cm_machine_model.specs.Plan.{Plan}
use Rattle.cm_machine_model.specs.Plans.{IsPlan}
use Rattle.cm_machine_model.specs.Run.{after_begin}
use Rattle.cm_machine_model.specs.State.{are_page_counts, State, fresh_state, table_at, zeros}
use Rattle.cm_machine_model.specs.Valid.{IsValidState, PassesAtTop, frame_at}
use Rattle.cm_handles.proofs.SoundHandles.{IsSoundHandles-none}
use Rattle.cm_machine_model.proofs.StateLaws.{table_none}
use Rattle.cm_lemmas.proofs.Numbers.{zero_at}

none_stands : (n i index : ℕ) (h : Handle) → handle_at (table_at (replicate n no_handles) i) index ≡ Some h → ⊥
none_stands n i zero h e = none-some h (sym (ap (λ (t : Handles). handle_at t 0) (table_none n i)) ∙ e)
none_stands n i (suc index) h e = none-some h (sym (ap (λ (t : Handles). handle_at t (suc index)) (table_none n i)) ∙ e)

memory_of : (pages : List ℕ) (i : ℕ) → list_all (λ p. nat_le p MAX_PAGES) pages ≡ true → length (memory_at (map zeros pages) i) ≤ MAX_MEMORY_SIZE
memory_of [] i e = omega arith
memory_of (p ∷ ps) zero e = omega (arith, length-replicate {A = ℕ} (p * PAGE_SIZE) 0, leb-true p MAX_PAGES (and_parts (nat_le p MAX_PAGES) (list_all (λ p. nat_le p MAX_PAGES) ps) e).0)
memory_of (p ∷ ps) (suc i) e = memory_of ps i (and_parts (nat_le p MAX_PAGES) (list_all (λ p. nat_le p MAX_PAGES) ps) e).1

byte_of : (pages : List ℕ) (i a : ℕ) → slice_index (memory_at (map zeros pages) i) a < 2 ^ 8
byte_of [] i a = omega arith
byte_of (p ∷ ps) zero a = omega (arith, zero_at (p * PAGE_SIZE) a)
byte_of (p ∷ ps) (suc i) a = byte_of ps i a

pub fresh_is_valid : (plan : Plan) (pages : List ℕ) → IsPlan plan → are_page_counts (length plan) pages ≡ true → IsValidState plan (fresh_state (length plan) pages)
fresh_is_valid plan pages linked fit =
    let n : ℕ = length plan in
    let s : State = fresh_state n pages in
    let counts : length pages ≡ n = eqb-true (length pages) n (and_parts (length pages == n) (list_all (λ p. nat_le p MAX_PAGES) pages) fit).0 in
    let most : list_all (λ p. nat_le p MAX_PAGES) pages ≡ true = (and_parts (length pages == n) (list_all (λ p. nat_le p MAX_PAGES) pages) fit).1 in
    record {
      linked = linked;
      memories = length-map pages zeros ∙ counts;
      tables = length-replicate n no_handles;
      closed = length-replicate n false;
      small = λ i. memory_of pages i most;
      bytes = byte_of pages;
      sound = λ i. subst (λ (t : Handles). IsSoundHandles t) (sym (table_none n i)) IsSoundHandles-none;
      few = omega arith;
      stack = tt;
      opened = λ f c. absurd (omega (arith, c.1));
      passes = refl;
      one_place = record {
        in_table = λ k i index e. absurd (none-some (place.InTable i index) e);
        owned = λ k i index o. absurd (none_stands n i index o.entry o.stands);
        on_its_way = λ k f e. absurd (none-some (place.Travelling f) e);
        carried = λ k among. absurd among;
        once = tt;
      };
      counted = record {
        counted = λ i index h e. absurd (none_stands n i index h e);
        of_handles = λ l c. absurd (omega (arith, c.1));
      };
      to_calls = λ l c. absurd (omega (arith, c.1));
      borrowed = λ i index call h e k. absurd (none_stands n i index h e);
      lent_out = λ p v f call e top is ph leaf. absurd (none-some p e);
      made = λ i index h e. absurd (none_stands n i index h e);
      leaves_made = λ p e. absurd (none-some p e);
    }

-- ---- begin

inside : (xs : List Bool) (i : ℕ) (b : Bool) → slice_get xs i ≡ Some b → i < length xs
inside [] i b e = absurd (none-some b e)
inside (x ∷ xs) zero b e = omega arith
inside (x ∷ xs) (suc i) b e = omega (arith, inside xs i b e)

root_of : ℕ → Frame
root_of i = record { instance = i; purpose = purpose.Root }

only : (f g : Frame) → Contains (f ∷ []) g → g ≡ f
only f g (zero, lt, is) = sym is
only f g (suc k, lt, is) = absurd (omega (arith, lt))

pub begun_is_valid : (plan : Plan) (s : State) (i : ℕ) → IsValidState plan s → s.stack ≡ [] → slice_get s.closed i ≡ Some false → IsValidState plan (after_begin s i)
begun_is_valid plan s i valid is opened =
    record {
      linked = valid.linked;
      memories = valid.memories;
      tables = valid.tables;
      closed = valid.closed;
      small = valid.small;
      bytes = valid.bytes;
      sound = valid.sound;
      few = omega arith;
      stack = (omega (arith, inside s.closed i false opened, valid.closed), refl, tt);
      opened = λ f c e. true≢false (same_Some true false (sym e ∙ ap (λ (g : Frame). slice_get s.closed g.instance) (only (record { instance = i; purpose = purpose.Root }) f c) ∙ opened));
      passes = subst (λ (fs : List Frame). PassesAtTop plan s fs) is valid.passes;
      one_place = subst (λ (fs : List Frame). HaveOnePlace (standing s.tables) (owners_of s.owners) (length (below_top fs)) (travelling s.passage)) is valid.one_place;
      counted = record { counted = valid.counted.counted; of_handles = valid.counted.of_handles };
      to_calls = λ l c. let old = valid.to_calls l c in absurd (none-some (record { instance = old.instance; purpose = purpose.Call old.call }) (sym (ap (λ (fs : List Frame). frame_at fs l.frame) is) ∙ old.stands));
      borrowed = λ j index call h e k. let old = valid.borrowed j index call h e k in absurd (none-some (record { instance = j; purpose = purpose.Call old.stands_call }) (sym (ap (λ (fs : List Frame). frame_at fs call) is) ∙ old.stands));
      lent_out = λ p v f call e top is_call ph leaf. absurd (none-some p (sym (subst (λ (fs : List Frame). PassesAtTop plan s fs) is valid.passes) ∙ e));
      made = valid.made;
      leaves_made = valid.leaves_made;
    }

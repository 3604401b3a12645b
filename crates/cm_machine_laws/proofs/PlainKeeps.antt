-- What single changes keep of sizes, sound tables, few frames and open instances.
use Rattle.std.proofs.Common.{◌≡◌, ◌≢◌, ℕ, zero, suc, ◌<◌, ◌≤◌, inl, inr, Bool, true, List, [], ◌∷◌}
use Rattle.std.proofs.Common.{length, Some, refl, sym, ap, subst, ◌∙◌, arith, length-set}
use Rattle.std.specs.Prelude.{Contains, slice_get, slice_set, ◌==◌, unwrap_or}
use Rattle.std.proofs.lemmas.Bool.{cases_eq, cases_lt}
use Rattle.cm_handles.specs.Handles.{Handles, IsSoundHandles, after_close, after_unlend}
use Rattle.cm_machine_model.specs.declared.frame.Frame.{Frame}
use Rattle.cm_machine_model.specs.declared.frame.Lend.{Lend}
use Rattle.cm_machine_model.specs.declared.limits.TheConstants.{MAX_FRAMES, MAX_MEMORY_SIZE}
use Rattle.cm_abi_model.specs.Bytes.{AreBytes}
use Rattle.cm_machine_model.specs.Memories.{memory_at}
use Rattle.cm_machine_model.specs.Plan.{Plan}
use Rattle.cm_machine_model.specs.State.{closed_after_trap, table_at, tables_after_call}
use Rattle.cm_machine_model.specs.State.{tables_after_trap, tables_after_unlend}
use Rattle.cm_machine_laws.proofs.LendCounts.{HasFrame, either}
use Rattle.cm_machine_laws.proofs.SoundTables.{TableLaws, sound_unlend}
use Rattle.cm_machine_model.proofs.StateLaws.{flags_length, table_other, table_same}
use Rattle.cm_lemmas.proofs.Lists.{get_set_other, set_past}
use Rattle.cm_machine_model.proofs.MemoriesLaws.{memory_set as memory_same}

pub record Plain (plan : Plan) (memories : List (List ℕ)) (tables : List Handles) (closed : List Bool) (fs : List Frame) : Type 0 where
  pub laws : TableLaws
  pub memories_are : length memories ≡ length plan
  pub tables_are : length tables ≡ length plan
  pub closed_are : length closed ≡ length plan
  pub small : (i : ℕ) → length (memory_at memories i) ≤ MAX_MEMORY_SIZE
  pub bytes : (i : ℕ) → AreBytes (memory_at memories i)
  pub sound : (i : ℕ) → IsSoundHandles (table_at tables i)
  pub few : length fs ≤ MAX_FRAMES
  pub opened : (i : ℕ) → HasFrame fs i → slice_get closed i ≢ Some true

pub memory_set : (ms : List (List ℕ)) (i j : ℕ) (m : List ℕ) (P : List ℕ → Type 0) → (i < length ms → P m) → ((k : ℕ) → P (memory_at ms k)) → P (memory_at (slice_set ms i m) j)
memory_set ms i j m P new old = elim (cases_eq j i) as (λ r. P (memory_at (slice_set ms i m) j)) [
  | inl same ↦ elim (cases_lt i (length ms)) as (λ r. P (memory_at (slice_set ms i m) j)) [
    | inl lt ↦ subst P (sym (ap (λ k. memory_at (slice_set ms i m) k) same ∙ memory_same ms i m lt)) (new lt)
    | inr past ↦ subst (λ (xs : List (List ℕ)). P (memory_at xs j)) (sym (set_past ms i m past)) (old j)
  ]
  | inr ne ↦ subst P (sym (ap (λ o. unwrap_or o []) (get_set_other ms i j m ne))) (old j)
]

pub table_set : (ts : List Handles) (i j : ℕ) (t : Handles) (P : Handles → Type 0) → P t → ((k : ℕ) → P (table_at ts k)) → P (table_at (slice_set ts i t) j)
table_set ts i j t P new old = elim (cases_eq j i) as (λ r. P (table_at (slice_set ts i t) j)) [
  | inl same ↦ elim (cases_lt i (length ts)) as (λ r. P (table_at (slice_set ts i t) j)) [
    | inl lt ↦ subst P (sym (ap (λ k. table_at (slice_set ts i t) k) same ∙ table_same ts i t lt)) new
    | inr past ↦ subst (λ (xs : List Handles). P (table_at xs j)) (sym (set_past ts i t past)) (old j)
  ]
  | inr ne ↦ subst P (sym (table_other ts i j t ne)) (old j)
]

pub has_from : (fs : List Frame) (f : Frame) → Contains fs f → HasFrame fs f.instance
has_from [] f c = absurd (omega (arith, c.1))
has_from (g ∷ fs) f (zero, lt, is) = inl (ap (λ (x : Frame). x.instance) is)
has_from (g ∷ fs) f (suc k, lt, is) = inr (has_from fs f (k, omega (arith, lt), is))

pub has_one : (fs : List Frame) (i : ℕ) → HasFrame fs i → (f : Frame) × Contains fs f × (f.instance ≡ i)
has_one [] i a = absurd a
has_one (g ∷ fs) i (inl e) = (g, (0, omega arith, refl), e)
has_one (g ∷ fs) i (inr a) = let x = has_one fs i a in (x.0, (suc x.1.0, omega (arith, x.1.1), x.1.2), x.2)

pub plain_memory : (plan : Plan) (ms : List (List ℕ)) (ts : List Handles) (cs : List Bool) (fs : List Frame) (i : ℕ) (m : List ℕ) → length m ≤ MAX_MEMORY_SIZE → (i < length ms → AreBytes m) → Plain plan ms ts cs fs → Plain plan (slice_set ms i m) ts cs fs
plain_memory plan ms ts cs fs i m le bytes p = record {
  laws = p.laws;
  memories_are = length-set ms i m ∙ p.memories_are;
  tables_are = p.tables_are;
  closed_are = p.closed_are;
  small = λ j. memory_set ms i j m (λ x. length x ≤ MAX_MEMORY_SIZE) (λ lt. le) p.small;
  bytes = λ j. memory_set ms i j m AreBytes bytes p.bytes;
  sound = p.sound;
  few = p.few;
  opened = p.opened;
}

pub plain_table : (plan : Plan) (ms : List (List ℕ)) (ts : List Handles) (cs : List Bool) (fs : List Frame) (i : ℕ) (t : Handles) → IsSoundHandles t → Plain plan ms ts cs fs → Plain plan ms (slice_set ts i t) cs fs
plain_table plan ms ts cs fs i t sound p = record {
  laws = p.laws;
  memories_are = p.memories_are;
  tables_are = length-set ts i t ∙ p.tables_are;
  closed_are = p.closed_are;
  small = p.small;
  bytes = p.bytes;
  sound = λ j. table_set ts i j t (λ x. IsSoundHandles x) sound p.sound;
  few = p.few;
  opened = p.opened;
}

pub plain_push : (plan : Plan) (ms : List (List ℕ)) (ts : List Handles) (cs : List Bool) (fs : List Frame) (f : Frame) → length fs < MAX_FRAMES → slice_get cs f.instance ≢ Some true → Plain plan ms ts cs fs → Plain plan ms ts cs (f ∷ fs)
plain_push plan ms ts cs fs f room open_now p = record {
  laws = p.laws;
  memories_are = p.memories_are;
  tables_are = p.tables_are;
  closed_are = p.closed_are;
  small = p.small;
  bytes = p.bytes;
  sound = p.sound;
  few = omega (arith, room);
  opened = λ i a. elim a as (λ r. slice_get cs i ≢ Some true) [ inl e ↦ subst (λ n. slice_get cs n ≢ Some true) e open_now | inr b ↦ p.opened i b ];
}

pub plain_pop : (plan : Plan) (ms : List (List ℕ)) (ts : List Handles) (cs : List Bool) (fs : List Frame) (f : Frame) → Plain plan ms ts cs (f ∷ fs) → Plain plan ms ts cs fs
plain_pop plan ms ts cs fs f p = record {
  laws = p.laws;
  memories_are = p.memories_are;
  tables_are = p.tables_are;
  closed_are = p.closed_are;
  small = p.small;
  bytes = p.bytes;
  sound = p.sound;
  few = omega (arith, p.few);
  opened = λ i a. p.opened i (inr a);
}

pub plain_turn : (plan : Plan) (ms : List (List ℕ)) (ts : List Handles) (cs : List Bool) (fs : List Frame) (f g : Frame) → f.instance ≡ g.instance → Plain plan ms ts cs (f ∷ fs) → Plain plan ms ts cs (g ∷ fs)
plain_turn plan ms ts cs fs f g same p = record {
  laws = p.laws;
  memories_are = p.memories_are;
  tables_are = p.tables_are;
  closed_are = p.closed_are;
  small = p.small;
  bytes = p.bytes;
  sound = p.sound;
  few = omega (arith, p.few);
  opened = λ i a. elim a as (λ r. slice_get cs i ≢ Some true) [ inl e ↦ p.opened i (inl (same ∙ e)) | inr b ↦ p.opened i (inr b) ];
}

pub plain_end : (plan : Plan) (ms : List (List ℕ)) (call : ℕ) (ls : List Lend) (ts : List Handles) (cs : List Bool) (fs : List Frame) → Plain plan ms ts cs fs → Plain plan ms (tables_after_call call ls ts) cs fs
plain_end plan ms call [] ts cs fs p = p
plain_end plan ms call (l ∷ ls) ts cs fs p =
    either (l.frame == call) (λ (us : List Handles). Plain plan ms (tables_after_call call ls us) cs fs) (tables_after_unlend l ts) ts
    (plain_end plan ms call ls (tables_after_unlend l ts) cs fs (plain_table plan ms ts cs fs l.instance (after_unlend (table_at ts l.instance) l.index) (sound_unlend p.laws (table_at ts l.instance) l.index (p.sound l.instance)) p))
    (plain_end plan ms call ls ts cs fs p)

trap_tables : (plan : Plan) (ms : List (List ℕ)) (gs : List Frame) (ts : List Handles) (cs : List Bool) (fs : List Frame) → Plain plan ms ts cs fs → Plain plan ms (tables_after_trap gs ts) cs fs
trap_tables plan ms [] ts cs fs p = p
trap_tables plan ms (g ∷ gs) ts cs fs p =
    trap_tables plan ms gs (slice_set ts g.instance (after_close (table_at ts g.instance))) cs fs (plain_table plan ms ts cs fs g.instance (after_close (table_at ts g.instance)) (p.laws.close (table_at ts g.instance) (p.sound g.instance)).sound p)

pub plain_trap : (plan : Plan) (ms : List (List ℕ)) (ts : List Handles) (cs : List Bool) (fs : List Frame) → Plain plan ms ts cs fs → Plain plan ms (tables_after_trap fs ts) (closed_after_trap fs cs) []
plain_trap plan ms ts cs fs p =
    let q = trap_tables plan ms fs ts cs fs p in
    record {
      laws = q.laws;
      memories_are = q.memories_are;
      tables_are = q.tables_are;
      closed_are = flags_length fs cs ∙ p.closed_are;
      small = q.small;
      bytes = q.bytes;
      sound = q.sound;
      few = omega arith;
      opened = λ i a. absurd a;
    }

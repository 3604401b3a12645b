-- The row of a call of a lowered function, judged by the causes of its traps.
use Rattle.std.proofs.Common.{◌≡◌, ℕ, zero, suc, ◌<◌, ◌≤◌, inl, inr, List, [], ◌∷◌, ◌++◌, length, Option, Some, None, refl, sym, ap, subst, ◌∙◌, arith}
use Rattle.std.specs.Prelude.{slice_get, slice_set}
use Rattle.std.proofs.Math.Nat.{lt_of_not-le}
use Rattle.std.proofs.lemmas.Option.{none-some}
use Rattle.cm_types.specs.declared.core_value.CoreValue.{CoreValue}
use Rattle.cm_types.specs.Values.{Val}
use Rattle.cm_handles.specs.Handles.{Handles, indices_left}
use Rattle.cm_abi_model.specs.declared.fault.AbiFault.{AbiFault}
use Rattle.cm_abi_model.specs.declared.fault.AbiFault.TheVariants as fault
use Rattle.cm_abi_model.specs.declared.receiver.Receiver.{Receiver}
use Rattle.cm_abi_model.specs.declared.request.Request.{Request}
use Rattle.cm_abi_model.specs.Answering.{regions_of}
use Rattle.cm_abi_model.specs.Denotes.{Denotes}
use Rattle.cm_abi_model.specs.Giving.{added_count}
use Rattle.cm_abi_model.specs.LiftStops.{LiftStops}
use Rattle.cm_abi_model.specs.Overlap.{AreDisjoint}
use Rattle.cm_abi_model.specs.Receives.{HandleLeaf, leaves_in}
use Rattle.cm_abi_model.specs.Requests.{parts_of, tuple_of}
use Rattle.cm_abi_model.specs.Taken.{Transferable}
use Rattle.cm_abi_model.specs.Views.{params}
use Rattle.cm_machine_model.specs.declared.event.Event.{Event}
use Rattle.cm_machine_model.specs.declared.event.Event.TheVariants as event
use Rattle.cm_machine_model.specs.declared.event.Trap.{Trap}
use Rattle.cm_machine_model.specs.declared.event.Trap.TheVariants as trap
use Rattle.cm_machine_model.specs.declared.frame.Frame.{Frame}
use Rattle.cm_machine_model.specs.Passages.{IsScanned, as_args, asked_for}
use Rattle.cm_machine_model.specs.Plan.{Link, types_of}
use Rattle.cm_machine_model.specs.Stack.{actor}
use Rattle.cm_machine_model.specs.State.{Passage, State, table_at}
use Rattle.cm_machine_model.specs.Step.{Asks, CallsLowered, GoesOn, GoesOnBy, UnlessNoMemory, MayLeave, PassesArguments, after_lift_of_args, arg_slots, args_view, new_call, receiver_of, trap_of}
use Rattle.cm_machine_laws.specs.Causes.{LowerCause, MayCall, lift_traps}
use Rattle.cm_machine_laws.specs.Doing.{Doing, LoweredCall}
use Rattle.cm_machine_laws.specs.Told.{WasSent, args_receiver, sent_leaves, sent_requests}
use Rattle.cm_machine_laws.proofs.Judging.{Causing, Judged, check, check_behind, memory, passes, skip}
use Rattle.cm_machine_laws.proofs.Lifting.{Laws, Only, leaves_want, lifts_judged, parts_want}
use Rattle.cm_machine_laws.proofs.Resources.{closed_if, full_if, open_if, room_if}

-- ---- events that are no trap

pub asks_not : (o : Option ℕ) (i : ℕ) (args : List CoreValue) (s : State) (e : Event) (new : State) → Asks o i args s e new → (t : Trap) → e ≡ event.Trapped t → ⊥
asks_not None i args s e new x t eq = x
asks_not (Some f) i args s e new x t eq = differ (sym x.0 ∙ eq) where
  differ : event.Realloc i f args ≡ event.Trapped t → ⊥
  differ y = cc (y)

pub enters_not : (i f : ℕ) (args : List CoreValue) (e : Event) → e ≡ event.Enter i f args → (t : Trap) → e ≡ event.Trapped t → ⊥
enters_not i f args e is t eq = differ (sym is ∙ eq) where
  differ : event.Enter i f args ≡ event.Trapped t → ⊥
  differ y = cc (y)

-- ---- the callee's table

-- another instance's table stays
pub other_table : (tables : List Handles) (i j : ℕ) (t : Handles) → (j ≡ i → ⊥) → table_at (slice_set tables i t) j ≡ table_at tables j
other_table [] i j t apart = refl
other_table (x ∷ xs) zero zero t apart = absurd (apart refl)
other_table (x ∷ xs) zero (suc j) t apart = refl
other_table (x ∷ xs) (suc i) zero t apart = refl
other_table (x ∷ xs) (suc i) (suc j) t apart = other_table xs i j t (λ e. apart (ap suc e))

no_first : (rs : List Request) → slice_get rs 0 ≡ None → rs ≡ []
no_first [] e = refl
no_first (r ∷ rs) e = absurd (none-some r (sym e))

some_first : (rs : List Request) (r : Request) → slice_get rs 0 ≡ Some r → rs ≡ [] → ⊥
some_first rs r is none = none-some r (ap (λ (xs : List Request). slice_get xs 0) (sym none) ∙ is)

-- ---- after the lift

-- a call of a lowered function that is made now
abbrev pub called : State → ℕ → ℕ → Link → List CoreValue → LoweredCall
called s n i l args = record { caller = i; link = l; args = args; state = s; place = n }

-- what was found of a call of a lowered function that was lifted
pub record Found (s : State) (i : ℕ) (l : Link) (args : List CoreValue) (v : Val) (p : Passage) : Type 0 where
  pub sent : WasSent (called s (length s.stack) i l args) v
  pub scanned : IsScanned (args_view s i l) l params (arg_slots l args) v p

asks_sent : (s : State) (i : ℕ) (l : Link) (args : List CoreValue) (v : Val) (p : Passage) → Found s i l args v p → asked_for l params p v ≡ sent_requests (called s (length s.stack) i l args) v
asks_sent s i l args v p x = x.scanned.asks

full : (laws : Laws) (s : State) (ds : List Doing) (i : ℕ) (l : Link) (args : List CoreValue) (v : Val) (p : Passage) → Found s i l args v p → (func : ℕ) → (l.instance ≡ i → ⊥)
    → asked_for l params p v ≡ []
    → (added_count (receiver_of params (length s.stack) l (new_call i func l args)) p.leaves
    ≤ indices_left (table_at (after_lift_of_args s i func l args v p).tables l.instance) → ⊥)
    → LowerCause s ds (called s (length s.stack) i l args) trap.TableFull
full laws s ds i l args v p x func apart none f = record {
  v = v;
  sent = x.sent;
  asks_nothing = sym (asks_sent s i l args v p x) ∙ none;
  too_few = fewer (subst (λ (leaves : List HandleLeaf). added_count to leaves ≤ indices_left (table_at (after_lift_of_args s i func l args v p).tables l.instance) → ⊥) x.scanned.carried.handles f);
} where
  to : Receiver
  to = args_receiver (called s (length s.stack) i l args)

  fewer : (added_count to (sent_leaves (called s (length s.stack) i l args) v) ≤ indices_left (table_at (after_lift_of_args s i func l args v p).tables l.instance) → ⊥)
      → indices_left (table_at s.tables l.instance) < added_count to (sent_leaves (called s (length s.stack) i l args) v)
  fewer g = subst (λ (t : Handles). indices_left t < added_count to (sent_leaves (called s (length s.stack) i l args) v)) (other_table s.tables i l.instance _ apart) (lt_of_not-le g)

not_full : (laws : Laws) (s : State) (ds : List Doing) (i : ℕ) (l : Link) (args : List CoreValue) (v : Val) (p : Passage) → Found s i l args v p → (func : ℕ) → (l.instance ≡ i → ⊥)
    → added_count (receiver_of params (length s.stack) l (new_call i func l args)) p.leaves
    ≤ indices_left (table_at (after_lift_of_args s i func l args v p).tables l.instance)
    → LowerCause s ds (called s (length s.stack) i l args) trap.TableFull → ⊥
not_full laws s ds i l args v p x func apart le c =
    let same : c.v ≡ v = laws.denoted (args_view s i l) params (types_of l params) (arg_slots l args) c.v v c.sent.denoted x.sent.denoted in
    let mine : indices_left (table_at s.tables l.instance) < added_count to (leaves_in (tuple_of (types_of l params)) v) = subst (λ (u : Val). indices_left (table_at s.tables l.instance) < added_count to (leaves_in (tuple_of (types_of l params)) u)) same c.too_few in
    let room : added_count to (leaves_in (tuple_of (types_of l params)) v) ≤ indices_left (table_at s.tables l.instance) =
    subst (λ (t : Handles). added_count to (leaves_in (tuple_of (types_of l params)) v) ≤ indices_left t) (other_table s.tables i l.instance _ apart)
    (subst (λ (leaves : List HandleLeaf). added_count to leaves ≤ indices_left (table_at (after_lift_of_args s i func l args v p).tables l.instance)) x.scanned.carried.handles le) in
    not_both mine room where
      to : Receiver
      to = args_receiver (called s (length s.stack) i l args)

      not_both : {a b : ℕ} → a < b → b ≤ a → ⊥
      not_both {a} {b} x y = absurd (omega (arith, x, y))

-- where it goes on
goes_judged : (laws : Laws) (s : State) (ds : List Doing) (i : ℕ) (l : Link) (args : List CoreValue) (v : Val) (p : Passage) → Found s i l args v p → (func : ℕ) → (l.instance ≡ i → ⊥)
    → (o : Option Request) → slice_get (asked_for l params p v) 0 ≡ o → (e : Event) (new : State)
    → GoesOnBy o (after_lift_of_args s i func l args v p) (length s.stack) l params (new_call i func l args) p v (asked_for l params p v) [] e new
    → Judged [] (trap.TableFull ∷ []) (LowerCause s ds (called s (length s.stack) i l args)) e
goes_judged laws s ds i l args v p x func apart (Some r) is e new row =
    passes (trap.TableFull ∷ []) (LowerCause s ds (called s (length s.stack) i l args)) e
    (asks_not l.callee.realloc l.instance (as_args 0 r) (after_lift_of_args s i func l args v p) e new row) (none, tt) where
      none : LowerCause s ds (called s (length s.stack) i l args) trap.TableFull → ⊥
      none c = some_first (asked_for l params p v) r is (asks_sent s i l args v p x
          ∙ (ap (λ (u : Val). sent_requests (called s (length s.stack) i l args) u) (laws.denoted (args_view s i l) params (types_of l params) (arg_slots l args) v c.v x.sent.denoted c.sent.denoted) ∙ c.asks_nothing))
goes_judged laws s ds i l args v p x func apart None is e new (inl y) =
    absurd (y.0 (subst (λ (rs : List Request). AreDisjoint (regions_of rs [])) (sym (no_first (asked_for l params p v) is)) tt))
goes_judged laws s ds i l args v p x func apart None is e new (inr y) =
    check_behind (after_lift_of_args s i func l args v p) [] (LowerCause s ds (called s (length s.stack) i l args)) e new trap.TableFull
    (full laws s ds i l args v p x func apart (no_first (asked_for l params p v) is)) (not_full laws s ds i l args v p x func apart) y.1
    (λ le z. memory (after_lift_of_args s i func l args v p) [] (LowerCause s ds (called s (length s.stack) i l args)) e new
    (λ some. leaves_want laws (args_view s i l) params (types_of l params) (arg_slots l args) v x.sent.denoted (λ none. some (x.scanned.carried.handles ∙ none))) z
    (λ w. passes [] (LowerCause s ds (called s (length s.stack) i l args)) e (enters_not l.instance l.func w.1 e w.3.0) tt))

-- ---- the whole call

-- what the arguments stop at has a cause
cause_at : (laws : Laws) (s : State) (ds : List Doing) (i : ℕ) (l : Link) (args : List CoreValue) (f : AbiFault) → LiftStops (args_view s i l) params (types_of l params) (arg_slots l args) f → LowerCause s ds (called s (length s.stack) i l args) (trap_of f)
cause_at laws s ds i l args fault.Misaligned stops = (fault.Misaligned, refl, stops)
cause_at laws s ds i l args fault.PointerBounds stops = (fault.PointerBounds, refl, stops)
cause_at laws s ds i l args fault.BadChar stops = (fault.BadChar, refl, stops)
cause_at laws s ds i l args fault.BadCase stops = (fault.BadCase, refl, stops)
cause_at laws s ds i l args fault.TooLarge stops = (fault.TooLarge, refl, stops)
cause_at laws s ds i l args fault.BadText stops = (fault.BadText, refl, stops)
cause_at laws s ds i l args fault.NoHandle stops = (fault.NoHandle, refl, stops)
cause_at laws s ds i l args fault.WrongResource stops = (fault.WrongResource, refl, stops)
cause_at laws s ds i l args fault.StillLent stops = (fault.StillLent, refl, stops)
cause_at laws s ds i l args fault.NotOwned stops = (fault.NotOwned, refl, stops)
cause_at laws s ds i l args fault.TableFull stops = absurd (omega (arith, (laws.number (args_view s i l) params (types_of l params) (arg_slots l args) fault.TableFull stops).1))
cause_at laws s ds i l args fault.Overlap stops = absurd (omega (arith, (laws.number (args_view s i l) params (types_of l params) (arg_slots l args) fault.Overlap stops).1))
cause_at laws s ds i l args fault.EngineMemory stops = absurd (omega (arith, (laws.number (args_view s i l) params (types_of l params) (arg_slots l args) fault.EngineMemory stops).1))

lift_judged : (laws : Laws) (s : State) (ds : List Doing) (i func : ℕ) (l : Link) (args : List CoreValue) → (l.instance ≡ i → ⊥) → (e : Event) (new : State) → PassesArguments s i func l args e new
    → Judged [] (lift_traps ++ trap.TableFull ∷ []) (LowerCause s ds (called s (length s.stack) i l args)) e
lift_judged laws s ds i func l args apart e new row =
    lifts_judged (trap.TableFull ∷ []) (LowerCause s ds (called s (length s.stack) i l args)) laws s (args_view s i l) l params (arg_slots l args)
    (λ v p. UnlessNoMemory (after_lift_of_args s i func l args v p) (0 < parts_of params (types_of l params) v) (GoesOn (after_lift_of_args s i func l args v p) (length s.stack) l params (new_call i func l args) p v [])) e new
    (λ f stops. (cause_at laws s ds i l args f stops, only f stops)) (λ want. want)
    (λ v p denoted transferable scanned rest.
    skip lift_traps (trap.TableFull ∷ []) (LowerCause s ds (called s (length s.stack) i l args)) e
    (none v denoted transferable, (none v denoted transferable, (none v denoted transferable, (none v denoted transferable, (none v denoted transferable, (none v denoted transferable, (none v denoted transferable, (none v denoted transferable, (none v denoted transferable, (none v denoted transferable, tt))))))))))
    (memory (after_lift_of_args s i func l args v p) (trap.TableFull ∷ []) (LowerCause s ds (called s (length s.stack) i l args)) e new
    (λ some. parts_want laws (args_view s i l) params (types_of l params) (arg_slots l args) v denoted some) rest
    (λ on. goes_judged laws s ds i l args v p (record { sent = record { denoted = denoted; transferable = transferable }; scanned = scanned }) func apart
    (slice_get (asked_for l params p v) 0) refl e new on))) row where
      x : LoweredCall
      x = called s (length s.stack) i l args

      Stopped : Trap → Type 0
      Stopped t = (f : AbiFault) × (trap_of f ≡ t) × LiftStops (args_view s i l) params (types_of l params) (arg_slots l args) f

      other : (f : AbiFault) → LiftStops (args_view s i l) params (types_of l params) (arg_slots l args) f → (t : Trap) → Stopped t → t ≡ trap_of f
      other f stops t c = sym c.1 ∙ ap trap_of (laws.one_stop (args_view s i l) params (types_of l params) (arg_slots l args) c.0 f c.2 stops)

      only : (f : AbiFault) → LiftStops (args_view s i l) params (types_of l params) (arg_slots l args) f → Only (LowerCause s ds x) (trap_of f)
      only f stops = (other f stops _, (other f stops _, (other f stops _, (other f stops _, (other f stops _, (other f stops _, (other f stops _, (other f stops _, (other f stops _, (other f stops _, tt))))))))))

      none : (v : Val) → Denotes (args_view s i l) params (types_of l params) (arg_slots l args) v → Transferable (args_view s i l) params (types_of l params) (arg_slots l args) v → {t : Trap} → Stopped t → ⊥
      none v denoted transferable {t} c = laws.beside (args_view s i l) params (types_of l params) (arg_slots l args) c.0 v c.2 denoted transferable

pub lowered_judged : (laws : Laws) (s : State) (ds : List Doing) (top : Frame) (func : ℕ) (l : Link) (args : List CoreValue) → (l.instance ≡ actor top → ⊥)
    → (MayLeave top.purpose → MayCall ds) → (MayCall ds → MayLeave top.purpose) → length ds ≡ length s.stack → (e : Event) (new : State) → CallsLowered s top func l args e new
    → Judged (trap.CoreShape ∷ trap.MayNotLeave ∷ trap.CalleeClosed ∷ trap.StackFull ∷ []) (lift_traps ++ trap.TableFull ∷ []) (LowerCause s ds (called s (length ds) (actor top) l args)) e
lowered_judged laws s ds top func l args apart may_is is_may same e new row =
    subst (λ (n : ℕ). Judged (trap.CoreShape ∷ trap.MayNotLeave ∷ trap.CalleeClosed ∷ trap.StackFull ∷ []) (lift_traps ++ trap.TableFull ∷ []) (LowerCause s ds (called s n (actor top) l args)) e) (sym same)
    (check s (trap.MayNotLeave ∷ trap.CalleeClosed ∷ trap.StackFull ∷ []) (lift_traps ++ trap.TableFull ∷ []) cause e new trap.CoreShape (λ f. f) (λ of f. f of) row
    (λ of a. check s (trap.CalleeClosed ∷ trap.StackFull ∷ []) (lift_traps ++ trap.TableFull ∷ []) cause e new trap.MayNotLeave (λ f may. f (is_may may)) (λ may f. f (may_is may)) a
    (λ may b. check s (trap.StackFull ∷ []) (lift_traps ++ trap.TableFull ∷ []) cause e new trap.CalleeClosed (closed_if s l.instance) (open_if s l.instance) b
    (λ op c. check s [] (lift_traps ++ trap.TableFull ∷ []) cause e new trap.StackFull (full_if s ds same) (room_if s ds same) c
    (λ room d. lift_judged laws s ds (actor top) func l args apart e new d))))) where
      cause : Causing
      cause = LowerCause s ds (called s (length s.stack) (actor top) l args)

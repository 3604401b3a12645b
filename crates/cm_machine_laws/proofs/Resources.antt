-- The rows of the resource built-ins, judged by the causes of their traps.
use Rattle.std.proofs.Common.{◌≡◌, ℕ, ◌<◌, ◌≤◌, Bool, true, false, List, [], ◌∷◌, length, Option, Some, None, refl, sym, ap, subst, ◌∙◌, arith, if◌then◌else◌}
use Rattle.std.specs.Prelude.{slice_get, Ok, Err, ◌==◌, unwrap_or}
use Rattle.std.proofs.Math.Nat.{lt_of_not-le}
use Rattle.std.proofs.lemmas.Option.{none-some, same_Some}
use Rattle.cm_types.specs.declared.core_value.CoreValue.{CoreValue}
use Rattle.cm_types.specs.declared.core_value.CoreValue.TheVariants as core_value
use Rattle.cm_types.specs.declared.resource.ResourceId.{ResourceId}
use Rattle.cm_handles.specs.Handles.{handle_at, if_not_lent, is_same_resource, of_resource}
use Rattle.cm_handles.specs.declared.fault.HandleFault.TheVariants as handle_fault
use Rattle.cm_handles.specs.declared.handle.Handle.{Handle}
use Rattle.cm_handles.specs.declared.handle.HandleKind.{HandleKind}
use Rattle.cm_handles.specs.declared.handle.HandleKind.TheVariants as handle
use Rattle.cm_abi_model.specs.Numbers.{slot_at}
use Rattle.cm_machine_model.specs.declared.event.Event.{Event}
use Rattle.cm_machine_model.specs.declared.event.Event.TheVariants as event
use Rattle.cm_machine_model.specs.declared.event.Trap.{Trap}
use Rattle.cm_machine_model.specs.declared.event.Trap.TheVariants as trap
use Rattle.cm_machine_model.specs.declared.limits.TheConstants.{MAX_FRAMES}
use Rattle.cm_machine_model.specs.declared.frame.Frame.{Frame}
use Rattle.cm_machine_model.specs.Stack.{actor}
use Rattle.cm_machine_model.specs.State.{State, table_at}
use Rattle.cm_machine_model.specs.Step.{DropsFound, DropsHandle, DropsOwned, Drops, HasRoom, IsOpen, Makes, MayLeave, Represents, TellsFound}
use Rattle.cm_machine_laws.specs.Causes.{DropCause, IsClosed, IsDestroyed, MakeCause, MayCall, TellCause}
use Rattle.cm_machine_laws.specs.Doing.{Doing}
use Rattle.cm_machine_laws.proofs.Judging.{Judged, check, here, memory, next, passes}
use Rattle.cm_lemmas.proofs.Numbers.{eq_of, not_zero}
use Rattle.cm_lemmas.proofs.Bools.{true_is_not_false}
use Rattle.cm_handles.proofs.HandlesLaws.{same_true, same_is}

-- ---- whether an instance is open

closed_by : (o : Option Bool) → (unwrap_or o false ≡ false → ⊥) → o ≡ Some true
closed_by None f = absurd (f refl)
closed_by (Some true) f = refl
closed_by (Some false) f = absurd (f refl)

pub closed_if : (s : State) (i : ℕ) → (IsOpen s i → ⊥) → IsClosed s i
closed_if s i f = closed_by (slice_get s.closed i) f

open_by : (o : Option Bool) → unwrap_or o false ≡ false → o ≡ Some true → ⊥
open_by None is e = none-some true e
open_by (Some true) is e = differ is where
  differ : true ≡ false → ⊥
  differ x = cc (x)
open_by (Some false) is e = differ (same_Some false true e) where
  differ : false ≡ true → ⊥
  differ x = cc (x)

pub open_if : (s : State) (i : ℕ) → IsOpen s i → IsClosed s i → ⊥
open_if s i is c = open_by (slice_get s.closed i) is c

-- ---- whether there is room

pub full_if : (s : State) (ds : List Doing) → length ds ≡ length s.stack → (HasRoom s → ⊥) → MAX_FRAMES ≤ length ds
full_if s ds same f = subst (λ (n : ℕ). MAX_FRAMES ≤ n) (sym same) (nat_le (length s.stack) f) where
  nat_le : (n : ℕ) → (n < MAX_FRAMES → ⊥) → MAX_FRAMES ≤ n
  nat_le n f = omega (arith, lt_of_not-le f)

pub room_if : (s : State) (ds : List Doing) → length ds ≡ length s.stack → HasRoom s → MAX_FRAMES ≤ length ds → ⊥
room_if s ds same lt le = omega (arith, same, lt, le)

-- ---- no event is a trap

pub resumes_not : (i : ℕ) (values : List CoreValue) (e : Event) → e ≡ event.Resume i values → (t : Trap) → e ≡ event.Trapped t → ⊥
resumes_not i values e is t eq = differ (sym is ∙ eq) where
  differ : event.Resume i values ≡ event.Trapped t → ⊥
  differ x = cc (x)

-- ---- resources

-- ---- a representation

tells_found : (s : State) (i : ℕ) (r : ResourceId) (args : List CoreValue) (e : Event) (new : State) (o : Option Handle) → handle_at (table_at s.tables i) (slot_at args 0) ≡ o
    → TellsFound (of_resource o r) s i e new → Judged (trap.NoHandle ∷ trap.WrongResource ∷ []) [] (TellCause s i r args) e
tells_found s i r args e new None is x = here (trap.WrongResource ∷ []) [] (TellCause s i r args) e trap.NoHandle is x.0
tells_found s i r args e new (Some h) is x =
    next (trap.WrongResource ∷ []) [] (TellCause s i r args) e trap.NoHandle (λ none. none-some h (sym none ∙ is))
    (by_resource (is_same_resource h.resource r) refl x) where
      by_resource : (b : Bool) → is_same_resource h.resource r ≡ b → TellsFound (if b then Ok h else Err handle_fault.WrongResource) s i e new
          → Judged (trap.WrongResource ∷ []) [] (TellCause s i r args) e
      by_resource false other x = here [] [] (TellCause s i r args) e trap.WrongResource (h, is, λ same. true_is_not_false (is_same_resource h.resource r) other (same_true h.resource r same)) x.0
      by_resource true same x =
          next [] [] (TellCause s i r args) e trap.WrongResource
          (λ c. c.2 (ap (λ (g : Handle). g.resource) (same_Some c.0 h (sym c.1 ∙ is)) ∙ same_is h.resource r same))
          (passes [] (TellCause s i r args) e (resumes_not i (core_value.I32 h.rep ∷ []) e x.0) tt)

pub represents_judged : (s : State) (top : Frame) (r : ResourceId) (args : List CoreValue) (e : Event) (new : State) → Represents s top r args e new
    → Judged (trap.CoreShape ∷ trap.NoHandle ∷ trap.WrongResource ∷ []) [] (TellCause s (actor top) r args) e
represents_judged s top r args e new x =
    check s (trap.NoHandle ∷ trap.WrongResource ∷ []) [] (TellCause s (actor top) r args) e new trap.CoreShape (λ f. f) (λ of f. f of) x
    (λ of y. tells_found s (actor top) r args e new (handle_at (table_at s.tables (actor top)) (slot_at args 0)) refl y)

-- ---- a new resource

pub makes_judged : (s : State) (ds : List Doing) (top : Frame) (r : ResourceId) (args : List CoreValue) (e : Event) (new : State)
    → (MayLeave top.purpose → MayCall ds) → (MayCall ds → MayLeave top.purpose) → Makes s top r args e new
    → Judged (trap.CoreShape ∷ trap.MayNotLeave ∷ trap.TableFull ∷ []) [] (MakeCause s ds (actor top) args) e
makes_judged s ds top r args e new may_is is_may x =
    check s (trap.MayNotLeave ∷ trap.TableFull ∷ []) [] (MakeCause s ds (actor top) args) e new trap.CoreShape (λ f. f) (λ of f. f of) x
    (λ of y. check s (trap.TableFull ∷ []) [] (MakeCause s ds (actor top) args) e new trap.MayNotLeave (λ f may. f (is_may may)) (λ may f. f (may_is may)) y
    (λ may z. check s [] [] (MakeCause s ds (actor top) args) e new trap.TableFull (λ f room. f (record { serial = room.0; index = room.1 })) (λ can f. f (can.serial, can.index)) z
    (λ can u. memory s [] (MakeCause s ds (actor top) args) e new (λ p. tt) u
    (λ v. passes [] (MakeCause s ds (actor top) args) e (resumes_not (actor top) _ e v.0) tt))))

-- ---- a drop

no_lends : (n : ℕ) → (n == 0) ≡ true → 0 < n → ⊥
no_lends n e lt = subst (λ (k : ℕ). 0 < k → ⊥) (sym (eq_of n 0 e)) (λ x. absurd (omega (arith, x))) lt

abbrev drop_behind : List Trap
drop_behind = trap.CalleeClosed ∷ trap.StackFull ∷ []

drops_owned : (s : State) (ds : List Doing) (i : ℕ) (r : ResourceId) (d : Option ℕ) (args : List CoreValue) (h : Handle) (e : Event) (new : State) → length ds ≡ length s.stack
    → handle_at (table_at s.tables i) (slot_at args 0) ≡ Some h → h.kind ≡ handle.Owned → (d2 : Option ℕ) → d ≡ d2 → DropsOwned s i r d2 (slot_at args 0) h e new
    → Judged drop_behind [] (DropCause s ds i r d args) e
drops_owned s ds i r d args h e new same stands owned None none x =
    next (trap.StackFull ∷ []) [] (DropCause s ds i r d args) e trap.CalleeClosed (λ c. none-some c.0.func (sym none ∙ c.0.destructor))
    (next [] [] (DropCause s ds i r d args) e trap.StackFull (λ c. none-some c.0.func (sym none ∙ c.0.destructor))
    (passes [] (DropCause s ds i r d args) e (resumes_not i [] e x.0) tt))
drops_owned s ds i r d args h e new same stands owned (Some f) is x =
    let destroyed : IsDestroyed (table_at s.tables i) (slot_at args 0) d = record { entry = h; stands = stands; owned = owned; func = f; destructor = is } in
    check s (trap.StackFull ∷ []) [] (DropCause s ds i r d args) e new trap.CalleeClosed (λ f. (destroyed, closed_if s r.component f)) (λ op c. open_if s r.component op c.1) x
    (λ op y. check s [] [] (DropCause s ds i r d args) e new trap.StackFull (λ f. (destroyed, full_if s ds same f)) (λ room c. room_if s ds same room c.1) y
    (λ room z. passes [] (DropCause s ds i r d args) e (destroys_not z.0) tt)) where
      destroys_not : e ≡ event.Dtor r.component f h.rep → (t : Trap) → e ≡ event.Trapped t → ⊥
      destroys_not is t eq = differ (sym is ∙ eq) where
        differ : event.Dtor r.component f h.rep ≡ event.Trapped t → ⊥
        differ x = cc (x)

owned_not : (c : ℕ) → handle.Borrowed c ≡ handle.Owned → ⊥
owned_not c e = cc (e)

drops_kind : (k : HandleKind) (s : State) (ds : List Doing) (i : ℕ) (r : ResourceId) (d : Option ℕ) (args : List CoreValue) (h : Handle) (e : Event) (new : State) → length ds ≡ length s.stack
    → handle_at (table_at s.tables i) (slot_at args 0) ≡ Some h → h.kind ≡ k → DropsHandle k s i r d (slot_at args 0) h e new
    → Judged drop_behind [] (DropCause s ds i r d args) e
drops_kind handle.Owned s ds i r d args h e new same stands is x = drops_owned s ds i r d args h e new same stands is d refl x
drops_kind (handle.Borrowed c) s ds i r d args h e new same stands is x =
    next (trap.StackFull ∷ []) [] (DropCause s ds i r d args) e trap.CalleeClosed (λ c. borrowed c.0)
    (next [] [] (DropCause s ds i r d args) e trap.StackFull (λ c. borrowed c.0)
    (passes [] (DropCause s ds i r d args) e (resumes_not i [] e x.0) tt)) where
      borrowed : IsDestroyed (table_at s.tables i) (slot_at args 0) d → ⊥
      borrowed y = owned_not c (sym is ∙ (ap (λ (g : Handle). g.kind) (same_Some h y.entry (sym stands ∙ y.stands)) ∙ y.owned))

drops_found : (s : State) (ds : List Doing) (i : ℕ) (r : ResourceId) (d : Option ℕ) (args : List CoreValue) (e : Event) (new : State) → length ds ≡ length s.stack → (o : Option Handle)
    → handle_at (table_at s.tables i) (slot_at args 0) ≡ o → DropsFound (if_not_lent (of_resource o r)) s i r d (slot_at args 0) e new
    → Judged (trap.NoHandle ∷ trap.WrongResource ∷ trap.StillLent ∷ drop_behind) [] (DropCause s ds i r d args) e
drops_found s ds i r d args e new same None is x = here (trap.WrongResource ∷ trap.StillLent ∷ drop_behind) [] (DropCause s ds i r d args) e trap.NoHandle is x.0
drops_found s ds i r d args e new same (Some h) is x =
    next (trap.WrongResource ∷ trap.StillLent ∷ drop_behind) [] (DropCause s ds i r d args) e trap.NoHandle (λ none. none-some h (sym none ∙ is))
    (by_resource (is_same_resource h.resource r) refl x) where
      by_lends : (b : Bool) → (h.lends == 0) ≡ b → h.resource ≡ r → DropsFound (if b then Ok h else Err handle_fault.StillLent) s i r d (slot_at args 0) e new
          → Judged (trap.StillLent ∷ drop_behind) [] (DropCause s ds i r d args) e
      by_lends false lent of x =
          here drop_behind [] (DropCause s ds i r d args) e trap.StillLent (record { entry = h; stands = is; of_resource = of; lent = not_zero h.lends lent }) x.0
      by_lends true free of x =
          next drop_behind [] (DropCause s ds i r d args) e trap.StillLent
          (λ c. no_lends h.lends free (subst (λ (g : Handle). 0 < g.lends) (same_Some c.entry h (sym c.stands ∙ is)) c.lent))
          (drops_kind h.kind s ds i r d args h e new same is refl x)

      by_resource : (b : Bool) → is_same_resource h.resource r ≡ b → DropsFound (if_not_lent (if b then Ok h else Err handle_fault.WrongResource)) s i r d (slot_at args 0) e new
          → Judged (trap.WrongResource ∷ trap.StillLent ∷ drop_behind) [] (DropCause s ds i r d args) e
      by_resource false other x = here (trap.StillLent ∷ drop_behind) [] (DropCause s ds i r d args) e trap.WrongResource (h, is, λ same. true_is_not_false (is_same_resource h.resource r) other (same_true h.resource r same)) x.0
      by_resource true of x =
          next (trap.StillLent ∷ drop_behind) [] (DropCause s ds i r d args) e trap.WrongResource
          (λ c. c.2 (ap (λ (g : Handle). g.resource) (same_Some c.0 h (sym c.1 ∙ is)) ∙ same_is h.resource r of))
          (by_lends (h.lends == 0) refl (same_is h.resource r of) x)

pub drops_judged : (s : State) (ds : List Doing) (top : Frame) (r : ResourceId) (d : Option ℕ) (args : List CoreValue) (e : Event) (new : State)
    → (MayLeave top.purpose → MayCall ds) → (MayCall ds → MayLeave top.purpose) → length ds ≡ length s.stack → Drops s top r d args e new
    → Judged (trap.CoreShape ∷ trap.MayNotLeave ∷ trap.NoHandle ∷ trap.WrongResource ∷ trap.StillLent ∷ drop_behind) [] (DropCause s ds (actor top) r d args) e
drops_judged s ds top r d args e new may_is is_may same x =
    check s (trap.MayNotLeave ∷ trap.NoHandle ∷ trap.WrongResource ∷ trap.StillLent ∷ drop_behind) [] (DropCause s ds (actor top) r d args) e new trap.CoreShape (λ f. f) (λ of f. f of) x
    (λ of y. check s (trap.NoHandle ∷ trap.WrongResource ∷ trap.StillLent ∷ drop_behind) [] (DropCause s ds (actor top) r d args) e new trap.MayNotLeave (λ f may. f (is_may may)) (λ may f. f (may_is may)) y
    (λ may z. drops_found s ds (actor top) r d args e new same (handle_at (table_at s.tables (actor top)) (slot_at args 0)) refl z))

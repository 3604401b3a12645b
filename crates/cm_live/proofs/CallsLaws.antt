-- What goes on above the root, by the events and as it is kept.
use Rattle.std.proofs.Common.{◌≡◌, ◌<◌, ◌≤◌, ◌⊎◌, inl, inr, ℕ, Bool, true, false, List, [], ◌∷◌}
use Rattle.std.proofs.Common.{length, Option, Some, None, refl, sym, ap, subst, ◌∙◌, arith, ◌++◌}
use Rattle.std.specs.Prelude.{if◌then◌else◌, slice_get}
use Rattle.std.proofs.lemmas.Bool.{false≢true, true≢false}
use Rattle.std.proofs.lemmas.Option.{same_Some}
use Rattle.cm_types.specs.declared.core_value.CoreValue.{CoreValue}
use Rattle.cm_machine.specs.cm_machine_model.declared.event.Event.{Event}
use Rattle.cm_machine.specs.cm_machine_model.declared.event.Event.TheVariants as event
use Rattle.cm_machine.specs.cm_machine_model.declared.limits.TheConstants.{MAX_FRAMES}
use Rattle.cm_machine.specs.cm_machine_model.declared.moves.Move.{Move}
use Rattle.cm_machine.specs.cm_machine_model.declared.moves.Move.TheVariants as move
use Rattle.cm_machine.specs.cm_machine_model.Events.{is_last}
use Rattle.cm_machine.specs.cm_machine_model.Plan.{CoreFunc, Link, Plan, drops, guest, lowered, makes}
use Rattle.cm_machine.specs.cm_machine_model.Plan.{represents}
use Rattle.cm_machine.specs.cm_machine_model.State.{State}
use Rattle.cm_machine.specs.cm_machine_laws.Answers.{AnswersCall, AnswersReturn, IsAnswerTo, Traps}
use Rattle.cm_machine.specs.cm_machine_laws.Doing.{BodyReturn, Doing, LoweredCall, after_call, after_move}
use Rattle.cm_machine.specs.cm_machine_laws.Doing.{after_return, body, destroys}
use Rattle.cm_machine.specs.cm_machine_laws.Doing.{handing, lowered_call, placing, root, tidying}
use Rattle.cm_machine.specs.cm_machine_model.Plan.{core_func_at, types_of}
use Rattle.cm_machine.specs.cm_machine_laws.Causes.{HaveKinds, passed_kinds}
use Rattle.cm_machine.specs.cm_machine_laws.Told.{args_kinds}
use Rattle.cm_abi_model.specs.Numbers.{slot_at}
use Rattle.cm_abi_model.specs.Requests.{is_spilled, tuple_of}
use Rattle.cm_abi_model.specs.Views.{results}
use Rattle.cm_abi_model.specs.declared.region.Region.{Region}
use Rattle.cm_layout.specs.Sizes.{size_of}
use Rattle.cm_types.specs.declared.core_value.CoreKind.{CoreKind}
use Rattle.cm_types.specs.declared.core_value.CoreKind.TheVariants as kind
use Rattle.cm_live.specs.Calls.{calls_after, calls_after_call, calls_after_move}
use Rattle.cm_live.specs.Calls.{calls_after_return, number_of, opens, opens_by, place_by}
use Rattle.cm_live.specs.Calls.{place_by_move}
use Rattle.cm_live.specs.Played.{calls_of}
use Rattle.cm_live.specs.Told.{result_of}
use Rattle.cm_live.specs.declared.goings_on.Call.{Call}
use Rattle.cm_live.proofs.ShapeLaws.{AreShaped, IsShaped, number_at_end}

-- ---- places of results

abbrev pub region_by : ℕ → ℕ → Region
region_by at size = record { at = at; size = size }

placed_by : (b : Bool) (ks : List CoreKind) (args : List CoreValue) (size : ℕ)
    → HaveKinds (ks ++ (if b then kind.I32 ∷ [] else [])) args
    → (if b then Some (region_by (number_of (slice_get args (length ks))) size) else None)
    ≡ (if b then Some (region_by (slot_at args (length ks)) size) else None)
placed_by true ks args size h =
    ap (λ (n : ℕ). Some (region_by n size)) (number_at_end ks args h)
placed_by false ks args size h = refl

-- the call of a lowered function
abbrev made_call : State → ℕ → List CoreValue → Link → ℕ → LoweredCall
made_call s i args l n = record { caller = i; link = l; args = args; state = s; place = n }

placed : (s : State) (i : ℕ) (args : List CoreValue) (l : Link) (n : ℕ)
    → HaveKinds (passed_kinds l) args
    → place_by (Some (lowered l)) args ≡ result_of (made_call s i args l n)
placed s i args l n h =
    placed_by (is_spilled results (types_of l results)) (args_kinds l) args
    (size_of (tuple_of (types_of l results))) h

-- ---- calls

-- a call as it is kept
abbrev pub kept_call : ℕ → Option Region → Call
kept_call i p = record { caller = i; result = p }

-- after a call, it is kept, and what opens is one thing more
abbrev CalledSo : State → ℕ → List CoreValue → Option CoreFunc → ℕ → List Doing → Event → Type 0
CalledSo s i args f n ds e =
    (calls_of (after_call (lowered_call s (Some i) args f n) (Some i) e ds)
    ≡ calls_after_call e (kept_call i (place_by f args)) (calls_of ds))
    × (opens e ≡ true
    → (d : Doing) × (after_call (lowered_call s (Some i) args f n) (Some i) e ds ≡ d ∷ ds))

called : (s : State) (i : ℕ) (args : List CoreValue) (f : Option CoreFunc) (n : ℕ)
    (ds : List Doing) (e : Event) → AnswersCall i f e → AreShaped f args
    → CalledSo s i args f n ds e
called s i args None n ds e h k = absurd h
called s i args (Some guest) n ds e h k = absurd h
called s i args (Some (lowered l)) n ds e (inl r) k =
    subst (CalledSo s i args (Some (lowered l)) n ds) (sym r.3) (
      ap (λ (p : Option Region). kept_call i p ∷ calls_of ds) (sym (placed s i args l n k)),
      λ _. (_, refl),
    )
called s i args (Some (lowered l)) n ds e (inr r) k =
    subst (CalledSo s i args (Some (lowered l)) n ds) (sym r.1) (
      ap (λ (p : Option Region). kept_call i p ∷ calls_of ds) (sym (placed s i args l n k)),
      λ _. (_, refl),
    )
called s i args (Some (makes r)) n ds e h k =
    subst (CalledSo s i args (Some (makes r)) n ds) (sym h.1)
    (refl, λ t. absurd (false≢true t))
called s i args (Some (drops r d)) n ds e (inl h) k =
    subst (CalledSo s i args (Some (drops r d)) n ds) (sym h) (refl, λ t. absurd (false≢true t))
called s i args (Some (drops r d)) n ds e (inr h) k =
    subst (CalledSo s i args (Some (drops r d)) n ds) (sym h.3) (refl, λ _. (_, refl))
called s i args (Some (represents r)) n ds e h k =
    subst (CalledSo s i args (Some (represents r)) n ds) (sym h.1)
    (refl, λ t. absurd (false≢true t))

-- ---- returns

abbrev ReturnedSo : BodyReturn → List CoreValue → List Doing → Event → Type 0
ReturnedSo back values ds e = is_last e ≡ false
    → calls_of (after_return (Some back) values e ds) ≡ calls_after_return e (calls_of ds)

returned : (back : BodyReturn) (values : List CoreValue) (ds : List Doing) (e : Event)
    → AnswersReturn ds e → ReturnedSo back values ds e
returned back values [] e h = absurd h
returned back values (root i ∷ ds) e h =
    subst (ReturnedSo back values (root i ∷ ds)) (sym h) (λ l. absurd (true≢false l))
returned back values (placing x asked ∷ ds) e (inl r) =
    subst (ReturnedSo back values (placing x asked ∷ ds)) (sym r.3) (λ _. refl)
returned back values (placing x asked ∷ ds) e (inr r) =
    subst (ReturnedSo back values (placing x asked ∷ ds)) (sym r.1) (λ _. refl)
returned back values (body x asked ∷ ds) e (inl r) =
    subst (ReturnedSo back values (body x asked ∷ ds)) (sym r.3) (λ _. refl)
returned back values (body x asked ∷ ds) e (inr (inl r)) =
    subst (ReturnedSo back values (body x asked ∷ ds)) (sym r.3) (λ _. refl)
returned back values (body x asked ∷ ds) e (inr (inr r)) =
    subst (ReturnedSo back values (body x asked ∷ ds)) (sym r.1.1) (λ _. refl)
returned back values (handing x asked b more ∷ ds) e (inl r) =
    subst (ReturnedSo back values (handing x asked b more ∷ ds)) (sym r.3) (λ _. refl)
returned back values (handing x asked b more ∷ ds) e (inr (inl r)) =
    subst (ReturnedSo back values (handing x asked b more ∷ ds)) (sym r.3) (λ _. refl)
returned back values (handing x asked b more ∷ ds) e (inr (inr r)) =
    subst (ReturnedSo back values (handing x asked b more ∷ ds)) (sym r.1.1) (λ _. refl)
returned back values (tidying x asked b more ∷ ds) e h =
    subst (ReturnedSo back values (tidying x asked b more ∷ ds)) (sym h.1) (λ _. refl)
returned back values (destroys dropper i ∷ ds) e h =
    subst (ReturnedSo back values (destroys dropper i ∷ ds)) (sym h) (λ _. refl)

-- ---- moves

-- a move as it is kept, where it is a call
abbrev pub kept_move : Plan → ℕ → Move → Call
kept_move plan i m = kept_call i (place_by_move plan i m)

abbrev MovedSo : Plan → State → ℕ → Move → List Doing → Event → Type 0
MovedSo plan s i m ds e = is_last e ≡ false
    → (calls_of (after_move plan (Some i) s m e ds)
    ≡ calls_after_move m e (kept_move plan i m) (calls_of ds))
    × (opens_by m e ≡ true → (d : Doing) × (after_move plan (Some i) s m e ds ≡ d ∷ ds))

moved : (plan : Plan) (s : State) (i : ℕ) (m : Move) (ds : List Doing) (e : Event)
    → IsAnswerTo plan (Some i) ds m e → (is_last e ≡ false → IsShaped plan ds i m)
    → MovedSo plan s i m ds e
moved plan s i (move.Write at bytes) ds e h k =
    subst (MovedSo plan s i (move.Write at bytes) ds) (sym h)
    (λ _. (refl, λ t. absurd (false≢true t)))
moved plan s i (move.Grow pages) ds e h k =
    subst (MovedSo plan s i (move.Grow pages) ds) (sym h.1)
    (λ _. (refl, λ t. absurd (false≢true t)))
moved plan s i (move.Call func args) ds e h k =
    let f = core_func_at plan i func in
    let a : AnswersCall i f e =
    subst (λ (j : ℕ). AnswersCall j f e) (sym (same_Some i h.0 h.1)) h.2 in
    λ l. called s i args.items f (length ds) ds e a (k l)
moved plan s i (move.Return values) ds e h k =
    let back : BodyReturn = record { callee = i; values = values.items; state = s } in
    λ l. (returned back values.items ds e h l, λ t. absurd (false≢true t))
moved plan s i move.Unreachable ds e h k = absurd h

answered : (plan : Plan) (s : State) (i : ℕ) (m : Move) (ds : List Doing) (e : Event)
    → Traps e ⊎ IsAnswerTo plan (Some i) ds m e → (is_last e ≡ false → IsShaped plan ds i m)
    → MovedSo plan s i m ds e
answered plan s i m ds e (inl t) k = λ l. absurd (true≢false (sym (ap is_last t.1) ∙ l))
answered plan s i m ds e (inr h) k = moved plan s i m ds e h k

-- ---- room

few_called : (ds : List Doing) → length (calls_of ds) ≤ length ds
few_called [] = omega arith
few_called (root i ∷ ds) = omega (arith, few_called ds)
few_called (placing x asked ∷ ds) = omega (arith, few_called ds)
few_called (body x asked ∷ ds) = omega (arith, few_called ds)
few_called (handing x asked b more ∷ ds) = omega (arith, few_called ds)
few_called (tidying x asked b more ∷ ds) = omega (arith, few_called ds)
few_called (destroys dropper i ∷ ds) = omega (arith, few_called ds)

last_opens : (e : Event) → is_last e ≡ true → opens e ≡ true → ⊥
last_opens event.Done l o = false≢true l
last_opens (event.Grown pages) l o = false≢true l
last_opens (event.Enter i func args) l o = false≢true l
last_opens (event.Realloc i func args) l o = false≢true l
last_opens (event.Resume i values) l o = false≢true l
last_opens (event.PostReturn i func args) l o = false≢true l
last_opens (event.Dtor i func rep) l o = false≢true l
last_opens (event.Trapped t) l o = false≢true o
last_opens event.Ended l o = false≢true o

last_opens_by : (m : Move) (e : Event) → is_last e ≡ true → opens_by m e ≡ true → ⊥
last_opens_by (move.Write at bytes) e l o = false≢true o
last_opens_by (move.Grow pages) e l o = false≢true o
last_opens_by (move.Call func args) e l o = last_opens e l o
last_opens_by (move.Return values) e l o = false≢true o
last_opens_by move.Unreachable e l o = false≢true o

-- ---- what goes on, as it is kept and by the events

-- where this instance acts, by a move with this event
abbrev pub Follows : Plan → State → ℕ → Move → Event → Call → List Doing → List Call → List Call
    → Option ℕ → Type 0
Follows plan s i m e c ds old new acting =
    (Traps e ⊎ IsAnswerTo plan acting ds m e)
    → (is_last e ≡ false → IsShaped plan ds i m)
    → (is_last e ≡ true → after_move plan acting s m e ds ≡ [])
    → ((d : Doing) → after_move plan acting s m e ds ≡ d ∷ ds → length ds < MAX_FRAMES)
    → c ≡ kept_move plan i m
    → ((opens_by m e ≡ true → length old < MAX_FRAMES) → new ≡ calls_after m e c old)
    → new ≡ calls_of (after_move plan acting s m e ds)

by_last : (last : Bool) (plan : Plan) (s : State) (i : ℕ) (m : Move) (e : Event) (c : Call)
    (ds : List Doing) (old new : List Call) → is_last e ≡ last → old ≡ calls_of ds
    → Follows plan s i m e c ds old new (Some i)
by_last true plan s i m e c ds old new l k a shape ends room is kept =
    kept (λ o. absurd (last_opens_by m e l o))
    ∙ ap (λ (b : Bool). if b then [] else calls_after_move m e c old) l
    ∙ sym (ap calls_of (ends l))
by_last false plan s i m e c ds old new l k a shape ends room is kept =
    let w = answered plan s i m ds e a shape l in
    let fits : opens_by m e ≡ true → length old < MAX_FRAMES =
    λ o. let d = w.1 o in omega (arith, room d.0 d.1, few_called ds, ap length k) in
    kept fits
    ∙ ap (λ (b : Bool). if b then [] else calls_after_move m e c old) l
    ∙ ap (λ (x : Call). calls_after_move m e x old) is
    ∙ ap (calls_after_move m e (kept_move plan i m)) k
    ∙ sym w.0

pub follows : (plan : Plan) (s : State) (i : ℕ) (m : Move) (e : Event) (c : Call)
    (ds : List Doing) (old new : List Call) (acting : Option ℕ) → acting ≡ Some i
    → old ≡ calls_of ds → Follows plan s i m e c ds old new acting
follows plan s i m e c ds old new acting is k =
    subst (Follows plan s i m e c ds old new) (sym is)
    (by_last (is_last e) plan s i m e c ds old new refl k)

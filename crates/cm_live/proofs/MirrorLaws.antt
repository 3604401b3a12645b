-- Memories change as is told, and who called is kept along a history.
use Rattle.std.proofs.Common.{◌≡◌, ◌<◌, ◌⊎◌, inl, inr, ℕ, Bool, true, false, List, [], ◌∷◌}
use Rattle.std.proofs.Common.{length, Option, Some, None, refl, sym, ap, subst, ◌∙◌}
use Rattle.std.specs.Prelude.{Err, IfOk, Ok, OnErr, Result, reverse, slice_index, unwrap_or}
use Rattle.std.specs.Option.{option_map}
use Rattle.std.specs.Result.{IsErrOf}
use Rattle.std.specs.declared.alloc.Global.{Global}
use Rattle.std.specs.declared.vec.Vec.{Vec}
use Rattle.cm_types.specs.declared.core_value.CoreValue.{CoreValue}
use Rattle.cm_machine_links.specs.declared.links.Links.{Links}
use Rattle.cm_machine_links.specs.Planned.{ArePlanned}
use Rattle.cm_machine.specs.cm_machine_model.declared.event.Event.{Event}
use Rattle.cm_machine.specs.cm_machine_model.declared.event.Event.TheVariants as event
use Rattle.cm_machine.specs.cm_machine_model.declared.event.Misuse.{Misuse}
use Rattle.cm_machine.specs.cm_machine_model.declared.limits.TheConstants.{MAX_FRAMES}
use Rattle.cm_machine.specs.cm_machine_model.declared.moves.Move.{Move}
use Rattle.cm_machine.specs.cm_machine_model.declared.moves.Move.TheVariants as move
use Rattle.cm_machine.specs.cm_machine_model.Events.{is_last}
use Rattle.cm_machine.specs.cm_machine_model.History.{Occurrence, begins, moves}
use Rattle.cm_machine.specs.cm_machine_model.Memories.{memory_at}
use Rattle.cm_machine.specs.cm_machine_model.Plan.{Plan}
use Rattle.cm_machine.specs.cm_machine_model.Stack.{actor, top_of}
use Rattle.cm_machine.specs.cm_machine_model.State.{State}
use Rattle.cm_machine.specs.cm_machine_set.Running.{GoesOnFrom, IsNew, RunningSet}
use Rattle.cm_machine.specs.cm_machine_laws.Acting.{acts}
use Rattle.cm_machine.specs.cm_machine_laws.Always.{Always}
use Rattle.cm_machine.specs.cm_machine_laws.Answers.{EventAnswersItsMove, IsAnswerTo, Traps}
use Rattle.cm_machine.specs.cm_machine_laws.Asks.{AsksAt, AsksForWhatTheValueWants}
use Rattle.cm_machine.specs.cm_machine_laws.Doing.{BodyReturn, Doing, body, destroys, doing, handing}
use Rattle.cm_machine.specs.cm_machine_laws.Doing.{placing, root, tidying}
use Rattle.cm_machine.specs.cm_machine_laws.Entries.{Enters, ReceivesWhatWasSent}
use Rattle.cm_machine.specs.cm_machine_laws.Going.{ActsAsTold, BeginsByCall}
use Rattle.cm_machine.specs.cm_machine_laws.Going.{BeginsWhereNothingGoesOn, EndsWhereNothingGoesOn}
use Rattle.cm_machine.specs.cm_machine_laws.MemoryChanges.{ChangesAsTold, ChangesAtEnd}
use Rattle.cm_machine.specs.cm_machine_laws.MemoryChanges.{ChangesAtEntry}
use Rattle.cm_machine.specs.cm_machine_laws.MemoryChanges.{MemoryChangesByMovesAndValues, OthersStay}
use Rattle.cm_machine.specs.cm_machine_laws.MemoryChanges.{SameMemories}
use Rattle.cm_match_model.specs.Imports.{LinkSet}
use Rattle.cm_machine.specs.cm_machine_laws.Closing.{TrapsAtACause}
use Rattle.cm_machine.specs.cm_machine_laws.Doing.{after_move, after_post_return, body_return}
use Rattle.cm_machine.specs.cm_machine_laws.Doing.{with_answer}
use Rattle.cm_machine.specs.cm_machine_laws.Entries.{Resumes, ResumesWithWhatWasReturned}
use Rattle.cm_machine.specs.cm_machine_laws.Entries.{answered_by, return_by}
use Rattle.cm_machine.specs.cm_machine_laws.Told.{AsksFor, WasReturned, answered_before}
use Rattle.cm_machine.specs.cm_machine_laws.Told.{answers_back, returned_requests, returner_view}
use Rattle.cm_abi_model.specs.Overlap.{IsInOne}
use Rattle.cm_abi_model.specs.Views.{results}
use Rattle.cm_machine.specs.cm_machine_model.Plan.{types_of}
use Rattle.cm_types.specs.Values.{Val}
use Rattle.cm_live.specs.Calls.{IsLatest, IsToldAfter, calls, calls_after, opens_by}
use Rattle.cm_live.specs.Calls.{place_by_move}
use Rattle.cm_live.specs.Kept.{KeepsNothing, gives_values, rooms}
use Rattle.cm_live.specs.Mirrors.{ChangesAreTold, OnlyBytesChange, OnlyRegionsChange}
use Rattle.cm_live.specs.Played.{IsPlayed, calls_of}
use Rattle.cm_live.specs.Told.{TellsExactly, entered, handed, told_by}
use Rattle.cm_live.proofs.BackLaws.{IsAllAsked, asks_answered, back_inside, body_inside, same_answer}
use Rattle.cm_live.proofs.ShapeLaws.{IsShaped, no_values, none_kept, shaped}
use Rattle.cm_abi_model.specs.declared.region.Region.{Region}
use Rattle.cm_live.specs.declared.goings_on.Asking.{Asking}
use Rattle.cm_live.specs.declared.goings_on.Call.{Call}
use Rattle.cm_live.specs.declared.goings_on.GoingsOn.{GoingsOn}
use Rattle.cm_live.specs.Rooms.{IsAsking, asking_after_move, rooms_after_move, rooms_of}
use Rattle.cm_live.specs.Rooms.{latest_place, rooms_told, with_place}
use Rattle.cm_live.specs.Told.{result_of}
use Rattle.cm_machine.specs.cm_machine_laws.Causes.{HaveKinds, one_number}
use Rattle.cm_machine.specs.cm_machine_laws.Doing.{Asked, LoweredCall}
use Rattle.std.specs.Prelude.{⊤}
use Rattle.cm_live.specs.declared.answer.Written.{Written}
use Rattle.cm_live.proofs.CallsLaws.{follows, kept_call, kept_move}
use Rattle.cm_live.proofs.RoomLaws.{OneValue, asks_on, entry_inside, in_reverse, told_at_last}
use Rattle.cm_live.proofs.RoomLaws.{told_on}

-- ---- no memory but one

none_change : (old new : State) (told : ℕ) → SameMemories old new → OnlyBytesChange old told new
none_change old new told h = record {
  others = (ap length h, λ i _. ap (λ (ms : List (List ℕ)). memory_at ms i) h);
  same_length = ap (λ (ms : List (List ℕ)). length (memory_at ms told)) h;
}

bytes_at : (old new : State) (i told : ℕ) → told ≡ i → OthersStay old i new
    → length (memory_at new.memories i) ≡ length (memory_at old.memories i)
    → OnlyBytesChange old told new
bytes_at old new i told e h l =
    subst (λ (j : ℕ). OnlyBytesChange old j new) (sym e)
    (record { others = h; same_length = l })

entry_bytes : (ds : List Doing) (old new : State) (i f : ℕ) (args : List CoreValue) (told : ℕ)
    → ChangesAtEntry ds old new → Enters ds i f args new → told ≡ i
    → OnlyBytesChange old told new
entry_bytes [] old new i f args told h e t = absurd e
entry_bytes (root j ∷ ds) old new i f args told h e t = absurd e
entry_bytes (placing x asked ∷ ds) old new i f args told h e t = absurd e
entry_bytes (body x asked ∷ ds) old new i f args told h e t =
    bytes_at old new x.link.instance told (t ∙ sym e.0) h.others h.inside.same_length
entry_bytes (handing x asked b more ∷ ds) old new i f args told h e t = absurd e
entry_bytes (tidying x asked b more ∷ ds) old new i f args told h e t = absurd e
entry_bytes (destroys dropper j ∷ ds) old new i f args told h e t = absurd e

entry_told : (ds : List Doing) (old new : State) (i f : ℕ) (args : List CoreValue)
    (told : Written) → OneValue → ChangesAtEntry ds old new → Enters ds i f args new
    → AsksAt ds → reverse told.regions.items ≡ entered ds → told.instance ≡ i
    → OnlyRegionsChange old told new
entry_told ds old new i f args told one h e k r t = record {
  only = entry_bytes ds old new i f args told.instance h e t;
  outside = λ a out. subst (λ (j : ℕ). slice_index (memory_at new.memories j) a
      ≡ slice_index (memory_at old.memories j) a) (sym t)
      (entry_inside ds old new i f args (reverse told.regions.items) one h e k r a
      (λ y. out (in_reverse told.regions.items a y)));
}

none_told : (old new : State) (told : Written) → SameMemories old new
    → OnlyRegionsChange old told new
none_told old new told h = record {
  only = none_change old new told.instance h;
  outside = λ a _. ap
      (λ (ms : List (List ℕ)). slice_index (memory_at ms told.instance) a) h;
}

-- of a result that is handed over by a return: what its allocator was asked and answered, the last
-- answer by this return
abbrev IsHanded : List Doing → List CoreValue → Type 0
IsHanded (handing x asked back more ∷ ds) values =
    HaveKinds one_number values × IsAllAsked x back (answered_by values more)
IsHanded ds values = ⊤

-- the regions that are told have all addresses of these
in_told : (told : Written) (rooms : List Region) → reverse told.regions.items ≡ rooms → (a : ℕ)
    → IsInOne rooms a → IsInOne told.regions.items a
in_told told rooms e a i =
    in_reverse told.regions.items a (subst (λ (ys : List Region). IsInOne ys a) (sym e) i)

end_told : (ds : List Doing) (values : List CoreValue) (i : ℕ) (old new : State)
    (told : Written) → OneValue
    → ChangesAtEnd ds (record { callee = i; values = values; state = old }) old new
    → IsLatest (calls_of ds) told.instance → reverse told.regions.items ≡ handed values ds
    → IsHanded ds values → OnlyRegionsChange old told new
end_told [] values i old new told one h l r k = none_told old new told h
end_told (root j ∷ ds) values i old new told one h l r k = none_told old new told h
end_told (placing x asked ∷ ds) values i old new told one h l r k = none_told old new told h
end_told (body x asked ∷ ds) values i old new told one h l r k =
    let back : BodyReturn = record { callee = i; values = values; state = old } in
    record {
      only = bytes_at old new x.caller told.instance l h.others h.inside.same_length;
      outside = λ a out. subst (λ (j : ℕ). slice_index (memory_at new.memories j) a
          ≡ slice_index (memory_at old.memories j) a) (sym l)
          (body_inside x back old new h a (λ w. out (in_told told _ r a w)));
    }
end_told (handing x asked back more ∷ ds) values i old new told one h l r k =
    let same : handed values (handing x asked back more ∷ ds)
    ≡ with_place (result_of x) (rooms_of (answered_by values more)) =
    ap (λ (xs : List Asked). with_place (result_of x) (rooms_of xs)) (same_answer values more k.0)
    in
    record {
      only = bytes_at old new x.caller told.instance l h.others h.inside.same_length;
      outside = λ a out. subst (λ (j : ℕ). slice_index (memory_at new.memories j) a
          ≡ slice_index (memory_at old.memories j) a) (sym l)
          (back_inside x back (answered_by values more) old new one h k.1 a
          (λ w. out (in_told told _ (r ∙ same) a w)));
    }
end_told (tidying x asked b more ∷ ds) values i old new told one h l r k =
    none_told old new told h
end_told (destroys dropper j ∷ ds) values i old new told one h l r k =
    none_told old new told h

-- ---- what allocators answered for a result

-- what is asked for a result, and that the last answer is answered
abbrev asked_before : LoweredCall → BodyReturn → List Asked → Type 0
asked_before x back more =
    (v : Val) × WasReturned x back v × AsksFor (returned_requests x back v) (answered_before x) more

all_asked : (x : LoweredCall) (back : BodyReturn) (values : List CoreValue) (more : List Asked)
    → OneValue → asked_before x back more
    → ((v : Val) × WasReturned x back v
    × (length (answers_back x (answered_by values more)) ≡ length (returned_requests x back v)))
    → IsAllAsked x back (answered_by values more)
all_asked x back values more one h k =
    let v : h.0 ≡ k.0 =
    one (returner_view x back) results (types_of x.link results) back.values h.0 k.0 h.1.denoted
    k.1.denoted in (
      k.0,
      k.1,
      subst (λ (y : Val). AsksFor (returned_requests x back y) (answered_before x)
          (answered_by values more)) v
          (asks_answered (returned_requests x back h.0) (answered_before x) values more h.2),
      k.2,
    )

handed_at_resume : (ds : List Doing) (values : List CoreValue) (i j : ℕ)
    (given : List CoreValue) (old new : State) (plan : Plan) (vs : Vec CoreValue Global) → OneValue
    → vs.items ≡ values → IsShaped plan ds i (move.Return vs) → AsksAt ds
    → Resumes ds (record { callee = i; values = values; state = old }) j given new
    → IsHanded ds values
handed_at_resume [] values i j given old new plan vs one w s k r = tt
handed_at_resume (root n ∷ ds) values i j given old new plan vs one w s k r = tt
handed_at_resume (placing x asked ∷ ds) values i j given old new plan vs one w s k r = tt
handed_at_resume (body x asked ∷ ds) values i j given old new plan vs one w s k r = tt
handed_at_resume (handing x asked back more ∷ ds) values i j given old new plan vs one w s k r = (
  subst (HaveKinds one_number) w s,
  all_asked x back values more one k.0 (r.2.0, r.2.1, r.2.2.all),
)
handed_at_resume (tidying x asked b more ∷ ds) values i j given old new plan vs one w s k r = tt
handed_at_resume (destroys d n ∷ ds) values i j given old new plan vs one w s k r = tt

handed_at_post_return : (ds es : List Doing) (back : Option BodyReturn) (i : ℕ) (plan : Plan)
    (vs : Vec CoreValue Global) → OneValue → IsShaped plan ds i (move.Return vs) → AsksAt ds
    → es ≡ after_post_return back vs.items ds → AsksAt es → IsHanded ds vs.items
handed_at_post_return [] es back i plan vs one s k e w = tt
handed_at_post_return (root n ∷ ds) es back i plan vs one s k e w = tt
handed_at_post_return (placing x asked ∷ ds) es back i plan vs one s k e w = tt
handed_at_post_return (body x asked ∷ ds) es back i plan vs one s k e w = tt
handed_at_post_return (handing x asked r more ∷ ds) es back i plan vs one s k e w =
    let now : AsksAt (tidying x asked r (with_answer vs.items more) ∷ ds) = subst AsksAt e w in
    let same = same_answer vs.items more s in
    let all : length (answers_back x (answered_by vs.items more))
    ≡ length (returned_requests x r now.0.0) =
    ap (λ (xs : List Asked). length (answers_back x xs)) (sym same) ∙ now.0.3 in (
      s,
      all_asked x r vs.items more one k.0 (now.0.0, now.0.1, all),
    )
handed_at_post_return (tidying x asked b more ∷ ds) es back i plan vs one s k e w = tt
handed_at_post_return (destroys d n ∷ ds) es back i plan vs one s k e w = tt

-- ---- a move

-- what is known of the event of a move, where this went on before and goes on after, and whose
-- memory is told
pub record Known (plan : Plan) (acting : Option ℕ) (ds es : List Doing) (old : State) (i : ℕ)
    (m : Move) (told : Written) (new : State) (e : Event) : Type 0 where
  pub changes : ChangesAsTold ds es old i m e new
  pub enters : (j f : ℕ) (args : List CoreValue) → e ≡ event.Enter j f args
      → Enters es j f args new
  pub resumes : (r : BodyReturn) (j : ℕ) (given : List CoreValue)
      → return_by old (Some i) (moves m) ≡ Some r → e ≡ event.Resume j given
      → Resumes ds r j given new
  pub tells : is_last e ≡ false → IsToldAfter m e (calls_of ds) told.instance
  pub one : OneValue
  pub asked : AsksAt ds
  pub asks : AsksAt es
  pub after : es ≡ after_move plan acting old m e ds
  pub regions : reverse told.regions.items ≡ told_by m e ds es
  pub shape : is_last e ≡ false → IsShaped plan ds i m

write_told : (plan : Plan) (acting : Option ℕ) (ds es : List Doing) (old : State) (i at : ℕ)
    (bytes : Vec ℕ Global) (told : Written) (new : State) (e : Event)
    → Known plan acting ds es old i (move.Write at bytes) told new e
    → Traps e ⊎ (e ≡ event.Done) → ChangesAreTold old i (move.Write at bytes) e told new
write_told plan acting ds es old i at bytes told new e k (inl t) =
    subst (λ (v : Event). ChangesAsTold ds es old i (move.Write at bytes) v new
    → ChangesAreTold old i (move.Write at bytes) v told new) (sym t.1) (λ h. h) k.changes
write_told plan acting ds es old i at bytes told new e k (inr d) =
    subst (λ (v : Event). ChangesAsTold ds es old i (move.Write at bytes) v new
    → ChangesAreTold old i (move.Write at bytes) v told new) (sym d) (λ h. h) k.changes

grown_told : (ds es : List Doing) (old : State) (i pages : ℕ) (told : Written) (new : State)
    (before : Option ℕ) → ChangesAsTold ds es old i (move.Grow pages) (event.Grown before) new
    → ChangesAreTold old i (move.Grow pages) (event.Grown before) told new
grown_told ds es old i pages told new None h = ap (λ (s : State). s.memories) h.1
grown_told ds es old i pages told new (Some before) h = (h.1, h.2)

grow_told : (plan : Plan) (acting : Option ℕ) (ds es : List Doing) (old : State) (i pages : ℕ)
    (told : Written) (new : State) (e : Event)
    → Known plan acting ds es old i (move.Grow pages) told new e
    → Traps e ⊎ ((before : Option ℕ) × (e ≡ event.Grown before))
    → ChangesAreTold old i (move.Grow pages) e told new
grow_told plan acting ds es old i pages told new e k (inl t) =
    subst (λ (v : Event). ChangesAsTold ds es old i (move.Grow pages) v new
    → ChangesAreTold old i (move.Grow pages) v told new) (sym t.1) (λ h. h) k.changes
grow_told plan acting ds es old i pages told new e k (inr g) =
    subst (λ (v : Event). ChangesAsTold ds es old i (move.Grow pages) v new
    → ChangesAreTold old i (move.Grow pages) v told new) (sym g.1)
    (grown_told ds es old i pages told new g.0) k.changes

stop_told : (plan : Plan) (acting : Option ℕ) (ds es : List Doing) (old : State) (i : ℕ)
    (told : Written) (new : State) (e : Event)
    → Known plan acting ds es old i move.Unreachable told new e → Traps e ⊎ ⊥
    → ChangesAreTold old i move.Unreachable e told new
stop_told plan acting ds es old i told new e k (inl t) =
    subst (λ (v : Event). ChangesAsTold ds es old i move.Unreachable v new
    → ChangesAreTold old i move.Unreachable v told new) (sym t.1) (λ h. h) k.changes
stop_told plan acting ds es old i told new e k (inr n) = absurd n

call_told : (plan : Plan) (acting : Option ℕ) (ds es : List Doing) (old : State) (i func : ℕ)
    (args : Vec CoreValue Global) (told : Written) (new : State) (e : Event)
    → Known plan acting ds es old i (move.Call func args) told new e
    → ChangesAreTold old i (move.Call func args) e told new
call_told plan acting ds es old i func args told new event.Done k = k.changes
call_told plan acting ds es old i func args told new (event.Grown None) k = k.changes
call_told plan acting ds es old i func args told new (event.Grown (Some p)) k = k.changes
call_told plan acting ds es old i func args told new (event.Enter j f values) k =
    entry_told es old new j f values told k.one k.changes (k.enters j f values refl) k.asks
    k.regions (k.tells refl)
call_told plan acting ds es old i func args told new (event.Realloc j f values) k = k.changes
call_told plan acting ds es old i func args told new (event.Resume j values) k = k.changes
call_told plan acting ds es old i func args told new (event.PostReturn j f values) k = k.changes
call_told plan acting ds es old i func args told new (event.Dtor j f rep) k = k.changes
call_told plan acting ds es old i func args told new (event.Trapped t) k = k.changes
call_told plan acting ds es old i func args told new event.Ended k = k.changes

return_told : (plan : Plan) (acting : Option ℕ) (ds es : List Doing) (old : State) (i : ℕ)
    (values : Vec CoreValue Global) (told : Written) (new : State) (e : Event)
    → Known plan acting ds es old i (move.Return values) told new e
    → ChangesAreTold old i (move.Return values) e told new
return_told plan acting ds es old i values told new event.Done k = k.changes
return_told plan acting ds es old i values told new (event.Grown None) k = k.changes
return_told plan acting ds es old i values told new (event.Grown (Some p)) k = k.changes
return_told plan acting ds es old i values told new (event.Enter j f args) k =
    entry_told es old new j f args told k.one k.changes (k.enters j f args refl) k.asks
    k.regions (k.tells refl)
return_told plan acting ds es old i values told new (event.Realloc j f args) k = k.changes
return_told plan acting ds es old i values told new (event.Resume j back) k =
    let r : BodyReturn = record { callee = i; values = values.items; state = old } in
    end_told ds values.items i old new told k.one k.changes (k.tells refl) k.regions
    (handed_at_resume ds values.items i j back old new plan values k.one refl (k.shape refl)
    k.asked (k.resumes r j back refl refl))
return_told plan acting ds es old i values told new (event.PostReturn j f args) k =
    end_told ds values.items i old new told k.one k.changes (k.tells refl) k.regions
    (handed_at_post_return ds es (body_return old acting values.items) i plan values k.one
    (k.shape refl) k.asked k.after k.asks)
return_told plan acting ds es old i values told new (event.Dtor j f rep) k = k.changes
return_told plan acting ds es old i values told new (event.Trapped t) k = k.changes
return_told plan acting ds es old i values told new event.Ended k = k.changes

changes_told : (plan : Plan) (acting : Option ℕ) (ds es : List Doing) (old : State) (i : ℕ)
    (m : Move) (told : Written) (new : State) (e : Event)
    → Known plan acting ds es old i m told new e
    → Traps e ⊎ IsAnswerTo plan acting ds m e → ChangesAreTold old i m e told new
changes_told plan acting ds es old i (move.Write at bytes) told new e k a =
    write_told plan acting ds es old i at bytes told new e k a
changes_told plan acting ds es old i (move.Grow pages) told new e k a =
    grow_told plan acting ds es old i pages told new e k a
changes_told plan acting ds es old i (move.Call func args) told new e k a =
    call_told plan acting ds es old i func args told new e k
changes_told plan acting ds es old i (move.Return values) told new e k a =
    return_told plan acting ds es old i values told new e k
changes_told plan acting ds es old i move.Unreachable told new e k a =
    stop_told plan acting ds es old i told new e k a

-- ---- along a history

-- what holds of every history
pub record Laws : Type 0 where
  pub acting : Always ActsAsTold
  pub answers : Always EventAnswersItsMove
  pub asks : Always AsksForWhatTheValueWants
  pub begins_nothing : Always BeginsWhereNothingGoesOn
  pub begins_by_call : Always BeginsByCall
  pub ends : Always EndsWhereNothingGoesOn
  pub entries : Always ReceivesWhatWasSent
  pub memory : Always MemoryChangesByMovesAndValues
  pub refusals : Always TrapsAtACause
  pub resumptions : Always ResumesWithWhatWasReturned
  pub one : OneValue

-- a move of the set that was played
pub record Moved (old : RunningSet) (g : GoingsOn) (m : Move) (e : Event) (new : RunningSet)
    (mover : ℕ) : Type 0 where
  pub laws : Laws
  pub goes_on : GoesOnFrom old (moves m) e new
  pub acting : Option ℕ
  pub acts : acting ≡ option_map actor (top_of old.state.stack)
  pub mover_is : mover ≡ unwrap_or acting 0

-- what happened
abbrev pub moved_by : RunningSet → Move → Event → RunningSet → Occurrence
moved_by old m e new =
    record { before = old.state; action = moves m; event = e; after = new.state }

-- the regions that are told are those of the history
regions_told : (last : Bool) (plan : Plan) (s : State) (i : ℕ) (m : Move) (e : Event)
    (g : GoingsOn) (ds : List Doing) (acting : Option ℕ) (told : Written) → is_last e ≡ last
    → acting ≡ Some i → calls g ≡ calls_of ds → IsAsking ds g.asking (rooms g)
    → Traps e ⊎ IsAnswerTo plan acting ds m e
    → (is_last e ≡ true → told.regions.items ≡ [])
    → (is_last e ≡ false
    → reverse told.regions.items ≡ rooms_told m e g.asking (rooms g) (calls g))
    → reverse told.regions.items ≡ told_by m e ds (after_move plan acting s m e ds)
regions_told true plan s i m e g ds acting told l is k asks a none some =
    ap (λ (xs : List Region). reverse xs) (none l)
    ∙ sym (told_at_last m e ds (after_move plan acting s m e ds) l)
regions_told false plan s i m e g ds acting told l is k asks a none some =
    some l
    ∙ ap (rooms_told m e g.asking (rooms g)) k
    ∙ told_on plan s i m ds g.asking (rooms g) e acting is asks a

-- who moved, how memories changed, and what was told
pub move_told : (old : RunningSet) (g : GoingsOn) (m : Move) (e : Event) (new : RunningSet)
    (mover : ℕ) (told : Written) → Moved old g m e new mover
    → (is_last e ≡ false → IsToldAfter m e (calls g) told.instance)
    → (is_last e ≡ true → told.regions.items ≡ [])
    → (is_last e ≡ false
    → reverse told.regions.items ≡ rooms_told m e g.asking (rooms g) (calls g))
    → IsPlayed old g
    → (i : ℕ) × (option_map actor (top_of old.state.stack) ≡ Some i)
    × ChangesAreTold old.state i m e told new.state × TellsExactly old m e told new.state
move_told old g m e new mover told v tells none some k =
    let h = moved_by old m e new ∷ k.past in
    let ds = doing k.plan k.past in
    let y = v.goes_on k.plan k.pages k.past k.planned k.history in
    let c = (v.laws.memory k.plan k.pages h new.state y).1 m refl in
    let stands = v.laws.acting k.plan k.pages k.past old.state k.history in
    let answer = v.laws.answers k.plan k.pages h new.state y m refl in
    let exactly : reverse told.regions.items ≡ told_by m e ds (doing k.plan h) =
    regions_told (is_last e) k.plan old.state c.0 m e g ds (acts k.past) told refl c.1 k.called
    k.asks answer none some in
    let known : Known k.plan (acts k.past) ds (doing k.plan h) old.state c.0 m told new.state e =
    record {
      changes = c.2;
      enters = v.laws.entries k.plan k.pages h new.state y;
      resumes = λ r j given is. v.laws.resumptions k.plan k.pages h new.state y r j given
          (ap (λ (o : Option ℕ). return_by old.state o (moves m)) c.1 ∙ is);
      tells = λ l. subst (λ (cs : List Call). IsToldAfter m e cs told.instance) k.called (tells l);
      one = v.laws.one;
      asked = v.laws.asks k.plan k.pages k.past old.state k.history;
      asks = v.laws.asks k.plan k.pages h new.state y;
      after = refl;
      regions = exactly;
      shape = λ l. shaped k.plan old.state ds c.0 m e l
          (λ t. v.laws.refusals k.plan k.pages h new.state y m c.0 t refl c.1);
    } in (
      c.0,
      stands ∙ c.1,
      changes_told k.plan (acts k.past) ds (doing k.plan h) old.state c.0 m told new.state e known
          answer,
      record {
        plan = k.plan;
        pages = k.pages;
        past = k.past;
        planned = k.planned;
        history = k.history;
        exactly = exactly;
      },
    )

-- what is asked after a move, and the rooms, as they are kept
pub record AsksAfter (g : GoingsOn) (m : Move) (e : Event) (after : GoingsOn) : Type 0 where
  pub last : is_last e ≡ true → (after.asking ≡ None) × (rooms after ≡ [])
  pub asking : is_last e ≡ false → after.asking ≡ asking_after_move m e g.asking
  pub rooms_are : is_last e ≡ false → rooms after ≡ rooms_after_move m e g.asking (rooms g)

-- what is kept is so by a move, which is this call where it is one
pub move_plays : (old : RunningSet) (g : GoingsOn) (m : Move) (e : Event) (new : RunningSet)
    (after : GoingsOn) (mover : ℕ) (c : Call) → Moved old g m e new mover → new.links ≡ old.links
    → ((opens_by m e ≡ true → length (calls g) < MAX_FRAMES)
    → calls after ≡ calls_after m e c (calls g))
    → AsksAfter g m e after → c.caller ≡ mover
    → ((p : Plan) → ArePlanned p old.links → c.result ≡ place_by_move p mover m)
    → IsPlayed old g → IsPlayed new after
move_plays old g m e new after mover c v links kept n by wants k =
    let h = moved_by old m e new ∷ k.past in
    let ds = doing k.plan k.past in
    let y = v.goes_on k.plan k.pages k.past k.planned k.history in
    let w = (v.laws.memory k.plan k.pages h new.state y).1 m refl in
    let stands = v.laws.acting k.plan k.pages k.past old.state k.history in
    let is : mover ≡ w.0 =
    v.mover_is ∙ ap (λ (o : Option ℕ). unwrap_or o 0) (v.acts ∙ stands ∙ w.1) in
    let result : c.result ≡ place_by_move k.plan w.0 m =
    wants k.plan k.planned ∙ ap (λ (j : ℕ). place_by_move k.plan j m) is in
    let call : c ≡ kept_move k.plan w.0 m =
    ap (λ (j : ℕ). kept_call j c.result) (by ∙ is) ∙ ap (kept_call w.0) result in
    let answer = v.laws.answers k.plan k.pages h new.state y m refl in
    let asks =
    asks_on k.plan old.state w.0 m e ds g.asking (rooms g) after.asking
    (rooms after) (acts k.past) w.1 k.asks k.below_calls answer
    (v.laws.ends k.plan k.pages h new.state y).0
    (λ d is_d. (v.laws.begins_by_call k.plan k.pages h new.state y d is_d).0) n.last
    (λ l. (n.asking l, n.rooms_are l)) in
    record {
      plan = k.plan;
      pages = k.pages;
      past = h;
      planned = subst (λ (l : Links). ArePlanned k.plan l) (sym links) k.planned;
      history = y;
      called =
          follows k.plan old.state w.0 m e c ds (calls g) (calls after) (acts k.past) w.1 k.called
          answer
          (λ l. shaped k.plan old.state ds w.0 m e l
          (λ t. v.laws.refusals k.plan k.pages h new.state y m w.0 t refl w.1))
          (v.laws.ends k.plan k.pages h new.state y).0
          (λ d is_d. (v.laws.begins_by_call k.plan k.pages h new.state y d is_d).2) call kept;
      asks = asks.0;
      below_calls = asks.1;
    }

-- a return without core values has nothing to be kept
pub keeps_nothing : (old : RunningSet) (g : GoingsOn) (m : Move) (e : Event) (new : RunningSet)
    (mover : ℕ) → Moved old g m e new mover → IsPlayed old g → is_last e ≡ false
    → gives_values m ≡ false → KeepsNothing m g
keeps_nothing old g (move.Return values) e new mover v k l none =
    let h = moved_by old (move.Return values) e new ∷ k.past in
    let y = v.goes_on k.plan k.pages k.past k.planned k.history in
    let w = (v.laws.memory k.plan k.pages h new.state y).1 (move.Return values) refl in
    let n = none_kept k.plan old.state (doing k.plan k.past) w.0 values e g.asking (rooms g) l
    (λ t. v.laws.refusals k.plan k.pages h new.state y (move.Return values) w.0 t refl w.1)
    (v.laws.answers k.plan k.pages h new.state y (move.Return values) refl)
    (no_values values.items none) k.asks in
    (n.0, ap latest_place k.called ∙ n.1)
keeps_nothing old g (move.Write at bytes) e new mover v k l none = tt
keeps_nothing old g (move.Grow pages) e new mover v k l none = tt
keeps_nothing old g (move.Call func args) e new mover v k l none = tt
keeps_nothing old g move.Unreachable e new mover v k l none = tt

-- what is done is not refused
pub none_refused : {A E : Type 0} (v : A) (e : E) → IsErrOf {T = A} {E = E} (Ok v) e → ⊥
none_refused {A} {E} v e same = subst (λ (r : Result A E). OnErr r ⊥) same tt

-- what holds of a move that gives core values, and of one that gives none
pub by_values : {A : Type 0} (gives : Bool) → (gives ≡ true → A) → (gives ≡ false → A) → A
by_values true some none = some refl
by_values false some none = none refl

-- and by the beginning of a root call
pub begin_plays : (old : RunningSet) (g : GoingsOn) (i : ℕ) (e : Event) (new : RunningSet) → Laws
    → GoesOnFrom old (begins i) e new → new.links ≡ old.links → IsPlayed old g → IsPlayed new g
begin_plays old g i e new laws goes links k =
    let x : Occurrence =
    record { before = old.state; action = begins i; event = e; after = new.state } in
    let y = goes k.plan k.pages k.past k.planned k.history in
    let b = laws.begins_nothing k.plan k.pages (x ∷ k.past) new.state y i refl in
    record {
      plan = k.plan;
      pages = k.pages;
      past = x ∷ k.past;
      planned = subst (λ (l : Links). ArePlanned k.plan l) (sym links) k.planned;
      history = y;
      called = k.called ∙ ap calls_of b.0;
      asks = subst (λ (ds : List Doing). IsAsking ds g.asking (rooms g)) b.0 k.asks;
      below_calls = tt;
    }

pub new_plays : (linked : LinkSet) (pages : List ℕ) (s : RunningSet) (g : GoingsOn)
    → IsNew linked pages s → calls g ≡ [] → g.asking ≡ None → rooms g ≡ [] → IsPlayed s g
new_plays linked pages s g n c a r = record {
  plan = n.plan;
  pages = pages;
  past = [];
  planned = n.planned;
  history = n.history;
  called = c;
  asks = (a, r);
  below_calls = tt;
}

-- where there is only more room
pub kept_plays : (s : RunningSet) (g after : GoingsOn) → after.calls ≡ g.calls
    → after.asking ≡ g.asking → rooms after ≡ rooms g → IsPlayed s g → IsPlayed s after
kept_plays s g after c a r k = record {
  plan = k.plan;
  pages = k.pages;
  past = k.past;
  planned = k.planned;
  history = k.history;
  called = ap (λ cs. reverse cs.items) c ∙ k.called;
  asks = subst (λ (o : Option Asking). IsAsking (doing k.plan k.past) o (rooms after)) (sym a)
      (subst (λ (ys : List Region). IsAsking (doing k.plan k.past) g.asking ys) (sym r) k.asks);
  below_calls = k.below_calls;
}

-- a root call that begins or not
pub begin_either : (old : RunningSet) (g : GoingsOn) (i : ℕ) (r : Result Event Misuse)
    (new : RunningSet) → Laws → IfOk r (λ e. GoesOnFrom old (begins i) e new)
    → OnErr r (new ≡ old) → new.links ≡ old.links → IsPlayed old g → IsPlayed new g
begin_either old g i (Ok e) new laws goes err links k =
    begin_plays old g i e new laws goes links k
begin_either old g i (Err m) new laws goes err links k =
    subst (λ (s : RunningSet). IsPlayed s g) (sym err) k

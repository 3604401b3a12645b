-- Why a caller that goes on gets what its callee's body returned.
use Rattle.std.proofs.Common.{◌≡◌, ℕ, ◌+◌, List, [], ◌∷◌, ◌++◌, length, Option, Some, refl, sym, ap}
use Rattle.std.proofs.Common.{subst, ◌∙◌}
use Rattle.std.specs.Prelude.{⊤}
use Rattle.std.specs.Option.{option_map}
use Rattle.std.specs.declared.alloc.Global.{Global}
use Rattle.std.specs.declared.vec.Vec.{Vec}
use Rattle.cm_types.specs.declared.core_value.CoreValue.{CoreValue}
use Rattle.cm_types.specs.Values.{Val}
use Rattle.cm_abi_model.specs.Numbers.{slot_at}
use Rattle.cm_abi_model.specs.Views.{results}
use Rattle.cm_machine_model.specs.declared.event.Event.{Event}
use Rattle.cm_machine_model.specs.declared.event.Event.TheVariants as event
use Rattle.cm_machine_model.specs.declared.event.Trap.{Trap}
use Rattle.std.proofs.lemmas.Option.{none-some, same_Some}
use Rattle.cm_machine_model.specs.declared.moves.Move.{Move}
use Rattle.cm_machine_model.specs.declared.moves.Move.TheVariants as move
use Rattle.cm_machine_model.specs.declared.frame.Call.{Call}
use Rattle.cm_machine_model.specs.declared.frame.Frame.{Frame}
use Rattle.cm_machine_model.specs.declared.frame.Phase.TheVariants as phase
use Rattle.cm_machine_model.specs.declared.frame.Purpose.{Purpose}
use Rattle.cm_machine_model.specs.declared.frame.Purpose.TheVariants as purpose
use Rattle.cm_machine_model.specs.Cases.{Cases, HasPlace, IsGiven, IsPlaced, IsReturned}
use Rattle.cm_machine_model.specs.Cases.{answer_asks, answer_ends, answer_enters, answer_tidies}
use Rattle.cm_machine_model.specs.Cases.{call_asks, call_enters, case_of, destroyed}
use Rattle.cm_machine_model.specs.Cases.{destructor_ended, dropped, given_back, grew, made}
use Rattle.cm_machine_model.specs.Cases.{represented, return_asks, return_ends, return_tidies}
use Rattle.cm_machine_model.specs.Cases.{root_ended, stayed, tidied, trapped, wrote}
use Rattle.cm_machine_model.specs.History.{Action, Happens, begins, moves}
use Rattle.cm_machine_model.specs.Plan.{Link, Plan, types_of}
use Rattle.cm_machine_model.specs.Stack.{actor, top_of}
use Rattle.cm_machine_model.specs.State.{Passage, State, after_trap}
use Rattle.cm_machine_model.specs.Step.{after_call, after_handing, after_lift_of_result, as_values}
use Rattle.cm_machine_model.specs.Step.{flat_result, given_to, receiver_of, top_place}
use Rattle.cm_machine_model.specs.Valid.{IsValidState}
use Rattle.cm_machine_laws.specs.Acting.{acts}
use Rattle.cm_machine_laws.specs.Always.{Always}
use Rattle.cm_machine_laws.specs.CallsOn.{tidying_call}
use Rattle.cm_machine_laws.specs.Doing.{Asked, BodyReturn, answer_of, Doing, body_return, destroys}
use Rattle.cm_machine_laws.specs.Doing.{doing, with_answer}
use Rattle.cm_machine_laws.specs.Entries.{GivesBack, Resumes, ResumesWithWhatWasReturned, TakesResult}
use Rattle.cm_machine_laws.specs.Entries.{answered_by, return_by}
use Rattle.cm_machine_laws.specs.Matching.{AllMatch, AreTold, MatchOne}
use Rattle.cm_machine_laws.specs.Told.{is_by_memory, result_place_of}
use Rattle.cm_machine_laws.specs.Following.{AreFollowed, IsKept}
use Rattle.cm_machine_laws.proofs.Follow.{one_value}
use Rattle.cm_machine_laws.proofs.FollowCases as cases
use Rattle.cm_machine_laws.proofs.FollowAlong.{IsFollowedAlong, IsTold, StaysValid}
use Rattle.cm_machine_laws.proofs.GivenBack.{ReceivedStays, received_after}
use Rattle.cm_machine_laws.proofs.ValueTurns.{OneCarried}
use Rattle.cm_machine_model.proofs.HistoryLaws.{earlier}

-- what a return says that is answered by a resumption
abbrev Back : State → Frame → List Doing → Move → Event → State → Type 0
Back s top ds (move.Return values) (event.Resume i back) new = Resumes ds (record { callee = actor top; values = values.items; state = s }) i back new
Back s top ds m e new = ⊤

trapped_back : (s : State) (top : Frame) (ds : List Doing) (m : Move) (t : Trap) (new : State) → Back s top ds m (event.Trapped t) new
trapped_back s top ds (move.Write a bytes) t new = tt
trapped_back s top ds (move.Grow pages) t new = tt
trapped_back s top ds (move.Call func args) t new = tt
trapped_back s top ds (move.Return values) t new = tt
trapped_back s top ds move.Unreachable t new = tt

same_answer : (values : List CoreValue) (asked : List Asked) → answer_of values ≡ Some (slot_at values 0) → with_answer values asked ≡ answered_by values asked
same_answer values [] e = refl
same_answer values (a ∷ earlier) e = ap (λ (o : Option ℕ). record { request = a.request; answer = o } ∷ earlier) e

-- a destructor that returns resumes who dropped
destructor_back : (plan : Plan) (s : State) (top : Frame) (fs : List Frame) (ds : List Doing) (dropper : ℕ) (r : BodyReturn) (new : State) → top.purpose ≡ purpose.Destructor dropper → AllMatch plan (top ∷ fs) ds → Resumes ds r dropper [] new
destructor_back plan s top fs [] dropper r new is m = absurd m
destructor_back plan s top fs (d ∷ ds) dropper r new is m = one d (subst (λ (pu : Purpose). MatchOne pu plan top.instance (length fs) d) is m.0) where
  one : (d : Doing) → MatchOne (purpose.Destructor dropper) plan top.instance (length fs) d → Resumes (d ∷ ds) r dropper [] new
  one (destroys who j) x = (x.0, refl)
  one d x = absurd x

module _ (stays : ReceivedStays) (carried_one : OneCarried) (plan : Plan) (s : State) (top : Frame) (fs : List Frame) (ds : List Doing)
    (is : s.stack ≡ top ∷ fs) (valid : IsValidState plan s) (m : AllMatch plan (top ∷ fs) ds) (f : AreFollowed s ds) where
  answer_ends_back : (values : Vec CoreValue Global) (call : Call) (l : Link) (p : Passage) (v : Val) (answers : List ℕ) (q : Passage) (memory : List ℕ) (slots : List CoreValue)
      → (pl : IsPlaced plan s top values.items results call l p v answers q)
      → IsGiven (record s { passage = Some q }) l results (receiver_of results (top_place s) l call) q v (answers ++ slot_at values.items 0 ∷ []) memory slots
      → Resumes ds (record { callee = actor top; values = values.items; state = s }) call.caller (flat_result l slots) (after_call (top_place s) (after_handing (record s { passage = Some q }) (receiver_of results (top_place s) l call) q memory))
  answer_ends_back values call l p v answers q memory slots pl given =
      let st : State = after_handing (record s { passage = Some q }) (receiver_of results (top_place s) l call) q memory in
      let new : State = after_call (top_place s) st in
      let d = cases.d carried_one plan s top fs ds is valid m f values call l p v answers q pl in
      let j = cases.j carried_one plan s top fs ds is valid m f values call l p v answers q pl in
      let back = cases.handing_back carried_one plan s top fs ds is valid m f values call l p v answers q pl memory slots given in
      subst (λ (es : List Doing). Resumes es (record { callee = actor top; values = values.items; state = s }) call.caller (flat_result l slots) new) (sym d.is)
      (subst (λ (more : List Asked). TakesResult d.x d.back more call.caller (flat_result l slots) new) (same_answer values.items d.more (one_value values.items pl.of_kinds)) (
        d.of.caller,
        j.callee_is,
        (
          j.v,
          j.returned,
          record {
            given = given_to (record s { passage = Some q }) l results (receiver_of results (top_place s) l call) q;
            slots = slots;
            received = received_after stays st new d.x.caller d.x.link.caller.encoding d.x.place (top_place s) s.lends (types_of d.x.link results) slots _ j.v refl refl
                (cases.handing_received carried_one plan s top fs ds is valid m f values call l p v answers q pl memory slots given);
            placed = cases.handing_places carried_one plan s top fs ds is valid m f values call l p v answers q pl;
            all = cases.all_back carried_one plan s top fs ds is valid m f values call l p v answers q pl given.none_to_come;
            back = subst (λ (xs : List CoreValue). GivesBack (is_by_memory d.x) (result_place_of d.x) slots xs) back.1 back.0;
          },
        ),
      ))

  return_ends_back : (values : Vec CoreValue Global) (call : Call) (l : Link) (v : Val) (p q : Passage) (answers : List ℕ) (st : State) (memory : List ℕ) (slots : List CoreValue)
      → (ret : IsReturned plan s top values.items call l v p) (put : HasPlace (after_lift_of_result s l call values.items v p) l call p v q answers st)
      → IsGiven st l results (receiver_of results (top_place st) l call) q v answers memory slots
      → Resumes ds (record { callee = actor top; values = values.items; state = s }) call.caller (flat_result l slots) (after_call (top_place st) (after_handing st (receiver_of results (top_place st) l call) q memory))
  return_ends_back values call l v p q answers st memory slots ret put given =
      let hs : State = after_handing st (receiver_of results (top_place st) l call) q memory in
      let new : State = after_call (top_place st) hs in
      let e = cases.e carried_one plan s top fs ds is valid m f values call l v p q answers st ret put in
      let back = cases.return_back carried_one plan s top fs ds is valid m f values call l v p q answers st ret put memory slots given in
      subst (λ (es : List Doing). Resumes es (record { callee = actor top; values = values.items; state = s }) call.caller (flat_result l slots) new) (sym e.is) (
        e.of.caller,
        cases.callee_is carried_one plan s top fs ds is valid m f values call l v p q answers st ret put,
        (
          v,
          cases.returned carried_one plan s top fs ds is valid m f values call l v p q answers st ret put,
          record {
            given = given_to st l results (receiver_of results (top_place st) l call) q;
            slots = slots;
            received = received_after stays hs new e.x.caller e.x.link.caller.encoding e.x.place (top_place st) st.lends (types_of e.x.link results) slots _ v refl refl
                (cases.return_received carried_one plan s top fs ds is valid m f values call l v p q answers st ret put memory slots given);
            placed = cases.return_places carried_one plan s top fs ds is valid m f values call l v p q answers st ret put;
            all = cases.all_given carried_one plan s top fs ds is valid m f values call l v p q answers st ret put memory slots given;
            back = subst (λ (xs : List CoreValue). GivesBack (is_by_memory e.x) (result_place_of e.x) slots xs) back.1 back.0;
          },
        ),
      )

  tidied_back : (values : Vec CoreValue Global) (call : Call) (result : Option CoreValue) → top.purpose ≡ purpose.Call call → call.phase ≡ phase.PostReturn result
      → Resumes ds (record { callee = actor top; values = values.items; state = s }) call.caller (as_values result) (after_call (top_place s) s)
  tidied_back values call result pu ph =
      let new : State = after_call (top_place s) s in
      let c = tidying_call plan top fs ds call result pu ph m in
      let k : IsKept s c.x c.back c.more = (subst (λ (es : List Doing). AreFollowed s es) c.is f).0.2 in
      let same : result ≡ k.result = k.with_frame top call result (ap top_of is) pu ph in
      subst (λ (es : List Doing). Resumes es (record { callee = actor top; values = values.items; state = s }) call.caller (as_values result) new) (sym c.is) (
        c.of.caller,
        k.callee_is,
        (
          k.v,
          k.returned,
          record {
            given = k.received.given;
            slots = k.received.slots;
            received = received_after stays s new c.x.caller c.x.link.caller.encoding c.x.place (top_place s) s.lends (types_of c.x.link results) k.received.slots k.received.given k.v refl refl k.received.received;
            placed = k.received.placed;
            all = k.received.all;
            back = subst (λ (o : Option CoreValue). GivesBack (is_by_memory c.x) (result_place_of c.x) k.received.slots (as_values o)) (sym same) k.received.back;
          },
        ),
      )

  back_case : (mv : Move) (ev : Event) (new : State) → Cases plan s top mv ev new → Back s top ds mv ev new
  back_case _ _ _ (trapped mv t st from) = trapped_back s top ds mv t (after_trap st)
  back_case _ _ _ (wrote at bytes inside) = tt
  back_case _ _ _ (stayed pages no_room) = tt
  back_case _ _ _ (grew pages fits) = tt
  back_case _ _ _ (made func args r reach kinds may can) = tt
  back_case _ _ _ (represented func args r h reach kinds found) = tt
  back_case _ _ _ (dropped func args r h found owned) = tt
  back_case _ _ _ (destroyed func args r fn h found owned opened room) = tt
  back_case _ _ _ (given_back func args r k h call found kind) = tt
  back_case _ _ _ (call_asks func args l v p fn request called next) = tt
  back_case _ _ _ (call_enters func args l v p memory slots called given) = tt
  back_case _ _ _ (answer_asks values way call l p v answers q fn request pl next) = tt
  back_case _ _ _ (answer_enters values call l p v answers q memory slots pl given) = tt
  back_case _ _ _ (answer_tidies values call l p v answers q memory slots fn pl given post) = tt
  back_case _ _ _ (answer_ends values call l p v answers q memory slots pl given post) = answer_ends_back values call l p v answers q memory slots pl given
  back_case _ _ _ (return_asks values call l v p q answers st fn request ret put next) = tt
  back_case _ _ _ (return_tidies values call l v p q answers st memory slots fn ret put given post) = tt
  back_case _ _ _ (return_ends values call l v p q answers st memory slots ret put given post) = return_ends_back values call l v p q answers st memory slots ret put given
  back_case _ _ _ (tidied values call l result pu ph reach nothing) = tidied_back values call result pu ph
  back_case _ _ _ (root_ended values pu nothing) = tt
  back_case _ _ _ (destructor_ended values dropper pu nothing) = destructor_back plan s top fs ds dropper _ _ pu m

-- ---- along histories

-- a return that is answered by a resumption
by_return : (a : Action) (s : State) (top : Frame) (acting : Option ℕ) (ds : List Doing) (e : Event) (new : State) (r : BodyReturn) (i : ℕ) (values : List CoreValue) → acting ≡ Some (actor top)
    → ((m : Move) → a ≡ moves m → Back s top ds m e new) → return_by s acting a ≡ Some r → e ≡ event.Resume i values → Resumes ds r i values new
by_return (begins j) s top acting ds e new r i values is back by resumes = absurd (none-some r by)
by_return (moves (move.Return vs)) s top acting ds e new r i values is back by resumes =
    let told : record { callee = actor top; values = vs.items; state = s } ≡ r = same_Some (record { callee = actor top; values = vs.items; state = s }) r (sym (ap (λ (o : Option ℕ). body_return s o vs.items) is) ∙ by) in
    subst (λ (x : BodyReturn). Resumes ds x i values new) told (subst (λ (g : Event). Back s top ds (move.Return vs) g new) resumes (back (move.Return vs) refl))
by_return (moves (move.Write a bytes)) s top acting ds e new r i values is back by resumes = absurd (none-some r by)
by_return (moves (move.Grow pages)) s top acting ds e new r i values is back by resumes = absurd (none-some r by)
by_return (moves (move.Call func args)) s top acting ds e new r i values is back by resumes = absurd (none-some r by)
by_return (moves move.Unreachable) s top acting ds e new r i values is back by resumes = absurd (none-some r by)

move_in : (m k : Move) → moves m ≡ moves k → m ≡ k
move_in m k e = cc (e)

acted_back : ReceivedStays → OneCarried → (plan : Plan) (a : Action) (e : Event) (s new : State) (acting : Option ℕ) (ds : List Doing) → IsValidState plan s → AreTold plan s acting ds → AreFollowed s ds → Happens plan s a e new
    → (r : BodyReturn) (i : ℕ) (values : List CoreValue) → return_by s acting a ≡ Some r → e ≡ event.Resume i values → Resumes ds r i values new
acted_back stays one plan (begins j) e s new acting ds valid told f x r i values by resumes = absurd (none-some r by)
acted_back stays one plan (moves m) e s new acting ds valid told f x r i values by resumes =
    let c = case_of plan s m e new x.1 in
    let acts_is : acting ≡ Some (actor c.top) = sym told.acts ∙ ap (λ (fs : List Frame). option_map actor (top_of fs)) c.stack in
    by_return (moves m) s c.top acting ds e new r i values acts_is
    (λ k same. subst (λ (n : Move). Back s c.top ds n e new) (move_in m k same)
    (back_case stays one plan s c.top c.rest ds c.stack valid (subst (λ (fs : List Frame). AllMatch plan fs ds) c.stack told.matched) f m e new c.case)) by resumes

pub resumes_with_what_was_returned : ReceivedStays → OneCarried → StaysValid → IsTold → IsFollowedAlong → Always ResumesWithWhatWasReturned
resumes_with_what_was_returned stays one valid told follows plan pages [] s y = tt
resumes_with_what_was_returned stays one valid told follows plan pages (x ∷ h) s y =
    let before = earlier plan pages x h s y in
    acted_back stays one plan x.action x.event x.before x.after (acts h) (doing plan h) (valid plan pages h x.before before) (told plan pages h x.before before) (follows plan pages h x.before before) y.history.1

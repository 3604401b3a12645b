-- Why what goes on is followed along each history, and what its events say.
use Rattle.std.proofs.Common.{◌≡◌, ℕ, List, [], ◌∷◌, Option, Some, sym, ap, subst, ◌∙◌}
use Rattle.std.specs.Option.{option_map}
use Rattle.cm_machine_model.specs.declared.event.Event.{Event}
use Rattle.cm_machine_model.specs.declared.moves.Move.{Move}
use Rattle.cm_machine_model.specs.declared.frame.Frame.{Frame}
use Rattle.cm_machine_model.specs.Cases.{IsCase, case_of}
use Rattle.cm_machine_model.specs.History.{Action, Happens, IsHistoryOf, Occurrence, begins, moves}
use Rattle.cm_machine_model.specs.Plan.{Plan}
use Rattle.cm_machine_model.specs.Stack.{actor, top_of}
use Rattle.cm_machine_model.specs.State.{State}
use Rattle.cm_machine_model.specs.Valid.{IsValidState}
use Rattle.cm_machine_laws.specs.Acting.{acts}
use Rattle.cm_machine_laws.specs.Always.{Always}
use Rattle.cm_machine_laws.specs.Asks.{AsksAt, AsksForWhatTheValueWants}
use Rattle.cm_machine_laws.specs.Doing.{Doing, after_move, body, destroys, doing, goes_on, handing}
use Rattle.cm_machine_laws.specs.Doing.{placing, root, tidying}
use Rattle.cm_machine_laws.specs.Entries.{ReceivesWhatWasSent, PostReturnGetsTheFlatResult}
use Rattle.cm_machine_laws.specs.Matching.{AllMatch, AreTold}
use Rattle.cm_machine_laws.specs.Following.{AreBelow, AreFollowed}
use Rattle.cm_machine_laws.proofs.FollowCases.{SaysOf, follow_case}
use Rattle.cm_machine_laws.proofs.ValueTurns.{OneCarried}
use Rattle.cm_machine_model.proofs.HistoryLaws.{earlier}

abbrev pub StaysValid : Type 0
StaysValid = (plan : Plan) (pages : List ℕ) (h : List Occurrence) (s : State) → IsHistoryOf plan pages h s → IsValidState plan s

abbrev pub IsTold : Type 0
IsTold = (plan : Plan) (pages : List ℕ) (h : List Occurrence) (s : State) → IsHistoryOf plan pages h s → AreTold plan s (acts h) (doing plan h)

abbrev pub IsFollowedAlong : Type 0
IsFollowedAlong = (plan : Plan) (pages : List ℕ) (h : List Occurrence) (s : State) → IsHistoryOf plan pages h s → AreFollowed s (doing plan h)

step_follows : OneCarried → (plan : Plan) (s : State) (m : Move) (e : Event) (new : State) (acting : Option ℕ) (ds : List Doing) → IsValidState plan s → AreTold plan s acting ds → AreFollowed s ds → IsCase plan s m e new
    → AreFollowed new (after_move plan acting s m e ds) × SaysOf e (after_move plan acting s m e ds) new
step_follows one plan s m e new acting ds valid told f c =
    let acts_is : acting ≡ Some (actor c.top) = sym told.acts ∙ ap (λ (fs : List Frame). option_map actor (top_of fs)) c.stack in
    subst (λ (o : Option ℕ). AreFollowed new (after_move plan o s m e ds) × SaysOf e (after_move plan o s m e ds) new) (sym acts_is)
    (follow_case one plan s c.top c.rest ds c.stack valid (subst (λ (fs : List Frame). AllMatch plan fs ds) c.stack told.matched) f m e new c.case)

acted_follows : OneCarried → (plan : Plan) (a : Action) (e : Event) (s new : State) (acting : Option ℕ) (ds : List Doing) → IsValidState plan s → AreTold plan s acting ds → AreFollowed s ds → Happens plan s a e new
    → AreFollowed new (goes_on plan acting s a e ds) × SaysOf e (goes_on plan acting s a e ds) new
acted_follows one plan (begins i) e s new acting ds valid told f x =
    subst (λ (g : Event). AreFollowed new (root i ∷ []) × SaysOf g (root i ∷ []) new) (sym x.1) ((tt, tt), tt)
acted_follows one plan (moves m) e s new acting ds valid told f x = step_follows one plan s m e new acting ds valid told f (case_of plan s m e new x.1)

pub followed_along : OneCarried → StaysValid → IsTold → IsFollowedAlong
followed_along one valid told plan pages [] s y = tt
followed_along one valid told plan pages (x ∷ h) s y =
    let before = earlier plan pages x h s y in
    subst (λ (n : State). AreFollowed n (doing plan (x ∷ h))) (sym y.history.2)
    (acted_follows one plan x.action x.event x.before x.after (acts h) (doing plan h) (valid plan pages h x.before before) (told plan pages h x.before before)
    (followed_along one valid told plan pages h x.before before) y.history.1).0

-- what the latest event says
pub says : OneCarried → StaysValid → IsTold → IsFollowedAlong → (plan : Plan) (pages : List ℕ) (x : Occurrence) (h : List Occurrence) (s : State) → IsHistoryOf plan pages (x ∷ h) s → SaysOf x.event (doing plan (x ∷ h)) x.after
says one valid told follows plan pages x h s y =
    let before = earlier plan pages x h s y in
    (acted_follows one plan x.action x.event x.before x.after (acts h) (doing plan h) (valid plan pages h x.before before) (told plan pages h x.before before) (follows plan pages h x.before before) y.history.1).1

pub receives_what_was_sent : OneCarried → StaysValid → IsTold → IsFollowedAlong → Always ReceivesWhatWasSent
receives_what_was_sent one valid told follows plan pages [] s y = tt
receives_what_was_sent one valid told follows plan pages (x ∷ h) s y = λ i func args is.
    subst (λ (e : Event). SaysOf e (doing plan (x ∷ h)) x.after) is (says one valid told follows plan pages x h s y)

pub gets_the_flat_result : OneCarried → StaysValid → IsTold → IsFollowedAlong → Always PostReturnGetsTheFlatResult
gets_the_flat_result one valid told follows plan pages [] s y = tt
gets_the_flat_result one valid told follows plan pages (x ∷ h) s y = λ i func args is.
    subst (λ (e : Event). SaysOf e (doing plan (x ∷ h)) x.after) is (says one valid told follows plan pages x h s y)

-- ---- what was asked

asks_below : (ds : List Doing) → AreBelow ds → AsksAt ds
asks_below [] b = tt
asks_below (root i ∷ ds) b = asks_below ds b.1
asks_below (placing x asked ∷ ds) b = absurd b.0
asks_below (body x asked ∷ ds) b = ((b.0.v, b.0.sent, b.0.so_far, b.0.all), asks_below ds b.1)
asks_below (handing x asked r more ∷ ds) b = absurd b.0
asks_below (tidying x asked r more ∷ ds) b = absurd b.0
asks_below (destroys dropper i ∷ ds) b = asks_below ds b.1

asks_at : (s : State) (ds : List Doing) → AreFollowed s ds → AsksAt ds
asks_at s [] f = tt
asks_at s (root i ∷ ds) f = asks_below ds f.1
asks_at s (placing x asked ∷ ds) f = ((f.0.v, f.0.sent, f.0.so_far), asks_below ds f.1)
asks_at s (body x asked ∷ ds) f = ((f.0.v, f.0.sent, f.0.so_far, f.0.all), asks_below ds f.1)
asks_at s (handing x asked r more ∷ ds) f = ((f.0.1.v, f.0.1.returned, f.0.1.so_far), asks_below ds f.1)
asks_at s (tidying x asked r more ∷ ds) f = ((f.0.1.v, f.0.1.returned, f.0.1.so_far, f.0.1.all), asks_below ds f.1)
asks_at s (destroys dropper i ∷ ds) f = asks_below ds f.1

pub asks_for_what_is_wanted : IsFollowedAlong → Always AsksForWhatTheValueWants
asks_for_what_is_wanted follows plan pages h s y = asks_at s (doing plan h) (follows plan pages h s y)

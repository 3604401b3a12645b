-- Why each resource has one place, and why those on their way are the sent value's.
use Rattle.std.proofs.Common.{◌≡◌, ℕ, List, [], ◌∷◌, length, Some, None, ap, ◌∙◌}
use Rattle.std.specs.Prelude.{⊤}
use Rattle.cm_abi_model.specs.HandleLeaves.{owned_in}
use Rattle.cm_abi_model.specs.Receives.{HandleLeaf}
use Rattle.cm_machine_model.specs.declared.frame.Call.{Call}
use Rattle.cm_machine_model.specs.declared.frame.Frame.{Frame}
use Rattle.cm_machine_model.specs.declared.frame.Phase.{Phase}
use Rattle.cm_machine_model.specs.declared.frame.Phase.TheVariants as phase
use Rattle.cm_machine_model.specs.declared.frame.Purpose.{Purpose}
use Rattle.cm_machine_model.specs.declared.frame.Purpose.TheVariants as purpose
use Rattle.cm_machine_model.specs.History.{IsHistoryOf, Occurrence}
use Rattle.cm_machine_model.specs.Owning.{serials, travelling}
use Rattle.cm_machine_model.specs.Plan.{Link, Plan, Reaches}
use Rattle.cm_machine_model.specs.State.{Passage, State}
use Rattle.cm_machine_model.specs.Valid.{IsValidState, PassesAtTop, PassesFor, PassesIn}
use Rattle.cm_machine_laws.specs.Acting.{acts}
use Rattle.cm_machine_laws.specs.Always.{Always}
use Rattle.cm_machine_laws.specs.Doing.{Doing, body, destroys, doing, handing, placing, root}
use Rattle.cm_machine_laws.specs.Doing.{tidying}
use Rattle.cm_machine_laws.specs.Matching.{AllMatch, AreTold, MatchIn, MatchOne}
use Rattle.cm_machine_laws.specs.Placed.{EachResourceHasOnePlace, TravelsAsTold}
use Rattle.cm_machine_laws.specs.Following.{AreFollowed}

abbrev pub StaysValid : Type 0
StaysValid = (plan : Plan) (pages : List ℕ) (h : List Occurrence) (s : State) → IsHistoryOf plan pages h s → IsValidState plan s

abbrev pub IsTold : Type 0
IsTold = (plan : Plan) (pages : List ℕ) (h : List Occurrence) (s : State) → IsHistoryOf plan pages h s → AreTold plan s (acts h) (doing plan h)

abbrev pub IsFollowedAlong : Type 0
IsFollowedAlong = (plan : Plan) (pages : List ℕ) (h : List Occurrence) (s : State) → IsHistoryOf plan pages h s → AreFollowed s (doing plan h)

-- no value of it is being placed
abbrev IsQuiet : Doing → Type 0
IsQuiet (root i) = ⊤
IsQuiet (placing x asked) = ⊥
IsQuiet (body x asked) = ⊤
IsQuiet (handing x asked r more) = ⊥
IsQuiet (tidying x asked r more) = ⊤
IsQuiet (destroys dropper i) = ⊤

phase_quiet : (ph : Phase) (plan : Plan) (s : State) (i n : ℕ) (call : Call) (d : Doing) → ((l : Link) → Reaches plan call.caller call.func l → PassesIn ph s l call s.passage)
    → MatchIn ph plan i call n d → IsQuiet d → s.passage ≡ None
phase_quiet phase.Arguments plan s i n call (placing x asked) p m q = absurd q
phase_quiet phase.Body plan s i n call (body x asked) p m q = p x.link m.link
phase_quiet phase.Results plan s i n call (handing x asked r more) p m q = absurd q
phase_quiet (phase.PostReturn v) plan s i n call (tidying x asked r more) p m q = p x.link m.link
phase_quiet ph plan s i n call d p m q = absurd m

one_quiet : (pu : Purpose) (plan : Plan) (s : State) (i n : ℕ) (d : Doing) → PassesFor plan s pu → MatchOne pu plan i n d → IsQuiet d → s.passage ≡ None
one_quiet purpose.Root plan s i n d p m q = p
one_quiet (purpose.Call call) plan s i n d p m q = phase_quiet call.phase plan s i n call d p m q
one_quiet (purpose.Destructor dropper) plan s i n d p m q = p

pub quiet : (plan : Plan) (s : State) (fs : List Frame) (d : Doing) (ds : List Doing) → PassesAtTop plan s fs → AllMatch plan fs (d ∷ ds) → IsQuiet d → s.passage ≡ None
quiet plan s [] d ds p m q = absurd m
quiet plan s (f ∷ fs) d ds p m q = one_quiet f.purpose plan s f.instance (length fs) d p m.0 q

silent : (plan : Plan) (s : State) (fs : List Frame) → PassesAtTop plan s fs → AllMatch plan fs [] → s.passage ≡ None
silent plan s [] p m = p
silent plan s (f ∷ fs) p m = absurd m

none_travels : (s : State) → s.passage ≡ None → travelling s.passage ≡ []
none_travels s e = ap travelling e

-- what is on its way are the handles of the passage
some_travel : (s : State) (p : Passage) (leaves : List HandleLeaf) → s.passage ≡ Some p → p.leaves ≡ leaves → travelling s.passage ≡ serials (owned_in leaves)
some_travel s p leaves e same = ap travelling e ∙ ap (λ (ls : List HandleLeaf). serials (owned_in ls)) same

travels : (plan : Plan) (s : State) (ds : List Doing) → PassesAtTop plan s s.stack → AllMatch plan s.stack ds → AreFollowed s ds → TravelsAsTold ds s
travels plan s [] p m f = none_travels s (silent plan s s.stack p m)
travels plan s (root i ∷ ds) p m f = none_travels s (quiet plan s s.stack (root i) ds p m tt)
travels plan s (placing x asked ∷ ds) p m f = (f.0.v, f.0.sent, some_travel s f.0.passage _ f.0.passage_is f.0.carried.handles)
travels plan s (body x asked ∷ ds) p m f = none_travels s (quiet plan s s.stack (body x asked) ds p m tt)
travels plan s (handing x asked r more ∷ ds) p m f = (f.0.1.v, f.0.1.returned, some_travel s f.0.1.passage _ f.0.1.passage_is f.0.1.carried.handles)
travels plan s (tidying x asked r more ∷ ds) p m f = none_travels s (quiet plan s s.stack (tidying x asked r more) ds p m tt)
travels plan s (destroys dropper i ∷ ds) p m f = none_travels s (quiet plan s s.stack (destroys dropper i) ds p m tt)

pub each_has_one_place : StaysValid → IsTold → IsFollowedAlong → Always EachResourceHasOnePlace
each_has_one_place valid told follows plan pages h s y = record {
  one_place = (valid plan pages h s y).one_place;
  on_their_way = travels plan s (doing plan h) (valid plan pages h s y).passes (told plan pages h s y).matched (follows plan pages h s y);
}

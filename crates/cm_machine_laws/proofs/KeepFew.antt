-- Why no more is kept along a history than values have parts and handles.
use Rattle.std.proofs.Common.{◌≡◌, ℕ, ◌+◌, ◌*◌, ◌≤◌, Option, List, [], ◌∷◌, length, Some, None, sym, ap, subst}
use Rattle.std.proofs.Common.{◌∙◌, arith}
use Rattle.std.specs.Prelude.{⊤}
use Rattle.std.proofs.lemmas.Option.{same_Some}
use Rattle.cm_types.specs.Values.{Val}
use Rattle.cm_abi_model.specs.declared.request.Request.{Request}
use Rattle.cm_abi_model.specs.Receives.{HandleLeaf, leaves_in}
use Rattle.cm_abi_model.specs.Requests.{call_parts, parts_of, tuple_of}
use Rattle.cm_abi_model.specs.Views.{Way, params, results}
use Rattle.cm_abi_model.specs.Answering.{places_of}
use Rattle.cm_abi_model.specs.RecordRequests.{tags_of}
use Rattle.cm_abi_model.specs.Scanned.{IsInOrder, Scanned, all_kept, things_kept}
use Rattle.cm_abi_model.specs.declared.record.PartRecord.{PartRecord}
use Rattle.cm_machine_model.specs.declared.frame.Call.{Call}
use Rattle.cm_machine_model.specs.declared.frame.Frame.{Frame}
use Rattle.cm_machine_model.specs.declared.frame.Phase.{Phase}
use Rattle.cm_machine_model.specs.declared.frame.Phase.TheVariants as phase
use Rattle.cm_machine_model.specs.declared.frame.Purpose.{Purpose}
use Rattle.cm_machine_model.specs.declared.frame.Purpose.TheVariants as purpose
use Rattle.cm_machine_model.specs.Passages.{Carries, HasAnswers, asked_for}
use Rattle.cm_machine_model.specs.Plan.{Link, Plan, Reaches, giver_side, receiver_side, types_of}
use Rattle.cm_machine_model.specs.State.{Passage, State}
use Rattle.cm_machine_model.specs.Valid.{PassesAtTop, PassesFor, PassesIn}
use Rattle.cm_machine_model.specs.Work.{IsKeptOf, IsValueOf}
use Rattle.cm_machine_laws.specs.Always.{Always}
use Rattle.cm_machine_laws.specs.Bounds.{BorrowsFew, IsBounded, IsBoundedBy, KeepsFew, KeepsNothing, LendsFew}
use Rattle.cm_machine_laws.specs.Doing.{Doing, LoweredCall, body, destroys, doing, handing, placing}
use Rattle.cm_machine_laws.specs.Doing.{root, tidying}
use Rattle.cm_machine_laws.specs.Matching.{AllMatch, MatchIn, MatchOne}
use Rattle.cm_machine_laws.specs.Told.{sender_view, sent_slots}
use Rattle.cm_machine_laws.specs.Following.{AreFollowed}
use Rattle.cm_machine_laws.proofs.Few.{call_few, met_few, places_few}
use Rattle.cm_machine_laws.proofs.FollowAlong.{IsFollowedAlong, IsTold, StaysValid}
use Rattle.cm_abi_model.proofs.TellingLaws.{as_many}

-- what is kept in order has at most three members for each record and handle
in_order : (k : Scanned) → IsInOrder k → all_kept k ≤ 3 * things_kept k
in_order k order = omega (arith, order.places, order.handed, order.numbers)

-- where nothing is on its way, no list has a member
nothing : (o : Option Passage) → o ≡ None → KeepsNothing o
nothing o none = record {
  passage = none;
  all = λ k is. omega (arith, in_order k is.order, is.order.empty (subst (λ (x : Option Passage). IsValueOf x k) none is.value));
}

-- what is kept of a value that is on its way
bounded : (s : State) (memory : List ℕ) (l : Link) (way : Way) (p : Passage) (v : Val) (rs : List Request) (answers : List ℕ) → s.passage ≡ Some p → Carries memory l way p v → asked_for l way p v ≡ rs → HasAnswers rs answers p
    → IsBounded s.passage (parts_of way (types_of l way) v)
bounded s memory l way p v rs answers at_top c asks has = record {
  records = λ o e. subst (λ (x : Passage). length x.records ≤ parts_of way (types_of l way) v) (same_Some p o (sym at_top ∙ e)) (omega (arith, records, few));
  places = λ o e. subst (λ (x : Passage). length x.places ≤ parts_of way (types_of l way) v) (same_Some p o (sym at_top ∙ e)) (omega (arith, places, few));
  handles = λ o e. subst (λ (x : Passage). length x.leaves ≤ parts_of way (types_of l way) v) (same_Some p o (sym at_top ∙ e)) (omega (arith, handles, few));
  things = things;
  all = λ k is. omega (arith, in_order k is.order, things k is);
} where
  few : length (call_parts way (types_of l way) v) + length (leaves_in (tuple_of (types_of l way)) v) ≤ parts_of way (types_of l way) v
  few = call_few way (types_of l way) v

  records : length p.records ≡ length (call_parts way (types_of l way) v)
  records = as_many c.view (receiver_side l way).encoding p.records (call_parts way (types_of l way) v) c.starts c.told

  handles : length p.leaves ≡ length (leaves_in (tuple_of (types_of l way)) v)
  handles = ap (λ (ls : List HandleLeaf). length ls) c.handles

  things : (k : Scanned) → IsKeptOf s.passage k → things_kept k ≤ parts_of way (types_of l way) v
  things k is =
      let value = subst (λ (x : Option Passage). IsValueOf x k) at_top is.value in
      omega (arith, records, handles, few, ap (λ (rs : List PartRecord). length rs) value.0, ap (λ (ls : List HandleLeaf). length ls) value.1)

  places : length p.places ≤ length (call_parts way (types_of l way) v)
  places =
      subst (λ (xs : List ℕ). length xs ≤ length (call_parts way (types_of l way) v)) (sym (has.places ∙ ap (λ (ys : List Request). places_of ys answers) (sym asks)))
      (places_few way (types_of l way) v (giver_side l way).encoding (receiver_side l way).encoding (tags_of p.records) answers)

-- ---- where nothing is on its way

abbrev IsQuiet : Doing → Type 0
IsQuiet (root i) = ⊤
IsQuiet (placing x asked) = ⊥
IsQuiet (body x asked) = ⊤
IsQuiet (handing x asked r more) = ⊥
IsQuiet (tidying x asked r more) = ⊤
IsQuiet (destroys dropper i) = ⊤

phase_quiet : (ph : Phase) (plan : Plan) (s : State) (i n : ℕ) (call : Call) (d : Doing) → ((l : Link) → Reaches plan call.caller call.func l → PassesIn ph s l call s.passage)
    → MatchIn ph plan i call n d → IsQuiet d → s.passage ≡ None
phase_quiet phase.Arguments plan s i n call (placing x asked) p m q = absurd q
phase_quiet phase.Body plan s i n call (body x asked) p m q = p x.link m.link
phase_quiet phase.Results plan s i n call (handing x asked r more) p m q = absurd q
phase_quiet (phase.PostReturn v) plan s i n call (tidying x asked r more) p m q = p x.link m.link
phase_quiet ph plan s i n call d p m q = absurd m

one_quiet : (pu : Purpose) (plan : Plan) (s : State) (i n : ℕ) (d : Doing) → PassesFor plan s pu → MatchOne pu plan i n d → IsQuiet d → s.passage ≡ None
one_quiet purpose.Root plan s i n d p m q = p
one_quiet (purpose.Call call) plan s i n d p m q = phase_quiet call.phase plan s i n call d p m q
one_quiet (purpose.Destructor dropper) plan s i n d p m q = p

quiet : (plan : Plan) (s : State) (fs : List Frame) (d : Doing) (ds : List Doing) → PassesAtTop plan s fs → AllMatch plan fs (d ∷ ds) → IsQuiet d → s.passage ≡ None
quiet plan s [] d ds p m q = absurd m
quiet plan s (f ∷ fs) d ds p m q = one_quiet f.purpose plan s f.instance (length fs) d p m.0 q

silent : (plan : Plan) (s : State) (fs : List Frame) → PassesAtTop plan s fs → AllMatch plan fs [] → s.passage ≡ None
silent plan s [] p m = p
silent plan s (f ∷ fs) p m = absurd m

bounded_by : (plan : Plan) (s : State) (ds : List Doing) → PassesAtTop plan s s.stack → AllMatch plan s.stack ds → AreFollowed s ds → IsBoundedBy ds s
bounded_by plan s [] p m f = nothing s.passage (silent plan s s.stack p m)
bounded_by plan s (root i ∷ ds) p m f = nothing s.passage (quiet plan s s.stack (root i) ds p m tt)
bounded_by plan s (placing x asked ∷ ds) p m f = (f.0.v, f.0.sent, bounded s _ x.link params f.0.passage f.0.v _ _ f.0.passage_is f.0.carried f.0.requests_are f.0.answered)
bounded_by plan s (body x asked ∷ ds) p m f = nothing s.passage (quiet plan s s.stack (body x asked) ds p m tt)
bounded_by plan s (handing x asked r more ∷ ds) p m f = (f.0.1.v, f.0.1.returned, bounded s _ x.link results f.0.1.passage f.0.1.v _ _ f.0.1.passage_is f.0.1.carried f.0.1.requests_are f.0.1.answered)
bounded_by plan s (tidying x asked r more ∷ ds) p m f = nothing s.passage (quiet plan s s.stack (tidying x asked r more) ds p m tt)
bounded_by plan s (destroys dropper i ∷ ds) p m f = nothing s.passage (quiet plan s s.stack (destroys dropper i) ds p m tt)

borrows_few : (x : LoweredCall) → BorrowsFew x
borrows_few x v sent = met_few (sender_view x) params (types_of x.link params) (sent_slots x) v

lends_few : (ds : List Doing) → LendsFew ds
lends_few [] = tt
lends_few (root i ∷ ds) = lends_few ds
lends_few (placing x asked ∷ ds) = (borrows_few x, lends_few ds)
lends_few (body x asked ∷ ds) = (borrows_few x, lends_few ds)
lends_few (handing x asked r more ∷ ds) = (borrows_few x, lends_few ds)
lends_few (tidying x asked r more ∷ ds) = (borrows_few x, lends_few ds)
lends_few (destroys dropper i ∷ ds) = lends_few ds

pub keeps_few : StaysValid → IsTold → IsFollowedAlong → Always KeepsFew
keeps_few valid told follows plan pages h s y =
    (bounded_by plan s (doing plan h) (valid plan pages h s y).passes (told plan pages h s y).matched (follows plan pages h s y), lends_few (doing plan h))

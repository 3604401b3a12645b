-- Where nothing is to be kept nothing is wanted.
use Rattle.std.proofs.Common.{◌∷◌, refl, Bool, map, Some, Result, ◌≡◌, ℕ, List, [], ◌++◌, length, Ok, Err, sym, ap, subst, ◌∙◌, arith}
use Rattle.cm_types.specs.declared.core_value.CoreValue.{CoreValue}
use Rattle.cm_types.specs.Values.{Val}
use Rattle.cm_handles.specs.Handles.{Handles}
use Rattle.cm_layout.specs.Shapes.{LayoutTy}
use Rattle.cm_abi_model.specs.declared.encoding.StringEncoding.{StringEncoding}
use Rattle.cm_abi_model.specs.declared.fault.AbiFault.{AbiFault}
use Rattle.cm_abi_model.specs.Views.{Way, flat_limit}
use Rattle.cm_abi_load.specs.declared.stop.Stop.{Stop}
use Rattle.cm_abi_load.specs.declared.stop.Stop.TheVariants as stop
use Rattle.cm_abi_load.specs.Outcomes.{Outcome, State, Stops, mapped}
use Rattle.cm_abi_load.specs.Reading.{Source}
use Rattle.cm_abi_lift.specs.FlatReading.{read_passed}
use Rattle.cm_abi_lift.specs.Lifts.{fresh}
use Rattle.cm_abi_lift.specs.Keeping.{KeepsMore, WantsToKeep, count_kept}
use Rattle.cm_abi_model.specs.declared.record.PartRecord.{PartRecord}
use Rattle.cm_abi_lift.specs.FlatRecords.{passed_records}
use Rattle.cm_abi_copy.specs.Scans.{KeepsNothing, giver_of}
use Rattle.cm_abi_model.specs.CallPlaces.{call_places}
use Rattle.cm_types.specs.Types.{Fields}
use Rattle.cm_handles.specs.Handles.{handle_at}
use Rattle.cm_handles.specs.declared.handle.Handle.{Handle}
use Rattle.cm_layout.specs.declared.layouts.HandleType.{HandleType}
use Rattle.cm_layout.specs.declared.layouts.HandleType.TheVariants as handle_type
use Rattle.cm_layout.specs.Shapes.{layout_of_fields_at}
use Rattle.cm_abi_model.specs.Denotes.{Denotes}
use Rattle.cm_abi_model.specs.Receives.{leaves_in, owned_leaf, borrowed_leaf}
use Rattle.cm_abi_model.specs.Requests.{call_parts, tuple_of}
use Rattle.cm_abi_model.specs.Taken.{Met, Transferable}
use Rattle.cm_abi_model.specs.Views.{View}
use Rattle.cm_abi_load.specs.declared.progress.MetHandle.{MetHandle}
use Rattle.cm_abi_load.specs.Meeting.{AreAsWanted, met_as, met_index}
use Rattle.cm_abi_load.specs.Reading.{seen_by}
use Rattle.cm_abi_model.specs.Lifts.{Hands}
use Rattle.cm_abi_lift.specs.HandingOver.{handed}
use Rattle.cm_abi_copy.specs.MetLeaves.{leaf_at, leaves_found, leaves_met}
use Rattle.cm_abi_model.specs.Telling.{TellAll}
use Rattle.cm_abi_copy.proofs.ScanCallLemmas.{FoundLaw, MetLaw, TellsLaw, WantedLaw, WasRead}
use Rattle.cm_abi_lift.proofs.PassedLaws.{OnlyLaw}

abbrev answer : {A : Type 0} → A × State → Outcome A
answer x = Ok x

same_answer : {A : Type 0} (x y : A × State) → answer x ≡ answer y → x ≡ y
same_answer x y is = cc

-- with nothing kept before
none_more : (R : Val → List PartRecord) (r : Outcome Val) (v : Val) (after : State) → r ≡ Ok (v, after) → R v ≡ [] → after.handles ≡ [] → KeepsMore 0 (mapped R r) → ⊥
none_more R r v after is none met more =
    let kept : KeepsMore 0 (answer (R v, after)) = rw is at more in
    omega (arith, kept, ap length none, ap length met)

none_wanted : (w : Source) (target : StringEncoding) (limit : ℕ) (l : LayoutTy) (slots : List CoreValue) (old : List PartRecord) (start : State) → KeepsNothing w target limit l slots → old ≡ [] → start ≡ fresh
    → KeepsMore (count_kept old start) (mapped (λ v. old ++ passed_records w target limit l slots v) (read_passed w limit l slots start)) → ⊥
none_wanted w target limit l slots old start k none begins more =
    let one : KeepsMore (count_kept [] fresh) (mapped (λ v. [] ++ passed_records w target limit l slots v) (read_passed w limit l slots fresh)) =
    subst (λ s. KeepsMore (count_kept [] s) (mapped (λ v. [] ++ passed_records w target limit l slots v) (read_passed w limit l slots s))) begins
    (subst (λ rs. KeepsMore (count_kept rs start) (mapped (λ v. rs ++ passed_records w target limit l slots v) (read_passed w limit l slots start))) none more) in
    none_more (λ v. passed_records w target limit l slots v) (read_passed w limit l slots fresh) k.v k.after k.read k.parts k.handles one

pub none_wants : (w : Source) (target : StringEncoding) (limit : ℕ) (l : LayoutTy) (slots : List CoreValue) (old : List PartRecord) (start : State) (stopped : Stop) → KeepsNothing w target limit l slots → old ≡ [] → start ≡ fresh → stopped ≡ stop.Memory
    → WantsToKeep stopped (count_kept old start) (mapped (λ v. old ++ passed_records w target limit l slots v) (read_passed w limit l slots start)) → ⊥
none_wants w target limit l slots old start stopped k none begins is wants =
    none_wanted w target limit l slots old start k none begins (subst (λ e. WantsToKeep e (count_kept old start) (mapped (λ v. old ++ passed_records w target limit l slots v) (read_passed w limit l slots start))) is wants)

stops_none : (r : Outcome Val) (v : Val) (after behind : State) (R : Val → List PartRecord) (e : AbiFault) → r ≡ Ok (v, after) → mapped R r ≡ Err (e, behind) → ⊥
stops_none r v after behind R e is fails =
    let whole : answer (R v, after) ≡ Err (e, behind) = rw is at fails in
    absurd (cc)

pub none_stops : (w : Source) (target : StringEncoding) (limit : ℕ) (l : LayoutTy) (slots : List CoreValue) (old : List PartRecord) (start behind : State) (stopped : Stop) (e : AbiFault) → KeepsNothing w target limit l slots → start ≡ fresh → stopped ≡ stop.Fault e
    → Stops stopped behind (mapped (λ v. old ++ passed_records w target limit l slots v) (read_passed w limit l slots start)) → ⊥
none_stops w target limit l slots old start behind stopped e k begins is stops =
    let one : mapped (λ v. old ++ passed_records w target limit l slots v) (read_passed w limit l slots fresh) ≡ Err (e, behind) =
    subst (λ s. mapped (λ v. old ++ passed_records w target limit l slots v) (read_passed w limit l slots s) ≡ Err (e, behind)) begins
    (subst (λ x. Stops x behind (mapped (λ v. old ++ passed_records w target limit l slots v) (read_passed w limit l slots start))) is stops) in
    stops_none (read_passed w limit l slots fresh) k.v k.after behind (λ v. old ++ passed_records w target limit l slots v) e k.read one

-- what was read has no records and no handles
pub none_kept : (memory : List ℕ) (table : Handles) (encoding target : StringEncoding) (way : Way) (l : LayoutTy) (slots : List CoreValue) (now : List PartRecord) (after : State)
    → KeepsNothing (giver_of memory table encoding) target (flat_limit way) l slots → WasRead memory table encoding target way l slots now after → (now ≡ []) × (after.handles ≡ [])
none_kept memory table encoding target way l slots now after k r =
    let both : (k.v, k.after) ≡ (r.v, after) = same_answer (k.v, k.after) (r.v, after) (sym k.read ∙ r.read) in
    let value : k.v ≡ r.v = ap (λ (z : Val × State). z.0) both in
    let state : k.after ≡ after = ap (λ (z : Val × State). z.1) both in (
      r.records ∙ (ap (λ v. passed_records (giver_of memory table encoding) target (flat_limit way) l slots v) (sym value) ∙ k.parts),
      ap (λ (s : State). s.handles) (sym state) ∙ k.handles,
    )

-- ---- a value that is denoted

handed_value : (r : Outcome Val) (over : Result Hands AbiFault) (v : Val) (tags : List Bool) (h : Hands) → handed r over ≡ Ok (v, tags, h) → (after : State) × (r ≡ Ok (v, after))
handed_value r (Err e) v tags h is = absurd (cc)
handed_value (Err x) (Ok g) v tags h is = absurd (cc)
handed_value (Ok x) (Ok g) v tags h is =
    let same : (x.0, x.1.tags, g) ≡ (v, tags, h) = cc in
    (x.1, ap (λ z. answer (z, x.1)) (ap (λ (z : Val × List Bool × Hands). z.0) same))

none_told : (w : View) (target : StringEncoding) (rs : List PartRecord) (ms : List ℕ) → TellAll w target rs [] ms → rs ≡ []
none_told w target [] ms h = refl
none_told w target (r ∷ rs) ms h = absurd h

one_found : (table : Handles) (t : HandleType) (index : ℕ) (ms : List Met) (h : Handle) → handle_at table index ≡ Some h → leaves_met table (met_index t index ∷ ms) ≡ [] → ⊥
one_found table (handle_type.Own r) index ms h stands none =
    let some : leaf_at owned_leaf (Some h) ++ leaves_met table ms ≡ [] = subst (λ o. leaf_at owned_leaf o ++ leaves_met table ms ≡ []) stands none in
    absurd (cc)
one_found table (handle_type.Borrow r) index ms h stands none =
    let some : leaf_at borrowed_leaf (Some h) ++ leaves_met table ms ≡ [] = subst (λ o. leaf_at borrowed_leaf o ++ leaves_met table ms ≡ []) stands none in
    absurd (cc)

none_found : (table : Handles) (ms : List MetHandle) → AreAsWanted table ms → leaves_found table ms ≡ [] → ms ≡ []
none_found table [] wanted none = refl
none_found table (m ∷ ms) wanted none = absurd (one_found table m.wanted m.index (map met_as ms) wanted.0.entry wanted.0.stands none)

pub nothing_is_kept : OnlyLaw → TellsLaw → MetLaw → WantedLaw → FoundLaw → (w : View) (target : StringEncoding) (way : Way) (types : Fields) (slots : List CoreValue) (v : Val)
    → Denotes w way types slots v → Transferable w way types slots v → call_parts way types v ≡ [] → leaves_in (tuple_of types) v ≡ []
    → KeepsNothing (seen_by w) target (flat_limit way) (layout_of_fields_at types) slots
nothing_is_kept only tells meets wanted found w target way types slots v denoted can no_parts no_handles =
    let lifts = only w way types slots v denoted can in
    let was = handed_value (read_passed (seen_by w) (flat_limit way) (layout_of_fields_at types) slots fresh) _ v lifts.0 lifts.1 lifts.2 in
    let met_is = meets w way types slots fresh was.0 v was.1 in
    record {
      v = v;
      after = was.0;
      read = was.1;
      parts = none_told w target _ (call_places w way types slots v) (subst (λ ps. TellAll w target (passed_records (seen_by w) target (flat_limit way) (layout_of_fields_at types) slots v) ps (call_places w way types slots v)) no_parts (tells w target way types slots v denoted));
      handles = none_found w.table was.0.handles (wanted w way types slots v fresh was.0 refl met_is) (found w way types slots v fresh was.0 denoted refl met_is ∙ no_handles);
    }

-- What is scanned is what is lifted.
use Rattle.std.proofs.Common.{◌≡◌, ℕ, ◌^◌, ◌<◌, ◌≤◌, Bool, true, false, List, [], ◌∷◌, ◌++◌, Ok, Err, refl, sym, ap, subst, ◌∙◌, arith}
use Rattle.std.specs.Prelude.{◌+◌, ◌-◌, ◌↔◌, if◌then◌else◌}
use Rattle.cm_types.specs.declared.core_value.CoreValue.{CoreValue}
use Rattle.cm_types.specs.Types.{Fields}
use Rattle.cm_types.specs.Values.{Val}
use Rattle.cm_handles.specs.Handles.{Handles}
use Rattle.cm_layout.specs.Shapes.{LayoutTy, layout_of_fields_at}
use Rattle.cm_layout.specs.Sizes.{align_of, size_of}
use Rattle.cm_abi_model.specs.declared.encoding.StringEncoding.{StringEncoding}
use Rattle.cm_abi_model.specs.declared.encoding.StringEncoding.TheVariants.{Latin1OrUtf16}
use Rattle.cm_abi_model.specs.declared.fault.AbiFault.{AbiFault}
use Rattle.cm_abi_model.specs.Denotes.{Denotes}
use Rattle.cm_abi_model.specs.LiftStops.{LiftStops}
use Rattle.cm_abi_model.specs.Parts.{Part, element_part, parts_in}
use Rattle.cm_abi_model.specs.Requests.{call_parts, is_spilled, tuple_of}
use Rattle.cm_abi_model.specs.Taken.{MAX_CONTENT, content_of, met, tags_of}
use Rattle.cm_abi_model.specs.Views.{View, Way, flat_limit}
use Rattle.cm_abi_load.specs.declared.progress.MetHandle.{MetHandle}
use Rattle.cm_abi_load.specs.declared.stop.Stop.{Stop}
use Rattle.cm_abi_load.specs.declared.stop.Stop.TheVariants as stop
use Rattle.cm_abi_load.specs.Outcomes.{Outcome, State, Stops, mapped}
use Rattle.cm_abi_load.specs.Reading.{Source, seen_by}
use Rattle.cm_abi_lift.specs.FlatReading.{read_passed}
use Rattle.cm_abi_model.specs.Lifts.{Hands}
use Rattle.cm_abi_lift.specs.HandingOver.{hand_over, handed, lifted, untouched}
use Rattle.cm_abi_model.specs.Lifts.{IsGivenBy, Lifts}
use Rattle.cm_abi_lift.specs.Lifts.{fresh, lift_of}
use Rattle.cm_abi_model.specs.declared.record.PartRecord.{PartRecord}
use Rattle.cm_abi_requests.specs.Asking.{content_of_parts}
use Rattle.cm_abi_model.specs.RecordRequests.{AreAskable, IsAskable, IsCounted, requests_for}
use Rattle.cm_abi_model.specs.RecordRequests as records
use Rattle.cm_abi_model.specs.declared.record.PartKind.{PartKind}
use Rattle.cm_abi_model.specs.declared.record.PartKind.TheVariants as kind
use Rattle.cm_abi_model.specs.Telling.{TellAll, Tells, TellsSource}
use Rattle.cm_abi_model.specs.CallPlaces.{call_places}
use Rattle.cm_abi_lift.specs.FlatRecords.{passed_records}
use Rattle.cm_abi_model.specs.Answered.{IsAnswered, Requesting, unanswered}
use Rattle.cm_abi_model.specs.Scanned.{Scanned, ScansCall, scanned_with}
use Rattle.cm_abi_copy.specs.Scans.{IsKept, KeepsNothing, giver_of}
use Rattle.cm_abi_load.specs.Meeting.{AreAsWanted, Meets}
use Rattle.cm_abi_model.specs.Receives.{HandleLeaf, leaves_in}
use Rattle.cm_abi_copy.specs.MetLeaves.{leaves_found}
use Rattle.cm_abi_model.proofs.AnsweringLaws.{none_placed}
use Rattle.cm_abi_lift.proofs.PassedLaws.{same_lift}

same_records : (w : View) (target : StringEncoding) (memory : List ℕ) (table : Handles) (encoding : StringEncoding) (limit : ℕ) (l k : LayoutTy) (slots : List CoreValue) (v : Val) → IsGivenBy w memory table encoding → l ≡ k
    → passed_records (giver_of memory table encoding) target limit l slots v ≡ passed_records (seen_by w) target limit k slots v
same_records w target memory table encoding limit l k slots v is same =
    ap (λ m. passed_records (giver_of m table encoding) target limit l slots v) (sym is.memory_is)
    ∙ (ap (λ t. passed_records (giver_of w.memory t encoding) target limit l slots v) (sym is.table_is)
    ∙ (ap (λ e. passed_records (giver_of w.memory w.table e) target limit l slots v) (sym is.encoding_is) ∙ ap (λ x. passed_records (seen_by w) target limit x slots v) same))

-- what the laws promise
abbrev pub LiftsLaw : Type 0
LiftsLaw = (w : View) (way : Way) (types : Fields) (slots : List CoreValue) (v : Val) (tags : List Bool) (h : Hands)
    → lift_of w.memory w.table w.encoding way (layout_of_fields_at types) slots ≡ Ok (v, tags, h) → Lifts w way types slots v tags h

abbrev pub TellsLaw : Type 0
TellsLaw = (w : View) (target : StringEncoding) (way : Way) (types : Fields) (slots : List CoreValue) (v : Val) → Denotes w way types slots v
    → TellAll w target (passed_records (seen_by w) target (flat_limit way) (layout_of_fields_at types) slots v) (call_parts way types v) (call_places w way types slots v)

abbrev pub TagsLaw : Type 0
TagsLaw = (w : View) (target : StringEncoding) (way : Way) (types : Fields) (slots : List CoreValue) (v : Val) → w.encoding ≡ Latin1OrUtf16 → Denotes w way types slots v
    → records.tags_of (passed_records (seen_by w) target (flat_limit way) (layout_of_fields_at types) slots v) ≡ tags_of (met w way types slots v)

same_read : (w : View) (memory : List ℕ) (table : Handles) (encoding : StringEncoding) (limit : ℕ) (l k : LayoutTy) (slots : List CoreValue) (s : State) → IsGivenBy w memory table encoding → l ≡ k
    → read_passed (giver_of memory table encoding) limit l slots s ≡ read_passed (seen_by w) limit k slots s
same_read w memory table encoding limit l k slots s is same =
    ap (λ m. read_passed (giver_of m table encoding) limit l slots s) (sym is.memory_is)
    ∙ (ap (λ t. read_passed (giver_of w.memory t encoding) limit l slots s) (sym is.table_is)
    ∙ (ap (λ e. read_passed (giver_of w.memory w.table e) limit l slots s) (sym is.encoding_is) ∙ ap (λ x. read_passed (seen_by w) limit x slots s) same))

pub none_answered : (records : List PartRecord) (source target : StringEncoding) → IsAnswered (unanswered records source target) []
none_answered records source target =
    record { few = omega arith; count = refl; places = sym (none_placed (requests_for source target records)); last = refl }

abbrev pub MetLaw : Type 0
MetLaw = (w : View) (way : Way) (types : Fields) (slots : List CoreValue) (s after : State) (v : Val)
    → read_passed (seen_by w) (flat_limit way) (layout_of_fields_at types) slots s ≡ Ok (v, after) → Meets w.table s after (met w way types slots v)

pub scans_given : LiftsLaw → MetLaw → TellsLaw → TagsLaw → (w : View) (target : StringEncoding) (memory : List ℕ) (table after : Handles) (encoding : StringEncoding) (way : Way) (l : LayoutTy) (types : Fields) (slots : List CoreValue) (v : Val) (tags : List Bool) (s : Scanned)
    → IsGivenBy w memory table encoding → l ≡ layout_of_fields_at types → lift_of memory table encoding way l slots ≡ Ok (v, tags, scanned_with after s)
    → IsKept (giver_of memory table encoding) target (flat_limit way) l slots v s
    → ScansCall w target way types slots v after s
scans_given lifts meets tells tags_law w target memory table after encoding way l types slots v tags s is same e keeps =
    let lifted = lifts w way types slots v tags (scanned_with after s) (sym (same_lift w memory table encoding way l (layout_of_fields_at types) slots is same) ∙ e) in
    let kept = ap (λ (p : Requesting). p.records) keeps.parts in
    let records_are = kept ∙ same_records w target memory table encoding (flat_limit way) l (layout_of_fields_at types) slots v is same in
    let read = sym (same_read w memory table encoding (flat_limit way) l (layout_of_fields_at types) slots fresh is same) ∙ keeps.read in
    let counted = (meets w way types slots fresh keeps.after v read).counted in
    let left = keeps.content in
    record {
      lifts = (tags, lifted);
      tells = subst (λ rs. TellAll w target rs (call_parts way types v) (call_places w way types slots v)) (sym records_are) (tells w target way types slots v lifted.denoted);
      tagged = λ latin1. ap records.tags_of records_are ∙ tags_law w target way types slots v latin1 lifted.denoted;
      unanswered = subst (λ p. IsAnswered p []) (sym keeps.parts) (none_answered (passed_records (giver_of memory table encoding) target (flat_limit way) l slots v) encoding target);
      source = ap (λ (p : Requesting). p.source) keeps.parts ∙ sym is.encoding_is;
      goes_to = ap (λ (p : Requesting). p.target) keeps.parts;
      handles = keeps.handles types same;
      content = omega (arith, counted, left);
      not_given = keeps.not_given;
    }

-- nothing is kept of a view where nothing is kept of what it is a view of
pub nothing_given : (w : View) (target : StringEncoding) (memory : List ℕ) (table : Handles) (encoding : StringEncoding) (way : Way) (l k : LayoutTy) (slots : List CoreValue) → IsGivenBy w memory table encoding → l ≡ k
    → KeepsNothing (seen_by w) target (flat_limit way) k slots → KeepsNothing (giver_of memory table encoding) target (flat_limit way) l slots
nothing_given w target memory table encoding way l k slots is same kept =
    subst (λ m. KeepsNothing (giver_of m table encoding) target (flat_limit way) l slots) is.memory_is
    (subst (λ t. KeepsNothing (giver_of w.memory t encoding) target (flat_limit way) l slots) is.table_is
    (subst (λ e. KeepsNothing (giver_of w.memory w.table e) target (flat_limit way) l slots) is.encoding_is
    (subst (λ x. KeepsNothing (seen_by w) target (flat_limit way) x slots) (sym same) kept)))

abbrev pub StopsLaw : Type 0
StopsLaw = (w : View) (way : Way) (types : Fields) (slots : List CoreValue) (f : AbiFault)
    → lift_of w.memory w.table w.encoding way (layout_of_fields_at types) slots ≡ Err f ↔ LiftStops w way types slots f

pub stops_given : StopsLaw → (w : View) (memory : List ℕ) (table : Handles) (encoding : StringEncoding) (way : Way) (l : LayoutTy) (types : Fields) (slots : List CoreValue) (f : AbiFault)
    → IsGivenBy w memory table encoding → l ≡ layout_of_fields_at types → lift_of memory table encoding way l slots ≡ Err f → LiftStops w way types slots f
stops_given law w memory table encoding way l types slots f is same e =
    (law w way types slots f).0 (sym (same_lift w memory table encoding way l (layout_of_fields_at types) slots is same) ∙ e)

-- ---- what is scanned can be asked for

abbrev pub ContentLaw : Type 0
ContentLaw = (w : View) (way : Way) (types : Fields) (slots : List CoreValue) (v : Val) → Denotes w way types slots v
    → content_of_parts w.encoding (tags_of (met w way types slots v)) (parts_in (tuple_of types) v) ≡ content_of (met w way types slots v)

abbrev pub SmallLaw : Type 0
SmallLaw = (w : View) (target : StringEncoding) (rs : List PartRecord) (parts : List Part) (places : List ℕ) (tags : List Bool) → TellAll w target rs parts places
    → content_of_parts w.encoding tags parts ≤ MAX_CONTENT → AreAskable rs

elements_counted : (w : View) (r : PartRecord) (k : PartKind) (count size align : ℕ) → TellsSource w r k (element_part count size align) → IsCounted k r.count
elements_counted w r kind.Elements count size align told = tt
elements_counted w r (kind.Text tag) count size align told = absurd told

tuple_askable : (w : View) (target : StringEncoding) (r : PartRecord) (size align at : ℕ) → size < 2 ^ 32 → Tells w target r (element_part 1 size align) at → IsAskable r
tuple_askable w target r size align at lt told =
    let is = told.size in
    record { counted = elements_counted w r r.kind 1 size align told.source; small = omega (arith, is, lt); aligned = told.aligned }

by_way : SmallLaw → (w : View) (target : StringEncoding) (rs : List PartRecord) (types : Fields) (v : Val) (tags : List Bool) (places : List ℕ) (b : Bool) → size_of (tuple_of types) < 2 ^ 32
    → content_of_parts w.encoding tags (parts_in (tuple_of types) v) ≤ MAX_CONTENT
    → TellAll w target rs (if b then element_part 1 (size_of (tuple_of types)) (align_of (tuple_of types)) ∷ parts_in (tuple_of types) v else parts_in (tuple_of types) v) places
    → AreAskable rs
by_way law w target rs types v tags places false lt small told = law w target rs (parts_in (tuple_of types) v) places tags told small
by_way law w target [] types v tags [] true lt small told = absurd told
by_way law w target [] types v tags (at ∷ places) true lt small told = absurd told
by_way law w target (r ∷ rs) types v tags [] true lt small told = absurd told
by_way law w target (r ∷ rs) types v tags (at ∷ places) true lt small told =
    (tuple_askable w target r (size_of (tuple_of types)) (align_of (tuple_of types)) at lt told.0, law w target rs (parts_in (tuple_of types) v) places tags told.1 small)

kept_value : {A B : Type 0} (f : A → B) (r : Outcome A) (y : B) (s : State) → mapped f r ≡ Ok (y, s) → (x : A) × (r ≡ Ok (x, s)) × (f x ≡ y)
kept_value f (Ok x) y s e =
    let same : (f x.0, x.1) ≡ (y, s) = cc in
    (x.0, ap (λ z. Ok (x.0, z)) (ap (λ (z : _ × State). z.1) same), ap (λ (z : _ × State). z.0) same)
kept_value f (Err z) y s e = absurd (cc)

-- a view of what is read from
abbrev view_of : List ℕ → Handles → StringEncoding → View
view_of memory table encoding = record { memory = memory; table = table; instance = 0; encoding = encoding; call = 0 }

abbrev pub ReadLaw : Type 0
ReadLaw = (w : View) (way : Way) (types : Fields) (slots : List CoreValue) (s after : State) (v : Val)
    → read_passed (seen_by w) (flat_limit way) (layout_of_fields_at types) slots s ≡ Ok (v, after) → Denotes w way types slots v

abbrev pub WantedLaw : Type 0
WantedLaw = (w : View) (way : Way) (types : Fields) (slots : List CoreValue) (v : Val) (before after : State) → before.handles ≡ []
    → Meets w.table before after (met w way types slots v) → AreAsWanted w.table after.handles

abbrev pub FoundLaw : Type 0
FoundLaw = (w : View) (way : Way) (types : Fields) (slots : List CoreValue) (v : Val) (before after : State) → Denotes w way types slots v → before.handles ≡ []
    → Meets w.table before after (met w way types slots v) → leaves_found w.table after.handles ≡ leaves_in (tuple_of types) v

-- a value was read to its end, and its records are kept
pub record WasRead (memory : List ℕ) (table : Handles) (encoding target : StringEncoding) (way : Way) (l : LayoutTy) (slots : List CoreValue) (now : List PartRecord) (after : State) : Type 0 where
  pub v : Val
  pub read : read_passed (giver_of memory table encoding) (flat_limit way) l slots fresh ≡ Ok (v, after)
  pub records : now ≡ passed_records (giver_of memory table encoding) target (flat_limit way) l slots v

pub was_read : (memory : List ℕ) (table : Handles) (encoding target : StringEncoding) (way : Way) (l : LayoutTy) (slots : List CoreValue) (old now : List PartRecord) (start after : State)
    → old ≡ [] → start ≡ fresh
    → mapped (λ v. old ++ passed_records (giver_of memory table encoding) target (flat_limit way) l slots v) (read_passed (giver_of memory table encoding) (flat_limit way) l slots start) ≡ Ok (now, after)
    → WasRead memory table encoding target way l slots now after
was_read memory table encoding target way l slots old now start after none begins e =
    let g = giver_of memory table encoding in
    let kept : mapped (λ v. passed_records g target (flat_limit way) l slots v) (read_passed g (flat_limit way) l slots fresh) ≡ Ok (now, after) =
    ap (λ s. mapped (λ v. passed_records g target (flat_limit way) l slots v) (read_passed g (flat_limit way) l slots s)) (sym begins)
    ∙ (ap (λ rs. mapped (λ v. rs ++ passed_records g target (flat_limit way) l slots v) (read_passed g (flat_limit way) l slots start)) (sym none) ∙ e) in
    let one = kept_value (λ v. passed_records g target (flat_limit way) l slots v) (read_passed g (flat_limit way) l slots fresh) now after kept in
    record { v = one.0; read = one.1; records = sym one.2 }

module _ (memory : List ℕ) (table : Handles) (encoding target : StringEncoding) (way : Way) (l : LayoutTy) (types : Fields) (slots : List CoreValue) (now : List PartRecord) (after : State)
    (same : l ≡ layout_of_fields_at types) (r : WasRead memory table encoding target way l slots now after) where
  by_type : read_passed (giver_of memory table encoding) (flat_limit way) (layout_of_fields_at types) slots fresh ≡ Ok (r.v, after)
  by_type = ap (λ x. read_passed (giver_of memory table encoding) (flat_limit way) x slots fresh) (sym same) ∙ r.read

  is_denoted : ReadLaw → Denotes (view_of memory table encoding) way types slots r.v
  is_denoted law = law (view_of memory table encoding) way types slots fresh after r.v by_type

  is_met : MetLaw → Meets table fresh after (met (view_of memory table encoding) way types slots r.v)
  is_met law = law (view_of memory table encoding) way types slots fresh after r.v by_type

  -- what is left and what is met are all
  pub read_counted : MetLaw → (MAX_CONTENT - after.left) + after.left ≡ MAX_CONTENT
  read_counted meets = let counted = (is_met meets).counted in omega (arith, counted)

  -- its handles are as wanted
  pub read_wanted : MetLaw → WantedLaw → (ms : List MetHandle) → ms ≡ after.handles → AreAsWanted table ms
  read_wanted meets law ms is =
      subst (λ hs. AreAsWanted table hs) (sym is) (law (view_of memory table encoding) way types slots r.v fresh after refl (is_met meets))

  -- its handles are those of the value
  pub read_leaves : ReadLaw → MetLaw → FoundLaw → (ms : List MetHandle) (leaves : List HandleLeaf) → ms ≡ after.handles → leaves ≡ leaves_found table ms → leaves ≡ leaves_in (tuple_of types) r.v
  read_leaves denotes meets law ms leaves is found =
      found ∙ (ap (leaves_found table) is ∙ law (view_of memory table encoding) way types slots r.v fresh after (is_denoted denotes) refl (is_met meets))

  -- it can be asked for
  pub read_askable : ReadLaw → MetLaw → TellsLaw → ContentLaw → SmallLaw → l.head.size < 2 ^ 32 → AreAskable now
  read_askable denotes meets tells content law small =
      let w = view_of memory table encoding in
      let lt : size_of (tuple_of types) < 2 ^ 32 = subst (λ (x : LayoutTy). x.head.size < 2 ^ 32) same small in
      let counted = content w way types slots r.v (is_denoted denotes) in
      let left = (is_met meets).counted in
      let records_are : now ≡ passed_records (seen_by w) target (flat_limit way) (layout_of_fields_at types) slots r.v =
      r.records ∙ ap (λ x. passed_records (giver_of memory table encoding) target (flat_limit way) x slots r.v) same in
      let told = subst (λ rs. TellAll w target rs (call_parts way types r.v) (call_places w way types slots r.v)) (sym records_are) (tells w target way types slots r.v (is_denoted denotes)) in
      by_way law w target now types r.v (tags_of (met w way types slots r.v)) (call_places w way types slots r.v) (is_spilled way types) lt (omega (arith, counted, left)) told

-- what was read, and what its handles come to, is what lifting comes to
pub read_lifts : (memory : List ℕ) (table : Handles) (encoding target : StringEncoding) (way : Way) (l : LayoutTy) (slots : List CoreValue) (now : List PartRecord) (after : State) (r : WasRead memory table encoding target way l slots now after)
    (ms : List MetHandle) (h : Hands) → ms ≡ after.handles → hand_over (untouched table) ms ≡ Ok h → lift_of memory table encoding way l slots ≡ Ok (r.v, after.tags, h)
read_lifts memory table encoding target way l slots now after r ms h met_is hands =
    let over : hand_over (untouched table) after.handles ≡ Ok h = ap (hand_over (untouched table)) (sym met_is) ∙ hands in
    ap (lifted table) r.read ∙ ap (handed (Ok (r.v, after))) over

-- ---- of the code's

fault_same : {A B : Type 0} (f : A → B) (r : Outcome A) (e : AbiFault) (s : State) → mapped f r ≡ Err (e, s) → r ≡ Err (e, s)
fault_same f (Ok x) e s is = absurd (cc)
fault_same f (Err z) e s is = cc

pub starts_fresh : (hs : List MetHandle) (ts : List Bool) → hs ≡ [] → ts ≡ [] → record { left = MAX_CONTENT; handles = hs; tags = ts } ≡ fresh
starts_fresh hs ts none no_tags = ap (λ xs. record { left = MAX_CONTENT; handles = xs; tags = ts }) none ∙ ap (λ xs. record { left = MAX_CONTENT; handles = []; tags = xs }) no_tags

pub scan_stops : (w : Source) (target : StringEncoding) (table : Handles) (limit : ℕ) (l : LayoutTy) (slots : List CoreValue) (old : List PartRecord) (start after : State) (met_in : List MetHandle) (stopped : Stop) (e first : AbiFault) → start ≡ fresh → stopped ≡ stop.Fault e
    → Stops stopped after (mapped (λ v. old ++ passed_records w target limit l slots v) (read_passed w limit l slots start))
    → met_in ≡ after.handles → ((s : State) → handed (Err (e, s)) (hand_over (untouched table) met_in) ≡ Err first)
    → lifted table (read_passed w limit l slots fresh) ≡ Err first
scan_stops w target table limit l slots old start after met_in stopped_at e first begins fault_is told met_is handed_first =
    let is : mapped (λ v. old ++ passed_records w target limit l slots v) (read_passed w limit l slots start) ≡ Err (e, after) = subst (λ x. Stops x after (mapped (λ v. old ++ passed_records w target limit l slots v) (read_passed w limit l slots start))) fault_is told in
    let stopped : read_passed w limit l slots fresh ≡ Err (e, after) = ap (read_passed w limit l slots) (sym begins) ∙ fault_same (λ v. old ++ passed_records w target limit l slots v) (read_passed w limit l slots start) e after is in
    ap (lifted table) stopped ∙ (ap (λ ms. handed (Err (e, after)) (hand_over (untouched table) ms)) (sym met_is) ∙ handed_first after)

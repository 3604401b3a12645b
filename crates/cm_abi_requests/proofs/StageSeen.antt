-- What the code keeps of requests, and the answers that it stands for.
use Rattle.std.proofs.Common.{◌≡◌, ℕ, zero, suc, ◌+◌, ◌<◌, ◌≤◌, true, false, List, [], ◌∷◌, ◌++◌, length, take, drop, Option, Some, None, refl, sym, ap, subst, ◌∙◌, arith, append-nil, length-append}
use Rattle.std.specs.Prelude.{slice_get, IsSome}
use Rattle.std.specs.Option.{option_map}
use Rattle.cm_abi_model.specs.declared.encoding.StringEncoding.{StringEncoding}
use Rattle.cm_abi_model.specs.declared.record.PartRecord.{PartRecord}
use Rattle.cm_abi_model.specs.declared.request.Request.{Request}
use Rattle.cm_abi_model.specs.Answered.{IsAllAnswered, IsAnswered, Requesting, all_requests, next_of, with_last, with_old}
use Rattle.cm_abi_model.specs.Answering.{begins_part, places_of}
use Rattle.cm_abi_model.specs.RecordRequests.{AreAskable, IsAskable, first_request, kind_sizes, record_requests, requests_for}
use Rattle.cm_abi_model.specs.Requests.{chain, growths}
use Rattle.cm_abi_requests.specs.Stages.{AreSizesOfFirst, IsAtStage, IsStage}
use Rattle.cm_abi_requests.proofs.StageLaws.{IsSplit, Stage, asked_by, chain_length, chain_place, kept_last, kept_more, kind_few, next_aligned, next_is, next_none, places_both, requests_both, seen_as, stage_begins, stage_there}

-- ---- lists

pub take_drop : {X : Type 0} (n : ℕ) (xs : List X) → take n xs ++ drop n xs ≡ xs
take_drop zero xs = refl
take_drop (suc n) [] = refl
take_drop (suc n) (x ∷ xs) = ap (λ ys. x ∷ ys) (take_drop n xs)

length_taken : {X : Type 0} (n : ℕ) (xs : List X) → n ≤ length xs → length (take n xs) ≡ n
length_taken zero xs le = refl
length_taken (suc n) [] le = absurd (omega (arith, le))
length_taken (suc n) (x ∷ xs) le = ap suc (length_taken n xs (omega (arith, le)))

length_left : {X : Type 0} (n : ℕ) (xs : List X) → n ≤ length xs → n + length (drop n xs) ≡ length xs
length_left zero xs le = omega arith
length_left (suc n) [] le = absurd (omega (arith, le))
length_left (suc n) (x ∷ xs) le = let rest = length_left n xs (omega (arith, le)) in omega (arith, rest)

taken_front : {X : Type 0} (xs ys : List X) → take (length xs) (xs ++ ys) ≡ xs
taken_front [] ys = refl
taken_front (x ∷ xs) ys = ap (λ zs. x ∷ zs) (taken_front xs ys)

dropped_front : {X : Type 0} (xs ys : List X) → drop (length xs) (xs ++ ys) ≡ ys
dropped_front [] ys = refl
dropped_front (x ∷ xs) ys = dropped_front xs ys

first_left : {X : Type 0} (n : ℕ) (xs : List X) → slice_get (drop n xs) 0 ≡ slice_get xs n
first_left zero xs = refl
first_left (suc n) [] = refl
first_left (suc n) (x ∷ xs) = first_left n xs

-- ---- requests of which some are answered

partial_growths : (q : Request) (align old a : ℕ) (sizes bs : List ℕ) (more : List Request) → length bs < length sizes → places_of (q ∷ (growths align old sizes ++ more)) (a ∷ bs) ≡ []
partial_growths q align old a [] bs more lt = absurd (omega (arith, lt))
partial_growths q align old a (size ∷ sizes) [] more lt = refl
partial_growths q align old a (size ∷ sizes) (b ∷ bs) more lt =
    partial_growths (record { chained = true; old_size = old; align = align; size = size }) align size b sizes bs more (omega (arith, lt))

partial_chain : (align : ℕ) (sizes bs : List ℕ) (more : List Request) → length bs < length sizes → places_of (chain align sizes ++ more) bs ≡ []
partial_chain align [] bs more lt = absurd (omega (arith, lt))
partial_chain align (size ∷ sizes) [] more lt = refl
partial_chain align (size ∷ sizes) (b ∷ bs) more lt =
    partial_growths (record { chained = false; old_size = 0; align = align; size = size }) align size b sizes bs more (omega (arith, lt))

none_placed : (source target : StringEncoding) (rest : List PartRecord) (stage : ℕ) (begun : List ℕ) → IsStage source target rest stage → length begun ≡ stage → places_of (requests_for source target rest) begun ≡ []
none_placed source target [] stage begun within is = refl
none_placed source target (r ∷ rs) stage begun within is =
    let long = chain_length r.align (kind_sizes source target r.kind r.count r.size) in
    partial_chain r.align (kind_sizes source target r.kind r.count r.size) begun (requests_for source target rs) (omega (arith, within, is, long))

chain_first : (align : ℕ) (sizes : List ℕ) (more : List Request) → 0 < length sizes → begins_part (chain align sizes ++ more) ≡ true
chain_first align [] more some = absurd (omega (arith, some))
chain_first align (size ∷ sizes) more some = refl

rest_begins : (source target : StringEncoding) (rest : List PartRecord) → begins_part (requests_for source target rest) ≡ true
rest_begins source target [] = refl
rest_begins source target (r ∷ rs) = chain_first r.align (kind_sizes source target r.kind r.count r.size) (requests_for source target rs) (kind_few source target r.kind r.count r.size).0

stage_most : (source target : StringEncoding) (rest : List PartRecord) (stage : ℕ) → IsStage source target rest stage → stage ≤ length (requests_for source target rest)
stage_most source target [] stage within = omega (arith, within)
stage_most source target (r ∷ rs) stage within = omega (arith, within, length-append (record_requests source target r) (requests_for source target rs))

-- ---- the answers

module _ (s : Stage) (sizes : List ℕ) (room space : ℕ) (at : IsAtStage s.records s.source s.target (length s.places) s.stage sizes room space) where
  -- answers are those of the parts that are done, and those of the next one
  pub split_of : (answers : List ℕ) → IsAnswered (seen_as s) answers → IsSplit s answers
  split_of answers h =
      let n = length s.places in
      let done = take n s.records in
      let rest = drop n s.records in
      let m = length (requests_for s.source s.target done) in
      let parts : s.records ≡ done ++ rest = sym (take_drop n s.records) in
      let count : m + s.stage ≡ length answers = h.count in
      let le : m ≤ length answers = omega (arith, count) in
      let whole = take m answers in
      let begun = drop m answers in
      let given : answers ≡ whole ++ begun = sym (take_drop m answers) in
      let counted : length whole ≡ m = length_taken m answers le in
      let left = length_left m answers le in
      let begun_is : length begun ≡ s.stage = omega (arith, left, count) in
      let few : n ≤ length s.records = at.few in
      record {
        done = done;
        rest = rest;
        parts = parts;
        whole = whole;
        begun = begun;
        given = given;
        counted = counted;
        placed = h.places
            ∙ (ap (λ rs. places_of (requests_for s.source s.target rs) answers) parts
            ∙ (ap (λ qs. places_of qs answers) (requests_both s.source s.target done rest)
            ∙ (ap (places_of (requests_for s.source s.target done ++ requests_for s.source s.target rest)) given
            ∙ (places_both (requests_for s.source s.target done) (requests_for s.source s.target rest) whole begun (rest_begins s.source s.target rest) counted
            ∙ (ap (λ xs. places_of (requests_for s.source s.target done) whole ++ xs) (none_placed s.source s.target rest s.stage begun at.within begun_is)
            ∙ append-nil (places_of (requests_for s.source s.target done) whole))))));
        as_many = sym (length_taken n s.records few);
        stage = begun_is;
        within = at.within;
        last = h.last;
      }

-- and back
pub joined_of : (s : Stage) (answers : List ℕ) → IsSplit s answers → IsAnswered (seen_as s) answers
joined_of s answers h =
    let all : requests_for s.source s.target s.records ≡ requests_for s.source s.target h.done ++ requests_for s.source s.target h.rest =
    ap (requests_for s.source s.target) h.parts ∙ requests_both s.source s.target h.done h.rest in
    let taken : take (length s.places) s.records ≡ h.done =
    ap (λ n. take n s.records) h.as_many ∙ (ap (take (length h.done)) h.parts ∙ taken_front h.done h.rest) in
    let long : length answers ≡ length h.whole + length h.begun = ap length h.given ∙ length-append h.whole h.begun in
    let most = stage_most s.source s.target h.rest s.stage h.within in
    let counted = h.counted in
    let begun = h.stage in
    record {
      few = omega (arith, long, most, counted, begun, ap length all, length-append (requests_for s.source s.target h.done) (requests_for s.source s.target h.rest));
      count = ap (λ rs. length (requests_for s.source s.target rs) + s.stage) taken ∙ omega (arith, counted, begun, long);
      places = sym (ap (λ qs. places_of qs answers) all
          ∙ (ap (places_of (requests_for s.source s.target h.done ++ requests_for s.source s.target h.rest)) h.given
          ∙ (places_both (requests_for s.source s.target h.done) (requests_for s.source s.target h.rest) h.whole h.begun (rest_begins s.source s.target h.rest) h.counted
          ∙ (ap (λ xs. places_of (requests_for s.source s.target h.done) h.whole ++ xs) (none_placed s.source s.target h.rest s.stage h.begun h.within h.stage)
          ∙ (append-nil (places_of (requests_for s.source s.target h.done) h.whole) ∙ sym h.placed)))));
      last = h.last;
    }

-- ---- the next request

askable_left : (rs : List PartRecord) (k : ℕ) (r : PartRecord) → AreAskable rs → slice_get rs k ≡ Some r → IsAskable r
askable_left [] k r all is = absurd (cc)
askable_left (q ∷ rs) zero r all is = let same : q ≡ r = cc in subst IsAskable same all.0
askable_left (q ∷ rs) (suc k) r all is = askable_left rs k r all.1 is

pub next_askable : (records : List PartRecord) (k : ℕ) (r : PartRecord) → AreAskable records → slice_get records k ≡ Some r → IsAskable r
next_askable = askable_left

sizes_first : (source target : StringEncoding) (rest : List PartRecord) (sizes : List ℕ) (r : PartRecord) → AreSizesOfFirst source target rest sizes → slice_get rest 0 ≡ Some r → sizes ≡ kind_sizes source target r.kind r.count r.size
sizes_first source target [] sizes r are is = absurd (cc)
sizes_first source target (q ∷ rs) sizes r are is = let same : q ≡ r = cc in subst (λ x. sizes ≡ kind_sizes source target x.kind x.count x.size) same are

pub sizes_there : (source target : StringEncoding) (rs : List PartRecord) (k : ℕ) (r : PartRecord) (sizes : List ℕ) → slice_get rs k ≡ Some r → sizes ≡ kind_sizes source target r.kind r.count r.size → AreSizesOfFirst source target (drop k rs) sizes
sizes_there source target [] k r sizes is are = absurd (cc)
sizes_there source target (q ∷ rs) zero r sizes is are = let same : r ≡ q = cc in subst (λ x. sizes ≡ kind_sizes source target x.kind x.count x.size) same are
sizes_there source target (q ∷ rs) (suc k) r sizes is are = sizes_there source target rs k r sizes is are

pub sizes_past : (source target : StringEncoding) (rs : List PartRecord) (k : ℕ) (sizes : List ℕ) → slice_get rs k ≡ None → AreSizesOfFirst source target (drop k rs) sizes
sizes_past source target [] zero sizes is = tt
sizes_past source target [] (suc k) sizes is = tt
sizes_past source target (q ∷ rs) zero sizes is = absurd (cc)
sizes_past source target (q ∷ rs) (suc k) sizes is = sizes_past source target rs k sizes is

module _ (s : Stage) (sizes : List ℕ) (room space : ℕ) (at : IsAtStage s.records s.source s.target (length s.places) s.stage sizes room space) where
  sizes_of : (r : PartRecord) → slice_get s.records (length s.places) ≡ Some r → sizes ≡ kind_sizes s.source s.target r.kind r.count r.size
  sizes_of r is = sizes_first s.source s.target (drop (length s.places) s.records) sizes r at.next (first_left (length s.places) s.records ∙ is)

  -- by the sizes at hand it is the next one
  pub next_seen : (answers : List ℕ) (r : PartRecord) → IsAnswered (seen_as s) answers → slice_get s.records (length s.places) ≡ Some r
      → option_map (with_last s.last) (slice_get (chain r.align sizes) s.stage) ≡ next_of (asked_by s) answers
  next_seen answers r h is =
      ap (λ xs. option_map (with_last s.last) (slice_get (chain r.align xs) s.stage)) (sizes_of r is)
      ∙ next_is s answers r (split_of s sizes room space at answers h) is

  pub none_seen : (answers : List ℕ) → IsAnswered (seen_as s) answers → slice_get s.records (length s.places) ≡ None → next_of (asked_by s) answers ≡ None
  none_seen answers h is = next_none s answers (split_of s sizes room space at answers h) is

  -- there is one at the stage
  pub never_past : (answers : List ℕ) (r : PartRecord) → IsAnswered (seen_as s) answers → slice_get s.records (length s.places) ≡ Some r → slice_get (chain r.align sizes) s.stage ≡ None → ⊥
  never_past answers r h is none =
      stage_there s answers r (split_of s sizes room space at answers h) is (ap (λ xs. slice_get (chain r.align xs) s.stage) (sym (sizes_of r is)) ∙ none)

  pub seen_aligned : (r : PartRecord) (q : Request) → slice_get s.records (length s.places) ≡ Some r → slice_get (chain r.align sizes) s.stage ≡ Some q → 0 < q.align
  seen_aligned r q is there =
      next_aligned s.source s.target r s.stage q (askable_left s.records (length s.places) r at.askable is) (ap (λ xs. slice_get (chain r.align xs) s.stage) (sym (sizes_of r is)) ∙ there)

  -- where there is a next request there is a next part
  pub part_there : (answers : List ℕ) → IsAnswered (seen_as s) answers → IsSome (next_of (asked_by s) answers) → (r : PartRecord) × (slice_get s.records (length s.places) ≡ Some r)
  part_there answers h some = by (slice_get s.records (length s.places)) refl
    where
      gone : IsSome {T = Request × ℕ} None → ⊥
      gone h = cc

      by : (o : Option PartRecord) → slice_get s.records (length s.places) ≡ o → (r : PartRecord) × (slice_get s.records (length s.places) ≡ Some r)
      by None is = absurd (gone (subst IsSome (none_seen answers h is) some))
      by (Some r) is = (r, is)

  long_sizes : (r : PartRecord) → slice_get s.records (length s.places) ≡ Some r → length (record_requests s.source s.target r) ≡ length sizes
  long_sizes r is = chain_length r.align (kind_sizes s.source s.target r.kind r.count r.size) ∙ ap length (sym (sizes_of r is))

  -- ---- one more answer

  pub more_kept : (a : ℕ) (answers : List ℕ) (r : PartRecord) → slice_get s.records (length s.places) ≡ Some r → IsAnswered (seen_as s) answers → s.stage + 1 < length sizes
      → IsAnswered (seen_as (record s { stage = s.stage + 1; last = a })) (answers ++ a ∷ [])
  more_kept a answers r is h lt =
      joined_of (record s { stage = s.stage + 1; last = a }) (answers ++ a ∷ [])
      (kept_more s answers a (s.stage + 1) r (split_of s sizes room space at answers h) is refl (let long = long_sizes r is in omega (arith, long, lt)))

  pub last_kept : (a : ℕ) (answers places : List ℕ) (r : PartRecord) → slice_get s.records (length s.places) ≡ Some r → IsAnswered (seen_as s) answers → (s.stage + 1 < length sizes → ⊥) → places ≡ s.places ++ a ∷ []
      → IsAnswered (seen_as (record s { places = places; stage = 0; last = a })) (answers ++ a ∷ [])
  last_kept a answers places r is h not pushed =
      joined_of (record s { places = places; stage = 0; last = a }) (answers ++ a ∷ [])
      (kept_last s answers a r places (split_of s sizes room space at answers h) is (let long = long_sizes r is in omega (arith, long, not)) pushed)

  stage_up : (r : PartRecord) → slice_get s.records (length s.places) ≡ Some r → s.stage + 1 < length sizes → IsStage s.source s.target (drop (length s.places) s.records) (s.stage + 1)
  stage_up r is lt = up (drop (length s.places) s.records) (first_left (length s.places) s.records ∙ is)
    where
      up : (rest : List PartRecord) → slice_get rest 0 ≡ Some r → IsStage s.source s.target rest (s.stage + 1)
      up [] first = absurd (cc)
      up (q ∷ rs) first =
          let same : r ≡ q = cc in
          let long = long_sizes r is in
          subst (λ x. s.stage + 1 < length (record_requests s.source s.target x)) same (omega (arith, long, lt))

  pub more_at : (r : PartRecord) → slice_get s.records (length s.places) ≡ Some r → s.stage + 1 < length sizes → IsAtStage s.records s.source s.target (length s.places) (s.stage + 1) sizes room space
  more_at r is lt = record { askable = at.askable; few = at.few; within = stage_up r is lt; next = at.next; room = at.room; space = at.space }

-- ---- a part of one size

module _ (s : Stage) (size room space : ℕ) (at : IsAtStage s.records s.source s.target (length s.places) s.stage (size ∷ []) room space) where
  -- the next request is the first one for it
  pub one_next : (answers : List ℕ) (r : PartRecord) → IsAnswered (seen_as s) answers → slice_get s.records (length s.places) ≡ Some r
      → next_of (asked_by s) answers ≡ Some (first_request r.align size, 0)
  one_next answers r h is = by s.stage refl
    where
      by : (n : ℕ) → s.stage ≡ n → next_of (asked_by s) answers ≡ Some (first_request r.align size, 0)
      by zero e =
          sym (next_seen s (size ∷ []) room space at answers r h is)
          ∙ ap (λ n. option_map (with_last s.last) (slice_get (chain r.align (size ∷ [])) n)) e
      by (suc k) e = absurd (never_past s (size ∷ []) room space at answers r h is (ap (slice_get (chain r.align (size ∷ []))) e))

  pub one_aligned : (r : PartRecord) → slice_get s.records (length s.places) ≡ Some r → 0 < r.align
  one_aligned r is =
      next_aligned s.source s.target r 0 (first_request r.align size) (askable_left s.records (length s.places) r at.askable is)
      (ap (λ xs. slice_get (chain r.align xs) 0) (sym (sizes_of s (size ∷ []) room space at r is)))

-- a part more is done
pub part_done : (records : List PartRecord) (source target : StringEncoding) (done behind stage : ℕ) (sizes next : List ℕ) (room space full : ℕ) (r : PartRecord)
    → IsAtStage records source target done stage sizes room space → done < length records → behind ≡ done + 1 → AreSizesOfFirst source target (drop behind records) next → full ≡ room
    → IsAtStage records source target behind 0 next full space
part_done records source target done behind stage sizes next room space full r at lt is are same =
    let room_is = at.room in
    record {
      askable = at.askable;
      few = omega (arith, lt, is);
      within = stage_begins source target (drop behind records);
      next = are;
      room = omega (arith, room_is, same);
      space = at.space;
    }

-- parts that are asked for anew
pub anew : (records : List PartRecord) (source target : StringEncoding) (sizes : List ℕ) (room space : ℕ) → AreAskable records → AreSizesOfFirst source target records sizes → length records ≤ room → length records ≤ space
    → IsAtStage records source target 0 0 sizes room space
anew records source target sizes room space can are fits wide =
    record { askable = can; few = omega arith; within = stage_begins source target records; next = are; room = fits; space = wide }

-- ---- all answers

past_end : {X : Type 0} (xs : List X) (k : ℕ) → slice_get xs k ≡ None → length xs ≤ k
past_end [] k is = omega arith
past_end (x ∷ xs) zero is = absurd (cc)
past_end (x ∷ xs) (suc k) is = let rest = past_end xs k is in omega (arith, rest)

option_none : {X Y : Type 0} (f : X → Y) (o : Option X) → option_map f o ≡ None → o ≡ None
option_none f None is = refl
option_none f (Some x) is = absurd (cc)

pub all_counted : (p : Requesting) (answers : List ℕ) → IsAllAnswered p answers → length answers ≡ length (all_requests p)
all_counted p answers h =
    let past = past_end (all_requests p) (length answers) (option_none (with_old answers) (slice_get (all_requests p) (length answers)) h.1) in
    let few = h.0.few in
    omega (arith, past, few)

as_many : (source target : StringEncoding) (rs : List PartRecord) (answers : List ℕ) → length answers ≡ length (requests_for source target rs) → length (places_of (requests_for source target rs) answers) ≡ length rs
as_many source target [] answers is = refl
as_many source target (r ∷ rs) answers is =
    let of = record_requests source target r in
    let rest = requests_for source target rs in
    let m = length of in
    let all = length-append of rest in
    let le : m ≤ length answers = omega (arith, is, all) in
    let front = length_taken m answers le in
    let left = length_left m answers le in
    let back : length (drop m answers) ≡ length rest = omega (arith, left, is, all) in
    let few = kind_few source target r.kind r.count r.size in
    let long = chain_length r.align (kind_sizes source target r.kind r.count r.size) in
    ap (λ as'. length (places_of (of ++ rest) as')) (sym (take_drop m answers))
    ∙ (ap length (places_both of rest (take m answers) (drop m answers) (rest_begins source target rs) front)
    ∙ (ap (λ xs. length (xs ++ places_of rest (drop m answers))) (chain_place r.align (kind_sizes source target r.kind r.count r.size) (take m answers) few.0 (front ∙ long))
    ∙ ap suc (as_many source target rs (drop m answers) back)))

pub all_placed : (p : Requesting) (answers : List ℕ) → IsAllAnswered p answers → length p.places ≡ length p.records
all_placed p answers h = ap length h.0.places ∙ as_many p.source p.target p.records answers (all_counted p answers h)

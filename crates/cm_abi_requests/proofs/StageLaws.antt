-- Requests that are answered one after another, part by part.
use Rattle.std.proofs.Common.{◌≡◌, ℕ, Global, zero, suc, ◌+◌, ◌*◌, ◌<◌, ◌≤◌, Bool, true, false, List, [], ◌∷◌, ◌++◌, length, Option, Some, None, refl, sym, ap, subst, ◌∙◌, arith, append-nil, append_assoc, length-append, map}
use Rattle.std.specs.Prelude.{if◌then◌else◌, nat_lt, slice_get, vec_capacity, IsSome}
use Rattle.std.specs.Option.{option_map, IsSomeAnd}
use Rattle.std.proofs.lemmas.Option.{slice_get_within}
use Rattle.std.proofs.lemmas.List.{map-append}
use Rattle.cm_abi_model.specs.declared.encoding.StringEncoding.{StringEncoding}
use Rattle.cm_abi_model.specs.declared.request.Request.{Request}
use Rattle.cm_abi_model.specs.Requests.{chain, read_charset, growths, stored_charset, text_sizes}
use Rattle.cm_abi_model.specs.Texts.{Charset, utf8, utf16, latin1}
use Rattle.cm_abi_model.specs.Answering.{begins_part, places_of, regions_of}
use Rattle.cm_abi_model.specs.declared.region.Region.{Region}
use Rattle.cm_abi_model.specs.declared.record.PartKind.{PartKind}
use Rattle.cm_abi_model.specs.declared.record.PartKind.TheVariants as kind
use Rattle.cm_abi_model.specs.declared.record.PartRecord.{PartRecord}
use Rattle.cm_abi_model.specs.Answered.{IsAllAnswered, IsAnswered, Requesting, all_requests, last_answer, next_of, unanswered, with_last, with_old}
use Rattle.cm_abi_model.specs.RecordRequests.{AreAskable, IsAskable, kind_sizes, record_requests, requests_for}
use Rattle.cm_abi_requests.specs.Stages.{AreSizesOfFirst, IsAtStage, IsStage, answered_count, requesting_of}
use Rattle.cm_lemmas.proofs.Lists.{get_behind, get_left}
use Rattle.cm_abi_model.proofs.AnsweredLaws.{last_push}

-- how far the requests are answered
pub record Stage : Type 0 where
  pub records : List PartRecord
  pub source : StringEncoding
  pub target : StringEncoding
  pub places : List ℕ
  pub stage : ℕ
  pub last : ℕ

abbrev pub asked_by : Stage → List Request
asked_by s = requests_for s.source s.target s.records

abbrev pub seen_as : Stage → Requesting
seen_as s = requesting_of s.records s.source s.target s.places s.stage s.last

-- these answers are those of parts that have all of theirs, each with its place, then those to some
-- of the requests for one more
pub record IsSplit (s : Stage) (answers : List ℕ) : Type 0 where
  pub done : List PartRecord
  pub rest : List PartRecord
  pub parts : s.records ≡ done ++ rest
  pub whole : List ℕ
  pub begun : List ℕ
  pub given : answers ≡ whole ++ begun
  pub counted : length whole ≡ length (requests_for s.source s.target done)
  pub placed : s.places ≡ places_of (requests_for s.source s.target done) whole
  pub as_many : length s.places ≡ length done
  pub stage : length begun ≡ s.stage
  pub within : IsStage s.source s.target rest s.stage
  pub last : s.last ≡ last_answer answers

-- ---- how many requests a part has

-- sizes are one, two or three
abbrev pub AreFew : List ℕ → Type 0
AreFew sizes = (0 < length sizes) × (length sizes ≤ 3)

shrunk_few : (size exact : ℕ) (b : Bool) → AreFew (if b then size ∷ exact ∷ [] else size ∷ [])
shrunk_few size exact true = (omega arith, omega arith)
shrunk_few size exact false = (omega arith, omega arith)

grown_few : (units most exact : ℕ) (a b : Bool) → AreFew (if a then units ∷ (if b then most ∷ exact ∷ [] else most ∷ []) else units ∷ [])
grown_few units most exact true true = (omega arith, omega arith)
grown_few units most exact true false = (omega arith, omega arith)
grown_few units most exact false b = (omega arith, omega arith)

one_few : (n : ℕ) → AreFew (n ∷ [])
one_few n = (omega arith, omega arith)

text_few : (s t : Charset) (units exact : ℕ) → AreFew (text_sizes s t units exact)
text_few utf8 utf8 units exact = one_few exact
text_few utf8 utf16 units exact = shrunk_few (2 * units) exact (nat_lt exact (2 * units))
text_few utf8 latin1 units exact = one_few exact
text_few utf16 utf8 units exact = grown_few units (3 * units) exact (nat_lt units exact) (nat_lt exact (3 * units))
text_few utf16 utf16 units exact = one_few exact
text_few utf16 latin1 units exact = one_few exact
text_few latin1 utf8 units exact = grown_few units (2 * units) exact (nat_lt units exact) (nat_lt exact (2 * units))
text_few latin1 utf16 units exact = one_few exact
text_few latin1 latin1 units exact = one_few exact

pub kind_few : (source target : StringEncoding) (k : PartKind) (count size : ℕ) → AreFew (kind_sizes source target k count size)
kind_few source target (kind.Text tag) count size = text_few (read_charset source tag) (stored_charset target) count size
kind_few source target kind.Elements count size = one_few size

growths_length : (align old : ℕ) (sizes : List ℕ) → length (growths align old sizes) ≡ length sizes
growths_length align old [] = refl
growths_length align old (size ∷ sizes) = ap suc (growths_length align size sizes)

pub chain_length : (align : ℕ) (sizes : List ℕ) → length (chain align sizes) ≡ length sizes
chain_length align [] = refl
chain_length align (size ∷ sizes) = ap suc (growths_length align size sizes)

pub record_few : (source target : StringEncoding) (r : PartRecord) → (0 < length (record_requests source target r)) × (length (record_requests source target r) ≤ 3)
record_few source target r =
    let few = kind_few source target r.kind r.count r.size in
    let same = chain_length r.align (kind_sizes source target r.kind r.count r.size) in
    (omega (arith, few.0, same), omega (arith, few.1, same))

pub stage_begins : (source target : StringEncoding) (rs : List PartRecord) → IsStage source target rs 0
stage_begins source target [] = refl
stage_begins source target (r ∷ rs) = (record_few source target r).0

-- ---- where parts stand

same_start : (rs qs : List Request) → begins_part qs ≡ true → begins_part (rs ++ qs) ≡ begins_part rs
same_start [] qs st = st
same_start (r ∷ rs) qs st = refl

abbrev put_if : Bool → Region → List Region → List Region
put_if b x xs = if b then x ∷ xs else xs

put_both : (b : Bool) (x : Region) (xs ys : List Region) → put_if b x (xs ++ ys) ≡ put_if b x xs ++ ys
put_both true x xs ys = refl
put_both false x xs ys = refl

regions_both : (rs qs : List Request) (as' bs : List ℕ) → begins_part qs ≡ true → length as' ≡ length rs → regions_of (rs ++ qs) (as' ++ bs) ≡ regions_of rs as' ++ regions_of qs bs
regions_both [] qs [] bs st len = refl
regions_both [] qs (a ∷ as') bs st len = absurd (omega (arith, len))
regions_both (r ∷ rs) qs [] bs st len = absurd (omega (arith, len))
regions_both (r ∷ rs) qs (a ∷ as') bs st len =
    let x : Region = record { at = a; size = r.size } in
    ap (λ b. put_if b x (regions_of (rs ++ qs) (as' ++ bs))) (same_start rs qs st)
    ∙ (ap (put_if (begins_part rs) x) (regions_both rs qs as' bs st (omega (arith, len)))
    ∙ put_both (begins_part rs) x (regions_of rs as') (regions_of qs bs))

abbrev at_of : Region → ℕ
at_of r = r.at

pub places_both : (rs qs : List Request) (as' bs : List ℕ) → begins_part qs ≡ true → length as' ≡ length rs → places_of (rs ++ qs) (as' ++ bs) ≡ places_of rs as' ++ places_of qs bs
places_both rs qs as' bs st len = ap (map at_of) (regions_both rs qs as' bs st len) ∙ map-append at_of (regions_of rs as') (regions_of qs bs)

growths_last : (r : Request) (align old a : ℕ) (sizes bs : List ℕ) → length bs ≡ length sizes → places_of (r ∷ growths align old sizes) (a ∷ bs) ≡ last_answer (a ∷ bs) ∷ []
growths_last r align old a [] [] len = refl
growths_last r align old a [] (b ∷ bs) len = absurd (omega (arith, len))
growths_last r align old a (size ∷ sizes) [] len = absurd (omega (arith, len))
growths_last r align old a (size ∷ sizes) (b ∷ bs) len = growths_last (record { chained = true; old_size = old; align = align; size = size }) align size b sizes bs (omega (arith, len))

pub chain_place : (align : ℕ) (sizes bs : List ℕ) → 0 < length sizes → length bs ≡ length sizes → places_of (chain align sizes) bs ≡ last_answer bs ∷ []
chain_place align [] bs some len = absurd (omega (arith, some))
chain_place align (size ∷ sizes) [] some len = absurd (omega (arith, len))
chain_place align (size ∷ sizes) (b ∷ bs) some len = growths_last (record { chained = false; old_size = 0; align = align; size = size }) align size b sizes bs (omega (arith, len))

chain_begins : (align : ℕ) (sizes : List ℕ) → 0 < length sizes → begins_part (chain align sizes) ≡ true
chain_begins align [] some = absurd (omega (arith, some))
chain_begins align (size ∷ sizes) some = refl

-- ---- requests for more parts

pub requests_both : (source target : StringEncoding) (rs qs : List PartRecord) → requests_for source target (rs ++ qs) ≡ requests_for source target rs ++ requests_for source target qs
requests_both source target [] qs = refl
requests_both source target (r ∷ rs) qs =
    ap (λ xs. record_requests source target r ++ xs) (requests_both source target rs qs)
    ∙ sym (append_assoc (record_requests source target r) (requests_for source target rs) (requests_for source target qs))

requests_more : (source target : StringEncoding) (rs : List PartRecord) (r : PartRecord) → requests_for source target (rs ++ r ∷ []) ≡ requests_for source target rs ++ record_requests source target r
requests_more source target rs r =
    requests_both source target rs (r ∷ []) ∙ ap (λ xs. requests_for source target rs ++ xs) (append-nil (record_requests source target r))

-- the record of the next part
pub next_record : (s : Stage) (answers : List ℕ) (h : IsSplit s answers) → slice_get s.records (length s.places) ≡ slice_get h.rest 0
next_record s answers h =
    let here : length s.places ≡ length h.done + 0 = omega (arith, h.as_many) in
    ap (λ xs. slice_get xs (length s.places)) h.parts ∙ (ap (slice_get (h.done ++ h.rest)) here ∙ get_behind h.done h.rest 0)

asked_in : (source target : StringEncoding) (done rest : List PartRecord) (whole begun : List ℕ) (stage : ℕ) → length whole ≡ length (requests_for source target done) → length begun ≡ stage
    → slice_get (requests_for source target (done ++ rest)) (length (whole ++ begun)) ≡ slice_get (requests_for source target rest) stage
asked_in source target done rest whole begun stage counted is =
    let here : length (whole ++ begun) ≡ length (requests_for source target done) + stage = omega (arith, counted, is, length-append whole begun) in
    ap (slice_get (requests_for source target (done ++ rest))) here
    ∙ (ap (λ xs. slice_get xs (length (requests_for source target done) + stage)) (requests_both source target done rest)
    ∙ get_behind (requests_for source target done) (requests_for source target rest) stage)

asked : (s : Stage) (answers : List ℕ) (h : IsSplit s answers) → slice_get (asked_by s) (length answers) ≡ slice_get (requests_for s.source s.target h.rest) s.stage
asked s answers h =
    ap (λ xs. slice_get (requests_for s.source s.target xs) (length answers)) h.parts
    ∙ (ap (λ as'. slice_get (requests_for s.source s.target (h.done ++ h.rest)) (length as')) h.given
    ∙ asked_in s.source s.target h.done h.rest h.whole h.begun s.stage h.counted h.stage)

none_there : (source target : StringEncoding) (rest : List PartRecord) (stage : ℕ) → slice_get rest 0 ≡ None → slice_get (requests_for source target rest) stage ≡ None
none_there source target [] stage is = refl
none_there source target (r ∷ rs) stage is = absurd (cc)

some_there : (source target : StringEncoding) (rest : List PartRecord) (stage : ℕ) (r : PartRecord) → slice_get rest 0 ≡ Some r → IsStage source target rest stage
    → slice_get (requests_for source target rest) stage ≡ slice_get (record_requests source target r) stage
some_there source target [] stage r is within = absurd (cc)
some_there source target (q ∷ rs) stage r is within =
    let same : q ≡ r = cc in
    get_left (record_requests source target q) (requests_for source target rs) stage within ∙ ap (λ x. slice_get (record_requests source target x) stage) same

-- behind the last part there is no request
pub next_none : (s : Stage) (answers : List ℕ) → IsSplit s answers → slice_get s.records (length s.places) ≡ None → next_of (asked_by s) answers ≡ None
next_none s answers h is =
    ap (option_map (with_old answers)) (asked s answers h ∙ none_there s.source s.target h.rest s.stage (sym (next_record s answers h) ∙ is))

-- else it is one for the next part
pub next_some : (s : Stage) (answers : List ℕ) (r : PartRecord) → IsSplit s answers → slice_get s.records (length s.places) ≡ Some r
    → next_of (asked_by s) answers ≡ option_map (with_old answers) (slice_get (record_requests s.source s.target r) s.stage)
next_some s answers r h is =
    ap (option_map (with_old answers)) (asked s answers h ∙ some_there s.source s.target h.rest s.stage r (sym (next_record s answers h) ∙ is) h.within)

stage_of : (source target : StringEncoding) (rest : List PartRecord) (stage : ℕ) (r : PartRecord) → slice_get rest 0 ≡ Some r → IsStage source target rest stage → stage < length (record_requests source target r)
stage_of source target [] stage r is within = absurd (cc)
stage_of source target (q ∷ rs) stage r is within = let same : q ≡ r = cc in subst (λ x. stage < length (record_requests source target x)) same within

-- the stage is one of the part's
pub stage_within : (s : Stage) (answers : List ℕ) (r : PartRecord) → IsSplit s answers → slice_get s.records (length s.places) ≡ Some r
    → s.stage < length (record_requests s.source s.target r)
stage_within s answers r h is = stage_of s.source s.target h.rest s.stage r (sym (next_record s answers h) ∙ is) h.within

pub stage_small : (s : Stage) (answers : List ℕ) (r : PartRecord) → IsSplit s answers → slice_get s.records (length s.places) ≡ Some r → s.stage < 3
stage_small s answers r h is =
    let lt = stage_within s answers r h is in
    let few = (record_few s.source s.target r).1 in
    omega (arith, lt, few)

-- ---- one more answer

stage_up : (source target : StringEncoding) (rest : List PartRecord) (n : ℕ) (r : PartRecord) → slice_get rest 0 ≡ Some r → n < length (record_requests source target r) → IsStage source target rest n
stage_up source target [] n r is lt = absurd (cc)
stage_up source target (q ∷ rs) n r is lt = let same : r ≡ q = cc in subst (λ x. n < length (record_requests source target x)) same lt

-- more requests for the part are to be answered
pub kept_more : (s : Stage) (answers : List ℕ) (a n : ℕ) (r : PartRecord) → IsSplit s answers → slice_get s.records (length s.places) ≡ Some r
    → n ≡ s.stage + 1 → n < length (record_requests s.source s.target r) → IsSplit (record s { stage = n; last = a }) (answers ++ a ∷ [])
kept_more s answers a n r h is next lt =
    record {
      done = h.done;
      rest = h.rest;
      parts = h.parts;
      whole = h.whole;
      begun = h.begun ++ a ∷ [];
      given = ap (λ xs. xs ++ a ∷ []) h.given ∙ append_assoc h.whole h.begun (a ∷ []);
      counted = h.counted;
      placed = h.placed;
      as_many = h.as_many;
      stage = let is = h.stage in omega (arith, is, next, length-append h.begun (a ∷ []));
      within = stage_up s.source s.target h.rest n r (sym (next_record s answers h) ∙ is) lt;
      last = sym (last_push answers a);
    }

record Behind (rest : List PartRecord) (r : PartRecord) : Type 0 where
  pub others : List PartRecord
  pub are : rest ≡ r ∷ others

behind_first : (rest : List PartRecord) (r : PartRecord) → slice_get rest 0 ≡ Some r → Behind rest r
behind_first [] r is = absurd (cc)
behind_first (q ∷ rs) r is = let same : q ≡ r = cc in record { others = rs; are = ap (λ x. x ∷ rs) same }

-- the part has all its answers
pub kept_last : (s : Stage) (answers : List ℕ) (a : ℕ) (r : PartRecord) (places : List ℕ) → IsSplit s answers → slice_get s.records (length s.places) ≡ Some r
    → length (record_requests s.source s.target r) ≤ s.stage + 1 → places ≡ s.places ++ a ∷ []
    → IsSplit (record s { places = places; stage = 0; last = a }) (answers ++ a ∷ [])
kept_last s answers a r places h is past pushed =
    let of = record_requests s.source s.target r in
    let lt = stage_within s answers r h is in
    let rest = behind_first h.rest r (sym (next_record s answers h) ∙ is) in
    let begun = h.begun ++ a ∷ [] in
    let begun_is = h.stage in
    let more : length begun ≡ length of = omega (arith, begun_is, past, lt, length-append h.begun (a ∷ [])) in
    let requests_are = requests_more s.source s.target h.done r in
    let whole_is = h.counted in
    let many = h.as_many in
    record {
      done = h.done ++ r ∷ [];
      rest = rest.others;
      parts = h.parts ∙ (ap (λ xs. h.done ++ xs) rest.are ∙ sym (append_assoc h.done (r ∷ []) rest.others));
      whole = h.whole ++ begun;
      begun = [];
      given = ap (λ xs. xs ++ a ∷ []) h.given ∙ (append_assoc h.whole h.begun (a ∷ []) ∙ sym (append-nil (h.whole ++ begun)));
      counted =
          let both : length (h.whole ++ begun) ≡ length (requests_for s.source s.target h.done ++ of) = omega (arith, more, whole_is, length-append h.whole begun, length-append (requests_for s.source s.target h.done) of) in
          both ∙ ap length (sym requests_are);
      placed = pushed ∙ (ap (λ xs. xs ++ a ∷ []) h.placed
          ∙ sym (ap (λ xs. places_of xs (h.whole ++ begun)) requests_are
          ∙ (places_both (requests_for s.source s.target h.done) of h.whole begun (chain_begins r.align (kind_sizes s.source s.target r.kind r.count r.size) (kind_few s.source s.target r.kind r.count r.size).0) h.counted
          ∙ ap (λ xs. places_of (requests_for s.source s.target h.done) h.whole ++ xs)
          (chain_place r.align (kind_sizes s.source s.target r.kind r.count r.size) begun (kind_few s.source s.target r.kind r.count r.size).0 (more ∙ chain_length r.align (kind_sizes s.source s.target r.kind r.count r.size))
          ∙ ap (λ x. x ∷ []) (last_push h.begun a)))));
      as_many = ap length pushed ∙ omega (arith, many, length-append s.places (a ∷ []), length-append h.done (r ∷ []));
      stage = refl;
      within = stage_begins s.source s.target rest.others;
      last = sym (last_push answers a);
    }

-- ---- all answers

past_end : {X : Type 0} (xs : List X) (k : ℕ) → slice_get xs k ≡ None → length xs ≤ k
past_end [] k is = omega arith
past_end (x ∷ xs) zero is = absurd (cc)
past_end (x ∷ xs) (suc k) is = let rest = past_end xs k is in omega (arith, rest)

-- ---- the next request

growths_align : (align old : ℕ) (sizes : List ℕ) (k : ℕ) (q : Request) → slice_get (growths align old sizes) k ≡ Some q → q.align ≡ align
growths_align align old [] k q is = absurd (cc)
growths_align align old (size ∷ sizes) zero q is = let same : record { chained = true; old_size = old; align = align; size = size } ≡ q = cc in ap (λ (x : Request). x.align) (sym same)
growths_align align old (size ∷ sizes) (suc k) q is = growths_align align size sizes k q is

chain_align : (align : ℕ) (sizes : List ℕ) (k : ℕ) (q : Request) → slice_get (chain align sizes) k ≡ Some q → q.align ≡ align
chain_align align [] k q is = absurd (cc)
chain_align align (size ∷ sizes) zero q is = let same : record { chained = false; old_size = 0; align = align; size = size } ≡ q = cc in ap (λ (x : Request). x.align) (sym same)
chain_align align (size ∷ sizes) (suc k) q is = growths_align align size sizes k q is

-- a request for a part that can be asked for has an alignment
pub next_aligned : (source target : StringEncoding) (r : PartRecord) (k : ℕ) (q : Request) → IsAskable r → slice_get (record_requests source target r) k ≡ Some q → 0 < q.align
next_aligned source target r k q can is = subst (λ n. 0 < n) (sym (chain_align r.align (kind_sizes source target r.kind r.count r.size) k q is)) can.aligned

pub next_is : (s : Stage) (answers : List ℕ) (r : PartRecord) → IsSplit s answers → slice_get s.records (length s.places) ≡ Some r
    → option_map (with_last s.last) (slice_get (record_requests s.source s.target r) s.stage) ≡ next_of (asked_by s) answers
next_is s answers r h is = ap (λ n. option_map (with_last n) (slice_get (record_requests s.source s.target r) s.stage)) h.last ∙ sym (next_some s answers r h is)

-- there is a request at the stage
pub stage_there : (s : Stage) (answers : List ℕ) (r : PartRecord) → IsSplit s answers → slice_get s.records (length s.places) ≡ Some r → slice_get (record_requests s.source s.target r) s.stage ≡ None → ⊥
stage_there s answers r h is none =
    let lt = stage_within s answers r h is in
    let past = past_end (record_requests s.source s.target r) s.stage none in
    omega (arith, lt, past)

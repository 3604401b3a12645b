-- The rooms that are told cover the regions of the parts of a value.
use Rattle.std.proofs.Common.{◌≡◌, ◌<◌, ◌≤◌, ◌+◌, ◌⊎◌, inl, inr, ℕ, suc, zero, Bool, true, false, List, [], ◌∷◌, ◌++◌}
use Rattle.std.proofs.Common.{length, Option, Some, None, refl, sym, ap, subst, ◌∙◌, arith, take, get_or}
use Rattle.std.specs.Prelude.{reverse, ⊤, if◌then◌else◌, nat_lt, not, slice_get, unwrap_or}
use Rattle.std.proofs.lemmas.Bool.{false≢true, ltb-true, true≢false}
use Rattle.std.proofs.lemmas.List.{length-append, length-take-le, reverse-append}
use Rattle.std.proofs.lemmas.Option.{none-some, same_Some, slice_get-get_or, slice_get_within}
use Rattle.std.proofs.Math.Seq.{take-length, take-suc}
use Rattle.cm_types.specs.declared.core_value.CoreValue.{CoreValue}
use Rattle.cm_abi_model.specs.Answered.{last_answer}
use Rattle.cm_abi_model.specs.Answering.{regions_of}
use Rattle.cm_abi_model.specs.Overlap.{IsInOne}
use Rattle.cm_abi_model.specs.Regions.{IsIn}
use Rattle.cm_abi_model.specs.declared.region.Region.{Region}
use Rattle.cm_abi_model.specs.declared.request.Request.{Request}
use Rattle.cm_live.specs.declared.goings_on.Asking.{Asking}
use Rattle.cm_machine.specs.cm_machine_laws.Doing.{BodyReturn, after_call, after_move, after_return, core_func_by_index, lowered_call}
use Rattle.cm_machine.specs.cm_machine_laws.Answers.{AnswersCall, AnswersReturn, IsAnswerTo}
use Rattle.cm_machine.specs.cm_machine_model.declared.event.Event.{Event}
use Rattle.cm_machine.specs.cm_machine_model.declared.moves.Move.{Move}
use Rattle.cm_machine.specs.cm_machine_model.declared.moves.Move.TheVariants as move
use Rattle.cm_machine.specs.cm_machine_model.Events.{is_last}
use Rattle.cm_machine.specs.cm_machine_model.State.{State}
use Rattle.cm_machine.specs.cm_machine_laws.Doing.{Asked, Doing, LoweredCall, below, body, destroys, handing, placing, root, tidying, with_answer}
use Rattle.cm_live.specs.Rooms.{asking_by, older, rooms_of}
use Rattle.cm_machine.specs.cm_machine_laws.Told.{AsksFor, answers_in, met_at_call, one_answer, realloc_values}
use Rattle.cm_machine.specs.cm_machine_laws.Told.{sent_requests}
use Rattle.cm_machine.specs.cm_machine_laws.Causes.{MayCall}
use Rattle.cm_live.specs.Rooms.{AllMayCall, AreAsked, IsAsking, asking_after_move, asking_by_event, rooms_after_move, rooms_answered, rooms_left}
use Rattle.cm_live.specs.Played.{calls_of}
use Rattle.cm_live.specs.Rooms.{rooms_told, told_by_return, with_place}
use Rattle.cm_live.specs.Told.{entered, result_of, told_by}
use Rattle.cm_machine.specs.cm_machine_model.declared.event.Event.TheVariants as event
use Rattle.std.specs.declared.alloc.Global.{Global}
use Rattle.std.specs.declared.vec.Vec.{Vec}
use Rattle.cm_machine.specs.cm_machine_laws.Answers.{Traps}
use Rattle.cm_machine.specs.cm_machine_laws.Asks.{AsksAt}
use Rattle.cm_machine.specs.cm_machine_laws.Entries.{Enters}
use Rattle.cm_machine.specs.cm_machine_laws.MemoryChanges.{ChangesAtEntry, HandsArgs}
use Rattle.cm_machine.specs.cm_machine_laws.Told.{WasSent, sender_view, sent_slots}
use Rattle.cm_machine.specs.cm_machine_model.Memories.{memory_at}
use Rattle.cm_abi_model.specs.Denotes.{Denotes}
use Rattle.cm_abi_model.specs.Views.{View, Way}
use Rattle.cm_types.specs.Types.{Fields}
use Rattle.std.specs.Prelude.{slice_index}
use Rattle.cm_types.specs.Values.{Val}
use Rattle.cm_types.specs.declared.core_value.CoreValue.TheVariants as core_value
use Rattle.cm_machine.specs.cm_machine_model.Plan.{CoreFunc, Plan, drops, guest, lowered, makes, represents, types_of}
use Rattle.cm_abi_model.specs.Views.{params}
use Rattle.cm_abi_model.specs.Taken.{tags_of}
use Rattle.cm_abi_model.specs.Parts.{Part}
use Rattle.cm_abi_model.specs.declared.encoding.StringEncoding.{StringEncoding}
use Rattle.cm_abi_model.specs.Requests.{call_parts, chain, first_tag, growths, part_align, part_requests}
use Rattle.cm_abi_model.specs.Requests.{part_sizes, read_charset, stored_charset, tags_behind}

-- ---- all regions but the last

abbrev init : List Region → List Region
init [] = []
init (x ∷ []) = []
init (x ∷ y ∷ xs) = x ∷ init (y ∷ xs)

init_more : (xs : List Region) (y : Region) → init (xs ++ y ∷ []) ≡ xs
init_more [] y = refl
init_more (x ∷ []) y = refl
init_more (x ∷ z ∷ xs) y = ap (λ (ys : List Region). x ∷ ys) (init_more (z ∷ xs) y)

in_init : (xs : List Region) (a : ℕ) → IsInOne (init xs) a → IsInOne xs a
in_init [] a h = h
in_init (x ∷ []) a h = absurd h
in_init (x ∷ y ∷ xs) a (inl h) = inl h
in_init (x ∷ y ∷ xs) a (inr h) = inr (in_init (y ∷ xs) a h)

in_more : (xs : List Region) (y : Region) (a : ℕ) → IsInOne (xs ++ y ∷ []) a
    → IsIn y.at y.size a ⊎ IsInOne xs a
in_more [] y a (inl h) = inl h
in_more [] y a (inr h) = absurd h
in_more (x ∷ xs) y a (inl h) = inr (inl h)
in_more (x ∷ xs) y a (inr h) = elim (in_more xs y a h) [ inl i ↦ inl i | inr i ↦ inr (inr i) ]

-- ---- the regions with one request more

abbrev Begins : List Region → Type 0
Begins xs = (z : Region) × (zs : List Region) × (xs ≡ z ∷ zs)

region_by : (k : Bool) (x : Region) (xs : List Region) → Begins xs
    → Begins (if not k then x ∷ xs else xs)
region_by true x xs b = b
region_by false x xs b = (x, xs, refl)

some_region : (front : List Request) (p : Request) (b : ℕ) (ats : List ℕ)
    → length ats ≡ length front → Begins (regions_of (p ∷ front) (b ∷ ats))
some_region [] p b [] e = (_, _, refl)
some_region [] p b (a ∷ ats) e = absurd (omega arith)
some_region (q ∷ front) p b [] e = absurd (omega arith)
some_region (q ∷ front) p b (a ∷ ats) e =
    region_by q.chained (record { at = b; size = p.size }) (regions_of (q ∷ front) (a ∷ ats))
    (some_region front q a ats (omega arith))

init_behind : (x : Region) (xs : List Region) → Begins xs → init (x ∷ xs) ≡ x ∷ init xs
init_behind x xs b =
    subst (λ (ys : List Region). init (x ∷ ys) ≡ x ∷ init ys) (sym b.2) refl

abbrev less : Bool → List Region → List Region
less c xs = if c then init xs else xs

none_less : (c : Bool) → less c [] ≡ []
none_less true = refl
none_less false = refl

one_less : (c : Bool) (x y : Region)
    → (if not c then x ∷ y ∷ [] else y ∷ []) ≡ less c (x ∷ []) ++ y ∷ []
one_less true x y = refl
one_less false x y = refl

more_less : (k c : Bool) (x y : Region) (xs all : List Region) → Begins xs
    → all ≡ less c xs ++ y ∷ []
    → (if not k then x ∷ all else all) ≡ less c (if not k then x ∷ xs else xs) ++ y ∷ []
more_less true c x y xs all b e = e
more_less false false x y xs all b e = ap (λ (ys : List Region). x ∷ ys) e
more_less false true x y xs all b e =
    ap (λ (ys : List Region). x ∷ ys) e
    ∙ ap (λ (ys : List Region). ys ++ y ∷ []) (sym (init_behind x xs b))

abbrev region_at : Request → ℕ → Region
region_at r at = record { at = at; size = r.size }

pub regions_more : (front : List Request) (ats : List ℕ) (r : Request) (at : ℕ)
    → length ats ≡ length front
    → regions_of (front ++ r ∷ []) (ats ++ at ∷ [])
    ≡ less r.chained (regions_of front ats) ++ region_at r at ∷ []
regions_more [] [] r at e =
    ap (λ (xs : List Region). xs ++ region_at r at ∷ []) (sym (none_less r.chained))
regions_more [] (a ∷ ats) r at e = absurd (omega arith)
regions_more (q ∷ front) [] r at e = absurd (omega arith)
regions_more (q ∷ []) (b ∷ []) r at e = one_less r.chained (region_at q b) (region_at r at)
regions_more (q ∷ []) (b ∷ a ∷ ats) r at e = absurd (omega arith)
regions_more (q ∷ p ∷ front) (b ∷ []) r at e = absurd (omega arith)
regions_more (q ∷ p ∷ front) (b ∷ a ∷ ats) r at e =
    more_less p.chained r.chained (region_at q b) (region_at r at)
    (regions_of (p ∷ front) (a ∷ ats))
    (regions_of (p ∷ front ++ r ∷ []) (a ∷ ats ++ at ∷ []))
    (some_region front p a ats (omega arith))
    (regions_more (p ∷ front) (a ∷ ats) r at (omega arith))

-- ---- cover

-- rooms, the latest first, have all addresses of regions, the last one last
pub record Cover (regions rooms : List Region) : Type 0 where
  pub all : (a : ℕ) → IsInOne regions a → IsInOne rooms a
  pub but_last : (a : ℕ) → IsInOne (init regions) a → IsInOne (older rooms) a

inner : (c h : Bool) (regions rooms : List Region) → (h ≡ true → c ≡ true)
    → Cover regions rooms → (a : ℕ) → IsInOne (less c regions) a
    → IsInOne (if h then older rooms else rooms) a
inner true true regions rooms i k a w = k.but_last a w
inner true false regions rooms i k a w = k.all a (in_init regions a w)
inner false true regions rooms i k a w = absurd (false≢true (i refl))
inner false false regions rooms i k a w = k.all a w

cover_more : (c h : Bool) (y : Region) (regions rooms : List Region) → (h ≡ true → c ≡ true)
    → Cover regions rooms
    → Cover (less c regions ++ y ∷ []) (y ∷ (if h then older rooms else rooms))
cover_more c h y regions rooms i k = record {
  all = λ a w. elim (in_more (less c regions) y a w)
      [ inl v ↦ inl v | inr v ↦ inr (inner c h regions rooms i k a v) ];
  but_last = λ a w. inner c h regions rooms i k a
      (subst (λ (xs : List Region). IsInOne xs a) (init_more (less c regions) y) w);
}

-- a request that has an old size goes on from the one before
abbrev pub AreChained : List Request → Type 0
AreChained rs = (n : ℕ) (r : Request) → slice_get rs n ≡ Some r → 0 < r.old_size
    → r.chained ≡ true

one_at_most : (o : Option ℕ) → length (one_answer o) ≤ 1
one_at_most None = omega arith
one_at_most (Some at) = omega arith

few_answers : (asked : List Asked) → length (answers_in asked) ≤ length asked
few_answers [] = omega arith
few_answers (a ∷ earlier) =
    omega (
      arith,
      few_answers earlier,
      length-append (answers_in earlier) (one_answer a.answer),
      one_at_most a.answer,
    )

slice_get_under : (rs : List Request) (n : ℕ) (r : Request) → slice_get rs n ≡ Some r
    → n ≤ length rs
slice_get_under rs n r e = let w = slice_get_within rs n r e in omega arith

item_at : (rs : List Request) (n : ℕ) (r : Request) → slice_get rs n ≡ Some r
    → take (suc n) rs ≡ take n rs ++ r ∷ []
item_at rs n r e =
    let w = slice_get_within rs n r e in
    let s : r ≡ get_or rs n r =
    same_Some r (get_or rs n r) (sym e ∙ slice_get-get_or rs n r w) in
    take-suc rs n r w ∙ ap (λ (x : Request). take n rs ++ x ∷ []) (sym s)

-- what was asked is a beginning of these requests, whatever the last answer before each
abbrev pub AsksLike : List Request → List Asked → Type 0
AsksLike rs [] = ⊤
AsksLike rs (a ∷ earlier) =
    AsksLike rs earlier
    × ((r : Request) × (last : ℕ) × (slice_get rs (length earlier) ≡ Some r)
    × (a.request ≡ realloc_values last r))

pub like_first : (rs : List Request) (asked : List Asked) → AsksFor rs [] asked
    → AsksLike rs asked
like_first rs [] h = tt
like_first rs (a ∷ earlier) h = (
  like_first rs earlier h.0,
  (
    h.1.0,
    last_answer ([] ++ answers_in earlier),
    subst (λ (n : ℕ). slice_get rs n ≡ Some h.1.0) (omega arith) h.1.1,
    h.1.2,
  ),
)

pub like_behind : (q : Request) (rs : List Request) (at : ℕ) (asked : List Asked)
    → AsksFor (q ∷ rs) (at ∷ []) asked → AsksLike rs asked
like_behind q rs at [] h = tt
like_behind q rs at (a ∷ earlier) h =
    let same : length (at ∷ []) + length earlier ≡ suc (length earlier) = omega arith in
    let there : slice_get (q ∷ rs) (suc (length earlier)) ≡ Some h.1.0 =
    subst (λ (n : ℕ). slice_get (q ∷ rs) n ≡ Some h.1.0) same h.1.1 in (
      like_behind q rs at earlier h.0,
      (h.1.0, last_answer (at ∷ [] ++ answers_in earlier), there, h.1.2),
    )

asked_within : (rs : List Request) (asked : List Asked) → AsksLike rs asked
    → length asked ≤ length rs
asked_within rs [] h = omega arith
asked_within rs (a ∷ earlier) h =
    let w = slice_get_within rs (length earlier) h.1.0 h.1.2 in omega (arith, w)

-- what allocators were asked for, all of it answered
abbrev AreAnswered : List Asked → Type 0
AreAnswered asked = length (answers_in asked) ≡ length asked

cover_one : (rs : List Request) (a : Asked) (earlier : List Asked) (r : Request) (last : ℕ)
    (o : Option ℕ) → AreChained rs → a.answer ≡ o
    → slice_get rs (length earlier) ≡ Some r → a.request ≡ realloc_values last r
    → length (answers_in earlier ++ one_answer o) ≡ suc (length earlier)
    → (AreAnswered earlier
    → Cover (regions_of (take (length earlier) rs) (answers_in earlier)) (rooms_of earlier))
    → Cover (regions_of (take (suc (length earlier)) rs) (answers_in earlier ++ one_answer o))
    (rooms_of (a ∷ earlier))
cover_one rs a earlier r last None ch is there asks all k =
    let f = few_answers earlier in
    absurd (omega (arith, length-append (answers_in earlier) [], f))
cover_one rs a earlier r last (Some at) ch is there asks all k =
    let n = length earlier in
    let full : AreAnswered earlier =
    omega (arith, length-append (answers_in earlier) (at ∷ []), few_answers earlier) in
    let asking : asking_by a.request ≡ record { size = r.size; hands_back = nat_lt 0 r.old_size } =
    ap asking_by asks in
    let back = (asking_by a.request).hands_back in
    let room : region_at r at
    ≡ record { at = unwrap_or a.answer 0; size = (asking_by a.request).size } =
    sym (ap (λ (x : ℕ). record { at = x; size = (asking_by a.request).size })
    (ap (λ (p : Option ℕ). unwrap_or p 0) is)
    ∙ ap (λ (k : Asking). record { at = at; size = k.size }) asking) in
    let chained : back ≡ true → r.chained ≡ true =
    λ h. ch n r there
    (ltb-true 0 r.old_size (sym (ap (λ (k : Asking). k.hands_back) asking) ∙ h)) in
    let taken : length (answers_in earlier) ≡ length (take n rs) =
    full ∙ sym (length-take-le n rs (slice_get_under rs n r there)) in
    let more : regions_of (take (suc n) rs) (answers_in earlier ++ at ∷ [])
    ≡ less r.chained (regions_of (take n rs) (answers_in earlier)) ++ region_at r at ∷ [] =
    ap (λ (xs : List Request). regions_of xs (answers_in earlier ++ at ∷ [])) (item_at rs n r there)
    ∙ regions_more (take n rs) (answers_in earlier) r at taken in
    let c =
    cover_more r.chained back (region_at r at) (regions_of (take n rs) (answers_in earlier))
    (rooms_of earlier) chained (k full) in
    subst (λ (xs : List Region). Cover xs (rooms_of (a ∷ earlier))) (sym more)
    (subst (λ (y : Region).
    Cover (less r.chained (regions_of (take n rs) (answers_in earlier)) ++ region_at r at ∷ [])
    (y ∷ (if back then older (rooms_of earlier) else rooms_of earlier)))
    room c)

covers : (rs : List Request) (asked : List Asked) → AreChained rs → AsksLike rs asked
    → AreAnswered asked
    → Cover (regions_of (take (length asked) rs) (answers_in asked)) (rooms_of asked)
covers rs [] ch h all = record { all = λ a w. absurd w; but_last = λ a w. absurd w }
covers rs (a ∷ earlier) ch h all =
    cover_one rs a earlier h.1.0 h.1.1 a.answer ch refl h.1.2 h.1.3 (all ∙ omega arith)
    (covers rs earlier ch h.0)

-- where all was asked and answered, no region is left out
pub cover_whole : (rs : List Request) (asked : List Asked) → AreChained rs → AsksLike rs asked
    → length (answers_in asked) ≡ length rs
    → (a : ℕ) → IsInOne (regions_of rs (answers_in asked)) a → IsInOne (rooms_of asked) a
cover_whole rs asked ch h all a i =
    let few = few_answers asked in
    let within = asked_within rs asked h in
    let long : length asked ≡ length rs = omega (arith, few, within, all) in
    let full : AreAnswered asked = all ∙ sym long in
    let whole : take (length asked) rs ≡ rs = ap (λ (n : ℕ). take n rs) long ∙ take-length rs in
    (covers rs asked ch h full).all a
    (subst (λ (ys : List Request). IsInOne (regions_of ys (answers_in asked)) a) (sym whole) i)

-- ---- requests

abbrev pub AllOld : List Request → Type 0
AllOld [] = ⊤
AllOld (r ∷ rs) = (0 < r.old_size → r.chained ≡ true) × AllOld rs

old_append : (rs qs : List Request) → AllOld rs → AllOld qs → AllOld (rs ++ qs)
old_append [] qs h k = k
old_append (r ∷ rs) qs h k = (h.0, old_append rs qs h.1 k)

old_growths : (align old : ℕ) (sizes : List ℕ) → AllOld (growths align old sizes)
old_growths align old [] = tt
old_growths align old (size ∷ sizes) = (λ _. refl, old_growths align size sizes)

old_chain : (align : ℕ) (sizes : List ℕ) → AllOld (chain align sizes)
old_chain align [] = tt
old_chain align (size ∷ sizes) = (λ p. absurd (omega arith), old_growths align size sizes)

pub old_parts : (source target : StringEncoding) (tags : List Bool) (parts : List Part)
    → AllOld (part_requests source target tags parts)
old_parts source target tags [] = tt
old_parts source target tags (part ∷ parts) =
    old_append
    (chain (part_align target part)
    (part_sizes (read_charset source (first_tag tags)) (stored_charset target) part))
    (part_requests source target (tags_behind part tags) parts)
    (old_chain (part_align target part)
    (part_sizes (read_charset source (first_tag tags)) (stored_charset target) part))
    (old_parts source target (tags_behind part tags) parts)

pub old_at : (rs : List Request) → AllOld rs → AreChained rs
old_at [] h n r e p = absurd (none-some r e)
old_at (x ∷ rs) h zero r e p =
    let s = same_Some x r e in
    subst (λ (y : Request). y.chained ≡ true) s (h.0 (subst (λ (y : Request). 0 < y.old_size) (sym s) p))
old_at (x ∷ rs) h (suc n) r e p = old_at rs h.1 n r e p

pub sent_chained : (x : LoweredCall) (v : Val) → AreChained (sent_requests x v)
sent_chained x v =
    old_at (sent_requests x v)
    (old_parts x.link.caller.encoding x.link.callee.encoding (tags_of (met_at_call x v))
    (call_parts params (types_of x.link params) v))

-- ---- what is asked, along moves

may_call_on : (ds : List Doing) → MayCall ds → AllMayCall (below ds) → AllMayCall ds
may_call_on [] m h = tt
may_call_on (root i ∷ ds) m h = (tt, h)
may_call_on (placing x asked ∷ ds) m h = absurd m
may_call_on (body x asked ∷ ds) m h = (tt, h)
may_call_on (handing x asked b more ∷ ds) m h = absurd m
may_call_on (tidying x asked b more ∷ ds) m h = absurd m
may_call_on (destroys dropper i ∷ ds) m h = (tt, h)

none_asked : (ds : List Doing) → AllMayCall ds → IsAsking ds None []
none_asked [] h = (refl, refl)
none_asked (root i ∷ ds) h = (refl, refl)
none_asked (placing x asked ∷ ds) h = absurd h.0
none_asked (body x asked ∷ ds) h = (refl, refl)
none_asked (handing x asked b more ∷ ds) h = absurd h.0
none_asked (tidying x asked b more ∷ ds) h = absurd h.0
none_asked (destroys dropper i ∷ ds) h = (refl, refl)

asked_none : (ds : List Doing) (asking : Option Asking) (rooms : List Region) → MayCall ds
    → IsAsking ds asking rooms → (asking ≡ None) × (rooms ≡ [])
asked_none [] asking rooms m h = h
asked_none (root i ∷ ds) asking rooms m h = h
asked_none (placing x asked ∷ ds) asking rooms m h = absurd m
asked_none (body x asked ∷ ds) asking rooms m h = h
asked_none (handing x asked b more ∷ ds) asking rooms m h = absurd m
asked_none (tidying x asked b more ∷ ds) asking rooms m h = absurd m
asked_none (destroys dropper i ∷ ds) asking rooms m h = h

-- the answer to the latest request, as it is kept
answer_kept : (values : List CoreValue) (a : Asked) (earlier : List Asked)
    → rooms_answered (Some (asking_by a.request)) values (rooms_of earlier)
    ≡ rooms_of (with_answer values (a ∷ earlier))
answer_kept [] a earlier = refl
answer_kept (core_value.I32 n ∷ cs) a earlier = refl
answer_kept (core_value.I64 n ∷ cs) a earlier = refl

pub kept_by_answer : (values : List CoreValue) (asked : List Asked) (asking : Option Asking)
    (rooms : List Region) → AreAsked asked asking rooms
    → rooms_answered asking values rooms ≡ rooms_of (with_answer values asked)
kept_by_answer values [] asking rooms h =
    ap (λ (k : Option Asking). rooms_answered k values rooms) h.0 ∙ h.1
kept_by_answer values (a ∷ earlier) asking rooms h =
    ap (λ (k : Option Asking). rooms_answered k values rooms) h.0
    ∙ ap (rooms_answered (Some (asking_by a.request)) values) h.1
    ∙ answer_kept values a earlier

-- ---- in any order

pub in_reverse : (xs : List Region) (a : ℕ) → IsInOne (reverse xs) a → IsInOne xs a
in_reverse [] a h = h
in_reverse (x ∷ xs) a h =
    elim (in_more (reverse xs) x a
    (subst (λ (ys : List Region). IsInOne ys a) (reverse-append (x ∷ []) xs) h))
    [ inl i ↦ inl i | inr i ↦ inr (in_reverse xs a i) ]

-- ---- calls

abbrev AsksCalled : State → ℕ → List CoreValue → Option CoreFunc → ℕ → List Doing → Option Asking
    → List Region → Event → Type 0
AsksCalled s i args f n ds asking rooms e =
    ((d : Doing) → after_call (lowered_call s (Some i) args f n) (Some i) e ds ≡ d ∷ ds
    → MayCall ds)
    → IsAsking (after_call (lowered_call s (Some i) args f n) (Some i) e ds)
    (asking_by_event e asking) rooms
    × AllMayCall (below (after_call (lowered_call s (Some i) args f n) (Some i) e ds))

asks_called : (s : State) (i : ℕ) (args : List CoreValue) (f : Option CoreFunc) (n : ℕ)
    (ds : List Doing) (asking : Option Asking) (rooms : List Region) (e : Event)
    → AnswersCall i f e → IsAsking ds asking rooms → AllMayCall (below ds)
    → AsksCalled s i args f n ds asking rooms e
asks_called s i args None n ds asking rooms e h k w = absurd h
asks_called s i args (Some guest) n ds asking rooms e h k w = absurd h
asks_called s i args (Some (lowered l)) n ds asking rooms e (inl r) k w =
    subst (AsksCalled s i args (Some (lowered l)) n ds asking rooms) (sym r.3)
    (λ may. ((refl, (asked_none ds asking rooms (may _ refl) k).1), may_call_on ds (may _ refl) w))
asks_called s i args (Some (lowered l)) n ds asking rooms e (inr r) k w =
    subst (AsksCalled s i args (Some (lowered l)) n ds asking rooms) (sym r.1)
    (λ may. (asked_none ds asking rooms (may _ refl) k, may_call_on ds (may _ refl) w))
asks_called s i args (Some (makes r)) n ds asking rooms e h k w =
    subst (AsksCalled s i args (Some (makes r)) n ds asking rooms) (sym h.1) (λ may. (k, w))
asks_called s i args (Some (drops r d)) n ds asking rooms e (inl h) k w =
    subst (AsksCalled s i args (Some (drops r d)) n ds asking rooms) (sym h) (λ may. (k, w))
asks_called s i args (Some (drops r d)) n ds asking rooms e (inr h) k w =
    subst (AsksCalled s i args (Some (drops r d)) n ds asking rooms) (sym h.3)
    (λ may. (asked_none ds asking rooms (may _ refl) k, may_call_on ds (may _ refl) w))
asks_called s i args (Some (represents r)) n ds asking rooms e h k w =
    subst (AsksCalled s i args (Some (represents r)) n ds asking rooms) (sym h.1)
    (λ may. (k, w))

-- ---- returns

may_below : (ds : List Doing) → AllMayCall ds → AllMayCall (below ds)
may_below [] h = tt
may_below (d ∷ ds) h = h.1

abbrev AsksReturned : BodyReturn → List CoreValue → List Doing → Option Asking → List Region → Event
    → Type 0
AsksReturned back values ds asking rooms e = is_last e ≡ false
    → IsAsking (after_return (Some back) values e ds) (asking_by_event e None)
    (rooms_left e (rooms_answered asking values rooms))
    × AllMayCall (below (after_return (Some back) values e ds))

none_there : (values : List CoreValue) (asking : Option Asking) (rooms : List Region)
    → (asking ≡ None) × (rooms ≡ []) → rooms_answered asking values rooms ≡ []
none_there values asking rooms h =
    ap (λ (k : Option Asking). rooms_answered k values rooms) h.0 ∙ h.1

asks_returned : (back : BodyReturn) (values : List CoreValue) (ds : List Doing)
    (asking : Option Asking) (rooms : List Region) (e : Event) → AnswersReturn ds e
    → IsAsking ds asking rooms → AllMayCall (below ds)
    → AsksReturned back values ds asking rooms e
asks_returned back values [] asking rooms e h k w = absurd h
asks_returned back values (root i ∷ ds) asking rooms e h k w =
    subst (AsksReturned back values (root i ∷ ds) asking rooms) (sym h)
    (λ l. absurd (true≢false l))
asks_returned back values (placing x asked ∷ ds) asking rooms e (inl r) k w =
    subst (AsksReturned back values (placing x asked ∷ ds) asking rooms) (sym r.3)
    (λ _. ((refl, kept_by_answer values asked asking rooms k), w))
asks_returned back values (placing x asked ∷ ds) asking rooms e (inr r) k w =
    subst (AsksReturned back values (placing x asked ∷ ds) asking rooms) (sym r.1)
    (λ _. ((refl, refl), w))
asks_returned back values (body x asked ∷ ds) asking rooms e (inl r) k w =
    subst (AsksReturned back values (body x asked ∷ ds) asking rooms) (sym r.3)
    (λ _. ((refl, none_there values asking rooms k), w))
asks_returned back values (body x asked ∷ ds) asking rooms e (inr (inl r)) k w =
    subst (AsksReturned back values (body x asked ∷ ds) asking rooms) (sym r.3)
    (λ _. ((refl, refl), w))
asks_returned back values (body x asked ∷ ds) asking rooms e (inr (inr r)) k w =
    subst (AsksReturned back values (body x asked ∷ ds) asking rooms) (sym r.1.1)
    (λ _. (none_asked ds w, may_below ds w))
asks_returned back values (handing x asked b more ∷ ds) asking rooms e (inl r) k w =
    subst (AsksReturned back values (handing x asked b more ∷ ds) asking rooms) (sym r.3)
    (λ _. ((refl, kept_by_answer values more asking rooms k), w))
asks_returned back values (handing x asked b more ∷ ds) asking rooms e (inr (inl r)) k w =
    subst (AsksReturned back values (handing x asked b more ∷ ds) asking rooms) (sym r.3)
    (λ _. ((refl, refl), w))
asks_returned back values (handing x asked b more ∷ ds) asking rooms e (inr (inr r)) k w =
    subst (AsksReturned back values (handing x asked b more ∷ ds) asking rooms) (sym r.1.1)
    (λ _. (none_asked ds w, may_below ds w))
asks_returned back values (tidying x asked b more ∷ ds) asking rooms e h k w =
    subst (AsksReturned back values (tidying x asked b more ∷ ds) asking rooms) (sym h.1)
    (λ _. (none_asked ds w, may_below ds w))
asks_returned back values (destroys dropper i ∷ ds) asking rooms e h k w =
    subst (AsksReturned back values (destroys dropper i ∷ ds) asking rooms) (sym h)
    (λ _. (none_asked ds w, may_below ds w))

-- ---- moves

abbrev AsksMoved : Plan → State → ℕ → Move → List Doing → Option Asking → List Region → Event
    → Type 0
AsksMoved plan s i m ds asking rooms e = is_last e ≡ false
    → ((d : Doing) → after_move plan (Some i) s m e ds ≡ d ∷ ds → MayCall ds)
    → IsAsking (after_move plan (Some i) s m e ds) (asking_after_move m e asking)
    (rooms_after_move m e asking rooms)
    × AllMayCall (below (after_move plan (Some i) s m e ds))

asks_moved : (plan : Plan) (s : State) (i : ℕ) (m : Move) (ds : List Doing)
    (asking : Option Asking) (rooms : List Region) (e : Event)
    → IsAnswerTo plan (Some i) ds m e → IsAsking ds asking rooms → AllMayCall (below ds)
    → AsksMoved plan s i m ds asking rooms e
asks_moved plan s i (move.Write at bytes) ds asking rooms e h k w =
    subst (AsksMoved plan s i (move.Write at bytes) ds asking rooms) (sym h) (λ _ _. (k, w))
asks_moved plan s i (move.Grow pages) ds asking rooms e h k w =
    subst (AsksMoved plan s i (move.Grow pages) ds asking rooms) (sym h.1) (λ _ _. (k, w))
asks_moved plan s i (move.Call func args) ds asking rooms e h k w =
    let f = core_func_by_index plan (Some i) func in
    let a : AnswersCall i f e =
    subst (λ (j : ℕ). AnswersCall j f e) (sym (same_Some i h.0 h.1)) h.2 in
    λ _ may. asks_called s i args.items f (length ds) ds asking rooms e a k w may
asks_moved plan s i (move.Return values) ds asking rooms e h k w =
    let back : BodyReturn = record { callee = i; values = values.items; state = s } in
    λ l _. asks_returned back values.items ds asking rooms e h k w l
asks_moved plan s i move.Unreachable ds asking rooms e h k w = absurd h

-- ---- what is kept, along a history

abbrev pub AsksOn : Plan → State → ℕ → Move → Event → List Doing → Option Asking → List Region
    → Option Asking → List Region → Option ℕ → Type 0
AsksOn plan s i m e ds asking rooms new_asking new_rooms acting =
    (Traps e ⊎ IsAnswerTo plan acting ds m e)
    → (is_last e ≡ true → after_move plan acting s m e ds ≡ [])
    → ((d : Doing) → after_move plan acting s m e ds ≡ d ∷ ds → MayCall ds)
    → (is_last e ≡ true → (new_asking ≡ None) × (new_rooms ≡ []))
    → (is_last e ≡ false → (new_asking ≡ asking_after_move m e asking)
    × (new_rooms ≡ rooms_after_move m e asking rooms))
    → IsAsking (after_move plan acting s m e ds) new_asking new_rooms
    × AllMayCall (below (after_move plan acting s m e ds))

asks_by_last : (last : Bool) (plan : Plan) (s : State) (i : ℕ) (m : Move) (e : Event)
    (ds : List Doing) (asking : Option Asking) (rooms : List Region) (new_asking : Option Asking)
    (new_rooms : List Region) → is_last e ≡ last → IsAsking ds asking rooms
    → AllMayCall (below ds)
    → AsksOn plan s i m e ds asking rooms new_asking new_rooms (Some i)
asks_by_last true plan s i m e ds asking rooms new_asking new_rooms l k w a ends may gone kept =
    subst (λ (es : List Doing). IsAsking es new_asking new_rooms × AllMayCall (below es))
    (sym (ends l)) (gone l, tt)
asks_by_last false plan s i m e ds asking rooms new_asking new_rooms l k w (inl t) ends may gone kept =
    absurd (true≢false (sym (ap is_last t.1) ∙ l))
asks_by_last false plan s i m e ds asking rooms new_asking new_rooms l k w (inr h) ends may gone kept =
    let on = asks_moved plan s i m ds asking rooms e h k w l may in
    let q = kept l in
    let es = after_move plan (Some i) s m e ds in (
      subst (λ (x : Option Asking). IsAsking es x new_rooms) (sym q.0)
          (subst (λ (y : List Region). IsAsking es (asking_after_move m e asking) y) (sym q.1) on.0),
      on.1,
    )

pub asks_on : (plan : Plan) (s : State) (i : ℕ) (m : Move) (e : Event) (ds : List Doing)
    (asking : Option Asking) (rooms : List Region) (new_asking : Option Asking)
    (new_rooms : List Region) (acting : Option ℕ) → acting ≡ Some i → IsAsking ds asking rooms
    → AllMayCall (below ds)
    → AsksOn plan s i m e ds asking rooms new_asking new_rooms acting
asks_on plan s i m e ds asking rooms new_asking new_rooms acting is k w =
    subst (AsksOn plan s i m e ds asking rooms new_asking new_rooms) (sym is)
    (asks_by_last (is_last e) plan s i m e ds asking rooms new_asking new_rooms refl k w)

-- ---- what is told

abbrev ToldCalled : State → ℕ → ℕ → Vec CoreValue Global → Option CoreFunc → List Doing → Event
    → Type 0
ToldCalled s i func args f ds e = [] ≡ told_by (move.Call func args) e ds
    (after_call (lowered_call s (Some i) args.items f (length ds)) (Some i) e ds)

told_called : (s : State) (i func : ℕ) (args : Vec CoreValue Global) (f : Option CoreFunc)
    (ds : List Doing) (e : Event) → AnswersCall i f e → ToldCalled s i func args f ds e
told_called s i func args None ds e h = absurd h
told_called s i func args (Some guest) ds e h = absurd h
told_called s i func args (Some (lowered l)) ds e (inl r) =
    subst (ToldCalled s i func args (Some (lowered l)) ds) (sym r.3) refl
told_called s i func args (Some (lowered l)) ds e (inr r) =
    subst (ToldCalled s i func args (Some (lowered l)) ds) (sym r.1) refl
told_called s i func args (Some (makes r)) ds e h =
    subst (ToldCalled s i func args (Some (makes r)) ds) (sym h.1) refl
told_called s i func args (Some (drops r d)) ds e (inl h) =
    subst (ToldCalled s i func args (Some (drops r d)) ds) (sym h) refl
told_called s i func args (Some (drops r d)) ds e (inr h) =
    subst (ToldCalled s i func args (Some (drops r d)) ds) (sym h.3) refl
told_called s i func args (Some (represents r)) ds e h =
    subst (ToldCalled s i func args (Some (represents r)) ds) (sym h.1) refl

abbrev ToldReturned : BodyReturn → Vec CoreValue Global → List Doing → Option Asking
    → List Region → Event → Type 0
ToldReturned back values ds asking rooms e =
    told_by_return e (rooms_answered asking values.items rooms) (calls_of ds)
    ≡ told_by (move.Return values) e ds (after_return (Some back) values.items e ds)

told_returned : (back : BodyReturn) (values : Vec CoreValue Global) (ds : List Doing)
    (asking : Option Asking) (rooms : List Region) (e : Event) → AnswersReturn ds e
    → IsAsking ds asking rooms → ToldReturned back values ds asking rooms e
told_returned back values [] asking rooms e h k = absurd h
told_returned back values (root i ∷ ds) asking rooms e h k =
    subst (ToldReturned back values (root i ∷ ds) asking rooms) (sym h) refl
told_returned back values (placing x asked ∷ ds) asking rooms e (inl r) k =
    subst (ToldReturned back values (placing x asked ∷ ds) asking rooms) (sym r.3) refl
told_returned back values (placing x asked ∷ ds) asking rooms e (inr r) k =
    subst (ToldReturned back values (placing x asked ∷ ds) asking rooms) (sym r.1)
    (kept_by_answer values.items asked asking rooms k)
told_returned back values (body x asked ∷ ds) asking rooms e (inl r) k =
    subst (ToldReturned back values (body x asked ∷ ds) asking rooms) (sym r.3) refl
told_returned back values (body x asked ∷ ds) asking rooms e (inr (inl r)) k =
    subst (ToldReturned back values (body x asked ∷ ds) asking rooms) (sym r.3)
    (ap (with_place (result_of x)) (none_there values.items asking rooms k))
told_returned back values (body x asked ∷ ds) asking rooms e (inr (inr r)) k =
    subst (ToldReturned back values (body x asked ∷ ds) asking rooms) (sym r.1.1)
    (ap (with_place (result_of x)) (none_there values.items asking rooms k))
told_returned back values (handing x asked b more ∷ ds) asking rooms e (inl r) k =
    subst (ToldReturned back values (handing x asked b more ∷ ds) asking rooms) (sym r.3) refl
told_returned back values (handing x asked b more ∷ ds) asking rooms e (inr (inl r)) k =
    subst (ToldReturned back values (handing x asked b more ∷ ds) asking rooms) (sym r.3)
    (ap (with_place (result_of x)) (kept_by_answer values.items more asking rooms k))
told_returned back values (handing x asked b more ∷ ds) asking rooms e (inr (inr r)) k =
    subst (ToldReturned back values (handing x asked b more ∷ ds) asking rooms) (sym r.1.1)
    (ap (with_place (result_of x)) (kept_by_answer values.items more asking rooms k))
told_returned back values (tidying x asked b more ∷ ds) asking rooms e h k =
    subst (ToldReturned back values (tidying x asked b more ∷ ds) asking rooms) (sym h.1)
    (none_there values.items asking rooms k)
told_returned back values (destroys dropper i ∷ ds) asking rooms e h k =
    subst (ToldReturned back values (destroys dropper i ∷ ds) asking rooms) (sym h)
    (none_there values.items asking rooms k)

abbrev ToldMoved : Plan → State → Move → List Doing → Option Asking → List Region → Event
    → Option ℕ → Type 0
ToldMoved plan s m ds asking rooms e acting = rooms_told m e asking rooms (calls_of ds)
    ≡ told_by m e ds (after_move plan acting s m e ds)

told_at_trap : (plan : Plan) (s : State) (i : ℕ) (m : Move) (ds : List Doing)
    (asking : Option Asking) (rooms : List Region) (e : Event) → Traps e
    → ToldMoved plan s m ds asking rooms e (Some i)
told_at_trap plan s i (move.Write at bytes) ds asking rooms e t = refl
told_at_trap plan s i (move.Grow pages) ds asking rooms e t = refl
told_at_trap plan s i (move.Call func args) ds asking rooms e t =
    subst (λ (x : Event). ToldMoved plan s (move.Call func args) ds asking rooms x (Some i))
    (sym t.1) refl
told_at_trap plan s i (move.Return values) ds asking rooms e t =
    subst (λ (x : Event). ToldMoved plan s (move.Return values) ds asking rooms x (Some i))
    (sym t.1) refl
told_at_trap plan s i move.Unreachable ds asking rooms e t = refl

told_moved : (plan : Plan) (s : State) (i : ℕ) (m : Move) (ds : List Doing)
    (asking : Option Asking) (rooms : List Region) (e : Event) → IsAsking ds asking rooms
    → Traps e ⊎ IsAnswerTo plan (Some i) ds m e
    → ToldMoved plan s m ds asking rooms e (Some i)
told_moved plan s i m ds asking rooms e k (inl t) = told_at_trap plan s i m ds asking rooms e t
told_moved plan s i (move.Write at bytes) ds asking rooms e k (inr h) = refl
told_moved plan s i (move.Grow pages) ds asking rooms e k (inr h) = refl
told_moved plan s i (move.Call func args) ds asking rooms e k (inr h) =
    let f = core_func_by_index plan (Some i) func in
    let a : AnswersCall i f e =
    subst (λ (j : ℕ). AnswersCall j f e) (sym (same_Some i h.0 h.1)) h.2 in
    told_called s i func args f ds e a
told_moved plan s i (move.Return values) ds asking rooms e k (inr h) =
    let back : BodyReturn = record { callee = i; values = values.items; state = s } in
    told_returned back values ds asking rooms e h k
told_moved plan s i move.Unreachable ds asking rooms e k (inr h) = refl

pub told_on : (plan : Plan) (s : State) (i : ℕ) (m : Move) (ds : List Doing)
    (asking : Option Asking) (rooms : List Region) (e : Event) (acting : Option ℕ)
    → acting ≡ Some i → IsAsking ds asking rooms → Traps e ⊎ IsAnswerTo plan acting ds m e
    → ToldMoved plan s m ds asking rooms e acting
told_on plan s i m ds asking rooms e acting is k =
    subst (λ (o : Option ℕ). Traps e ⊎ IsAnswerTo plan o ds m e
    → ToldMoved plan s m ds asking rooms e o) (sym is)
    (told_moved plan s i m ds asking rooms e k)

-- the last event of a root call tells nothing
pub told_at_last : (m : Move) (e : Event) (ds es : List Doing) → is_last e ≡ true
    → told_by m e ds es ≡ []
told_at_last (move.Write at bytes) e ds es l = refl
told_at_last (move.Grow pages) e ds es l = refl
told_at_last (move.Call func args) event.Done ds es l = refl
told_at_last (move.Call func args) (event.Grown p) ds es l = refl
told_at_last (move.Call func args) (event.Enter i f vs) ds es l = absurd (true≢false (sym l))
told_at_last (move.Call func args) (event.Realloc i f vs) ds es l = refl
told_at_last (move.Call func args) (event.Resume i vs) ds es l = refl
told_at_last (move.Call func args) (event.PostReturn i f vs) ds es l = refl
told_at_last (move.Call func args) (event.Dtor i f rep) ds es l = refl
told_at_last (move.Call func args) (event.Trapped t) ds es l = refl
told_at_last (move.Call func args) event.Ended ds es l = refl
told_at_last (move.Return values) event.Done ds es l = refl
told_at_last (move.Return values) (event.Grown p) ds es l = refl
told_at_last (move.Return values) (event.Enter i f vs) ds es l = absurd (true≢false (sym l))
told_at_last (move.Return values) (event.Realloc i f vs) ds es l = refl
told_at_last (move.Return values) (event.Resume i vs) ds es l = absurd (true≢false (sym l))
told_at_last (move.Return values) (event.PostReturn i f vs) ds es l = absurd (true≢false (sym l))
told_at_last (move.Return values) (event.Dtor i f rep) ds es l = refl
told_at_last (move.Return values) (event.Trapped t) ds es l = refl
told_at_last (move.Return values) event.Ended ds es l = refl
told_at_last move.Unreachable e ds es l = refl

-- ---- nothing changes outside of them

abbrev pub OneValue : Type 0
OneValue = (w : View) (way : Way) (types : Fields) (slots : List CoreValue) (u v : Val)
    → Denotes w way types slots u → Denotes w way types slots v → u ≡ v

hands_inside : (x : LoweredCall) (asked : List Asked) (old new : State) → OneValue
    → HandsArgs old x asked new
    → ((v : Val) × WasSent x v × AsksFor (sent_requests x v) [] asked
    × (length asked ≡ length (sent_requests x v)))
    → ((v : Val) × WasSent x v × (length (answers_in asked) ≡ length (sent_requests x v)))
    → (a : ℕ) → (IsInOne (rooms_of asked) a → ⊥)
    → slice_index (memory_at new.memories x.link.instance) a
    ≡ slice_index (memory_at old.memories x.link.instance) a
hands_inside x asked old new one h k r a out =
    let rs = sent_requests x h.v in
    let v : k.0 ≡ h.v =
    one (sender_view x) params (types_of x.link params) (sent_slots x) k.0 h.v k.1.denoted
    h.sent.denoted in
    let u : r.0 ≡ h.v =
    one (sender_view x) params (types_of x.link params) (sent_slots x) r.0 h.v r.1.denoted
    h.sent.denoted in
    let asks : AsksFor rs [] asked =
    subst (λ (y : Val). AsksFor (sent_requests x y) [] asked) v k.2 in
    let all : length (answers_in asked) ≡ length rs =
    r.2 ∙ ap (λ (y : Val). length (sent_requests x y)) u in
    h.inside.outside a
    (λ i. out (cover_whole rs asked (sent_chained x h.v) (like_first rs asked asks) all a i))

pub entry_inside : (es : List Doing) (old new : State) (j f : ℕ) (args : List CoreValue)
    (rooms : List Region) → OneValue → ChangesAtEntry es old new → Enters es j f args new
    → AsksAt es → rooms ≡ entered es → (a : ℕ) → (IsInOne rooms a → ⊥)
    → slice_index (memory_at new.memories j) a ≡ slice_index (memory_at old.memories j) a
entry_inside [] old new j f args rooms one h e k t a out = absurd e
entry_inside (root i ∷ ds) old new j f args rooms one h e k t a out = absurd e
entry_inside (placing x asked ∷ ds) old new j f args rooms one h e k t a out = absurd e
entry_inside (body x asked ∷ ds) old new j f args rooms one h e k t a out =
    subst (λ (i : ℕ). slice_index (memory_at new.memories i) a
    ≡ slice_index (memory_at old.memories i) a) e.0
    (hands_inside x asked old new one h k.0 (e.2.0, e.2.1, e.2.2.all) a
    (λ i. out (subst (λ (ys : List Region). IsInOne ys a) (sym t) i)))
entry_inside (handing x asked b more ∷ ds) old new j f args rooms one h e k t a out = absurd e
entry_inside (tidying x asked b more ∷ ds) old new j f args rooms one h e k t a out = absurd e
entry_inside (destroys dropper i ∷ ds) old new j f args rooms one h e k t a out = absurd e

-- Giving handles, one after another.
use Rattle.std.proofs.Common.{inl, inr, ◌≡◌, ℕ, zero, suc, ◌+◌, ◌^◌, ◌<◌, ◌≤◌, Bool, true, false, List, [], ◌∷◌, ◌++◌, length, take, drop, refl, sym, ap, subst, ◌∙◌, arith, get_or, drop-cons, add-one, Some, None}
use Rattle.std.specs.Prelude.{Contains, slice_get, slice_index, ◌==◌, if◌then◌else◌, ◌⊎◌, Option}
use Rattle.std.specs.List.{All}
use Rattle.std.specs.Option.{ForSome}
use Rattle.std.proofs.lemmas.Option.{none-some}
use Rattle.std.proofs.lemmas.List.{append_assoc, append-nil}
use Rattle.cm_types.specs.Values.{HandleValue}
use Rattle.cm_handles.specs.Borrows.{borrows_of}
use Rattle.cm_handles.specs.Handles.{Handles, IsSoundHandles, handle_at, indices_left}
use Rattle.cm_handles.specs.declared.handle.Handle.{Handle}
use Rattle.cm_handles.specs.declared.handle.HandleKind.TheVariants.{Borrowed}
use Rattle.cm_abi_model.specs.Receives.{AllStand, HandleLeaf, StandsFor, StandsForBorrow, owned_leaf, borrowed_leaf}
use Rattle.cm_abi_model.specs.Stores.{Given, number_of}
use Rattle.cm_abi_model.specs.Views.{View}
use Rattle.cm_abi_model.specs.Giving.{AllGiven, AllStay, Gives, IsGivenAt, IsViewOf, NoneElse, added_by, added_count, added_for, after_given, borrowed_by, borrowed_count, handle_to, number_with, numbers_given, rep_of, with_added}
use Rattle.cm_abi_model.specs.HandleLeaves.{leaf_of, leaves_of}
use Rattle.cm_abi_model.specs.declared.leaf.HandleLeaf.{HandleLeaf as CodedLeaf}
use Rattle.cm_abi_model.specs.declared.receiver.Receiver.{Receiver}
use Rattle.cm_lemmas.proofs.Lists.{drop_past, take_all}

pub next_leaf : (ls : List CodedLeaf) (i : ℕ) (d : CodedLeaf) → i < length ls → leaves_of (drop i ls) ≡ leaf_of (get_or ls i d) ∷ leaves_of (drop (i + 1) ls)
next_leaf ls i d lt = rw (add-one, drop-cons ls i d lt) refl

pub count_next : (to : Receiver) (ls : List CodedLeaf) (i : ℕ) (d : CodedLeaf) → i < length ls
    → added_count to (leaves_of (drop i ls)) ≡ added_by (added_for to (leaf_of (get_or ls i d))) + added_count to (leaves_of (drop (i + 1) ls))
count_next to ls i d lt = rw (next_leaf ls i d lt) refl

pub room_next : (to : Receiver) (ls : List CodedLeaf) (i room behind : ℕ) (d : CodedLeaf) → i < length ls → added_count to (leaves_of (drop i ls)) ≤ room
    → room ≤ behind + added_by (added_for to (leaf_of (get_or ls i d))) → added_count to (leaves_of (drop (i + 1) ls)) ≤ behind
room_next to ls i room behind d lt enough less = let next = count_next to ls i d lt in omega (arith, next, enough, less)

length_one : (ns : List ℕ) (n : ℕ) → length (ns ++ n ∷ []) ≡ length ns + 1
length_one [] n = refl
length_one (m ∷ ns) n = let rest = length_one ns n in omega (arith, rest)

-- ---- what stood stands

borrow_still : (b : Bool) (w u : View) (m n : ℕ) (h : HandleValue) → u.call ≡ w.call → m ≡ n → AllStay w.table u.table → StandsForBorrow b w n h → StandsForBorrow b u m h
borrow_still true w u m n h call is stay st = is ∙ st
borrow_still false w u m n h call is stay st = rw (call, is) (stay n _ st)

-- a number that stood for a handle stands for it where all handles stay
stands_still : (w u : View) (m n : ℕ) (leaf : HandleLeaf) → u.instance ≡ w.instance → u.call ≡ w.call → m ≡ n → AllStay w.table u.table → StandsFor w n leaf → StandsFor u m leaf
stands_still w u m n (owned_leaf h) inst call is stay st = rw is (stay n _ st)
stands_still w u m n (borrowed_leaf h) inst call is stay st =
    subst (λ i. StandsForBorrow (h.resource.component == i) u m h) (sym inst) (borrow_still (h.resource.component == w.instance) w u m n h call is stay st)

-- numbers that stood for handles
all_still : (w u : View) (g k : Given) (from : ℕ) (leaves : List HandleLeaf) → u.instance ≡ w.instance → u.call ≡ w.call → AllStay w.table u.table
    → ((j : ℕ) → j < from + length leaves → number_of k j ≡ number_of g j) → AllStand w g from leaves → AllStand u k from leaves
all_still w u g k from [] inst call stay same st = tt
all_still w u g k from (leaf ∷ leaves) inst call stay same st = (
  stands_still w u (number_of k from) (number_of g from) leaf inst call (same from (omega arith)) stay st.0,
  all_still w u g k (from + 1) leaves inst call stay (λ j lt. same j (omega (arith, lt))) st.1,
)

one_behind : (w : View) (g : Given) (from : ℕ) (leaves : List HandleLeaf) (leaf : HandleLeaf) → AllStand w g from leaves → StandsFor w (number_of g (from + length leaves)) leaf → AllStand w g from (leaves ++ leaf ∷ [])
one_behind w g from [] leaf st here = (subst (λ k. StandsFor w (number_of g k) leaf) (omega arith) here, tt)
one_behind w g from (l ∷ leaves) leaf st here =
    (st.0, one_behind w g (from + 1) leaves leaf st.1 (subst (λ k. StandsFor w (number_of g k) leaf) (omega arith) here))

front_same : (ns : List ℕ) (n j : ℕ) → j < length ns → slice_index (ns ++ n ∷ []) j ≡ slice_index ns j
front_same [] n j lt = absurd (omega arith)
front_same (m ∷ ns) n zero lt = refl
front_same (m ∷ ns) n (suc j) lt = front_same ns n j (omega arith)

last_is : (ns : List ℕ) (n j : ℕ) → j ≡ length ns → slice_index (ns ++ n ∷ []) j ≡ n
last_is [] n j is = rw is refl
last_is (m ∷ ns) n zero is = absurd (omega arith)
last_is (m ∷ ns) n (suc j) is = last_is ns n j (omega arith)

borrow_stands : (b : Bool) (to : Receiver) (old new : Handles) (w : View) (n : ℕ) (h : HandleValue) → IsViewOf w to new
    → n ≡ number_with old (if b then None else Some (handle_to h (Borrowed to.call))) h.rep
    → ForSome (if b then None else Some (handle_to h (Borrowed to.call))) (λ x. handle_at new n ≡ Some x) → StandsForBorrow b w n h
borrow_stands true to old new w n h view is here = is
borrow_stands false to old new w n h view is here = rw (view.table_is, view.call_is) (here _ refl)

-- a number stands for a handle that was given
pub now_stands : (to : Receiver) (old new : Handles) (w : View) (n : ℕ) (leaf : HandleLeaf) → IsViewOf w to new
    → n ≡ number_with old (added_for to leaf) (rep_of leaf) → ForSome (added_for to leaf) (λ h. handle_at new n ≡ Some h) → StandsFor w n leaf
now_stands to old new w n (owned_leaf h) view is here = rw view.table_is (here _ refl)
now_stands to old new w n (borrowed_leaf h) view is here =
    subst (λ i. StandsForBorrow (h.resource.component == i) w n h) (sym view.instance_is) (borrow_stands (h.resource.component == to.instance) to old new w n h view is here)

-- ---- one handle after another

-- of some handles the first are given: these numbers stand for them, and the table is this
pub record SoFar (to : Receiver) (start : Handles) (leaves : List CodedLeaf) (t : Handles) (ns : List ℕ) (i : ℕ) : Type 0 where
  pub numbers : ns ++ numbers_given to t (leaves_of (drop i leaves)) ≡ numbers_given to start (leaves_of leaves)
  pub table : after_given to t (leaves_of (drop i leaves)) ≡ after_given to start (leaves_of leaves)
  pub stand : (w : View) (g : Given) → IsViewOf w to t → g.numbers ≡ ns → AllStand w g 0 (leaves_of (take i leaves))
  pub stay : AllStay start t
  pub added : AllGiven to start t (leaves_of (take i leaves)) ns
  pub borrows : borrows_of to.call t ≡ borrows_of to.call start + borrowed_count to (leaves_of (take i leaves))
  pub left : indices_left t + added_count to (leaves_of leaves) ≡ indices_left start + added_count to (leaves_of (drop i leaves))
  pub sound : IsSoundHandles t
  pub counted : length ns ≡ i
  pub small : All (λ n. n < 2 ^ 32) ns

pub none_yet : (to : Receiver) (start : Handles) (leaves : List CodedLeaf) (ns : List ℕ) → ns ≡ [] → IsSoundHandles start → SoFar to start leaves start ns 0
none_yet to start leaves ns none sound =
    record {
      numbers = rw none refl;
      table = refl;
      stand = λ w g view is. tt;
      stay = λ index h st. st;
      added = λ index h st. inl st;
      borrows = omega arith;
      left = refl;
      sound = sound;
      counted = rw none refl;
      small = rw none (λ k d lt. absurd (omega (arith, lt)));
    }

-- one more number of 32 bits
small_more : (ns : List ℕ) (n : ℕ) → All (λ m. m < 2 ^ 32) ns → n < 2 ^ 32 → All (λ m. m < 2 ^ 32) (ns ++ n ∷ [])
small_more [] n all small zero d lt = small
small_more [] n all small (suc k) d lt = absurd (omega (arith, lt))
small_more (m ∷ ns) n all small zero d lt = all 0 d (omega arith)
small_more (m ∷ ns) n all small (suc k) d lt = small_more ns n (λ j e j_lt. all (suc j) e (omega (arith, j_lt))) small k d (omega (arith, lt))

taken_suc : (ls : List CodedLeaf) (i : ℕ) (d : CodedLeaf) → i < length ls → leaves_of (take (suc i) ls) ≡ leaves_of (take i ls) ++ leaf_of (get_or ls i d) ∷ []
taken_suc [] i d lt = absurd (omega arith)
taken_suc (l ∷ ls) zero d lt = refl
taken_suc (l ∷ ls) (suc i) d lt = ap (λ xs. leaf_of l ∷ xs) (taken_suc ls i d (omega arith))

taken_more : (ls : List CodedLeaf) (i : ℕ) (d : CodedLeaf) → i < length ls → leaves_of (take (i + 1) ls) ≡ leaves_of (take i ls) ++ leaf_of (get_or ls i d) ∷ []
taken_more ls i d lt = rw add-one (taken_suc ls i d lt)

taken_length : (ls : List CodedLeaf) (i : ℕ) → i ≤ length ls → length (leaves_of (take i ls)) ≡ i
taken_length ls zero le = refl
taken_length [] (suc i) le = absurd (omega arith)
taken_length (l ∷ ls) (suc i) le = ap suc (taken_length ls i (omega arith))

stand_next : (to : Receiver) (old new : Handles) (w : View) (g : Given) (ns : List ℕ) (n : ℕ) (done : List HandleLeaf) (leaf : HandleLeaf)
    → ((u : View) (k : Given) → IsViewOf u to old → k.numbers ≡ ns → AllStand u k 0 done) → AllStay old new
    → length ns ≡ length done → IsViewOf w to new → g.numbers ≡ ns ++ n ∷ [] → StandsFor w n leaf → AllStand w g 0 (done ++ leaf ∷ [])
stand_next to old new w g ns n done leaf before stay count view is here =
    let was : View = record w { table = old } in
    let given : Given = record g { numbers = ns } in
    let first = before was given (record { instance_is = view.instance_is; call_is = view.call_is; table_is = refl }) refl in
    let still : AllStay was.table w.table = λ index h st. rw view.table_is (stay index h st) in
    let same : (j : ℕ) → j < 0 + length done → number_of g j ≡ number_of given j = λ j lt. ap (λ xs. slice_index xs j) is ∙ front_same ns n j (omega (arith, lt, count)) in
    let number_is : number_of g (0 + length done) ≡ n = ap (λ xs. slice_index xs (0 + length done)) is ∙ last_is ns n (0 + length done) (omega (arith, count)) in
    one_behind w g 0 done leaf (all_still was w given g 0 done refl refl still same first) (subst (λ k. StandsFor w k leaf) (sym number_is) here)

-- ---- what stands was given

get_front : {X : Type 0} (xs : List X) (y v : X) (j : ℕ) → slice_get xs j ≡ Some v → slice_get (xs ++ y ∷ []) j ≡ Some v
get_front [] y v j e = absurd (none-some v e)
get_front (x ∷ xs) y v zero e = e
get_front (x ∷ xs) y v (suc j) e = get_front xs y v j e

get_last : {X : Type 0} (xs : List X) (y : X) (j : ℕ) → j ≡ length xs → slice_get (xs ++ y ∷ []) j ≡ Some y
get_last [] y zero is = refl
get_last [] y (suc j) is = absurd (omega (arith, is))
get_last (x ∷ xs) y zero is = absurd (omega (arith, is))
get_last (x ∷ xs) y (suc j) is = get_last xs y j (omega (arith, is))

only_one : (n index : ℕ) → Contains (n ∷ []) index → n ≡ index
only_one n index (zero, lt, e) = e
only_one n index (suc k, lt, e) = absurd (omega (arith, lt))

still_given : (to : Receiver) (start : Handles) (done : List HandleLeaf) (leaf : HandleLeaf) (ns : List ℕ) (n index : ℕ) (h : Handle)
    → (handle_at start index ≡ Some h) ⊎ IsGivenAt to done ns index h → (handle_at start index ≡ Some h) ⊎ IsGivenAt to (done ++ leaf ∷ []) (ns ++ n ∷ []) index h
still_given to start done leaf ns n index h (inl was) = inl was
still_given to start done leaf ns n index h (inr given) =
    inr (given.0, given.1, get_front done leaf given.1 given.0 given.2, given.3, get_front ns n index given.0 given.4)

-- one more handle is given, or none where its representation stands for it
one_given : (to : Receiver) (start old new : Handles) (done : List HandleLeaf) (leaf : HandleLeaf) (ns : List ℕ) (n : ℕ) (o : Option Handle)
    → added_for to leaf ≡ o → new ≡ with_added old o → ForSome o (λ x. handle_at new n ≡ Some x) → length ns ≡ length done
    → AllGiven to start old done ns → NoneElse old new (n ∷ []) → AllGiven to start new (done ++ leaf ∷ []) (ns ++ n ∷ [])
one_given to start old new done leaf ns n None adds table here count before now index h st =
    still_given to start done leaf ns n index h (before index h (ap (λ t. handle_at t index) (sym table) ∙ st))
one_given to start old new done leaf ns n (Some x) adds table here count before now index h st =
    elim (now index h st) [
      | inl was ↦ still_given to start done leaf ns n index h (before index h was)
      | inr this ↦ (let is : n ≡ index = only_one n index this in
          let same : Some x ≡ Some h = sym (here x refl) ∙ (ap (λ k. handle_at new k) is ∙ st) in
          inr (length done, leaf, get_last done leaf (length done) refl, adds ∙ same, get_last ns n (length done) (sym count) ∙ ap (λ k. Some k) is))
    ]

-- ---- how many are borrowed

borrowed_more : (to : Receiver) (done : List HandleLeaf) (leaf : HandleLeaf) → borrowed_count to (done ++ leaf ∷ []) ≡ borrowed_count to done + borrowed_by to leaf
borrowed_more to [] leaf = omega arith
borrowed_more to (l ∷ done) leaf = let rest = borrowed_more to done leaf in omega (arith, rest)

pub one_more : (to : Receiver) (start old new : Handles) (leaves : List CodedLeaf) (ns behind : List ℕ) (n i : ℕ) (d : CodedLeaf) → i < length leaves
    → SoFar to start leaves old ns i → behind ≡ ns ++ n ∷ []
    → n ≡ number_with old (added_for to (leaf_of (get_or leaves i d))) (rep_of (leaf_of (get_or leaves i d)))
    → new ≡ with_added old (added_for to (leaf_of (get_or leaves i d)))
    → ForSome (added_for to (leaf_of (get_or leaves i d))) (λ h. handle_at new n ≡ Some h)
    → AllStay old new → NoneElse old new (n ∷ [])
    → borrows_of to.call new ≡ borrows_of to.call old + borrowed_by to (leaf_of (get_or leaves i d))
    → indices_left new + added_by (added_for to (leaf_of (get_or leaves i d))) ≡ indices_left old
    → IsSoundHandles new → n < 2 ^ 32 → SoFar to start leaves new behind (i + 1)
one_more to start old new leaves ns behind n i d lt so is number table here stay others borrows left sound small =
    let next = next_leaf leaves i d lt in
    let counts = count_next to leaves i d lt in
    record {
      numbers =
          (rw (is, number, table) (append_assoc ns (number_with old (added_for to (leaf_of (get_or leaves i d))) (rep_of (leaf_of (get_or leaves i d))) ∷ [])
          (numbers_given to (with_added old (added_for to (leaf_of (get_or leaves i d)))) (leaves_of (drop (i + 1) leaves)))))
          ∙ (ap (λ ls. ns ++ numbers_given to old ls) (sym next) ∙ so.numbers);
      table = ap (λ t. after_given to t (leaves_of (drop (i + 1) leaves))) table ∙ (ap (λ ls. after_given to old ls) (sym next) ∙ so.table);
      stand = λ w g view are.
          rw (taken_more leaves i d lt) (stand_next to old new w g ns n (leaves_of (take i leaves)) (leaf_of (get_or leaves i d)) so.stand stay
          (so.counted ∙ sym (taken_length leaves i (omega (arith, lt)))) view (are ∙ is) (now_stands to old new w n (leaf_of (get_or leaves i d)) view number here));
      stay = λ index h st. stay index h (so.stay index h st);
      added = λ index h st. rw (is, taken_more leaves i d lt) (one_given to start old new (leaves_of (take i leaves)) (leaf_of (get_or leaves i d)) ns n (added_for to (leaf_of (get_or leaves i d))) refl table here
          (so.counted ∙ sym (taken_length leaves i (omega (arith, lt)))) so.added others index h st);
      borrows = (let more = ap (borrowed_count to) (taken_more leaves i d lt) ∙ borrowed_more to (leaves_of (take i leaves)) (leaf_of (get_or leaves i d)) in omega (arith, so.borrows, borrows, more));
      left = omega (arith, so.left, left, counts);
      sound = sound;
      counted = rw is (length_one ns n ∙ ap (λ k. k + 1) so.counted);
      small = rw is (small_more ns n so.small small);
    }

-- all of them are given
pub all_given : (to : Receiver) (start new : Handles) (leaves : List CodedLeaf) (ns : List ℕ) (i : ℕ) → length leaves ≤ i → SoFar to start leaves new ns i → Gives to start new (leaves_of leaves) ns
all_given to start new leaves ns i past so =
    let none : drop i leaves ≡ [] = drop_past leaves i past in
    let all : take i leaves ≡ leaves = take_all leaves i past in
    record {
      numbers = sym (append-nil ns) ∙ (ap (λ ls. ns ++ numbers_given to new (leaves_of ls)) (sym none) ∙ so.numbers);
      table = ap (λ ls. after_given to new (leaves_of ls)) (sym none) ∙ so.table;
      stand = λ w g view is. subst (λ ls. AllStand w g 0 (leaves_of ls)) all (so.stand w g view is);
      stay = so.stay;
      added = subst (λ ls. AllGiven to start new (leaves_of ls) ns) all so.added;
      borrows = so.borrows ∙ ap (λ ls. borrows_of to.call start + borrowed_count to (leaves_of ls)) all;
      left = so.left ∙ (ap (λ ls. indices_left start + added_count to (leaves_of ls)) none ∙ omega arith);
      sound = so.sound;
      small = so.small;
    }

-- What single changes of a state leave of its lends and borrows.
use Rattle.std.proofs.Common.{◌≡◌, ◌≢◌, ℕ, ◌+◌, ◌<◌, ◌≤◌, ◌⊎◌, inl, inr, Bool, true, false, List}
use Rattle.std.proofs.Common.{[], ◌∷◌, ◌++◌, length, Option, Some, None, refl, sym, ap, subst, ◌∙◌}
use Rattle.std.proofs.Common.{arith}
use Rattle.std.specs.Prelude.{slice_set, ◌==◌, if◌then◌else◌}
use Rattle.std.proofs.lemmas.Bool.{cases_eq, cases_lt, eq-eqb, ne_eqb}
use Rattle.std.proofs.lemmas.Option.{none-some, same_Some}
use Rattle.std.proofs.lemmas.List.{get_or-set_other}
use Rattle.cm_types.specs.Values.{HandleValue}
use Rattle.cm_handles.specs.Handles.{Handles, IsSoundHandles, after_add, after_release, handle_at}
use Rattle.cm_handles.specs.Handles.{indices_left, next_index}
use Rattle.cm_handles.specs.declared.handle.Handle.{Handle}
use Rattle.cm_handles.specs.declared.handle.HandleKind.TheVariants as handle
use Rattle.cm_abi_model.specs.Receives.{HandleLeaf, borrowed_leaf, owned_leaf}
use Rattle.cm_abi_model.specs.Taken.{CanGo, Met, after_met, lent_of, taken_of}
use Rattle.cm_abi_model.specs.Giving.{added_by, added_count, after_given, handle_to, with_added}
use Rattle.cm_abi_model.specs.declared.receiver.Receiver.{Receiver}
use Rattle.cm_machine_model.specs.declared.frame.Call.{Call}
use Rattle.cm_machine_model.specs.declared.frame.Frame.{Frame}
use Rattle.cm_machine_model.specs.declared.frame.Lend.{Lend}
use Rattle.cm_machine_model.specs.declared.frame.Phase.{Phase}
use Rattle.cm_machine_model.specs.declared.frame.Phase.TheVariants as phase
use Rattle.cm_machine_model.specs.declared.frame.Purpose.{Purpose}
use Rattle.cm_machine_model.specs.declared.frame.Purpose.TheVariants as purpose
use Rattle.cm_machine_model.specs.Owning.{IsAmong, count_lends, standing}
use Rattle.cm_machine_laws.proofs.OwningLaws.{AddingIsFine}
use Rattle.cm_machine_model.specs.Plan.{Plan}
use Rattle.cm_machine_model.specs.Stack.{actor, below_top, top_of}
use Rattle.cm_machine_model.specs.State.{Passage, lends_after_call, lends_to, table_at}
use Rattle.cm_machine_model.specs.State.{tables_after_call, tables_after_trap}
use Rattle.cm_machine_model.specs.Step.{MayLeave, MayLeaveIn}
use Rattle.cm_machine_model.specs.Valid.{IsBorrowedLeaf, IsStack, StandsOn, frame_at}
use Rattle.cm_machine_laws.proofs.LendCounts.{Clean, CountsAt, Fades, HasFrame, IsIn, Like, at_other}
use Rattle.cm_machine_laws.proofs.LendCounts.{count_both, counted_elsewhere, counted_one}
use Rattle.cm_machine_laws.proofs.LendCounts.{counted_to, counts_of, ends_count, ends_fade, fade}
use Rattle.cm_machine_laws.proofs.LendCounts.{fade_counts, fade_fades, fades_none, fades_refl}
use Rattle.cm_machine_laws.proofs.LendCounts.{has_frame, in_lends_to, in_left, in_right, in_split}
use Rattle.cm_machine_laws.proofs.LendCounts.{like_refl, met_at_index, one_counted, stands_lent}
use Rattle.cm_machine_laws.proofs.LendCounts.{stays_in, times, to_lends, traps_clean, was_in}
use Rattle.cm_machine_laws.proofs.LentLeaves.{contains, lent_is_there, lent_leaf, taken_is_there}
use Rattle.cm_machine_laws.specs.Taking.{AreThere}
use Rattle.cm_handles.proofs.HandlesLaws.{released}
use Rattle.cm_machine_model.proofs.ValidLaws.{frame_within}
use Rattle.cm_machine_model.proofs.StateLaws.{table_same}

-- ---- frames

pub frame_top : (f : Frame) (fs : List Frame) (n : ℕ) → n ≡ length fs → frame_at (f ∷ fs) n ≡ Some f
frame_top f fs n e = ap (λ (b : Bool). if b then Some f else frame_at fs n) (eq-eqb n (length fs) e)

pub frame_under : (f : Frame) (fs : List Frame) (n : ℕ) → n ≢ length fs → frame_at (f ∷ fs) n ≡ frame_at fs n
frame_under f fs n ne = ap (λ (b : Bool). if b then Some f else frame_at fs n) (ne_eqb n (length fs) ne)

pub frame_kept : (f : Frame) (fs : List Frame) (n : ℕ) (g : Frame) → frame_at fs n ≡ Some g → frame_at (f ∷ fs) n ≡ Some g
frame_kept f fs n g e = frame_under f fs n (λ same. omega (arith, same, frame_within fs n g e)) ∙ e

pub frame_pop : (f : Frame) (fs : List Frame) (n : ℕ) (g : Frame) → frame_at (f ∷ fs) n ≡ Some g → ((n ≡ length fs) × (f ≡ g)) ⊎ ((n ≢ length fs) × (frame_at fs n ≡ Some g))
frame_pop f fs n g e = elim (cases_eq n (length fs)) as (λ r. ((n ≡ length fs) × (f ≡ g)) ⊎ ((n ≢ length fs) × (frame_at fs n ≡ Some g))) [
  | inl same ↦ inl (same, same_Some f g (sym (frame_top f fs n same) ∙ e))
  | inr ne ↦ inr (ne, sym (frame_under f fs n ne) ∙ e)
]

abbrev pub call_of : ℕ → Call → Frame
call_of i call = record { instance = i; purpose = purpose.Call call }

abbrev pub purpose_call : Call → Purpose
purpose_call c = purpose.Call c

pub same_purpose : (c d : Call) → purpose_call c ≡ purpose_call d → c ≡ d
same_purpose c d x = cc (x)

pub same_call : (i j : ℕ) (c d : Call) → call_of i c ≡ call_of j d → (i ≡ j) × (c ≡ d)
same_call i j c d e = (ap (λ (f : Frame). f.instance) e, same_purpose c d (ap (λ (f : Frame). f.purpose) e))

-- ---- what holds

pub record Called (fs : List Frame) (place caller : ℕ) : Type 0 where
  pub instance : ℕ
  pub call : Call
  pub stands : frame_at fs place ≡ Some (record { instance = instance; purpose = purpose.Call call })
  pub caller_is : call.caller ≡ caller

pub record LentFor (tables : List Handles) (lends : List Lend) (place caller : ℕ) (v : HandleValue) : Type 0 where
  pub lend : Lend
  pub among : IsIn lends lend
  pub to_call : lend.frame ≡ place
  pub of_caller : lend.instance ≡ caller
  pub lent : Handle
  pub lent_stands : standing tables lend.instance lend.index ≡ Some lent
  pub same : lent.serial ≡ v.serial
  pub same_resource : lent.resource ≡ v.resource
  pub same_rep : lent.rep ≡ v.rep

pub record Backed (tables : List Handles) (lends : List Lend) (fs : List Frame) (i call : ℕ) (v : HandleValue) : Type 0 where
  pub of : Call
  pub stands : frame_at fs call ≡ Some (record { instance = i; purpose = purpose.Call of })
  pub in_body : of.phase ≡ phase.Body
  pub lent_for : LentFor tables lends call of.caller v

abbrev pub value_of : Handle → HandleValue
value_of h = record { resource = h.resource; serial = h.serial; rep = h.rep }

abbrev pub LentOut : List Handles → List Lend → List Frame → Option Passage → Type 0
LentOut tables lends fs o = (p : Passage) (v : HandleValue) (f : Frame) (call : Call) → o ≡ Some p → top_of fs ≡ Some f → f.purpose ≡ purpose.Call call → call.phase ≡ phase.Arguments
    → IsBorrowedLeaf p.leaves v → LentFor tables lends (length (below_top fs)) call.caller v

abbrev pub AllCounted : List Handles → List Lend → Type 0
AllCounted tables lends = (i k : ℕ) → CountsAt (standing tables i k) (count_lends i k lends)

pub record Holds (plan : Plan) (tables : List Handles) (lends : List Lend) (fs : List Frame) (o : Option Passage) : Type 0 where
  pub stack : IsStack plan fs
  pub counted : AllCounted tables lends
  pub to_calls : (l : Lend) → IsIn lends l → Called fs l.frame l.instance
  pub borrowed : (i k call : ℕ) (h : Handle) → standing tables i k ≡ Some h → h.kind ≡ handle.Borrowed call → Backed tables lends fs i call (value_of h)
  pub lent_out : LentOut tables lends fs o

abbrev pub BorrowStands : List Handles → ℕ → ℕ → Type 0
BorrowStands tables i call = (k : ℕ) × (h : Handle) × (standing tables i k ≡ Some h) × (h.kind ≡ handle.Borrowed call)

-- ---- what is lent stays lent

pub lent_fades : (ts us : List Handles) (ls ms : List Lend) (place caller : ℕ) (v : HandleValue) → AllCounted us ms → ((i k : ℕ) → Fades (standing ts i k) (standing us i k))
    → ((l : Lend) → IsIn ls l → l.frame ≡ place → IsIn ms l) → LentFor ts ls place caller v → LentFor us ms place caller v
lent_fades ts us ls ms place caller v counts fades keeps x =
    let among : IsIn ms x.lend = keeps x.lend x.among x.to_call in
    let now = stands_lent (standing us x.lend.instance x.lend.index) (count_lends x.lend.instance x.lend.index ms) (counts x.lend.instance x.lend.index) (one_counted x.lend ms among) in
    let was = fades x.lend.instance x.lend.index now.0 now.1 in
    let is : was.0 ≡ x.lent = same_Some was.0 x.lent (sym was.1 ∙ x.lent_stands) in
    record {
      lend = x.lend;
      among = among;
      to_call = x.to_call;
      of_caller = x.of_caller;
      lent = now.0;
      lent_stands = now.1;
      same = was.2.serial ∙ (ap (λ (h : Handle). h.serial) is ∙ x.same);
      same_resource = was.2.resource ∙ (ap (λ (h : Handle). h.resource) is ∙ x.same_resource);
      same_rep = was.2.rep ∙ (ap (λ (h : Handle). h.rep) is ∙ x.same_rep);
    }

pub lent_grows : (ts us : List Handles) (ls : List Lend) (place caller : ℕ) (v : HandleValue) → ((i k : ℕ) (h : Handle) → standing ts i k ≡ Some h → standing us i k ≡ Some h)
    → LentFor ts ls place caller v → LentFor us ls place caller v
lent_grows ts us ls place caller v grows x = record {
  lend = x.lend;
  among = x.among;
  to_call = x.to_call;
  of_caller = x.of_caller;
  lent = x.lent;
  lent_stands = grows x.lend.instance x.lend.index x.lent x.lent_stands;
  same = x.same;
  same_resource = x.same_resource;
  same_rep = x.same_rep;
}

as_value : (h x : Handle) → Like h x → value_of x ≡ value_of h
as_value h x like =
    ap (λ (r : ℕ). record { resource = x.resource; serial = r; rep = x.rep }) (sym like.serial)
    ∙ (ap (λ (r : ℕ). record { resource = x.resource; serial = h.serial; rep = r }) (sym like.rep)
    ∙ ap (λ r. record { resource = r; serial = h.serial; rep = h.rep }) (sym like.resource))

-- each borrow is new and backed, or was there and stays backed
pub backed : (plan : Plan) (ts us : List Handles) (ls ms : List Lend) (fs gs : List Frame) (o : Option Passage) → Holds plan ts ls fs o
    → ((i k call : ℕ) (h : Handle) → standing us i k ≡ Some h → h.kind ≡ handle.Borrowed call → Backed us ms gs i call (value_of h) ⊎ ((x : Handle) × (standing ts i k ≡ Some x) × Like h x))
    → ((i call : ℕ) (c : Call) (v : HandleValue) → frame_at fs call ≡ Some (record { instance = i; purpose = purpose.Call c }) → c.phase ≡ phase.Body → BorrowStands us i call → LentFor ts ls call c.caller v
    → (frame_at gs call ≡ Some (record { instance = i; purpose = purpose.Call c })) × LentFor us ms call c.caller v)
    → (i k call : ℕ) (h : Handle) → standing us i k ≡ Some h → h.kind ≡ handle.Borrowed call → Backed us ms gs i call (value_of h)
backed plan ts us ls ms fs gs o holds borrows moves i k call h e kind = elim (borrows i k call h e kind) as (λ r. Backed us ms gs i call (value_of h)) [
  | inl b ↦ b
  | inr x ↦
      let was = holds.borrowed i k call x.0 x.1 (sym x.2.kind ∙ kind) in
      let now = moves i call was.of (value_of x.0) was.stands was.in_body (k, h, e, kind) was.lent_for in
      record { of = was.of; stands = now.0; in_body = was.in_body; lent_for = subst (λ (v : HandleValue). LentFor us ms call was.of.caller v) (as_value h x.0 x.2) now.1 }
]

-- ---- frames change

-- a frame is pushed that is no call in its arguments with something on its way
pub pushes : (plan : Plan) (ts : List Handles) (ls : List Lend) (fs : List Frame) (f : Frame) → IsStack plan (f ∷ fs) → (o : Option Passage) → Holds plan ts ls fs o → Holds plan ts ls (f ∷ fs) None
pushes plan ts ls fs f stands o holds = record {
  stack = stands;
  counted = holds.counted;
  to_calls = λ l a. let c = holds.to_calls l a in record { instance = c.instance; call = c.call; stands = frame_kept f fs l.frame (call_of c.instance c.call) c.stands; caller_is = c.caller_is };
  borrowed = backed plan ts ts ls ls fs (f ∷ fs) o holds (λ i k call h e kind. inr (h, e, like_refl h)) (λ i call c v e ph b x. (frame_kept f fs call (call_of i c) e, x));
  lent_out = λ p v g call e top is ph leaf. absurd (none-some p e);
}

-- a frame that is no call is popped
pub pops : (plan : Plan) (ts : List Handles) (ls : List Lend) (fs : List Frame) (f : Frame) → ((c : Call) → f.purpose ≡ purpose.Call c → ⊥) → Holds plan ts ls (f ∷ fs) None → Holds plan ts ls fs None
pops plan ts ls fs f no_call holds = record {
  stack = holds.stack.2;
  counted = holds.counted;
  to_calls = λ l a. let c = holds.to_calls l a in record { instance = c.instance; call = c.call; stands = under l.frame c.instance c.call c.stands; caller_is = c.caller_is };
  borrowed = backed plan ts ts ls ls (f ∷ fs) fs None holds (λ i k call h e kind. inr (h, e, like_refl h)) (λ i call c v e ph b x. (under call i c e, x));
  lent_out = λ p v g call e top is ph leaf. absurd (none-some p e);
} where
  under : (n i : ℕ) (c : Call) → frame_at (f ∷ fs) n ≡ Some (call_of i c) → frame_at fs n ≡ Some (call_of i c)
  under n i c e = elim (frame_pop f fs n (call_of i c) e) as (λ r. frame_at fs n ≡ Some (call_of i c)) [
    | inl top ↦ absurd (no_call c (ap (λ (g : Frame). g.purpose) top.1))
    | inr rest ↦ rest.1
  ]

-- the call on top is in another phase
pub rephases : (plan : Plan) (ts : List Handles) (ls : List Lend) (fs : List Frame) (i : ℕ) (call : Call) (p : Phase) (o : Option Passage) → IsStack plan (record { instance = i; purpose = purpose.Call (record call { phase = p }) } ∷ fs)
    → Holds plan ts ls (record { instance = i; purpose = purpose.Call call } ∷ fs) o
    → ((k : ℕ) (h : Handle) → standing ts i k ≡ Some h → h.kind ≡ handle.Borrowed (length fs) → ⊥) → Holds plan ts ls (record { instance = i; purpose = purpose.Call (record call { phase = p }) } ∷ fs) None
rephases plan ts ls fs i call p o stands holds none = record {
  stack = stands;
  counted = holds.counted;
  to_calls = λ l a. recall l.frame l.instance (holds.to_calls l a);
  borrowed = backed plan ts ts ls ls (call_of i call ∷ fs) (call_of i (record call { phase = p }) ∷ fs) o holds (λ j k place h e kind. inr (h, e, like_refl h)) (λ j place c v e ph b x. (kept j place c b e, x));
  lent_out = λ q v g c e top is ph leaf. absurd (none-some q e);
} where
  recall : (n a : ℕ) → Called (call_of i call ∷ fs) n a → Called (call_of i (record call { phase = p }) ∷ fs) n a
  recall n a c = elim (frame_pop (call_of i call) fs n (call_of c.instance c.call) c.stands) as (λ r. Called (call_of i (record call { phase = p }) ∷ fs) n a) [
    | inl top ↦ record { instance = i; call = record call { phase = p }; stands = frame_top (call_of i (record call { phase = p })) fs n top.0; caller_is = ap (λ (d : Call). d.caller) (same_call i c.instance call c.call top.1).1 ∙ c.caller_is }
    | inr rest ↦ record { instance = c.instance; call = c.call; stands = frame_under (call_of i (record call { phase = p })) fs n rest.0 ∙ rest.1; caller_is = c.caller_is }
  ]

  kept : (j n : ℕ) (c : Call) → BorrowStands ts j n → frame_at (call_of i call ∷ fs) n ≡ Some (call_of j c) → frame_at (call_of i (record call { phase = p }) ∷ fs) n ≡ Some (call_of j c)
  kept j n c b e = elim (frame_pop (call_of i call) fs n (call_of j c) e) as (λ r. frame_at (call_of i (record call { phase = p }) ∷ fs) n ≡ Some (call_of j c)) [
    | inl top ↦ absurd (none b.0 b.1 (ap (λ m. standing ts m b.0) (same_call i j call c top.1).0 ∙ b.2) (b.3 ∙ ap (λ m. handle.Borrowed m) top.0))
    | inr rest ↦ frame_under (call_of i (record call { phase = p })) fs n rest.0 ∙ rest.1
  ]

-- no borrow is for a call on top that is not in its body
pub none_on_top : (plan : Plan) (ts : List Handles) (ls : List Lend) (fs : List Frame) (i : ℕ) (call : Call) (o : Option Passage) → Holds plan ts ls (record { instance = i; purpose = purpose.Call call } ∷ fs) o
    → (call.phase ≡ phase.Body → ⊥) → (j k : ℕ) (h : Handle) → standing ts j k ≡ Some h → h.kind ≡ handle.Borrowed (length fs) → ⊥
none_on_top plan ts ls fs i call o holds not_body j k h e kind =
    let b = holds.borrowed j k (length fs) h e kind in
    let same : call_of i call ≡ call_of j b.of = same_Some (call_of i call) (call_of j b.of) (sym (frame_top (call_of i call) fs (length fs) refl) ∙ b.stands) in
    not_body (ap (λ (c : Call). c.phase) (same_call i j call b.of same).1 ∙ b.in_body)

-- nothing is on its way any more
pub unpasses : (plan : Plan) (ts : List Handles) (ls : List Lend) (fs : List Frame) (o : Option Passage) → Holds plan ts ls fs o → Holds plan ts ls fs None
unpasses plan ts ls fs o holds = record { stack = holds.stack; counted = holds.counted; to_calls = holds.to_calls; borrowed = holds.borrowed; lent_out = λ p v g call e top is ph leaf. absurd (none-some p e) }

-- the same handles are on their way
pub repasses : (plan : Plan) (ts : List Handles) (ls : List Lend) (fs : List Frame) (p q : Passage) → q.leaves ≡ p.leaves → Holds plan ts ls fs (Some p) → Holds plan ts ls fs (Some q)
repasses plan ts ls fs p q same holds = record {
  stack = holds.stack;
  counted = holds.counted;
  to_calls = holds.to_calls;
  borrowed = holds.borrowed;
  lent_out = λ r v g call e top is ph leaf. holds.lent_out p v g call refl top is ph (subst (λ (ls : List HandleLeaf). IsBorrowedLeaf ls v) (ap (λ (x : Passage). x.leaves) (sym (same_Some q r e)) ∙ same) leaf);
}

-- ---- one handle goes

pub releases : (plan : Plan) (ts : List Handles) (ls : List Lend) (fs : List Frame) (i index : ℕ) (h : Handle) → i < length ts → standing ts i index ≡ Some h → h.lends ≡ 0
    → Holds plan ts ls fs None → Holds plan (slice_set ts i (after_release (table_at ts i) index)) ls fs None
releases plan ts ls fs i index h lt stands free holds = record {
  stack = holds.stack;
  counted = counted;
  to_calls = holds.to_calls;
  borrowed = backed plan ts us ls ls fs fs None holds (λ j k call y e kind. inr (fades j k y e)) (λ j call c v e ph b x. (e, lent_fades ts us ls ls call c.caller v counted fades (λ l a is. a) x));
  lent_out = λ p v g call e top is ph leaf. absurd (none-some p e);
} where
  us : List Handles
  us = slice_set ts i (after_release (table_at ts i) index)

  here : standing us i index ≡ None
  here = ap (λ t. handle_at t index) (table_same ts i (after_release (table_at ts i) index) lt) ∙ released (table_at ts i) index

  other : (j k : ℕ) → ((j ≡ i) × (k ≡ index) → ⊥) → standing us j k ≡ standing ts j k
  other j k ne = elim (cases_eq j i) as (λ r. standing us j k ≡ standing ts j k) [
    | inl same ↦ ap (λ m. standing us m k) same ∙ (ap (λ t. handle_at t k) (table_same ts i (after_release (table_at ts i) index) lt) ∙ (get_or-set_other (table_at ts i).slots index k None None (λ e. ne (same, e)) ∙ ap (λ m. standing ts m k) (sym same)))
    | inr apart ↦ at_other ts i j k (after_release (table_at ts i) index) apart
  ]

  both : (P : ℕ → ℕ → Type 0) → P i index → ((j k : ℕ) → ((j ≡ i) × (k ≡ index) → ⊥) → P j k) → (j k : ℕ) → P j k
  both P at rest j k = elim (cases_eq j i) as (λ r. P j k) [
    | inl same ↦ elim (cases_eq k index) as (λ r. P j k) [
      | inl is ↦ subst (λ m. P m k) (sym same) (subst (λ m. P i m) (sym is) at)
      | inr ne ↦ rest j k (λ b. ne b.1)
    ]
    | inr ne ↦ rest j k (λ b. ne b.0)
  ]

  counted : AllCounted us ls
  counted j k = both (λ a b. CountsAt (standing us a b) (count_lends a b ls))
      (subst (λ o. CountsAt o (count_lends i index ls)) (sym here) (sym (counts_of (standing ts i index) (count_lends i index ls) h (holds.counted i index) stands) ∙ free))
      (λ a b ne. subst (λ o. CountsAt o (count_lends a b ls)) (sym (other a b ne)) (holds.counted a b)) j k

  fades : (j k : ℕ) → Fades (standing ts j k) (standing us j k)
  fades j k = both (λ a b. Fades (standing ts a b) (standing us a b))
      (subst (λ o. Fades (standing ts i index) o) (sym here) (fades_none (standing ts i index)))
      (λ a b ne. subst (λ o. Fades (standing ts a b) o) (sym (other a b ne)) (fades_refl (standing ts a b))) j k

-- ---- a lift

pub lifts : (plan : Plan) (ts : List Handles) (ls : List Lend) (fs : List Frame) (i place most : ℕ) (ms : List Met) (p : Passage) → i < length ts
    → AreThere (table_at ts i) ms p.leaves → CanGo (table_at ts i) most ms → ((k : ℕ) → IsAmong (lent_of ms) k → Called fs place i)
    → ((f : Frame) (c : Call) → top_of fs ≡ Some f → f.purpose ≡ purpose.Call c → c.phase ≡ phase.Arguments → (place ≡ length (below_top fs)) × (i ≡ c.caller))
    → Holds plan ts ls fs None → Holds plan (slice_set ts i (after_met (table_at ts i) ms)) (ls ++ lends_to place i (lent_of ms)) fs (Some p)
lifts plan ts ls fs i place most ms p lt there go called tops holds = record {
  stack = holds.stack;
  counted = counted;
  to_calls = λ l a. elim (in_split ls (lends_to place i (lent_of ms)) l a) as (λ r. Called fs l.frame l.instance) [
    | inl b ↦ holds.to_calls l b
    | inr b ↦ new_call l b
  ];
  borrowed = backed plan ts us ls ns fs fs None holds (λ j k call y e kind. inr (fades j k y e)) (λ j call c v e ph b x. (e, lent_fades ts us ls ns call c.caller v counted fades (λ l a is. in_left ls (lends_to place i (lent_of ms)) l a) x));
  lent_out = λ q v f c e top is ph leaf.
      let at = tops f c top is ph in
      let k = lent_leaf (table_at ts i) ms p.leaves v there (subst (λ (x : Passage). IsBorrowedLeaf x.leaves v) (sym (same_Some p q e)) leaf) in
      let old : LentFor ts ns place i v = record {
        lend = record { frame = place; instance = i; index = k.0 };
        among = in_right ls (lends_to place i (lent_of ms)) (record { frame = place; instance = i; index = k.0 }) (to_lends place i (lent_of ms) k.0 k.1);
        to_call = refl;
        of_caller = refl;
        lent = k.2.0;
        lent_stands = k.2.1;
        same = k.2.2;
        same_resource = k.2.3;
        same_rep = k.2.4;
      } in
      subst (λ n. LentFor us ns n c.caller v) at.0 (subst (λ n. LentFor us ns place n v) at.1 (lent_fades ts us ns ns place i v counted fades (λ l a b. a) old));
} where
  us : List Handles
  us = slice_set ts i (after_met (table_at ts i) ms)

  ns : List Lend
  ns = ls ++ lends_to place i (lent_of ms)

  here : (k : ℕ) → standing us i k ≡ fade k ms (standing ts i k)
  here k = ap (λ t. handle_at t k) (table_same ts i (after_met (table_at ts i) ms) lt) ∙ met_at_index k ms (table_at ts i)

  grown : (k : ℕ) → CountsAt (fade k ms (standing ts i k)) (count_lends i k ls + times k (lent_of ms))
  grown k = fade_counts k ms (standing ts i k) (count_lends i k ls)
      (λ a. let h = taken_is_there (table_at ts i) ms p.leaves k there a in
      sym (counts_of (standing ts i k) (count_lends i k ls) h.0 (holds.counted i k) h.1) ∙ go.free k h.0 (contains (taken_of ms) k a) h.1)
      (λ a b. go.apart k (contains (taken_of ms) k a) (contains (lent_of ms) k b))
      (λ a. lent_is_there (table_at ts i) ms p.leaves k there a) (holds.counted i k)

  counted : AllCounted us ns
  counted j k = elim (cases_eq j i) as (λ r. CountsAt (standing us j k) (count_lends j k ns)) [
    | inl same ↦
        subst (λ m. CountsAt (standing us m k) (count_lends m k ns)) (sym same)
        (subst (λ o. CountsAt o (count_lends i k ns)) (sym (here k)) (subst (λ m. CountsAt (fade k ms (standing ts i k)) m) (omega (arith, count_both i k ls (lends_to place i (lent_of ms)), counted_to place i k (lent_of ms))) (grown k)))
    | inr ne ↦
        subst (λ o. CountsAt o (count_lends j k ns)) (sym (at_other ts i j k (after_met (table_at ts i) ms) ne))
        (subst (λ m. CountsAt (standing ts j k) m) (omega (arith, count_both j k ls (lends_to place i (lent_of ms)), counted_elsewhere place i j k (lent_of ms) ne)) (holds.counted j k))
  ]

  fades : (j k : ℕ) → Fades (standing ts j k) (standing us j k)
  fades j k = elim (cases_eq j i) as (λ r. Fades (standing ts j k) (standing us j k)) [
    | inl same ↦ subst (λ m. Fades (standing ts m k) (standing us m k)) (sym same) (subst (λ o. Fades (standing ts i k) o) (sym (here k)) (fade_fades k ms (standing ts i k)))
    | inr ne ↦ subst (λ o. Fades (standing ts j k) o) (sym (at_other ts i j k (after_met (table_at ts i) ms) ne)) (fades_refl (standing ts j k))
  ]

  some_lent : (is : List ℕ) (l : Lend) → IsIn (lends_to place i is) l → (k : ℕ) × IsAmong is k
  some_lent [] l a = absurd a
  some_lent (x ∷ is) l a = (x, inl refl)

  new_call : (l : Lend) → IsIn (lends_to place i (lent_of ms)) l → Called fs l.frame l.instance
  new_call l b =
      let x = in_lends_to place i (lent_of ms) l b in
      let k = some_lent (lent_of ms) l b in
      subst (λ n. Called fs n l.instance) (sym x.0) (subst (λ n. Called fs place n) (sym x.1) (called k.0 k.1))

-- ---- a call ends

pub ends : (plan : Plan) (ts : List Handles) (ls : List Lend) (fs : List Frame) (i : ℕ) (call : Call) → (call.phase ≡ phase.Body → ⊥) → Holds plan ts ls (record { instance = i; purpose = purpose.Call call } ∷ fs) None
    → Holds plan (tables_after_call (length fs) ls ts) (lends_after_call (length fs) ls) fs None
ends plan ts ls fs i call not_body holds = record {
  stack = holds.stack.2;
  counted = counted;
  to_calls = λ l a.
      let was = was_in (length fs) ls l a in
      let c = holds.to_calls l was.0 in
      record { instance = c.instance; call = c.call; stands = sym (frame_under (call_of i call) fs l.frame was.1) ∙ c.stands; caller_is = c.caller_is };
  borrowed = backed plan ts us ls ms (call_of i call ∷ fs) fs None holds (λ j k place y e kind. inr (fades j k y e)) (λ j place c v e ph b x.
      let rest = below j place c e ph in
      (rest.1, lent_fades ts us ls ms place c.caller v counted fades (λ l a is. stays_in (length fs) ls l a (λ f. rest.0 (sym is ∙ f))) x));
  lent_out = λ p v g c e top is ph leaf. absurd (none-some p e);
} where
  us : List Handles
  us = tables_after_call (length fs) ls ts

  ms : List Lend
  ms = lends_after_call (length fs) ls

  counted : AllCounted us ms
  counted j k = subst (λ m. CountsAt (standing us j k) m) (omega arith) (ends_count (length fs) ls ts (λ a b. 0) (λ a b. subst (λ m. CountsAt (standing ts a b) m) (omega arith) (holds.counted a b)) j k)

  fades : (j k : ℕ) → Fades (standing ts j k) (standing us j k)
  fades j k = ends_fade (length fs) ls ts j k

  below : (j n : ℕ) (c : Call) → frame_at (call_of i call ∷ fs) n ≡ Some (call_of j c) → c.phase ≡ phase.Body → (n ≢ length fs) × (frame_at fs n ≡ Some (call_of j c))
  below j n c e ph = elim (frame_pop (call_of i call) fs n (call_of j c) e) as (λ r. (n ≢ length fs) × (frame_at fs n ≡ Some (call_of j c))) [
    | inl top ↦ absurd (not_body (ap (λ (d : Call). d.phase) (same_call i j call c top.1).1 ∙ ph))
    | inr rest ↦ rest
  ]

-- ---- handles are given

-- what stands in a table after handles were given: what stood, or one of them where nothing stood
abbrev pub GivenAt : Receiver → List HandleLeaf → Option Handle → Option Handle → Type 0
GivenAt to leaves old new = (new ≡ old) ⊎ ((old ≡ None) × (h : Handle) × (new ≡ Some h) × (h.lends ≡ 0) × ((call : ℕ) → h.kind ≡ handle.Borrowed call → (call ≡ to.call) × IsBorrowedLeaf leaves (value_of h)))

given_more : (to : Receiver) (leaf : HandleLeaf) (leaves : List HandleLeaf) (old new : Option Handle) → ((v : HandleValue) → IsBorrowedLeaf leaves v → IsBorrowedLeaf (leaf ∷ leaves) v) → GivenAt to leaves old new → GivenAt to (leaf ∷ leaves) old new
given_more to leaf leaves old new more (inl e) = inl e
given_more to leaf leaves old new more (inr x) = inr (x.0, x.1, x.2, x.3, λ call e. let y = x.4 call e in (y.0, more (value_of x.1) y.1))

given_after : (to : Receiver) (leaves : List HandleLeaf) (old mid new : Option Handle) → (mid ≡ old) → GivenAt to leaves mid new → GivenAt to leaves old new
given_after to leaves old mid new same x = subst (λ o. GivenAt to leaves o new) same x

-- what stands at an index where one handle was added before
given_first : (to : Receiver) (leaves : List HandleLeaf) (h : Handle) (old mid new : Option Handle) → old ≡ None → mid ≡ Some h → h.lends ≡ 0 → ((call : ℕ) → h.kind ≡ handle.Borrowed call → (call ≡ to.call) × IsBorrowedLeaf leaves (value_of h))
    → GivenAt to leaves mid new → GivenAt to leaves old new
given_first to leaves h old mid new none some free borrow (inl e) = inr (none, h, e ∙ some, free, borrow)
given_first to leaves h old mid new none some free borrow (inr x) = absurd (none-some h (sym x.0 ∙ some))

owned_is_no_borrow : (c : ℕ) → handle.Owned ≡ handle.Borrowed c → ⊥
owned_is_no_borrow c e = cc (e)

same_borrow : (c d : ℕ) → handle.Borrowed c ≡ handle.Borrowed d → c ≡ d
same_borrow c d e = cc (e)

added_at : AddingIsFine → (to : Receiver) (leaves rest : List HandleLeaf) (t : Handles) (h : Handle) → IsSoundHandles t → 0 < indices_left t → h.lends ≡ 0
    → ((call : ℕ) → h.kind ≡ handle.Borrowed call → (call ≡ to.call) × IsBorrowedLeaf leaves (value_of h))
    → ((k : ℕ) → GivenAt to leaves (handle_at (after_add t h) k) (handle_at (after_given to (after_add t h) rest) k))
    → (k : ℕ) → GivenAt to leaves (handle_at t k) (handle_at (after_given to (after_add t h) rest) k)
added_at fine to leaves rest t h sound room free borrow all k =
    let adds = fine t h sound room in
    elim (cases_eq k (next_index t)) as (λ r. GivenAt to leaves (handle_at t k) (handle_at (after_given to (after_add t h) rest) k)) [
      | inl same ↦ given_first to leaves h (handle_at t k) (handle_at (after_add t h) k) (handle_at (after_given to (after_add t h) rest) k) (ap (λ n. handle_at t n) same ∙ adds.vacant) (ap (λ n. handle_at (after_add t h) n) same ∙ adds.changes.here) free borrow (all k)
      | inr ne ↦ given_after to leaves (handle_at t k) (handle_at (after_add t h) k) (handle_at (after_given to (after_add t h) rest) k) (adds.changes.others k ne) (all k)
    ]

borrow_at : AddingIsFine → (to : Receiver) (v : HandleValue) (rest : List HandleLeaf) (t : Handles) → IsSoundHandles t
    → ((u : Handles) → IsSoundHandles u → added_count to rest ≤ indices_left u → (k : ℕ) → GivenAt to (borrowed_leaf v ∷ rest) (handle_at u k) (handle_at (after_given to u rest) k))
    → (b : Bool) → added_by (if b then None else Some (handle_to v (handle.Borrowed to.call))) + added_count to rest ≤ indices_left t
    → (k : ℕ) → GivenAt to (borrowed_leaf v ∷ rest) (handle_at t k) (handle_at (after_given to (with_added t (if b then None else Some (handle_to v (handle.Borrowed to.call)))) rest) k)
borrow_at fine to v rest t sound all true room k = all t sound (omega (arith, room)) k
borrow_at fine to v rest t sound all false room k =
    let some : 0 < indices_left t = omega (arith, room) in
    let adds = fine t (handle_to v (handle.Borrowed to.call)) sound some in
    added_at fine to (borrowed_leaf v ∷ rest) rest t (handle_to v (handle.Borrowed to.call)) sound some refl (λ call e. (sym (same_borrow to.call call e), inl refl))
    (λ j. all (after_add t (handle_to v (handle.Borrowed to.call))) adds.sound (omega (arith, room, adds.left)) j) k

pub given_at : AddingIsFine → (to : Receiver) (leaves : List HandleLeaf) (t : Handles) → IsSoundHandles t → added_count to leaves ≤ indices_left t
    → (k : ℕ) → GivenAt to leaves (handle_at t k) (handle_at (after_given to t leaves) k)
given_at fine to [] t sound room k = inl refl
given_at fine to (owned_leaf v ∷ leaves) t sound room k =
    let some : 0 < indices_left t = omega (arith, room) in
    let adds = fine t (handle_to v handle.Owned) sound some in
    added_at fine to (owned_leaf v ∷ leaves) leaves t (handle_to v handle.Owned) sound some refl (λ call e. absurd (owned_is_no_borrow call e))
    (λ j. given_more to (owned_leaf v) leaves (handle_at (after_add t (handle_to v handle.Owned)) j) (handle_at (after_given to (after_add t (handle_to v handle.Owned)) leaves) j) (λ w b. b)
    (given_at fine to leaves (after_add t (handle_to v handle.Owned)) adds.sound (omega (arith, room, adds.left)) j)) k
given_at fine to (borrowed_leaf v ∷ leaves) t sound room k =
    borrow_at fine to v leaves t sound (λ u s r j. given_more to (borrowed_leaf v) leaves (handle_at u j) (handle_at (after_given to u leaves) j) (λ w b. inr b) (given_at fine to leaves u s r j)) (v.resource.component == to.instance) room k

abbrev GivenIn : Receiver → List HandleLeaf → List Handles → List Handles → ℕ → ℕ → Type 0
GivenIn to leaves ts us j k = (standing us j k ≡ standing ts j k) ⊎ ((j ≡ to.instance) × GivenAt to leaves (standing ts j k) (standing us j k))

pub gives_by : (plan : Plan) (ts : List Handles) (ls : List Lend) (fs : List Frame) (to : Receiver) (leaves : List HandleLeaf) (new : Handles) → to.instance < length ts
    → ((k : ℕ) → GivenAt to leaves (standing ts to.instance k) (handle_at new k))
    → ((v : HandleValue) → IsBorrowedLeaf leaves v → Backed ts ls fs to.instance to.call v)
    → Holds plan ts ls fs None → Holds plan (slice_set ts to.instance new) ls fs None
gives_by plan ts ls fs to leaves new lt given back holds = record {
  stack = holds.stack;
  counted = λ j k. counted_in j k (at j k);
  to_calls = holds.to_calls;
  borrowed = backed plan ts us ls ls fs fs None holds (λ j k call h e kind. borrows j k call h e kind (at j k)) (λ j call c v e ph b x. (e, lent_grows ts us ls call c.caller v grows x));
  lent_out = λ p v g call e top is ph leaf. absurd (none-some p e);
} where
  us : List Handles
  us = slice_set ts to.instance new

  at : (j k : ℕ) → GivenIn to leaves ts us j k
  at j k = elim (cases_eq j to.instance) as (λ r. GivenIn to leaves ts us j k) [
    | inl same ↦ inr (same, subst (λ m. GivenAt to leaves (standing ts m k) (standing us m k)) (sym same) (subst (λ o. GivenAt to leaves (standing ts to.instance k) o) (sym (ap (λ t. handle_at t k) (table_same ts to.instance new lt))) (given k)))
    | inr ne ↦ inl (at_other ts to.instance j k new ne)
  ]

  counted_in : (j k : ℕ) → GivenIn to leaves ts us j k → CountsAt (standing us j k) (count_lends j k ls)
  counted_in j k (inl e) = subst (λ o. CountsAt o (count_lends j k ls)) (sym e) (holds.counted j k)
  counted_in j k (inr (same, inl e)) = subst (λ o. CountsAt o (count_lends j k ls)) (sym e) (holds.counted j k)
  counted_in j k (inr (same, inr x)) =
      let none : count_lends j k ls ≡ 0 = subst (λ o. CountsAt o (count_lends j k ls)) x.0 (holds.counted j k) in
      subst (λ o. CountsAt o (count_lends j k ls)) (sym x.2) (x.3 ∙ sym none)

  grows : (j k : ℕ) (h : Handle) → standing ts j k ≡ Some h → standing us j k ≡ Some h
  grows j k h e = by (at j k) where
    by : GivenIn to leaves ts us j k → standing us j k ≡ Some h
    by (inl x) = x ∙ e
    by (inr (same, inl x)) = x ∙ e
    by (inr (same, inr x)) = absurd (none-some h (sym x.0 ∙ e))

  borrows : (j k call : ℕ) (h : Handle) → standing us j k ≡ Some h → h.kind ≡ handle.Borrowed call → GivenIn to leaves ts us j k → Backed us ls fs j call (value_of h) ⊎ ((x : Handle) × (standing ts j k ≡ Some x) × Like h x)
  borrows j k call h e kind (inl x) = inr (h, sym x ∙ e, like_refl h)
  borrows j k call h e kind (inr (same, inl x)) = inr (h, sym x ∙ e, like_refl h)
  borrows j k call h e kind (inr (same, inr x)) =
      let is : x.1 ≡ h = same_Some x.1 h (sym x.2 ∙ e) in
      let leaf = x.4 call (ap (λ (y : Handle). y.kind) is ∙ kind) in
      let b = back (value_of x.1) leaf.1 in
      inl (subst (λ (y : Handle). Backed us ls fs j call (value_of y)) is
      (subst (λ n. Backed us ls fs n call (value_of x.1)) (sym same)
      (subst (λ n. Backed us ls fs to.instance n (value_of x.1)) (sym leaf.0)
      (record { of = b.of; stands = b.stands; in_body = b.in_body; lent_for = lent_grows ts us ls to.call b.of.caller (value_of x.1) grows b.lent_for }))))

-- ---- a trap

leaves_by_own : (f : Frame) → MayLeave f.purpose → actor f ≡ f.instance
leaves_by_own f may = by_purpose f.purpose refl may where
  by_phase : (ph : Phase) (c : Call) → f.purpose ≡ purpose.Call c → c.phase ≡ ph → MayLeaveIn ph → actor f ≡ f.instance
  by_phase phase.Arguments c is e m = absurd m
  by_phase phase.Body c is e m = ap (λ (pu : Purpose). actor (record { instance = f.instance; purpose = pu })) is ∙ ap (λ (ph : Phase). actor (record { instance = f.instance; purpose = purpose.Call (record c { phase = ph }) })) e
  by_phase phase.Results c is e m = absurd m
  by_phase (phase.PostReturn r) c is e m = absurd m

  by_purpose : (pu : Purpose) → f.purpose ≡ pu → MayLeave pu → actor f ≡ f.instance
  by_purpose purpose.Root is m = ap (λ (pu : Purpose). actor (record { instance = f.instance; purpose = pu })) is
  by_purpose (purpose.Call c) is m = by_phase c.phase c is refl m
  by_purpose (purpose.Destructor d) is m = ap (λ (pu : Purpose). actor (record { instance = f.instance; purpose = pu })) is

top_has : (fs : List Frame) (f : Frame) (i : ℕ) → top_of fs ≡ Some f → f.instance ≡ i → HasFrame fs i
top_has [] f i e is = absurd (none-some f e)
top_has (g ∷ fs) f i e is = inl (ap (λ (x : Frame). x.instance) (same_Some g f e) ∙ is)

-- who calls has a frame
pub caller_has : (plan : Plan) (fs : List Frame) (place i : ℕ) (c : Call) → IsStack plan fs → frame_at fs place ≡ Some (record { instance = i; purpose = purpose.Call c }) → HasFrame fs c.caller
caller_has plan [] place i c st e = absurd (none-some (call_of i c) e)
caller_has plan (f ∷ fs) place i c st e = elim (frame_pop f fs place (call_of i c) e) as (λ r. HasFrame (f ∷ fs) c.caller) [
  | inl top ↦
      let on = subst (λ (g : Frame). StandsOn plan g.purpose g.instance fs) top.1 st.1 in
      inr (top_has fs on.1.0 c.caller on.1.1 (sym (leaves_by_own on.1.0 on.1.3) ∙ on.1.2))
  | inr rest ↦ inr (caller_has plan fs place i c st.2 rest.1)
]

pub instance_has : (fs : List Frame) (place i : ℕ) (c : Call) → frame_at fs place ≡ Some (record { instance = i; purpose = purpose.Call c }) → HasFrame fs i
instance_has [] place i c e = absurd (none-some (call_of i c) e)
instance_has (f ∷ fs) place i c e = elim (frame_pop f fs place (call_of i c) e) as (λ r. HasFrame (f ∷ fs) i) [
  | inl top ↦ inl (ap (λ (g : Frame). g.instance) top.1)
  | inr rest ↦ inr (instance_has fs place i c rest.1)
]

pub traps : (plan : Plan) (ts : List Handles) (ls : List Lend) (fs : List Frame) (o : Option Passage) → Holds plan ts ls fs o → Holds plan (tables_after_trap fs ts) [] [] None
traps plan ts ls fs o holds = record {
  stack = tt;
  counted = λ i k. counted (standing (tables_after_trap fs ts) i k) (clean i k);
  to_calls = λ l a. absurd a;
  borrowed = λ i k call h e kind. absurd ((clean i k h e).1 call kind);
  lent_out = λ p v g call e top is ph leaf. absurd (none-some p e);
} where
  counted : (x : Option Handle) → Clean x → CountsAt x 0
  counted None c = refl
  counted (Some h) c = (c h refl).0

  apart : (i k : ℕ) → (HasFrame fs i → ⊥) → Clean (standing ts i k)
  apart i k none h e = (
    counts_of (standing ts i k) (count_lends i k ls) h (holds.counted i k) e ∙ zero_count,
    λ c kind. let b = holds.borrowed i k c h e kind in none (instance_has fs c i b.of b.stands),
  ) where
    zero_count : count_lends i k ls ≡ 0
    zero_count = elim (cases_lt 0 (count_lends i k ls)) as (λ r. count_lends i k ls ≡ 0) [
      | inl lt ↦
          let l = counted_one i k ls lt in
          let c = holds.to_calls l.0 l.1 in
          absurd (none (subst (λ n. HasFrame fs n) (c.caller_is ∙ l.2) (caller_has plan fs l.0.frame c.instance c.call holds.stack c.stands)))
      | inr le ↦ omega (arith, le)
    ]

  clean : (i k : ℕ) → Clean (standing (tables_after_trap fs ts) i k)
  clean i k = elim (has_frame fs i) as (λ r. Clean (standing (tables_after_trap fs ts) i k)) [
    | inl has ↦ traps_clean fs ts i k (inl has)
    | inr none ↦ traps_clean fs ts i k (inr (apart i k none))
  ]

-- What is said of a state's lends, and what holds of them.
use Rattle.std.proofs.Common.{◌≡◌, ℕ, inl, inr, Option, Some, None, refl, sym, ap, ◌∙◌, arith}
use Rattle.std.proofs.lemmas.Bool.{cases_lt}
use Rattle.cm_handles.specs.declared.handle.Handle.{Handle}
use Rattle.cm_machine_model.specs.declared.event.Event.{Event}
use Rattle.cm_machine_model.specs.declared.moves.Move.{Move}
use Rattle.cm_machine_laws.proofs.LendingLaws.{AreLent}
use Rattle.cm_machine_model.specs.Owning.{AreCounted, count_lends, standing}
use Rattle.cm_machine_laws.proofs.OwningLaws.{AddingIsFine}
use Rattle.cm_machine_model.specs.Plan.{Plan}
use Rattle.cm_machine_model.specs.State.{State}
use Rattle.cm_machine_model.specs.Step.{Step}
use Rattle.cm_machine_model.specs.Valid.{IsValidState}
use Rattle.cm_machine_laws.proofs.LendCounts.{CountsAt, counted_one, counts_of, in_from, in_to}
use Rattle.cm_machine_laws.proofs.LendCounts.{one_counted, stands_lent}
use Rattle.cm_machine_laws.proofs.StepLends.{H, steps_hold}

count_there : (s : State) → AreCounted s → (i k : ℕ) (o : Option Handle) → standing s.tables i k ≡ o → CountsAt o (count_lends i k s.lends)
count_there s c i k None e = elim (cases_lt 0 (count_lends i k s.lends)) as (λ r. count_lends i k s.lends ≡ 0) [
  | inl lt ↦
      let l = counted_one i k s.lends lt in
      let h = c.of_handles l.0 (in_to s.lends l.0 l.1) in
      let same : Some h.0 ≡ None = sym h.1 ∙ (ap (λ n. standing s.tables n l.0.index) l.2 ∙ (ap (λ n. standing s.tables i n) l.3 ∙ e)) in
      absurd (cc (same))
  | inr le ↦ omega (arith, le)
]
count_there s c i k (Some h) e = c.counted i k h e

pub from_valid : (plan : Plan) (s : State) → IsValidState plan s → H plan s
from_valid plan s valid = record {
  stack = valid.stack;
  counted = λ i k. count_there s valid.counted i k (standing s.tables i k) refl;
  to_calls = λ l a. let c = valid.to_calls l (in_to s.lends l a) in record { instance = c.instance; call = c.call; stands = c.stands; caller_is = c.caller_is };
  borrowed = λ i k call h e kind.
      let b = valid.borrowed i k call h e kind in
      record {
        of = b.stands_call;
        stands = b.stands;
        in_body = b.in_body;
        lent_for = record { lend = b.lend; among = in_from s.lends b.lend b.among; to_call = b.to_call; of_caller = b.of_caller; lent = b.lent; lent_stands = b.lent_stands; same = b.same; same_resource = b.same_resource; same_rep = b.same_rep };
      };
  lent_out = λ p v f call e top is ph leaf.
      let b = valid.lent_out p v f call e top is ph leaf in
      record { lend = b.lend; among = in_from s.lends b.lend b.among; to_call = b.to_call; of_caller = b.of_caller; lent = b.lent; lent_stands = b.lent_stands; same = b.same; same_resource = b.same_resource; same_rep = b.same_rep };
}

pub to_lent : (plan : Plan) (s : State) → H plan s → AreLent s
to_lent plan s h = record {
  counted = record {
    counted = λ i k g e. counts_of (standing s.tables i k) (count_lends i k s.lends) g (h.counted i k) e;
    of_handles = λ l a. stands_lent (standing s.tables l.instance l.index) (count_lends l.instance l.index s.lends) (h.counted l.instance l.index) (one_counted l s.lends (in_from s.lends l a));
  };
  to_calls = λ l a. let c = h.to_calls l (in_from s.lends l a) in record { instance = c.instance; call = c.call; stands = c.stands; caller_is = c.caller_is };
  borrowed = λ i k call g e kind.
      let b = h.borrowed i k call g e kind in
      let x = b.lent_for in
      record {
        stands_call = b.of;
        stands = b.stands;
        in_body = b.in_body;
        lend = x.lend;
        among = in_to s.lends x.lend x.among;
        to_call = x.to_call;
        of_caller = x.of_caller;
        lent = x.lent;
        lent_stands = x.lent_stands;
        same = x.same;
        same_resource = x.same_resource;
        same_rep = x.same_rep;
      };
  lent_out = λ p v f call e top is ph leaf.
      let x = h.lent_out p v f call e top is ph leaf in
      record { lend = x.lend; among = in_to s.lends x.lend x.among; to_call = x.to_call; of_caller = x.of_caller; lent = x.lent; lent_stands = x.lent_stands; same = x.same; same_resource = x.same_resource; same_rep = x.same_rep };
}

pub steps_lend : AddingIsFine → (plan : Plan) (s : State) (m : Move) (e : Event) (new : State) → IsValidState plan s → Step plan s m e new → AreLent new
steps_lend fine plan s m e new valid x = to_lent plan new (steps_hold fine plan s m e new valid (from_valid plan s valid) x)

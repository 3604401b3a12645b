-- What has come of a file, of which a decoder was fed a part.
use Rattle.std.proofs.Common.{◌≡◌, ℕ, ◌+◌, ◌<◌, List, [], ◌++◌, length, take, get_or, Bor, Option, Some, None, Result, Ok, Err, refl, sym, ap, subst, ◌∙◌, append_assoc, append-nil, arith, inl, inr, ◌⊎◌}
use Rattle.std.specs.Prelude.{OnOk, IfOk, IfErr, IfSome}
use Rattle.cm_binary.proofs.OneAnswer.{one_answer}
use Rattle.std.proofs.lemmas.List.{length-append, get_or_past, take_more, flat_map_more}
use Rattle.std.specs.List.{flat_map}
use Rattle.cm_binary_grammar.proofs.Tools.{IsBytes-after}
use Rattle.cm_binary_forms.specs.declared.fault.DecodeFault.{DecodeFault}
use Rattle.cm_binary_forms.specs.declared.fault.DecodeReason.TheVariants.{Memory, Read}
use Rattle.cm_binary_forms.specs.File.{Spells, FirstFault}
use Rattle.cm_binary.specs.Answers.{IsAnswer}
use Rattle.cm_binary.specs.After.{Held, Answer, nothing, After, Follows, IsSettled}
use Rattle.cm_binary.specs.Streams.{FailsBehind}
use Rattle.cm_binary.specs.Pieces.{Decodes, StaysFault, IsOpen, HasCome}
use Rattle.cm_binary.proofs.PieceLaws.{IsBytes-append, fresh_answers}
use Rattle.cm_lemmas.proofs.Lists.{IsBytes}
use Rattle.cm_lemmas.proofs.Results.{ok_of}

pub come_nothing : HasCome nothing [] []
come_nothing = record {
  fed = [];
  parts = refl;
  are_bytes = λ i. let none : List ℕ = [] in omega (arith, get_or_past none i 0 (omega arith));
  counted = λ none. omega arith;
  answers = λ more answer fits. fresh_answers more answer;
}

pub come_more : (d : Held) (unfed before bytes : List ℕ) → IsBytes bytes → HasCome d unfed before → HasCome d (unfed ++ bytes) (before ++ bytes)
come_more d unfed before bytes fits h = record {
  fed = h.fed;
  parts = ap (λ (b : List ℕ). b ++ bytes) h.parts ∙ append_assoc h.fed unfed bytes;
  are_bytes = IsBytes-append before bytes h.are_bytes fits;
  counted = h.counted;
  answers = λ more answer all. rw (append_assoc before bytes more, append_assoc unfed bytes more) (h.answers (bytes ++ more) answer (rw (← append_assoc before bytes more) all));
}

unfed_bytes : (d : Held) (unfed before more : List ℕ) → HasCome d unfed before → IsBytes (before ++ more) → IsBytes (unfed ++ more)
unfed_bytes d unfed before more h all = IsBytes-after (before ++ more) h.fed (unfed ++ more) (ap (λ (b : List ℕ). b ++ more) h.parts ∙ append_assoc h.fed unfed more) all

all_bytes : (d : Held) (unfed before more : List ℕ) → HasCome d unfed before → IsBytes (unfed ++ more) → IsBytes (before ++ more)
all_bytes d unfed before more h fits = IsBytes-append before more h.are_bytes (IsBytes-after (unfed ++ more) unfed more refl fits)

-- Of what was not fed yet, a front is fed.
pub come_front : (old new : Held) (front rest before : List ℕ) → old.fault ≡ None → Follows old front new → HasCome old (front ++ rest) before → HasCome new rest before
come_front old new front rest before none f h = record {
  fed = h.fed ++ front;
  parts = h.parts ∙ sym (append_assoc h.fed front rest);
  are_bytes = h.are_bytes;
  counted = λ unharmed. omega (arith, f.counted, h.counted none, length-append h.fed front);
  answers = λ more answer all.
      let fits = rw (append_assoc front rest more) at (unfed_bytes old (front ++ rest) before more h all) in
      let first = f.answers (rest ++ more) answer fits in
      let second = rw (append_assoc front rest more) at (h.answers more answer all) in
      (λ a. second.0 (first.0 a), λ a. first.1 (second.1 a));
}

pub come_fed : (old new : Held) (unfed before : List ℕ) → old.fault ≡ None → Follows old unfed new → HasCome old unfed before → HasCome new [] before
come_fed old new unfed before none f h = come_front old new unfed [] before none f (rw (append-nil unfed) h)

pub come_open : (d : Held) (unfed before : List ℕ) → ((f : DecodeFault) → IsSettled d unfed f → ⊥) → HasCome d unfed before → IsOpen before
come_open d unfed before unsettled h f stays = unsettled f (λ more fits. let all = all_bytes d unfed before more h fits in (h.answers more (Err f) all).1 (stays more all))

pub front_stays : (d : Held) (front rest before : List ℕ) (f : DecodeFault) → IsSettled d front f → HasCome d (front ++ rest) before → StaysFault before f
front_stays d front rest before f settled h more all =
    let fits = rw (append_assoc front rest more) at (unfed_bytes d (front ++ rest) before more h all) in
    (h.answers more (Err f) all).0 (rw (append_assoc front rest more) (settled (rest ++ more) fits))

pub come_stays : (d : Held) (unfed before : List ℕ) (f : DecodeFault) → IsSettled d unfed f → HasCome d unfed before → StaysFault before f
come_stays d unfed before f settled h = front_stays d unfed [] before f settled (rw (append-nil unfed) h)

pub come_end : (d : Held) (before : List ℕ) (answer : Answer) → After d [] answer → HasCome d [] before → IsAnswer before answer
come_end d before answer a h = rw (append-nil before) at ((h.answers [] answer (rw (append-nil before) h.are_bytes)).0 a)

pub stays_first : (before : List ℕ) (f : DecodeFault) → IsBytes before → StaysFault before f → IsAnswer before (Err f)
stays_first before f fits h = rw (append-nil before) at (h [] (rw (append-nil before) fits))

-- After a fault the answer is the fault.
pub front_fault : (old new : Held) (front rest before : List ℕ) (f : DecodeFault) → IsSettled old front f → new.fault ≡ Some f → HasCome old (front ++ rest) before → HasCome new rest before
front_fault old new front rest before f settled is h = record {
  fed = h.fed ++ front;
  parts = h.parts ∙ sym (append_assoc h.fed front rest);
  are_bytes = h.are_bytes;
  counted = λ none. let none_is = is in absurd cc;
  answers = λ more answer all.
      let fault = front_stays old front rest before f settled h more all in
      let only = one_answer (before ++ more) all in
      rw is (λ a. rw a fault, λ a. only.1.1 answer a ∙ sym (only.1.1 (Err f) fault));
}

pub come_fault : (old new : Held) (unfed before : List ℕ) (f : DecodeFault) → IsSettled old unfed f → new.fault ≡ Some f → HasCome old unfed before → HasCome new [] before
come_fault old new unfed before f settled is h = front_fault old new unfed [] before f settled is (rw (append-nil unfed) h)

no_fault : {T : Type 0} (x : T) (fault : Option DecodeFault) → IfSome fault (λ f. ok_of DecodeFault x ≡ Err f) → fault ≡ None
no_fault x None h = refl
no_fault x (Some f) h = absurd cc

-- ---- what the results say

pub fed_err : {T : Type 0} (d d' : Held) (unfed : List ℕ) (r : Result T DecodeFault) → IfErr r (λ f. (f.reason ≡ Memory) ⊎ IsSettled d unfed f) → IfErr r (λ f. d'.fault ≡ Some f) → IfErr r (λ f. (f.reason ≡ Memory) ⊎ ((before : List ℕ) → HasCome d unfed before → HasCome d' [] before × StaysFault before f))
fed_err d d' unfed (Ok x) h k = tt {0}
fed_err d d' unfed (Err f) (inl m) k = inl m
fed_err d d' unfed (Err f) (inr s) k = inr (λ before come. (come_fault d d' unfed before f s k come, come_stays d unfed before f s come))

pub fed_ok : {T : Type 0} (d d' : Held) (unfed : List ℕ) (r : Result T DecodeFault) → IfSome d.fault (λ f. r ≡ Err f) → OnOk r (Follows d unfed d') → OnOk r ((f : DecodeFault) → IsSettled d unfed f → ⊥) → OnOk r ((before : List ℕ) → HasCome d unfed before → HasCome d' [] before × IsOpen before)
fed_ok d d' unfed (Err f) again h k = tt {0}
fed_ok d d' unfed (Ok x) again h k = λ before come. (come_fed d d' unfed before (no_fault x d.fault again) h come, come_open d unfed before k come)

pub front_err : {T : Type 0} (d d' : Held) (front rest unfed : List ℕ) (r : Result T DecodeFault) → unfed ≡ front ++ rest → IfErr r (λ f. (f.reason ≡ Memory) ⊎ IsSettled d front f) → IfErr r (λ f. d'.fault ≡ Some f) → IfErr r (λ f. (f.reason ≡ Memory) ⊎ ((before : List ℕ) → HasCome d unfed before → HasCome d' rest before × StaysFault before f))
front_err d d' front rest unfed (Ok x) is h k = tt {0}
front_err d d' front rest unfed (Err f) is (inl m) k = inl m
front_err d d' front rest unfed (Err f) is (inr s) k = inr (λ before come. let all = rw is at come in (front_fault d d' front rest before f s k all, front_stays d front rest before f s all))

pub front_ok : {T : Type 0} (d d' : Held) (front rest unfed : List ℕ) (r : Result T DecodeFault) → unfed ≡ front ++ rest → IfSome d.fault (λ f. r ≡ Err f) → OnOk r (Follows d front d') → OnOk r ((before : List ℕ) → HasCome d unfed before → HasCome d' rest before)
front_ok d d' front rest unfed (Err f) is again h = tt {0}
front_ok d d' front rest unfed (Ok x) is again h = λ before come. come_front d d' front rest before (no_fault x d.fault again) h (rw is at come)

pub fed_unharmed : {T : Type 0} (d d' : Held) (unfed : List ℕ) (r : Result T DecodeFault) → OnOk r (Follows d unfed d') → OnOk r (d'.fault ≡ None)
fed_unharmed d d' unfed (Ok x) h = h.unharmed
fed_unharmed d d' unfed (Err f) h = tt {0}

pub taken_ok : {T : Type 0} (d d' : Held) (unfed unfed' grown bytes : List ℕ) (r : Result T DecodeFault) → grown ≡ unfed ++ bytes → IsBytes bytes → OnOk r ((before : List ℕ) → HasCome d grown before → HasCome d' unfed' before) → OnOk r ((before : List ℕ) → HasCome d unfed before → HasCome d' unfed' (before ++ bytes))
taken_ok d d' unfed unfed' grown bytes (Ok x) is fits h = λ before come. h (before ++ bytes) (rw is (come_more d unfed before bytes fits come))
taken_ok d d' unfed unfed' grown bytes (Err f) is fits h = tt {0}

pub taken_err : {T : Type 0} (d d' : Held) (unfed unfed' grown bytes : List ℕ) (r : Result T DecodeFault) → grown ≡ unfed ++ bytes → IsBytes bytes → IfErr r (λ f. (f.reason ≡ Memory) ⊎ ((before : List ℕ) → HasCome d grown before → HasCome d' unfed' before × StaysFault before f)) → IfErr r (λ f. (f.reason ≡ Memory) ⊎ ((before : List ℕ) → HasCome d unfed before → HasCome d' unfed' (before ++ bytes) × StaysFault (before ++ bytes) f))
taken_err d d' unfed unfed' grown bytes (Ok x) is fits h = tt {0}
taken_err d d' unfed unfed' grown bytes (Err f) is fits (inl m) = inl m
taken_err d d' unfed unfed' grown bytes (Err f) is fits (inr h) = inr (λ before come. h (before ++ bytes) (rw is (come_more d unfed before bytes fits come)))

pub fault_decodes : (d d' : Held) (unfed before : List ℕ) (r : Answer) (f g : DecodeFault) → r ≡ Err g → g ≡ f → (f.reason ≡ Memory) ⊎ ((b : List ℕ) → HasCome d unfed b → HasCome d' [] b × StaysFault b f) → HasCome d unfed before → Decodes before r
fault_decodes d d' unfed before r f g is e (inl m) h = rw (is, e) (inl m)
fault_decodes d d' unfed before r f g is e (inr s) h = rw (is, e) (inr (stays_first before f h.are_bytes (s before h).1))

-- ---- pieces one after another

decoded : (bytes : List ℕ) (r : Answer) → IfOk r (λ c. Spells c bytes) → IfErr r (λ f. (f.reason ≡ Memory) ⊎ FirstFault bytes f.at f.reason) → Decodes bytes r
decoded bytes (Ok c) found fault = inr found
decoded bytes (Err f) found (inl m) = inl m
decoded bytes (Err f) found (inr first) = inr first

pub joined_decoded : (file joined all : List ℕ) (r : Answer) → file ≡ joined → joined ≡ all → IfOk r (λ c. Spells c file) → IfErr r (λ f. (f.reason ≡ Memory) ⊎ FirstFault file f.at f.reason) → Decodes all r
joined_decoded file joined all r p q found fault = subst (λ (b : List ℕ). Decodes b r) (p ∙ q) (decoded file r found fault)

joined_more : (pieces : List (Bor (List ℕ))) (i : ℕ) (d : Bor (List ℕ)) → i < length pieces → flat_map (λ (p : Bor (List ℕ)). p.now) (take i pieces) ++ (get_or pieces i d).now ≡ flat_map (λ (p : Bor (List ℕ)). p.now) (take (i + 1) pieces)
joined_more pieces i d h = rw (take_more pieces i d h) (flat_map_more (λ (p : Bor (List ℕ)). p.now) [] (take i pieces) (get_or pieces i d))

pub joined_grown : (pieces : List (Bor (List ℕ))) (i : ℕ) (d : Bor (List ℕ)) (front grown : List ℕ) → i < length pieces → grown ≡ front ++ (get_or pieces i d).now → front ≡ flat_map (λ (p : Bor (List ℕ)). p.now) (take i pieces) → grown ≡ flat_map (λ (p : Bor (List ℕ)). p.now) (take (i + 1) pieces)
joined_grown pieces i d front grown h push so_far = rw (push, so_far) (joined_more pieces i d h)

-- ---- where a reader fails

pub fails_fault : (d d' : Held) (unfed unfed' bytes : List ℕ) (f : DecodeFault) → (f.reason ≡ Memory) ⊎ ((b : List ℕ) → HasCome d unfed b → HasCome d' unfed' b × StaysFault b f) → HasCome d unfed bytes → FailsBehind bytes f
fails_fault d d' unfed unfed' bytes f (inl m) come = inl m
fails_fault d d' unfed unfed' bytes f (inr h) come = inr (inl (h bytes come).1)

pub fails_read : (d d' : Held) (unfed unfed' bytes : List ℕ) (f : DecodeFault) → unfed' ≡ [] → d'.fault ≡ None → f.at ≡ d'.read.offset + length d'.kept → f.reason ≡ Read → ((b : List ℕ) → HasCome d unfed b → HasCome d' unfed' b × IsOpen b) → HasCome d unfed bytes → FailsBehind bytes f
fails_read d d' unfed unfed' bytes f none unharmed place reason h come =
    let after = h bytes come in
    inr (inr (reason, omega (arith, place, after.0.counted unharmed, ap length after.0.parts, length-append after.0.fed unfed', ap length none), after.1))

-- Answers that are given one after another, and values that are copied.
use Rattle.std.proofs.Common.{◌≡◌, ◌∙◌, ◌≤◌, ℕ, List, [], ◌∷◌, ◌++◌, drop, length, take, Option, None, Some, refl, sym, ap, subst, slice_get, inr, Result, Ok, Err, IfOk, IfErr}
use Rattle.std.specs.Prelude.{option_map}
use Rattle.cm_lemmas.proofs.Lists.{take_all}
use Rattle.cm_types.specs.declared.core_value.CoreKind.{CoreKind}
use Rattle.cm_types.specs.declared.core_value.CoreValue.{CoreValue}
use Rattle.cm_types.specs.Types.{Fields}
use Rattle.cm_types.specs.Values.{Val}
use Rattle.cm_handles.specs.Handles.{Handles}
use Rattle.cm_layout.specs.Layouts.{layout_of}
use Rattle.cm_abi_copy.specs.Copies.{FoundCanBeCopied, IsCopied}
use Rattle.cm_abi_copy.specs.declared.found.Found.{Found}
use Rattle.cm_abi_model.specs.Answered.{IsAllAnswered, all_requests, next_of, with_old}
use Rattle.cm_abi_model.specs.Answering.{first_fault}
use Rattle.cm_abi_model.specs.Receives.{call_kinds}
use Rattle.cm_abi_model.specs.Scanned.{GoesOn, OnlyAsked, Scanned}
use Rattle.cm_abi_model.specs.Views.{View, params}
use Rattle.cm_abi_model.specs.Ways.{way_of}
use Rattle.cm_abi_model.specs.declared.encoding.StringEncoding.{StringEncoding}
use Rattle.cm_abi_model.specs.declared.receiver.Receiver.{Receiver}
use Rattle.cm_abi_model.specs.declared.request.Request.{Request}
use Rattle.cm_abi_model.specs.declared.way.Way.{Way}
use Rattle.cm_abi_model.specs.declared.way.Way.TheVariants as way
use Rattle.huxarte_c_calls.specs.declared.call.Call.{Call}
use Rattle.huxarte_c_calls.specs.declared.fault.CallFault.{CallFault}
use Rattle.huxarte_c_calls.specs.declared.fault.CallFault.TheVariants as fault
use Rattle.huxarte_c_calls.specs.declared.handles.HuxHandle.{HuxHandle}
use Rattle.huxarte_c_calls.specs.Asking.{IsPassed, requests_of}
use Rattle.huxarte_c_calls.specs.Calls.{IsOf}
use Rattle.huxarte_c_calls.specs.Copying.{AreBadAnswers, AreCopied, AreDelivered, AreNotCopied, AreUndelivered, IsCopy, IsNoCopy, Room}
use Rattle.huxarte_c_calls.specs.HandedOver.{handles_of}
use Rattle.huxarte_c_calls.proofs.RequestLaws.{asks_alike}

-- ---- answers

pub take_none : (xs : List ℕ) → take 0 xs ≡ []
take_none [] = refl
take_none (x ∷ xs) = refl

pub none_yet : (n : ℕ) (rs : List Request) → first_fault n rs [] ≡ None
none_yet n [] = refl
none_yet n (r ∷ rs) = refl

get_past : (rs : List Request) → slice_get rs (length rs) ≡ None
get_past [] = refl
get_past (r ∷ rs) = get_past rs

nothing_is : {A : Type 0} (a : A) → None ≡ Some a → ⊥
nothing_is a e = cc

-- where a request is left there are fewer answers
more_left : (rs : List Request) (given : List ℕ) (r : Request × ℕ) → next_of rs given ≡ Some r → length given ≡ length rs → ⊥
more_left rs given r next same =
    let none : slice_get rs (length given) ≡ None = ap (slice_get rs) same ∙ get_past rs in
    nothing_is r (sym (ap (option_map (with_old given)) none) ∙ next)

pub too_few : (n : ℕ) (rs qs : List Request) (answers : List ℕ) (k : ℕ) (o : Option (Request × ℕ)) (r : Request × ℕ)
    → qs ≡ rs → length answers ≤ k → o ≡ next_of qs (take k answers) → o ≡ Some r
    → AreBadAnswers n rs answers (fault.Answers (length answers))
too_few n rs qs answers k o r same past next there =
    let all : take k answers ≡ answers = take_all answers k past in
    let left : next_of rs answers ≡ Some r = ap (λ (xs : List Request). next_of xs answers) (sym same) ∙ (ap (next_of qs) (sym all) ∙ (sym next ∙ there)) in
    (refl, more_left rs answers r left)

-- ---- a copy

-- what was scanned can be copied once all its requests are answered
pub can_be_copied : (c : Call) (f : Found) (w : View) (types : Fields) (v : Val) (old new : Scanned) (n : ℕ) (kinds : List CoreKind) (answers : List ℕ)
    → IsOf c types → f.passed.way ≡ way.Params → f.passed.layout.now ≡ c.layout → f.passed.slots.now ≡ c.slots.items
    → w.memory ≡ f.memory.now → OnlyAsked old new → GoesOn w params types c.slots.items v new → IsAllAnswered new.parts answers
    → first_fault n (all_requests old.parts) answers ≡ None → kinds ≡ c.kinds.items → FoundCanBeCopied n kinds w f new answers types v
can_be_copied c f w types v old new n kinds answers is by layout slots memory only goes answered fine kind = record {
  layout = ap layout_of layout ∙ is.layout;
  memory = memory;
  found = subst (λ (x : Way). GoesOn w (way_of x) types f.passed.slots.now v new) (sym by) (subst (λ (x : List CoreValue). GoesOn w params types x v new) (sym slots) goes);
  answered = answered;
  fine = ap (λ (rs : List Request). first_fault n rs answers) (asks_alike old new only) ∙ fine;
  kinds_are = kind ∙ (is.kinds ∙ ap (λ (x : Way). call_kinds (way_of x) types) (sym by));
}

pub copied_for : (to : Receiver) (target : StringEncoding) (types : Fields) (v : Val) (old new : Scanned) (by : Way) (answers before after : List ℕ)
    (t u : Handles) (slots : List CoreValue) (numbers : List ℕ) → by ≡ way.Params → OnlyAsked old new → old.parts.target ≡ target
    → length answers ≡ length (all_requests new.parts) → first_fault (length before) (all_requests old.parts) answers ≡ None
    → IsCopied to (way_of by) types v new.parts answers before after t u slots numbers
    → AreCopied to target types v (all_requests old.parts) answers before after t u slots numbers
copied_for to target types v old new by answers before after t u slots numbers is only goes count fine made = record {
  all_answered = count ∙ ap length (asks_alike old new only);
  fine = fine;
  parts = new.parts;
  asked = asks_alike old new only;
  stored_in = ap (λ p. p.target) only.parts ∙ goes;
  copied = subst (λ (x : Way). IsCopied to (way_of x) types v new.parts answers before after t u slots numbers) is made;
}

-- ---- what C sees

front : {A : Type 0} (xs zs : List A) → take (length xs) (xs ++ zs) ≡ xs
front [] [] = refl
front [] (z ∷ zs) = refl
front (x ∷ xs) zs = ap (λ ys. x ∷ ys) (front xs zs)

-- what is written over the front of a list that is as long
pub put_back : {A : Type 0} (n : ℕ) (xs ys : List A) → n ≡ length xs → take n (xs ++ drop (length xs) ys) ≡ xs
put_back n xs ys is = ap (λ (k : ℕ). take k (xs ++ drop (length xs) ys)) is ∙ front xs (drop (length xs) ys)

pub undelivered : (to : Receiver) (types : Fields) (v : Val) (rs : List Request) (handles : List HuxHandle) (answers : List ℕ) (n : ℕ) (t : Handles) (r : CallFault)
    → t ≡ handles_of handles → AreNotCopied to types v rs answers n t r → AreUndelivered to types v rs handles answers n r
undelivered to types v rs handles answers n t fault.NoEncoding is why = absurd why
undelivered to types v rs handles answers n t fault.NoSlots is why = absurd why
undelivered to types v rs handles answers n t fault.TooLarge is why = why
undelivered to types v rs handles answers n t (fault.Value f) is why = subst (λ (x : Handles). AreNotCopied to types v rs answers n x (fault.Value f)) is why
undelivered to types v rs handles answers n t (fault.Handles f) is why = absurd why
undelivered to types v rs handles answers n t (fault.Answer k f) is why = why
undelivered to types v rs handles answers n t (fault.Answers k) is why = why
undelivered to types v rs handles answers n t fault.Memory is why = tt

pub copy_is : (c : Call) (memory : List ℕ) (handles : List HuxHandle) (types : Fields) (to : Receiver) (callee_handles : List HuxHandle) (answers : List ℕ)
    (before after : Room) (v : Val) (rs : List Request) (r : Result ℕ CallFault) → IsPassed c memory handles types v
    → rs ≡ requests_of c memory handles types v → IfOk r (AreDelivered c to types v rs callee_handles answers before after)
    → IfOk r (IsCopy c memory handles types to callee_handles answers before after)
copy_is c memory handles types to callee_handles answers before after v rs (Ok n) passed are made = record {
  value = v;
  passed = passed;
  delivered = subst (λ (x : List Request). AreDelivered c to types v x callee_handles answers before after n) are made;
}
copy_is c memory handles types to callee_handles answers before after v rs (Err e) passed are made = tt

pub no_copy : (c : Call) (memory : List ℕ) (handles : List HuxHandle) (types : Fields) (to : Receiver) (callee_handles : List HuxHandle) (answers : List ℕ)
    (before : Room) (v : Val) (rs : List Request) (r : Result ℕ CallFault) → IsPassed c memory handles types v
    → rs ≡ requests_of c memory handles types v → IfErr r (AreUndelivered to types v rs callee_handles answers (length before.memory))
    → IfErr r (IsNoCopy c memory handles types to callee_handles answers before)
no_copy c memory handles types to callee_handles answers before v rs (Ok n) passed are why = tt
no_copy c memory handles types to callee_handles answers before v rs (Err e) passed are why = inr (inr (record {
  value = v;
  passed = passed;
  fails = subst (λ (x : List Request). AreUndelivered to types v x callee_handles answers (length before.memory) e) are why;
}))

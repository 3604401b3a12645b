-- Requests that are told one after another, and what a call asks for.
use Rattle.std.proofs.Common.{◌≡◌, ◌∙◌, ℕ, zero, suc, List, [], ◌∷◌, ◌++◌, length, map, take, Option, None, Some, refl, sym, ap, subst, slice_get, Result, Ok, Err, IfOk, IfErr, Vec, Global}
use Rattle.std.proofs.lemmas.List.{map-append}
use Rattle.std.specs.Prelude.{option_map}
use Rattle.cm_lemmas.proofs.Lists.{take_next}
use Rattle.cm_types.specs.Types.{Fields}
use Rattle.cm_types.specs.Values.{Val}
use Rattle.cm_abi_model.specs.Answered.{all_requests, next_of, with_old}
use Rattle.cm_abi_model.specs.Scanned.{OnlyAsked, Scanned}
use Rattle.cm_abi_model.specs.declared.request.Request.{Request}
use Rattle.huxarte_c_calls.specs.declared.asking.HuxRequest.{HuxRequest}
use Rattle.huxarte_c_calls.specs.declared.call.Call.{Call}
use Rattle.huxarte_c_calls.specs.declared.fault.CallFault.{CallFault}
use Rattle.huxarte_c_calls.specs.declared.fault.CallFault.TheVariants as fault
use Rattle.huxarte_c_calls.specs.declared.handles.HuxHandle.{HuxHandle}
use Rattle.huxarte_c_calls.specs.Asking.{IsAsked, IsPassed, IsValueRefusal, requests_of, row_of}

-- what is kept of answers asks for nothing else
pub asks_alike : (r s : Scanned) → OnlyAsked r s → all_requests s.parts ≡ all_requests r.parts
asks_alike r s only = ap all_requests only.parts

none_there : {A B : Type 0} (f : A → B) (o : Option A) → option_map f o ≡ None → o ≡ None
none_there f None e = refl
none_there f (Some a) e = absurd cc

all_taken : {A : Type 0} (xs : List A) (n : ℕ) → slice_get xs n ≡ None → take n xs ≡ xs
all_taken [] zero e = refl
all_taken [] (suc n) e = refl
all_taken (x ∷ xs) zero e = absurd cc
all_taken (x ∷ xs) (suc n) e = ap (λ ys. x ∷ ys) (all_taken xs n e)

-- behind the last request all are told
pub all_told : (rs : List Request) (given : List ℕ) → next_of rs given ≡ None → take (length given) rs ≡ rs
all_told rs given e = all_taken rs (length given) (none_there (with_old given) (slice_get rs (length given)) e)

first_is : (given : List ℕ) (o : Option Request) (r : Request × ℕ) → option_map (with_old given) o ≡ Some r → o ≡ Some r.0
first_is given None r e = absurd cc
first_is given (Some q) r e =
    let same : with_old given q ≡ r = cc in
    ap (λ (x : Request × ℕ). Some x.0) same

-- the next request is told behind those before it
pub one_more : (rs : List Request) (given : List ℕ) (at : ℕ) (r : Request × ℕ) (rows : List HuxRequest) → next_of rs given ≡ Some r
    → rows ≡ map row_of (take (length given) rs) → rows ++ row_of r.0 ∷ [] ≡ map row_of (take (length (given ++ at ∷ [])) rs)
one_more rs given at r rows next so_far =
    ap (λ (xs : List HuxRequest). xs ++ row_of r.0 ∷ []) so_far
    ∙ (sym (map-append row_of (take (length given) rs) (r.0 ∷ []))
    ∙ (ap (map row_of) (sym (take_next rs (length given) r.0 (first_is given (slice_get rs (length given)) r next)))
    ∙ ap (λ (n : ℕ). map row_of (take n rs)) (sym (longer given at))))
  where
    longer : (xs : List ℕ) (x : ℕ) → length (xs ++ x ∷ []) ≡ suc (length xs)
    longer [] x = refl
    longer (y ∷ xs) x = ap suc (longer xs x)

-- ---- what a call asks for

pub rows_asked : (c : Call) (memory : List ℕ) (handles : List HuxHandle) (types : Fields) (v : Val) (rs : List Request)
    (r : Result (Vec HuxRequest Global) CallFault)
    → IsPassed c memory handles types v
    → rs ≡ requests_of c memory handles types v → IfOk r (λ rows. rows.items ≡ map row_of rs)
    → IfOk r (λ rows. IsAsked c memory handles types rows.items)
rows_asked c memory handles types v rs (Ok rows) passed are is =
    record { value = v; passed = passed; rows_are = is ∙ ap (map row_of) are }
rows_asked c memory handles types v rs (Err e) passed are is = tt

pub memory_refused : (c : Call) (memory : List ℕ) (handles : List HuxHandle) (types : Fields)
    (r : Result (Vec HuxRequest Global) CallFault) → IfErr r (λ e. e ≡ fault.Memory)
    → IfErr r (IsValueRefusal c memory handles types)
memory_refused c memory handles types (Ok rows) is = tt
memory_refused c memory handles types (Err e) is = subst (IsValueRefusal c memory handles types) (sym is) tt

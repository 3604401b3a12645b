-- What reading so many things at most comes to, where the code holds what was read behind a view.
use Rattle.std.proofs.Common.{◌≡◌, ℕ, zero, suc, ◌+◌, ◌-◌, ◌<◌, ◌≤◌, List, [], ◌∷◌, ◌++◌, map, Some, None, Result, Ok, Err, refl, sym, ap, ◌∙◌, append_assoc, append-nil, arith}
use Rattle.std.proofs.lemmas.List.{map-append}
use Rattle.cm_wit_tokens.specs.declared.operator.Operator.{Operator}
use Rattle.cm_wit_tokens.specs.declared.token.Token.{Token}
use Rattle.cm_wit_tokens.specs.declared.fault.ReadError.{ReadError}
use Rattle.cm_wit_tokens.specs.declared.fault.ReadError.TheVariants as errors
use Rattle.cm_wit_tokens.specs.Faults.{Fault, Fails, and_then}
use Rattle.cm_wit_tokens.specs.Grammar.{Grammar, ◌>>=◌, with_front}
use Rattle.cm_wit_tokens.specs.Lists.{next_item, and_more, last_comma, at_most}
use Rattle.cm_lemmas.proofs.Results.{ok_of}

-- These were read, in so many turns of most, and the rest makes all.
pub record MostGo {A : Type 0} (closing : Operator) (g : Grammar A) (most turn : ℕ) (xs : List A) (rest : List Token) (all : Result (List A × List Token) Fault) : Type 0 where
  pub same : with_front xs ((at_most (most - turn) closing g).reads rest) ≡ all

turn_of : {A : Type 0} (closing : Operator) (g : Grammar A) (k n : ℕ) (rest : List Token) → k ≡ suc n → (at_most k closing g).reads rest ≡ ((next_item closing g) >>= λ o. and_more (at_most n closing g) o).reads rest
unfolding at_most
turn_of closing g k n rest e = ap (λ (m : ℕ). (at_most m closing g).reads rest) e

pub most_begin : {A : Type 0} (closing : Operator) (g : Grammar A) (most : ℕ) (xs : List A) (rest : List Token) → MostGo closing g most 0 xs rest (with_front xs ((at_most most closing g).reads rest))
most_begin closing g most xs rest =
    let all : most - 0 ≡ most = omega arith in
    record { same = ap (λ (k : ℕ). with_front xs ((at_most k closing g).reads rest)) all }

front_front : {A : Type 0} (xs : List A) (x : A) (read : Result (List A × List Token) Fault) → with_front xs (and_then read (λ p. ok_of Fault (x ∷ p.0, p.1))) ≡ with_front (xs ++ x ∷ []) read
front_front {A} xs x (Ok p) = ap (λ (ys : List A). ok_of Fault (ys, p.1)) (sym (append_assoc xs (x ∷ []) p.0))
front_front xs x (Err f) = refl

pub most_fail : {A X : Type 0} (view : X → A) (closing : Operator) (g : Grammar A) (most turn : ℕ) (xs : List X) (rest left : List Token) (e : ReadError) (all : Result (List A × List Token) Fault) → turn < most → MostGo closing g most turn (map view xs) rest all → Fails left e ((next_item closing g).reads rest) → Fails left e all
most_fail view closing g most turn xs rest left errors.Memory all lt m h = tt
most_fail view closing g most turn xs rest left (errors.Fault r) all lt m h =
    sym m.same ∙ (ap (with_front (map view xs)) (turn_of closing g (most - turn) (most - (turn + 1)) rest (omega arith)) ∙ rw h refl)

pub most_end : {A X : Type 0} (view : X → A) (closing : Operator) (g : Grammar A) (most turn : ℕ) (xs : List X) (rest after : List Token) (all : Result (List A × List Token) Fault) → turn < most → MostGo closing g most turn (map view xs) rest all → (next_item closing g).reads rest ≡ Ok (None, after) → all ≡ Ok (map view xs, after)
most_end view closing g most turn xs rest after all lt m h =
    sym m.same ∙ (ap (with_front (map view xs)) (turn_of closing g (most - turn) (most - (turn + 1)) rest (omega arith)) ∙ rw h (rw (append-nil (map view xs)) refl))

pub most_go_on : {A X : Type 0} (view : X → A) (closing : Operator) (g : Grammar A) (most turn : ℕ) (xs : List X) (x : X) (rest after : List Token) (all : Result (List A × List Token) Fault) → turn < most → MostGo closing g most turn (map view xs) rest all → (next_item closing g).reads rest ≡ Ok (Some (view x), after) → MostGo closing g most (turn + 1) (map view (xs ++ x ∷ [])) after all
most_go_on view closing g most turn xs x rest after all lt m h = record {
  same = rw map-append (sym (front_front (map view xs) (view x) ((at_most (most - (turn + 1)) closing g).reads after)) ∙ (sym (ap (with_front (map view xs)) (turn_of closing g (most - turn) (most - (turn + 1)) rest (omega arith)) ∙ rw h refl) ∙ m.same));
}

pub most_last : {A X : Type 0} (view : X → A) (closing : Operator) (g : Grammar A) (most turn : ℕ) (xs : List X) (rest after : List Token) (all : Result (List A × List Token) Fault) → most ≤ turn → MostGo closing g most turn (map view xs) rest all → last_comma.reads rest ≡ Ok (tt, after) → all ≡ Ok (map view xs, after)
unfolding at_most
most_last view closing g most turn xs rest after all le m h =
    let none : most - turn ≡ zero = omega arith in
    sym m.same ∙ (ap (λ (k : ℕ). with_front (map view xs) ((at_most k closing g).reads rest)) none ∙ rw h (rw (append-nil (map view xs)) refl))

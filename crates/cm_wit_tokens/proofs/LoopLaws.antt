-- What reading steps one after the other comes to, where the code holds what was read behind a view.
use Rattle.std.proofs.Common.{◌≡◌, List, [], ◌∷◌, ◌++◌, map, Option, Some, None, Result, Ok}
use Rattle.std.proofs.lemmas.List.{map-append}
use Rattle.cm_wit_tokens.specs.declared.token.Token.{Token}
use Rattle.cm_wit_tokens.specs.declared.fault.ReadError.{ReadError}
use Rattle.cm_wit_tokens.specs.declared.fault.ReadError.TheVariants as errors
use Rattle.cm_wit_tokens.specs.Faults.{Fault, flaw, Fails}
use Rattle.cm_wit_tokens.specs.Grammar.{Grammar}
use Rattle.cm_wit_tokens.proofs.StepLaws.{Moves}
use Rattle.cm_wit_tokens.proofs.ListLaws.{StepsGo, steps_end, steps_fail, steps_go_on}

pub loop_fail : {A X : Type 0} (view : X → A) (g : Grammar (Option A)) (xs : List X) (rest left : List Token) (e : ReadError) (all : Result (List A × List Token) Fault) → StepsGo g (map view xs) rest all → Fails left e (g.reads rest) → Fails left e all
loop_fail view g xs rest left errors.Memory all s h = tt
loop_fail view g xs rest left (errors.Fault r) all s h = steps_fail g (map view xs) rest (flaw left r) all s h

pub loop_go_on : {A X : Type 0} (view : X → A) (g : Grammar (Option A)) → Moves g → (xs : List X) (x : X) (rest after : List Token) (all : Result (List A × List Token) Fault) → StepsGo g (map view xs) rest all → g.reads rest ≡ Ok (Some (view x), after) → StepsGo g (map view (xs ++ x ∷ [])) after all
loop_go_on view g moves xs x rest after all s h = rw map-append (steps_go_on g moves (map view xs) (view x) rest after all s h)

pub loop_end : {A X : Type 0} (view : X → A) (g : Grammar (Option A)) (xs : List X) (rest after : List Token) (all : Result (List A × List Token) Fault) → StepsGo g (map view xs) rest all → g.reads rest ≡ Ok (None, after) → all ≡ Ok (map view xs, after)
loop_end view g xs rest after all s h = steps_end g (map view xs) rest after all s h

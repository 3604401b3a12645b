-- Faults in texts that are read token by token, and what a reader that needs memory may answer.
use Rattle.std.specs.Prelude.{◌≡◌, List, Result, Ok, Err}
use Rattle.cm_wit_tokens.specs.declared.token.Token.{Token}
use Rattle.cm_wit_tokens.specs.declared.fault.WitReason.{WitReason}
use Rattle.cm_wit_tokens.specs.declared.fault.ReadError.{ReadError}
use Rattle.cm_wit_tokens.specs.declared.fault.ReadError.TheVariants as errors

-- A fault: the tokens from its place on, none where the text ends there, and the reason.
pub record Fault : Type 0 where
  pub rest : List Token
  pub reason : WitReason

abbrev pub flaw : List Token → WitReason → Fault
flaw rest reason = record { rest = rest; reason = reason }

-- The next step, where the one before did not fail.
abbrev pub and_then : {A B : Type 0} → Result A Fault → (A → Result B Fault) → Result B Fault
and_then (Ok x) next = next x
and_then (Err f) next = Err f

-- What a function answered, and the tokens that it left, are what reading gives, seen by view: a
-- fault is where it stopped. Where memory ran out nothing is said.
abbrev pub Fails : {Y : Type 0} → List Token → ReadError → Result Y Fault → Type 0
Fails left errors.Memory read = Unit {0}
Fails left (errors.Fault r) read = read ≡ Err (flaw left r)

abbrev pub Gives : {X Y : Type 0} →
    (X → Y) → List Token → Result X ReadError → Result (Y × List Token) Fault → Type 0
Gives view left (Ok x) read = read ≡ Ok (view x, left)
Gives view left (Err e) read = Fails left e read

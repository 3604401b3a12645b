-- What type each kind of result is, and what reading types behind commas comes to.
use Rattle.std.proofs.Common.{◌≡◌, ℕ, ◌<◌, Bool, List, ◌∷◌, ◌++◌, [], length, map, Some, None, Result, Ok, Box, Global, rules}
use Rattle.std.proofs.lemmas.List.{map-append}
use Rattle.cm_wit_tokens.specs.declared.token.Token.{Token}
use Rattle.cm_wit_tokens.specs.declared.fault.ReadError.{ReadError}
use Rattle.cm_wit_tokens.specs.declared.fault.ReadError.TheVariants as errors
use Rattle.cm_wit_reading.specs.declared.types.WitType.{WitType, the_lemmas}
use Rattle.cm_wit_reading.specs.declared.types.WitType.TheViews as node
use Rattle.cm_wit_tokens.specs.Faults.{Fault, flaw, Fails}
use Rattle.cm_wit_reading.specs.Types.{Ty, error_result, result, ty}
use Rattle.cm_wit_tokens.specs.Lists.{next_item}
use Rattle.cm_wit_tokens.specs.declared.operator.Operator.TheVariants as operator
use Rattle.cm_wit_reading.specs.TypeViews.{type_tree}
use Rattle.cm_wit_tokens.proofs.ListLaws.{StepsGo, steps_end, steps_fail, steps_go_on, next_item_moves}
use Rattle.cm_wit_reading.proofs.TypeLaws.{ty_lawful}

pub seen_error : (b : Box WitType Global) → type_tree (node.Result None (Some b)) ≡ error_result (type_tree b.value)
seen_error b = search (rules, the_lemmas)

pub seen_both : (a b : Box WitType Global) → type_tree (node.Result (Some a) (Some b)) ≡ result (type_tree a.value) (type_tree b.value)
seen_both a b = search (rules, the_lemmas)

pub types_fail : (borrows : Bool) (room : ℕ) (types : List WitType) (rest left : List Token) (e : ReadError) (all : Result (List Ty × List Token) Fault) → StepsGo (next_item operator.GreaterThan (ty borrows room)) (map type_tree types) rest all → Fails left e ((next_item operator.GreaterThan (ty borrows room)).reads rest) → Fails left e all
types_fail borrows room types rest left errors.Memory all s h = tt
types_fail borrows room types rest left (errors.Fault r) all s h = steps_fail (next_item operator.GreaterThan (ty borrows room)) (map type_tree types) rest (flaw left r) all s h

pub types_go_on : (borrows : Bool) (room : ℕ) (types : List WitType) (x : WitType) (rest after : List Token) (all : Result (List Ty × List Token) Fault) → StepsGo (next_item operator.GreaterThan (ty borrows room)) (map type_tree types) rest all → (next_item operator.GreaterThan (ty borrows room)).reads rest ≡ Ok (Some (type_tree x), after) → StepsGo (next_item operator.GreaterThan (ty borrows room)) (map type_tree (types ++ x ∷ [])) after all
types_go_on borrows room types x rest after all s h = rw map-append (steps_go_on (next_item operator.GreaterThan (ty borrows room)) (next_item_moves operator.GreaterThan (ty borrows room) (ty_lawful borrows room)) (map type_tree types) (type_tree x) rest after all s h)

pub types_fewer : (borrows : Bool) (room : ℕ) (x : WitType) (rest after : List Token) → (next_item operator.GreaterThan (ty borrows room)).reads rest ≡ Ok (Some (type_tree x), after) → length after < length rest
types_fewer borrows room x rest after h = next_item_moves operator.GreaterThan (ty borrows room) (ty_lawful borrows room) rest (type_tree x) after h

pub types_end : (borrows : Bool) (room : ℕ) (types : List WitType) (rest after : List Token) (all : Result (List Ty × List Token) Fault) → StepsGo (next_item operator.GreaterThan (ty borrows room)) (map type_tree types) rest all → (next_item operator.GreaterThan (ty borrows room)).reads rest ≡ Ok (None, after) → all ≡ Ok (map type_tree types, after)
types_end borrows room types rest after all s h = steps_end (next_item operator.GreaterThan (ty borrows room)) (map type_tree types) rest after all s h

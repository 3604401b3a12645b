-- The laws of functions and paths, and what reading names with types behind commas comes to.
use Rattle.std.proofs.Common.{true, false, List, [], Some, None}
use Rattle.cm_wit_tokens.specs.declared.operator.Operator.TheVariants as operator
use Rattle.cm_wit_reading.specs.Types.{most_depth}
use Rattle.cm_wit_tokens.specs.Parts.{identifier_of, version_of}
use Rattle.cm_wit_reading.specs.Signatures.{typed, params, func, optional_version, foreign_rest, path}
use Rattle.cm_wit_tokens.proofs.Laws.{Lawful, done_lawful, bind_lawful, token_lawful, chosen_lawful}
use Rattle.cm_wit_tokens.proofs.ListLaws.{expect_lawful, items_lawful}
use Rattle.cm_wit_reading.proofs.TypeLaws.{ty_lawful}

pub typed_lawful : Lawful typed
typed_lawful = bind_lawful _ _ (token_lawful identifier_of) (λ name. bind_lawful _ _ (expect_lawful operator.Colon) (λ _. bind_lawful _ _ (ty_lawful true most_depth) (λ x. done_lawful _)))

pub params_lawful : Lawful params
params_lawful = bind_lawful _ _ (expect_lawful operator.LeftParenthesis) (λ _. bind_lawful _ _ (chosen_lawful _ _ _ (done_lawful []) (items_lawful operator.RightParenthesis typed typed_lawful)) (λ xs. bind_lawful _ _ (expect_lawful operator.RightParenthesis) (λ _. done_lawful xs)))

pub func_lawful : Lawful func
func_lawful = bind_lawful _ _ params_lawful (λ xs. chosen_lawful _ _ _ (bind_lawful _ _ (expect_lawful operator.Arrow) (λ _. bind_lawful _ _ (ty_lawful false most_depth) (λ x. done_lawful _))) (done_lawful _))

pub version_lawful : Lawful optional_version
version_lawful = chosen_lawful _ _ _ (bind_lawful _ _ (expect_lawful operator.At) (λ _. bind_lawful _ _ (token_lawful version_of) (λ text. done_lawful (Some text)))) (done_lawful None)

pub foreign_lawful : (namespace : List _) → Lawful (foreign_rest namespace)
foreign_lawful namespace = bind_lawful _ _ (token_lawful identifier_of) (λ pkg. bind_lawful _ _ (expect_lawful operator.Slash) (λ _. bind_lawful _ _ (token_lawful identifier_of) (λ name. bind_lawful _ _ version_lawful (λ version. done_lawful _))))

pub path_lawful : Lawful path
path_lawful = bind_lawful _ _ (token_lawful identifier_of) (λ name. chosen_lawful _ _ _ (bind_lawful _ _ (expect_lawful operator.Colon) (λ _. foreign_lawful name)) (done_lawful _))

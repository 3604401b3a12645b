use Rattle.std.proofs.Common.{ap}
use Rattle.cm_types.specs.TypeTrees.{shared_payload, type_of}
use Rattle.cm_types_numbers.specs.Numbering.{numbering}
use Rattle.cm_types_numbers.proofs.NodeLemmas.{only_error, only_ok, ok_and_error}
use Rattle.cm_types_numbers.proofs.numbers.Numbers.result_cases.Goals as goal
use Rattle.cm_lemmas.proofs.Results.{if_ok_more}

pub returns-in-None-Some-clause-number : goal.returns-in-None-Some-clause-number
returns-in-None-Some-clause-number c = if_ok_more c.two_cases-in-None-Some.result _ _ c.two_cases-in-None-Some.ensures.number (λ n made s.
    only_error (numbering c.args.self.now) (numbering c.two_cases-in-None-Some.new.self) s c.args.payloads.now n (shared_payload c.args.ok.now) (shared_payload c.args.error.now) (type_of c.in-None-Some.field-0-1.value) (ap shared_payload c.in-None-Some.is-0) (ap shared_payload c.in-None-Some.is-1) made)

pub returns-in-Some-None-clause-number : goal.returns-in-Some-None-clause-number
returns-in-Some-None-clause-number c = if_ok_more c.two_cases-in-Some-None.result _ _ c.two_cases-in-Some-None.ensures.number (λ n made s.
    only_ok (numbering c.args.self.now) (numbering c.two_cases-in-Some-None.new.self) s c.args.payloads.now n (shared_payload c.args.ok.now) (shared_payload c.args.error.now) (type_of c.in-Some-None.field-0-0.value) (ap shared_payload c.in-Some-None.is-0) (ap shared_payload c.in-Some-None.is-1) made)

pub returns-in-Some-Some-clause-number : goal.returns-in-Some-Some-clause-number
returns-in-Some-Some-clause-number c = if_ok_more c.two_cases-in-Some-Some.result _ _ c.two_cases-in-Some-Some.ensures.number (λ n made s.
    ok_and_error (numbering c.args.self.now) (numbering c.two_cases-in-Some-Some.new.self) s c.args.payloads.now n (shared_payload c.args.ok.now) (shared_payload c.args.error.now) (type_of c.in-Some-Some.field-0-0.value) (type_of c.in-Some-Some.field-0-1.value) (ap shared_payload c.in-Some-Some.is-0) (ap shared_payload c.in-Some-Some.is-1) made)

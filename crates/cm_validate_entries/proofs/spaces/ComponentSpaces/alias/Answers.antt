use Rattle.std.proofs.Common.{◌≡◌, true, length, sym, ap, ◌∙◌}
use Rattle.std.specs.Option.{option_map}
use Rattle.cm_validate_entries.specs.Entries.{is_member_there, member_def}
use Rattle.cm_validate_entries.proofs.AliasLaws.{func_answer, resource_answer, value_answer}
use Rattle.cm_validate_entries.proofs.spaces.ComponentSpaces.alias.Goals as goal
use Rattle.cm_lemmas.proofs.Options.{some_has}

pub returns-in_ok-push_func-in-Func-Func-clause-answer :
    goal.returns-in_ok-push_func-in-Func-Func-clause-answer
returns-in_ok-push_func-in-Func-Func-clause-answer c =
    let m = c.in-Some.member in
    func_answer c.args.self.now c.args.sort c.args.instance c.args.name.now m
    (λ types funcs s r. sym (c.member.ensures.def types funcs s r) ∙ ap (option_map (member_def types funcs)) c.in-Some.is)
    (λ types funcs s r. some_has (λ v. is_member_there (length types) (length funcs) v ≡ true) c.member.result m c.in-Some.is (c.member.ensures.there types funcs s r))
    c.in-Func-Func.func c.push_func.new.self c.in-Func-Func.is-0 c.in-Func-Func.is-1 c.in_ok-push_func-in-Func-Func.ensures.pushed

pub returns-in-Type-Value-clause-answer : goal.returns-in-Type-Value-clause-answer
returns-in-Type-Value-clause-answer c =
    let m = c.in-Some.member in
    value_answer c.args.self.now c.args.sort c.args.instance c.args.name.now m
    (λ types funcs s r. sym (c.member.ensures.def types funcs s r) ∙ ap (option_map (member_def types funcs)) c.in-Some.is)
    (λ types funcs s r. some_has (λ v. is_member_there (length types) (length funcs) v ≡ true) c.member.result m c.in-Some.is (c.member.ensures.there types funcs s r))
    c.in-Type-Value.ty c.in-Type-Value.is-0 c.in-Type-Value.is-1

pub returns-in-Type-Resource-clause-answer : goal.returns-in-Type-Resource-clause-answer
returns-in-Type-Resource-clause-answer c =
    let m = c.in-Some.member in
    resource_answer c.args.self.now c.args.sort c.args.instance c.args.name.now m
    (λ types funcs s r. sym (c.member.ensures.def types funcs s r) ∙ ap (option_map (member_def types funcs)) c.in-Some.is)
    (λ types funcs s r. some_has (λ v. is_member_there (length types) (length funcs) v ≡ true) c.member.result m c.in-Some.is (c.member.ensures.there types funcs s r))
    c.in-Type-Resource.number c.in-Type-Resource.is-0 c.in-Type-Resource.is-1

use Rattle.std.proofs.Common.{◌≡◌, Some, None, sym, ap, ◌∙◌}
use Rattle.std.specs.Option.{option_map}
use Rattle.cm_validate_model.specs.declared.fault.ValidReason.TheVariants as reason
use Rattle.cm_validate_model.specs.Reasons.{least, unless}
use Rattle.cm_validate_model.specs.Spaces.{aliased_core}
use Rattle.cm_validate_core.specs.CoreSpaces.{memory_names_of}
use Rattle.cm_validate_core.specs.Entries.{def_of}
use Rattle.cm_validate_core.proofs.SpaceLaws.{broken_at, numbered_there, on_any_err}
use Rattle.cm_binary_model.specs.Trees.{core_instance_export}
use Rattle.cm_validate_core.proofs.spaces.CoreSpaces.alias.Goals as goal

pub returns-in_default-clause-answer : goal.returns-in_default-clause-answer
returns-in_default-clause-answer c = record {
  fault = λ made s r.
      let e : aliased_core s c.args.sort c.args.instance c.args.name.now ≡ None = sym (c.in_ok-item.ensures.def made s r) ∙ ap (option_map (def_of made)) c.in_default.is in
      sym (broken_at s c.args.sort c.args.instance c.args.name.now None e);
  after = λ made s r. c.aliased.ensures.kept made s r;
}

pub returns-then-not-is-clause-answer : goal.returns-then-not-is-clause-answer
returns-then-not-is-clause-answer c = record {
  fault = λ made s r.
      let e : aliased_core s c.args.sort c.args.instance c.args.name.now ≡ Some (def_of made c.in-Some.item) = sym (c.in_ok-item.ensures.def made s r) ∙ ap (option_map (def_of made)) c.in-Some.is in
      sym (broken_at s c.args.sort c.args.instance c.args.name.now (Some (def_of made c.in-Some.item)) e ∙ ap (λ b. least (unless b reason.WrongSort)) (sym (c.is.ensures made) ∙ c.if-not-is.true));
  after = λ made s r. c.aliased.ensures.kept made s r;
}

pub returns-in_err-push-clause-kept : goal.returns-in_err-push-clause-kept
returns-in_err-push-clause-kept c = on_any_err c.from_residual-in_err-push.result (λ made s r. c.in_err-push.ensures.kept made s (c.aliased.ensures.kept made s r))

pub returns-clause-answer : goal.returns-clause-answer
returns-clause-answer c = record {
  fault = λ made s r.
      let e : aliased_core s c.args.sort c.args.instance c.args.name.now ≡ Some (def_of made c.in-Some.item) = sym (c.in_ok-item.ensures.def made s r) ∙ ap (option_map (def_of made)) c.in-Some.is in
      sym (broken_at s c.args.sort c.args.instance c.args.name.now (Some (def_of made c.in-Some.item)) e ∙ ap (λ b. least (unless b reason.WrongSort)) (sym (c.is.ensures made) ∙ c.if-not-is.false));
  after = λ made s r.
      let e : aliased_core s c.args.sort c.args.instance c.args.name.now ≡ Some (def_of made c.in-Some.item) = sym (c.in_ok-item.ensures.def made s r) ∙ ap (option_map (def_of made)) c.in-Some.is in
      let n = numbered_there (memory_names_of c.aliased.new.self) c.in_ok-item.field-0 c.in-Some.item c.in-Some.is (c.in_ok-item.ensures.numbered made s r) in
      c.in_ok-push.ensures.added made s (core_instance_export c.args.sort c.args.instance c.args.name.now) n e (c.aliased.ensures.kept made s r);
}

use Rattle.std.proofs.Common.{◌≡◌, nat_lt, true, false, arith, sym, ap, ◌∙◌, map}
use Rattle.std.proofs.lemmas.Bool.Decides.{nat_tests}
use Rattle.cm_binary_model.specs.Trees.{arg_tree}
use Rattle.cm_validate_model.specs.declared.fault.ValidReason.TheVariants as reason
use Rattle.cm_validate_model.specs.Reasons.{least, unless}
use Rattle.cm_validate_core.proofs.InstanceLaws.{arg_missing, args_there, module_missing}
use Rattle.cm_validate_core.proofs.spaces.CoreSpaces.instantiation_fault.Goals.{then-module_index-self-via-then-module_index-self, then-module_index-self-via-else-module_index-self+then-not-args_are_there}
use Rattle.cm_validate_core.proofs.spaces.CoreSpaces.instantiation_fault.Goals as goal

pub returns-then-module_index-self : goal.returns-then-module_index-self
returns-then-module_index-self c = λ made s r.
    elim c.then-module_index-self.branch [
      | then-module_index-self-via-then-module_index-self w ↦
          let e : nat_lt c.args.module_index c.args.self.now.modules ≡ false = grind (arith, nat_tests, w.if-module_index-self.true) in
          module_missing s c.args.module_index (map arg_tree c.args.args.now) (ap (nat_lt c.args.module_index) r.modules ∙ e)
      | then-module_index-self-via-else-module_index-self+then-not-args_are_there w ↦
          arg_missing s c.args.module_index (map arg_tree c.args.args.now) (sym (w.args_are_there.ensures made s r) ∙ w.if-not-args_are_there.true)
    ]

pub returns : goal.returns
returns c = λ made s r.
    let e : nat_lt c.args.module_index c.args.self.now.modules ≡ true = grind (arith, nat_tests, c.if-module_index-self.false) in
    c.broken_unless.ensures
    ∙ ap (λ b. least (unless b reason.DuplicateName)) c.in_ok-distinct.ensures
    ∙ args_there s c.args.module_index (map arg_tree c.args.args.now) (ap (nat_lt c.args.module_index) r.modules ∙ e) (sym (c.args_are_there.ensures made s r) ∙ c.if-not-args_are_there.false)

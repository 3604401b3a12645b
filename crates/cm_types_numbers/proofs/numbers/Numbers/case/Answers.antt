use Rattle.std.proofs.Common.{◌≡◌, ℕ, Option, None, Some, subst}
use Rattle.cm_types_numbers.specs.declared.key.Key.TheVariants as key
use Rattle.cm_types_numbers.specs.Numbering.{Numbering, numbering}
use Rattle.cm_types_numbers.proofs.Steps.{case_numbered}
use Rattle.cm_types_numbers.proofs.numbers.Numbers.case.Goals as goal
use Rattle.cm_lemmas.proofs.Results.{if_ok_more}

made_by : (t : Numbering) (label others n ty given : ℕ) → ty ≡ given → t.node (key.Carrying label ty others) ≡ Some n → t.node (key.Carrying label given others) ≡ Some n
made_by t label others n ty given is = subst (λ (m : ℕ). t.node (key.Carrying label m others) ≡ Some n) is

apart : (o : Option ℕ) (n : ℕ) → o ≡ None → o ≡ Some n → ⊥
apart o n none some = cc

some_alike : (o : Option ℕ) (m n : ℕ) → o ≡ Some m → o ≡ Some n → m ≡ n
some_alike o m n a b = cc

pub returns-in-None-clause-number : goal.returns-in-None-clause-number
returns-in-None-clause-number c = if_ok_more c.node.result _ _ c.node.ensures.number (λ n made x cs has h.
    case_numbered (numbering c.args.self.now) (numbering c.label.new.self) (numbering c.node.new.self) c.label.ensures.kept c.node.ensures.kept c.args.text.now c.in_ok-label.label c.args.others n x cs c.args.payload c.in_ok-label.ensures.number has h (λ is. made, λ ty is. absurd (apart c.args.payload ty c.in-None.is is)))

pub returns-in-Some-clause-number : goal.returns-in-Some-clause-number
returns-in-Some-clause-number c = if_ok_more c.node-in-Some.result _ _ c.node-in-Some.ensures.number (λ n made x cs has h.
    case_numbered (numbering c.args.self.now) (numbering c.label.new.self) (numbering c.node-in-Some.new.self) c.label.ensures.kept c.node-in-Some.ensures.kept c.args.text.now c.in_ok-label.label c.args.others n x cs c.args.payload c.in_ok-label.ensures.number has h (λ is. absurd (apart c.args.payload c.in-Some.ty is c.in-Some.is), λ ty is. made_by (numbering c.node-in-Some.new.self) c.in_ok-label.label c.args.others n c.in-Some.ty ty (some_alike c.args.payload c.in-Some.ty ty c.in-Some.is is) made))

use Rattle.std.proofs.Common.{◌≡◌, Bool, true, false, None, refl, sym, subst}
use Rattle.cm_wit_names.specs.Firsts.{IsFirst}
use Rattle.cm_wit_names.proofs.FaultLaws.{none_found, duplicate_found, unknown_found, cycle_found}
use Rattle.cm_wit_names.proofs.faults.first_other.Goals as goal

not_both : (b : Bool) → b ≡ false → b ≡ true → ⊥
not_both b p q = cc

pub returns-then-is_at : goal.returns-then-is_at
returns-then-is_at c = λ ms f. duplicate_found ms None c.args.duplicate c.args.unknown c.args.cycle c.lesser-rest.result c.lesser.result c.in_ok-first.first refl c.lesser-rest.ensures c.lesser.ensures c.in_ok-first.was (c.is_at.ensures.0 c.if-is_at.true) f

pub returns-then-is_at-2 : goal.returns-then-is_at-2
returns-then-is_at-2 c = λ ms f. unknown_found ms None c.args.duplicate c.args.unknown c.args.cycle c.lesser-rest.result c.lesser.result c.in_ok-first.first refl c.lesser-rest.ensures c.lesser.ensures c.in_ok-first.was (λ e. not_both c.is_at.result c.if-is_at.false (c.is_at.ensures.1 e)) (c.is_at-2.ensures.0 c.if-is_at-2.true) f

pub returns : goal.returns
returns c = λ ms f. cycle_found ms None c.args.duplicate c.args.unknown c.args.cycle c.lesser-rest.result c.lesser.result c.in_ok-first.first refl c.lesser-rest.ensures c.lesser.ensures c.in_ok-first.was (λ e. not_both c.is_at.result c.if-is_at.false (c.is_at.ensures.1 e)) (λ e. not_both c.is_at-2.result c.if-is_at-2.false (c.is_at-2.ensures.1 e)) f

pub returns-in_err-first : goal.returns-in_err-first
returns-in_err-first c = λ ms f. subst (λ r. IsFirst ms r) (sym c.from_residual.ensures) (none_found ms None c.args.duplicate c.args.unknown c.args.cycle c.lesser-rest.result c.lesser.result refl c.lesser-rest.ensures c.lesser.ensures c.in_err-first.was f)

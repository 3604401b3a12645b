-- Members are gathered one after another.
use Rattle.std.proofs.Common.{◌≡◌, List, [], Some, None, ap, ◌∙◌, subst, Result, Ok, Err}
use Rattle.cm_types.specs.Types.{Ty, FuncTy}
use Rattle.cm_binary_model.specs.declared.instances.InlineExport.{InlineExport}
use Rattle.cm_validate_model.specs.declared.fault.ValidReason.{ValidReason}
use Rattle.cm_validate_model.specs.Reasons.{least}
use Rattle.cm_validate_model.specs.Rules.{member_broken}
use Rattle.cm_validate_model.specs.Spaces.{Spaces}
use Rattle.cm_validate_entries.specs.declared.entries.MemberEntry.{MemberEntry}
use Rattle.cm_validate_instances.specs.Members.{IsAnswered, IsBroken, IsFine}

pub fine_at : (types : List Ty) (funcs : List FuncTy) (s : Spaces) (e : InlineExport) (r : Result MemberEntry ValidReason) (m : MemberEntry) → r ≡ Ok m → IsAnswered types funcs s e r → IsFine types funcs s e m
fine_at types funcs s e r m is a = subst (IsAnswered types funcs s e) is a

pub broken_at : (types : List Ty) (funcs : List FuncTy) (s : Spaces) (e : InlineExport) (r : Result MemberEntry ValidReason) (q : ValidReason) → r ≡ Err q → IsAnswered types funcs s e r → IsBroken s e q
broken_at types funcs s e r q is a = subst (IsAnswered types funcs s e) is a

-- what breaks nothing is no broken export
pub broken_none : (s : Spaces) (e : InlineExport) (q : ValidReason) → IsBroken s e q → member_broken s e ≡ [] → {B : Type 0} → B
broken_none s e q b f = let wrong : Some q ≡ None = b.broken ∙ ap least f in absurd cc

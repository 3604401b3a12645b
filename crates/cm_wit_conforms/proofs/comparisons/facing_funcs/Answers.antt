use Rattle.std.proofs.Common.{◌≡◌, refl, subst, sym}
use Rattle.cm_types_arena.specs.Places.{funcs_of}
use Rattle.cm_types_arena.specs.Placed.{placed_func}
use Rattle.cm_wit_conforms.specs.Comparisons.{facing, two_funcs}
use Rattle.cm_wit_conforms.specs.declared.fault.ConformList.{ConformList}
use Rattle.cm_wit_conforms.specs.Views.{other, own}
use Rattle.cm_wit_conforms.proofs.comparisons.facing_funcs.Goals as goal

pub returns-in-WorldExports : goal.returns-in-WorldExports
returns-in-WorldExports c = λ h w. subst (λ (l : ConformList). two_funcs (placed_func (funcs_of h) c.args.found) (placed_func (funcs_of w) c.args.func) ≡ facing two_funcs l (placed_func (funcs_of (own l h w)) c.args.func) (placed_func (funcs_of (other l h w)) c.args.found)) (sym c.in-WorldExports.is) refl

pub returns-in-HaveImports : goal.returns-in-HaveImports
returns-in-HaveImports c = λ h w. subst (λ (l : ConformList). two_funcs (placed_func (funcs_of h) c.args.func) (placed_func (funcs_of w) c.args.found) ≡ facing two_funcs l (placed_func (funcs_of (own l h w)) c.args.func) (placed_func (funcs_of (other l h w)) c.args.found)) (sym c.in-HaveImports.is) refl

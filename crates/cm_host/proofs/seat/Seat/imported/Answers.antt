use Rattle.std.proofs.Common.{◌≡◌, Some, slice_get, sym, subst, ◌∙◌}
use Rattle.cm_types_arena.specs.Placed.{placed_func}
use Rattle.cm_validate_model.specs.Definitions.{lowered}
use Rattle.cm_validate_functions.specs.Functions.{funcs_of}
use Rattle.cm_validate_spaces.specs.Checked.{spaces_in}
use Rattle.cm_host.specs.Seats.{Imports}
use Rattle.cm_host.proofs.TypesLaws.{imports_of}
use Rattle.cm_host.proofs.seat.Seat.imported.Goals as goal

pub returns-in-Some-lowered : goal.returns-in-Some-lowered
returns-in-Some-lowered c =
    let s = c.args.self.now in
    let funcs = funcs_of s.functions in
    let t = c.in-Some-lowered.typed in
    let l = c.in-Some-lowered.ensures.lowers in
    imports_of s c.args.name.now t.core_func funcs t.ty t.options.now c.host_func.result
    (λ u. subst (λ n. Imports s c.args.name.now n (placed_func funcs t.ty)) (sym c.in-Some-lowered.ensures.itself)
    (record {
      import = l.0;
      item = l.1;
      options = t.options.now;
      utf8 = u;
      named = sym c.import.ensures ∙ c.in-Some.is;
      lowers = subst (λ x. slice_get x.core_funcs c.in-Some.core_func ≡ Some (lowered l.0 l.1 (placed_func funcs t.ty) t.options.now)) c.checked.ensures.spaces
          (subst (λ fs. slice_get (spaces_in c.checked.result.now).core_funcs c.in-Some.core_func ≡ Some (lowered l.0 l.1 (placed_func fs t.ty) t.options.now)) c.checked.ensures.funcs l.2);
    }))
    c.host_func.ensures.utf8 c.host_func.ensures.itself c.host_func.ensures.passed

use Rattle.std.proofs.Common.{◌≡◌, ◌↔◌, Bool, IsTrue, List, subst, sym}
use Rattle.cm_types.specs.declared.resource.ResourceId.{ResourceId}
use Rattle.cm_types_arena.specs.Replaced.{replaced, replaced_func}
use Rattle.cm_types_arena.specs.declared.types.Types.{Types}
use Rattle.cm_wit_conforms.specs.Comparisons.{Entry}
use Rattle.cm_wit_conforms.specs.Conformance.{Fits}
use Rattle.cm_wit_conforms.specs.Judging.{marks_of}
use Rattle.cm_types_numbers.specs.Moved.{brought_func, brought_type}
use Rattle.cm_wit_conforms.specs.Views.{comparison_of}
use Rattle.cm_wit_conforms.specs.declared.comparisons.Comparison.{Comparison}
use Rattle.cm_wit_conforms.proofs.JudgeLaws.{as_marked}
use Rattle.cm_wit_conforms.proofs.judge.Tables.fits.Goals as goal
use Rattle.cm_lemmas.proofs.Results.{if_ok_more}

-- what is told of the comparison, told of the one that was matched
told : (have world : Types) (all : List Entry) (b : Bool) (what matched : Comparison) → what ≡ matched → IsTrue b ↔ Fits all (comparison_of have world matched) → IsTrue b ↔ Fits all (comparison_of have world what)
told have world all b what matched is h = subst (λ (w : Comparison). IsTrue b ↔ Fits all (comparison_of have world w)) (sym is) h

pub returns-in-Funcs-clause-fits : goal.returns-in-Funcs-clause-fits
returns-in-Funcs-clause-fits c = if_ok_more c.same_funcs.result _ _ c.same_funcs.ensures.same (λ b h all sides.
    told c.args.have.now.types.now c.args.world.now.types.now all b c.args.what _ c.in-Funcs.is
    (as_marked all c.args.have.now c.args.world.now sides b (λ s t. replaced_func s (brought_func c.args.have.now.types.now c.in-Funcs.f) ≡ replaced_func t (brought_func c.args.world.now.types.now c.in-Funcs.g)) h))

pub returns-in-Types-clause-fits : goal.returns-in-Types-clause-fits
returns-in-Types-clause-fits c = if_ok_more c.same_types.result _ _ c.same_types.ensures.same (λ b h all sides.
    told c.args.have.now.types.now c.args.world.now.types.now all b c.args.what _ c.in-Types.is
    (as_marked all c.args.have.now c.args.world.now sides b (λ s t. replaced s (brought_type c.args.have.now.types.now c.in-Types.x) ≡ replaced t (brought_type c.args.world.now.types.now c.in-Types.y)) h))

pub returns-in-Resources-clause-fits : goal.returns-in-Resources-clause-fits
returns-in-Resources-clause-fits c = λ all sides.
    let b = c.same_resource.result in
    let left = subst (λ (r : ResourceId). IsTrue b ↔ (r ≡ c.replace-in-Resources.result)) c.replace.ensures c.same_resource.ensures.same in
    let both = subst (λ (r : ResourceId). IsTrue b ↔ (marks_of c.args.have.now c.in-Resources.a ≡ r)) c.replace-in-Resources.ensures left in
    told c.args.have.now.types.now c.args.world.now.types.now all b c.args.what _ c.in-Resources.is
    (as_marked all c.args.have.now c.args.world.now sides b (λ s t. s c.in-Resources.a ≡ t c.in-Resources.b) both)

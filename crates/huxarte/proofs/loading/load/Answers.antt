use Rattle.std.proofs.Common.{◌∙◌, Err, map, sym, ap, subst}
use Rattle.std.proofs.lemmas.Result.{err_from_is_err_and}
use Rattle.cm_match_model.specs.Links.{CanBeLinked}
use Rattle.huxarte.specs.Loading.{AreSpelled, IsSetFault, set_of}
use Rattle.huxarte.proofs.LoadingLaws.{misuse_of}
use Rattle.huxarte.proofs.loading.load.Goals as goal

pub returns-in_err-components-clause-fault : goal.returns-in_err-components-clause-fault
returns-in_err-components-clause-fault c =
    let p = err_from_is_err_and c.from_residual.result c.from_residual.ensures.1 in
    rw (p.1, p.2) (c.in_err-components.ensures.fault c.args.pages.now)

pub returns-in_err-checked-clause-fault : goal.returns-in_err-checked-clause-fault
returns-in_err-checked-clause-fault c =
    let p = err_from_is_err_and c.from_residual-in_err-checked.result c.from_residual-in_err-checked.ensures.1 in
    let spelled = subst (λ cs. AreSpelled (map (λ f. f.now) c.args.files.now) cs) (sym c.deref.ensures.value) c.in_ok-components.ensures.spelled in
    rw (p.1, p.2) (c.in_err-checked.ensures.fault (map (λ f. f.now) c.args.files.now) c.args.pages.now spelled)

pub returns-in_err-new-clause-fault : goal.returns-in_err-new-clause-fault
returns-in_err-new-clause-fault c =
    let p = err_from_is_err_and c.from_residual-in_err-new.result c.from_residual-in_err-new.ensures.1 in
    let spelled = subst (λ cs. AreSpelled (map (λ f. f.now) c.args.files.now) cs) (sym c.deref.ensures.value) c.in_ok-components.ensures.spelled in
    let is = ap set_of (sym c.in_ok-checked.ensures.held) in
    let set = c.in_ok-linked.ensures.set ∙ ap set_of c.in_ok-checked.ensures.held in
    let fault : IsSetFault (map (λ f. f.now) c.args.files.now) c.args.pages.now c.in_err-new.field-0.0 = record {
      components = c.deref.result.now;
      are = record { spelled = spelled; valid = c.in_ok-checked.ensures.valid; linked = subst CanBeLinked (sym is) c.in_ok-linked.ensures.accepted };
      fails = misuse_of _ _ c.args.pages.now c.in_err-new.field-0.0 set c.in_err-new.ensures.only
          (λ at. c.in_err-new.ensures.bad_pages.0 (ap Err at));
    } in
    rw (p.1, p.2) fault

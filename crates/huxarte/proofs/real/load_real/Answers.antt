use Rattle.std.proofs.Common.{◌≡◌, ◌⊎◌, ◌∙◌, Err, map, sym, ap, subst}
use Rattle.std.proofs.lemmas.Result.{err_from_is_err_and}
use Rattle.cm_match_model.specs.declared.fault.LinkReason.TheVariants as link_reason
use Rattle.cm_match_model.specs.Links.{CanBeLinked, IsLinkFault}
use Rattle.cm_stubs_files.specs.cm_match.Before.{AreServedBefore}
use Rattle.cm_stubs_files.specs.cm_shims.Files.{AreRead, reading_of}
use Rattle.huxarte.specs.Loading.{set_of}
use Rattle.huxarte.specs.Real.{IsRealLinkFault, IsRealSetFault}
use Rattle.huxarte.proofs.LoadingLaws.{misuse_of}
use Rattle.huxarte.proofs.real.load_real.Goals as goal

pub returns-in_err-components-clause-fault : goal.returns-in_err-components-clause-fault
returns-in_err-components-clause-fault c =
    let p = err_from_is_err_and c.from_residual.result c.from_residual.ensures.1 in
    rw (p.1, p.2) c.in_err-components.ensures.fault

pub returns-in_err-checked-clause-fault : goal.returns-in_err-checked-clause-fault
returns-in_err-checked-clause-fault c =
    let p = err_from_is_err_and c.from_residual-in_err-checked.result c.from_residual-in_err-checked.ensures.1 in
    let read = subst (λ cs. AreRead (map (λ f. f.now) c.args.files.now) (map reading_of cs)) (sym c.deref.ensures.value) c.in_ok-components.ensures.read in
    rw (p.1, p.2) (c.in_err-checked.ensures.fault (map (λ f. f.now) c.args.files.now) read)

pub returns-in_err-linked-clause-fault : goal.returns-in_err-linked-clause-fault
returns-in_err-linked-clause-fault c =
    let p = err_from_is_err_and c.from_residual-in_err-linked.result c.from_residual-in_err-linked.ensures.1 in
    let read = subst (λ cs. AreRead (map (λ f. f.now) c.args.files.now) (map reading_of cs)) (sym c.deref.ensures.value) c.in_ok-components.ensures.read in
    let f = c.in_err-linked.field-0.0 in
    let fault : IsRealLinkFault (map (λ f. f.now) c.args.files.now) f = record {
      readings = map reading_of c.deref.result.now;
      are = record { read = read; sound = c.in_ok-checked.ensures.sound };
      fails = subst (λ set. ((f.reason ≡ link_reason.Memory) × AreServedBefore set f.component f.import) ⊎ IsLinkFault set f.component f.import f.reason)
          (ap set_of c.in_ok-checked.ensures.held) c.in_err-linked.ensures.refused;
    } in
    rw (p.1, p.2) fault

pub returns-in_err-new-clause-fault : goal.returns-in_err-new-clause-fault
returns-in_err-new-clause-fault c =
    let p = err_from_is_err_and c.from_residual-in_err-new.result c.from_residual-in_err-new.ensures.1 in
    let read = subst (λ cs. AreRead (map (λ f. f.now) c.args.files.now) (map reading_of cs)) (sym c.deref.ensures.value) c.in_ok-components.ensures.read in
    let is = ap set_of (sym c.in_ok-checked.ensures.held) in
    let set = c.in_ok-linked.ensures.set ∙ ap set_of c.in_ok-checked.ensures.held in
    let fault : IsRealSetFault (map (λ f. f.now) c.args.files.now) c.args.pages.now c.in_err-new.field-0.0 = record {
      readings = map reading_of c.deref.result.now;
      are = record { read = read; sound = c.in_ok-checked.ensures.sound };
      linked = subst CanBeLinked (sym is) c.in_ok-linked.ensures.accepted;
      fails = misuse_of _ _ c.args.pages.now c.in_err-new.field-0.0 set c.in_err-new.ensures.only
          (λ at. c.in_err-new.ensures.bad_pages.0 (ap Err at));
    } in
    rw (p.1, p.2) fault

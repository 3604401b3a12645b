use Rattle.std.proofs.Common.{◌≡◌, Some, inl, length, slice_get, refl, sym, subst, ◌∙◌}
use Rattle.std.proofs.lemmas.Option.{slice_get_read}
use Rattle.cm_host.specs.Serving.{GoesOn}
use Rattle.cm_host.proofs.served.Served.resume.Goals as goal

pub returns-clause-goes : goal.returns-clause-goes
returns-clause-goes g c =
    let e = c.in-Some-get.entry.now in
    let is = subst (λ es. slice_get es c.in-Some.place ≡ Some e) c.deref.ensures.value (slice_get_read c.deref.result.now (length c.deref.result.now) c.in-Some.place e refl c.in-Some-get.ensures.lookup.3.0 c.in-Some-get.ensures.lookup.1) in
    subst (λ o. GoesOn c.args.self.now o c.follow.result c.follow.new.self) (sym (sym c.take.ensures.value ∙ c.in-Some.is))
    (inl (e, is, record { answer = c.go_on-answer.result; left = c.go_on-answer.new.self; of = tt; follows = c.follow.ensures.followed e is }))

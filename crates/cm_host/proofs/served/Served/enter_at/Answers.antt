use Rattle.std.proofs.Common.{◌≡◌, Some, inl, length, slice_get, refl, subst}
use Rattle.std.proofs.lemmas.Option.{slice_get_read}
use Rattle.cm_types.specs.Values.{parts}
use Rattle.cm_types.specs.ValueTrees.{values_of}
use Rattle.cm_host.proofs.served.Served.enter_at.Goals as goal

pub returns-in-Ok-clause-enters : goal.returns-in-Ok-clause-enters
returns-in-Ok-clause-enters g c =
    let e = c.in-Some.entry.now in
    let v = parts (values_of c.in-Ok.args.items) in
    let is = subst (λ es. slice_get es c.args.place ≡ Some e) c.deref.ensures.value (slice_get_read c.deref.result.now (length c.deref.result.now) c.args.place e refl c.in-Some.ensures.lookup.3.0 c.in-Some.ensures.lookup.1) in
    inl (
      e,
      is,
      record {
        v = v;
        got = record { denoted = λ w r. c.in-Ok.ensures.denoted w r; seen = λ w all u r t d. c.in-Ok.ensures.seen w all u r t d };
        asked = record {
          answer = c.serve-answer.result;
          left = c.serve-answer.new.self;
          of = subst (λ vs. g.S.Service.does c.args.self.now.service e.key (parts (values_of vs)) c.serve-answer.result c.serve-answer.new.self) c.deref-in-Ok.ensures.value c.serve-answer.ensures;
          follows = c.follow.ensures.followed e is;
        };
      },
    )

use Rattle.std.proofs.Common.{◌≡◌, ◌<◌, Some, [], ◌∷◌, length, slice_get, refl, sym, subst}
use Rattle.std.proofs.lemmas.Option.{slice_get_read}
use Rattle.cm_types.specs.Values.{parts}
use Rattle.cm_types.specs.ValueTrees.{values_of}
use Rattle.cm_types.specs.declared.values.Value.TheVariants as value
use Rattle.cm_host.proofs.Ends.{found_there, same_found}
use Rattle.cm_host.proofs.served.Served.destroy_at.Goals as goal

pub returns-in-Some-clause-destroys : goal.returns-in-Some-clause-destroys
returns-in-Some-clause-destroys g c d is =
    let e = c.in-Some.destructor.now in
    let there = subst (λ es. slice_get es c.args.place ≡ Some e) c.deref.ensures.value (slice_get_read c.deref.result.now (length c.deref.result.now) c.args.place e refl c.in-Some.ensures.lookup.3.0 c.in-Some.ensures.lookup.1) in (
      c.serve.result,
      subst (λ x. g.S.Service.does c.args.self.now.service x.key (parts (values_of (value.Unsigned c.args.rep ∷ []))) c.serve.result c.serve.new.self) (same_found (slice_get c.args.self.now.destructors.items c.args.place) e d (sym there) is)
          (subst (λ n. g.S.Service.does c.args.self.now.service e.key (parts (values_of (value.Unsigned n ∷ []))) c.serve.result c.serve.new.self) c.from.ensures c.serve.ensures),
    )

pub returns-in_default-clause-destroys : goal.returns-in_default-clause-destroys
returns-in_default-clause-destroys g c d is =
    let past = c.in_default.ensures.lookup in
    let inside = subst (λ ds. c.args.place < length ds) (sym c.deref.ensures.value) (found_there c.args.self.now.destructors.items c.args.place d is) in
    let bad = past.2 inside in
    absurd cc

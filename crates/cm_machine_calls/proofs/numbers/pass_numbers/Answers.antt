use Rattle.std.proofs.Common.{◌≡◌, ◌∙◌, ap, sym, subst, refl, List, length, map, arith}
use Rattle.std.specs.List.{refill}
use Rattle.std.proofs.lemmas.List.{length-map}
use Rattle.cm_types.specs.CoreValues.{kind_of}
use Rattle.cm_types.specs.declared.core_value.CoreValue.{CoreValue}
use Rattle.cm_abi_model.specs.LiftStops.{LiftStops}
use Rattle.cm_abi_slots.specs.Passing.{PassesNumbers}
use Rattle.cm_machine_calls.proofs.Results.{written_back}
use Rattle.cm_machine_calls.proofs.numbers.pass_numbers.Goals as goal

pub pass_slots-requires : goal.pass_slots-requires
pass_slots-requires c = omega (arith, ap length c.as_mut_slice.ensures.value, ap length c.set.ensures, c.requires.each)

pub returns-in-Ok : goal.returns-in-Ok
returns-in-Ok c = record {
  passes = λ w way types are kinds.
      let slots = c.args.slots.now in
      let all : List CoreValue = c.set.new.self in
      let lent : List CoreValue = c.as_mut_slice.result.now in
      let new : List CoreValue = c.pass_slots.new.slots in
      let same : lent ≡ slots = c.as_mut_slice.ensures.value ∙ c.set.ensures in
      let got = c.in-Ok.ensures.passed w way types are (ap (λ (xs : List CoreValue). map kind_of xs) same ∙ kinds) in
      let back : refill (length all) all new ≡ new =
      written_back (length all) all new refl (omega (arith, ap length c.as_mut_slice.ensures.value, ap length c.pass_slots.ensures.kinds, length-map new kind_of, length-map lent kind_of)) in (
        got.0,
        subst (λ (xs : List CoreValue). PassesNumbers w way types xs (refill (length all) all new) got.0) same
            (subst (λ (ys : List CoreValue). PassesNumbers w way types lent ys got.0) (sym back) got.1),
      );
}

pub returns-in-Err : goal.returns-in-Err
returns-in-Err c = record {
  passes = λ w way types are kinds.
      let lent : List CoreValue = c.as_mut_slice.result.now in
      let same : lent ≡ c.args.slots.now = c.as_mut_slice.ensures.value ∙ c.set.ensures in (
        c.in-Err.fault,
        subst (λ (xs : List CoreValue). LiftStops w way types xs c.in-Err.fault) same (c.in-Err.ensures.stops w way types are (ap (λ (xs : List CoreValue). map kind_of xs) same ∙ kinds)),
        c.trap_of.ensures,
      );
}

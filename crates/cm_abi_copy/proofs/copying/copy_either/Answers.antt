use Rattle.std.proofs.Common.{Err, inl, inr, refl, sym, ap, subst, ◌∙◌, ◌≡◌, ◌<◌, ◌≤◌, ◌^◌, arith, length, map, take, List, ℕ, Bool, true, false}
use Rattle.std.specs.Prelude.{IsTrue, Result, slice_index}
use Rattle.std.proofs.lemmas.Bool.{cases_lt}
use Rattle.cm_abi_model.specs.declared.encodings.Encodings.{Encodings}
use Rattle.cm_abi_model.specs.declared.fault.AbiFault.{AbiFault}
use Rattle.cm_abi_model.specs.declared.fault.AbiFault.TheVariants as fault
use Rattle.cm_types.specs.CoreValues.{kind_of}
use Rattle.cm_abi_model.specs.Answered.{IsAllAnswered, Requesting}
use Rattle.cm_abi_model.specs.declared.leaf.HandleLeaf.{HandleLeaf}
use Rattle.cm_abi_model.specs.Copies.{IsFaultOfCopying, IsReceivingIn, given_by, handles_of_values}
use Rattle.cm_abi_model.specs.Giving.{Gives, added_count}
use Rattle.cm_abi_model.specs.HandleLeaves.{leaves_of}
use Rattle.cm_abi_model.specs.Overlap.{AreDisjoint}
use Rattle.cm_abi_model.specs.Placing.{regions_at}
use Rattle.cm_abi_model.specs.Receives.{Receives, call_bytes, call_kinds, call_numbers}
use Rattle.cm_abi_model.specs.Scanned.{Scanned}
use Rattle.cm_abi_model.specs.Stores.{poke}
use Rattle.cm_abi_model.specs.Views.{View}
use Rattle.cm_abi_model.specs.Ways.{way_of}
use Rattle.cm_abi_running.specs.declared.copier.Copier.{Copier}
use Rattle.cm_handles.specs.Handles.{indices_left}
use Rattle.cm_abi_copy.proofs.CopyLaws.{IsFrom, all_zeros, are_numbers, as_many, few_slots, fits, framed, given_is, gives, none_there, none_told, numbers_are, passed_on, received, received_serves, taken_long}
use Rattle.cm_abi_copy.proofs.copying.copy_either.Goals as goal
use Rattle.cm_abi_model.proofs.GivingLaws.{numbers_counted}

holds : (b : Bool) → b ≡ true → IsTrue b
holds true is = refl
holds false is = absurd (cc)

fails : (b : Bool) → b ≡ false → IsTrue b → ⊥
fails true is t = absurd (cc)
fails false is t = cc

never : false ≡ true → ⊥
never is = cc

not_full : {A : Type 0} (f : AbiFault) → ◌≡◌ {A = Result A AbiFault} (Err f) (Err fault.TableFull) → f ≡ fault.EngineMemory → ⊥
not_full f full memory = cc

room : (left more : ℕ) → (left < more → ⊥) → more ≤ left
room left more not_less = elim (cases_lt left more) [ inl less ↦ absurd (not_less less) | inr enough ↦ omega (arith, enough) ]

pub are_apart-requires : goal.are_apart-requires
are_apart-requires c =
    let parts_are : c.kept.inside.lists.parts ≡ c.args.kept.now.parts = ap (λ (x : Scanned). x.parts) c.kept.view_is in
    record { answered = (c.requires.copied.1, subst (λ p. IsAllAnswered p c.requires.copied.1) (sym parts_are) c.requires.copied.4.answered) }

pub returns-then-not-are_apart-clause-err : goal.returns-then-not-are_apart-clause-err
returns-then-not-are_apart-clause-err c = λ giver answers types v can clear.
    let parts_are : c.kept.inside.lists.parts ≡ c.args.kept.now.parts = ap (λ (x : Scanned). x.parts) c.kept.view_is in
    let settled = c.what_can_be_copied_is_settled.ensures (length c.args.memory.now) (map kind_of c.args.slots.now) giver c.args.found.now c.args.kept.now answers types v c.are_bytes.ensures can in
    fails c.are_apart.result c.if-not-are_apart.true (c.are_apart.ensures.answer.1 (subst (λ (p : Requesting). AreDisjoint (regions_at p.records p.places)) (sym parts_are) (settled.regions.1 clear)))

pub returns-in-Err-clause-err : goal.returns-in-Err-clause-err
returns-in-Err-clause-err c = λ giver answers types v can.
    let parts_are : c.kept.inside.lists.parts ≡ c.args.kept.now.parts = ap (λ (x : Scanned). x.parts) c.kept.view_is in
    let handles_are : leaves_of c.deref.result.now ≡ c.args.kept.now.handles = ap leaves_of c.deref.ensures.value ∙ ap (λ (x : Scanned). x.handles) c.kept.view_is in
    let settled = c.what_can_be_copied_is_settled.ensures (length c.args.memory.now) (map kind_of c.args.slots.now) giver c.args.found.now c.args.kept.now answers types v c.are_bytes.ensures can in
    let clear = settled.regions.0 (subst (λ (p : Requesting). AreDisjoint (regions_at p.records p.places)) parts_are (c.are_apart.ensures.answer.0 (holds c.are_apart.result c.if-not-are_apart.false))) in
    elim c.in-Err.ensures.err [
      | inl full ↦ subst (λ e. IsFaultOfCopying c.args.kept.now.parts answers c.args.to c.args.table.now.handles (handles_of_values types v) e) (sym full)
          (clear, subst (λ ls. indices_left c.args.table.now.handles < added_count c.args.to ls) (handles_are ∙ can.found.handles) (c.in-Err.ensures.full.0 (ap (λ x. Err x) full)))
      | inr memory ↦ subst (λ e. IsFaultOfCopying c.args.kept.now.parts answers c.args.to c.args.table.now.handles (handles_of_values types v) e) (sym memory) (
        clear,
        room (indices_left c.args.table.now.handles) (added_count c.args.to (handles_of_values types v))
            (λ less. not_full c.in-Err.fault (c.in-Err.ensures.full.1 (subst (λ ls. indices_left c.args.table.now.handles < added_count c.args.to ls) (sym (handles_are ∙ can.found.handles)) less)) memory),
        λ none. never (c.in-Err.ensures.nothing (none_told c.deref.result.now (handles_are ∙ (can.found.handles ∙ none)))),
      )
    ]

pub invariant_of-kept-2 : goal.invariant_of-kept-2
invariant_of-kept-2 c =
    let records = ap (λ (p : Requesting). length p.records) c.are_apart.ensures.same in
    let places = ap (λ (p : Requesting). length p.places) c.are_apart.ensures.same in record {
      met = c.kept.invariant.met;
      tags = c.kept.invariant.tags;
      order = record {
        places = omega (arith, c.kept.invariant.order.places, records, places);
        handed = c.kept.invariant.order.handed;
        numbers = omega (arith, ap length c.in-Ok.ensures.gives.numbers, numbers_counted c.args.to c.args.table.now.handles (leaves_of c.deref.result.now), ap (λ (xs : List HandleLeaf). length (leaves_of xs)) c.deref.ensures.value);
        empty = λ none. omega (arith, c.kept.invariant.order.empty none, records);
      };
    }

pub slice_bounds-zeros-end : goal.slice_bounds-zeros-end
slice_bounds-zeros-end c =
    let giver = c.requires.copied.0 in
    let answers = c.requires.copied.1 in
    let types = c.requires.copied.2 in
    let v = c.requires.copied.3 in
    let can = c.requires.copied.4 in
    let parts_are : c.kept.inside.lists.parts ≡ c.args.kept.now.parts = ap (λ (x : Scanned). x.parts) c.kept.view_is in
    let handles_are : leaves_of c.deref.result.now ≡ c.args.kept.now.handles = ap leaves_of c.deref.ensures.value ∙ ap (λ (x : Scanned). x.handles) c.kept.view_is in
    let settled = c.what_can_be_copied_is_settled.ensures (length c.args.memory.now) (map kind_of c.args.slots.now) giver c.args.found.now c.args.kept.now answers types v c.are_bytes.ensures can in
    let gave = subst (λ ls. Gives c.args.to c.args.table.now.handles c.give.new.table.handles ls c.give.new.numbers.items) handles_are c.in-Ok.ensures.gives in
    few_slots (length c.args.memory.now) (map kind_of c.args.slots.now) giver c.args.found.now c.args.kept.now answers types v c.args.to c.args.table.now.handles c.give.new.table.handles c.give.new.numbers.items can settled gave c.args.slots.now refl

pub slice_bounds-passed-end : goal.slice_bounds-passed-end
slice_bounds-passed-end c =
    let giver = c.requires.copied.0 in
    let answers = c.requires.copied.1 in
    let types = c.requires.copied.2 in
    let v = c.requires.copied.3 in
    let can = c.requires.copied.4 in
    let parts_are : c.kept.inside.lists.parts ≡ c.args.kept.now.parts = ap (λ (x : Scanned). x.parts) c.kept.view_is in
    let handles_are : leaves_of c.deref.result.now ≡ c.args.kept.now.handles = ap leaves_of c.deref.ensures.value ∙ ap (λ (x : Scanned). x.handles) c.kept.view_is in
    let settled = c.what_can_be_copied_is_settled.ensures (length c.args.memory.now) (map kind_of c.args.slots.now) giver c.args.found.now c.args.kept.now answers types v c.are_bytes.ensures can in
    let gave = subst (λ ls. Gives c.args.to c.args.table.now.handles c.give.new.table.handles ls c.give.new.numbers.items) handles_are c.in-Ok.ensures.gives in
    sym (taken_long (length c.args.slots.now) all_zeros (few_slots (length c.args.memory.now) (map kind_of c.args.slots.now) giver c.args.found.now c.args.kept.now answers types v c.args.to c.args.table.now.handles c.give.new.table.handles c.give.new.numbers.items can settled gave c.args.slots.now refl))

pub copy_passed-requires-clause-denoted : goal.copy_passed-requires-clause-denoted
copy_passed-requires-clause-denoted c =
    let giver = c.requires.copied.0 in
    let answers = c.requires.copied.1 in
    let types = c.requires.copied.2 in
    let v = c.requires.copied.3 in
    let can = c.requires.copied.4 in
    let parts_are : c.kept.inside.lists.parts ≡ c.args.kept.now.parts = ap (λ (x : Scanned). x.parts) c.kept.view_is in
    let handles_are : leaves_of c.deref.result.now ≡ c.args.kept.now.handles = ap leaves_of c.deref.ensures.value ∙ ap (λ (x : Scanned). x.handles) c.kept.view_is in
    let settled = c.what_can_be_copied_is_settled.ensures (length c.args.memory.now) (map kind_of c.args.slots.now) giver c.args.found.now c.args.kept.now answers types v c.are_bytes.ensures can in
    let gave = subst (λ ls. Gives c.args.to c.args.table.now.handles c.give.new.table.handles ls c.give.new.numbers.items) handles_are c.in-Ok.ensures.gives in
    let from : Copier = c.copier-from.result in
    let same = c.are_apart.ensures.same ∙ parts_are in
    let from_is : IsFrom from c.args.found.now c.args.kept.now.parts c.give.new.numbers.items =
    record {
      memory = c.copier-from.ensures.memory;
      encoding = c.copier-from.ensures.source ∙ (ap (λ (x : Encodings). x.source) c.encodings-encodings.ensures ∙ ap (λ (p : Requesting). p.source) same);
      target = c.copier-from.ensures.target ∙ (ap (λ (x : Encodings). x.target) c.encodings-encodings.ensures ∙ ap (λ (p : Requesting). p.target) same);
      places = c.copier-from.ensures.places ∙ (c.places-places.ensures.places ∙ ap (λ (p : Requesting). p.places) same);
      numbers = c.copier-from.ensures.numbers ∙ c.deref-numbers.ensures.value;
      records = c.copier-from.ensures.records ∙ (c.records-records.ensures ∙ ap (λ (p : Requesting). p.records) same);
    } in
    let few = few_slots (length c.args.memory.now) (map kind_of c.args.slots.now) giver c.args.found.now c.args.kept.now answers types v c.args.to c.args.table.now.handles c.give.new.table.handles c.give.new.numbers.items can settled gave c.args.slots.now refl in
    let many = as_many (length c.args.memory.now) (map kind_of c.args.slots.now) giver c.args.found.now c.args.kept.now answers types v c.args.to c.args.table.now.handles c.give.new.table.handles c.give.new.numbers.items can settled gave c.args.slots.now refl in
    let taken = taken_long (length c.args.slots.now) all_zeros few in
    let long : length (call_kinds (way_of c.args.found.now.passed.way) types) ≤ length (take (length c.args.slots.now) all_zeros) = omega (arith, many, taken) in
    (types, v, passed_on (length c.args.memory.now) (map kind_of c.args.slots.now) giver c.args.found.now c.args.kept.now answers types v c.args.to c.args.table.now.handles c.give.new.table.handles c.give.new.numbers.items can settled gave from (length (take (length c.args.slots.now) all_zeros)) from_is long)

pub put_numbers-requires-clause-length : goal.put_numbers-requires-clause-length
put_numbers-requires-clause-length c =
    let giver = c.requires.copied.0 in
    let answers = c.requires.copied.1 in
    let types = c.requires.copied.2 in
    let v = c.requires.copied.3 in
    let can = c.requires.copied.4 in
    let parts_are : c.kept.inside.lists.parts ≡ c.args.kept.now.parts = ap (λ (x : Scanned). x.parts) c.kept.view_is in
    let handles_are : leaves_of c.deref.result.now ≡ c.args.kept.now.handles = ap leaves_of c.deref.ensures.value ∙ ap (λ (x : Scanned). x.handles) c.kept.view_is in
    let settled = c.what_can_be_copied_is_settled.ensures (length c.args.memory.now) (map kind_of c.args.slots.now) giver c.args.found.now c.args.kept.now answers types v c.are_bytes.ensures can in
    let gave = subst (λ ls. Gives c.args.to c.args.table.now.handles c.give.new.table.handles ls c.give.new.numbers.items) handles_are c.in-Ok.ensures.gives in
    let few = few_slots (length c.args.memory.now) (map kind_of c.args.slots.now) giver c.args.found.now c.args.kept.now answers types v c.args.to c.args.table.now.handles c.give.new.table.handles c.give.new.numbers.items can settled gave c.args.slots.now refl in
    let many = as_many (length c.args.memory.now) (map kind_of c.args.slots.now) giver c.args.found.now c.args.kept.now answers types v c.args.to c.args.table.now.handles c.give.new.table.handles c.give.new.numbers.items can settled gave c.args.slots.now refl in
    let taken = taken_long (length c.args.slots.now) all_zeros few in
    let long : length (call_kinds (way_of c.args.found.now.passed.way) types) ≤ length (take (length c.args.slots.now) all_zeros) = omega (arith, many, taken) in
    sym (c.copy_passed.ensures.slots_stay ∙ taken)

pub put_numbers-requires-clause-fits : goal.put_numbers-requires-clause-fits
put_numbers-requires-clause-fits c =
    let giver = c.requires.copied.0 in
    let answers = c.requires.copied.1 in
    let types = c.requires.copied.2 in
    let v = c.requires.copied.3 in
    let can = c.requires.copied.4 in
    let parts_are : c.kept.inside.lists.parts ≡ c.args.kept.now.parts = ap (λ (x : Scanned). x.parts) c.kept.view_is in
    let handles_are : leaves_of c.deref.result.now ≡ c.args.kept.now.handles = ap leaves_of c.deref.ensures.value ∙ ap (λ (x : Scanned). x.handles) c.kept.view_is in
    let settled = c.what_can_be_copied_is_settled.ensures (length c.args.memory.now) (map kind_of c.args.slots.now) giver c.args.found.now c.args.kept.now answers types v c.are_bytes.ensures can in
    let gave = subst (λ ls. Gives c.args.to c.args.table.now.handles c.give.new.table.handles ls c.give.new.numbers.items) handles_are c.in-Ok.ensures.gives in
    let from : Copier = c.copier-from.result in
    let same = c.are_apart.ensures.same ∙ parts_are in
    let from_is : IsFrom from c.args.found.now c.args.kept.now.parts c.give.new.numbers.items =
    record {
      memory = c.copier-from.ensures.memory;
      encoding = c.copier-from.ensures.source ∙ (ap (λ (x : Encodings). x.source) c.encodings-encodings.ensures ∙ ap (λ (p : Requesting). p.source) same);
      target = c.copier-from.ensures.target ∙ (ap (λ (x : Encodings). x.target) c.encodings-encodings.ensures ∙ ap (λ (p : Requesting). p.target) same);
      places = c.copier-from.ensures.places ∙ (c.places-places.ensures.places ∙ ap (λ (p : Requesting). p.places) same);
      numbers = c.copier-from.ensures.numbers ∙ c.deref-numbers.ensures.value;
      records = c.copier-from.ensures.records ∙ (c.records-records.ensures ∙ ap (λ (p : Requesting). p.records) same);
    } in
    let few = few_slots (length c.args.memory.now) (map kind_of c.args.slots.now) giver c.args.found.now c.args.kept.now answers types v c.args.to c.args.table.now.handles c.give.new.table.handles c.give.new.numbers.items can settled gave c.args.slots.now refl in
    let many = as_many (length c.args.memory.now) (map kind_of c.args.slots.now) giver c.args.found.now c.args.kept.now answers types v c.args.to c.args.table.now.handles c.give.new.table.handles c.give.new.numbers.items can settled gave c.args.slots.now refl in
    let taken = taken_long (length c.args.slots.now) all_zeros few in
    let long : length (call_kinds (way_of c.args.found.now.passed.way) types) ≤ length (take (length c.args.slots.now) all_zeros) = omega (arith, many, taken) in
    let on = passed_on (length c.args.memory.now) (map kind_of c.args.slots.now) giver c.args.found.now c.args.kept.now answers types v c.args.to c.args.table.now.handles c.give.new.table.handles c.give.new.numbers.items can settled gave from (length (take (length c.args.slots.now) all_zeros)) from_is long in
    let is = given_is (length c.args.memory.now) (map kind_of c.args.slots.now) giver c.args.found.now c.args.kept.now answers types v c.args.to c.args.table.now.handles c.give.new.table.handles c.give.new.numbers.items can settled gave from from_is in
    let numbers : c.copy_passed.new.slots ≡ poke (call_numbers (given_by c.args.kept.now.parts answers types v c.args.to c.args.table.now.handles) (way_of c.args.found.now.passed.way) types v) (take (length c.args.slots.now) all_zeros) =
    c.copy_passed.ensures.passed types v on ∙ ap (λ g. poke (call_numbers g (way_of c.args.found.now.passed.way) types v) (take (length c.args.slots.now) all_zeros)) is in
    fits (length c.args.memory.now) (map kind_of c.args.slots.now) giver c.args.found.now c.args.kept.now answers types v c.args.to c.args.table.now.handles c.give.new.table.handles c.give.new.numbers.items can settled gave c.what_is_passed_fits.ensures c.args.memory.now (take (length c.args.slots.now) all_zeros) refl c.requires.few gave.sound (none_there (length c.args.slots.now))
    (λ k. subst (λ xs. slice_index xs k < 2 ^ 32) (c.places-places.ensures.places ∙ (ap (λ (p : Requesting). p.places) same ∙ settled.places)) (c.are_numbers.ensures k))
    (λ k. subst (λ xs. slice_index xs k < 2 ^ 32) (c.deref-numbers.ensures.value ∙ numbers_are (length c.args.memory.now) (map kind_of c.args.slots.now) giver c.args.found.now c.args.kept.now answers types v c.args.to c.args.table.now.handles c.give.new.table.handles c.give.new.numbers.items can settled gave) (c.are_numbers-2.ensures k))
    c.copy_passed.new.slots numbers

pub returns-clause-copied : goal.returns-clause-copied
returns-clause-copied c = λ giver answers types v can.
    let parts_are : c.kept.inside.lists.parts ≡ c.args.kept.now.parts = ap (λ (x : Scanned). x.parts) c.kept.view_is in
    let handles_are : leaves_of c.deref.result.now ≡ c.args.kept.now.handles = ap leaves_of c.deref.ensures.value ∙ ap (λ (x : Scanned). x.handles) c.kept.view_is in
    let settled = c.what_can_be_copied_is_settled.ensures (length c.args.memory.now) (map kind_of c.args.slots.now) giver c.args.found.now c.args.kept.now answers types v c.are_bytes.ensures can in
    let gave = subst (λ ls. Gives c.args.to c.args.table.now.handles c.give.new.table.handles ls c.give.new.numbers.items) handles_are c.in-Ok.ensures.gives in
    let from : Copier = c.copier-from.result in
    let same = c.are_apart.ensures.same ∙ parts_are in
    let from_is : IsFrom from c.args.found.now c.args.kept.now.parts c.give.new.numbers.items =
    record {
      memory = c.copier-from.ensures.memory;
      encoding = c.copier-from.ensures.source ∙ (ap (λ (x : Encodings). x.source) c.encodings-encodings.ensures ∙ ap (λ (p : Requesting). p.source) same);
      target = c.copier-from.ensures.target ∙ (ap (λ (x : Encodings). x.target) c.encodings-encodings.ensures ∙ ap (λ (p : Requesting). p.target) same);
      places = c.copier-from.ensures.places ∙ (c.places-places.ensures.places ∙ ap (λ (p : Requesting). p.places) same);
      numbers = c.copier-from.ensures.numbers ∙ c.deref-numbers.ensures.value;
      records = c.copier-from.ensures.records ∙ (c.records-records.ensures ∙ ap (λ (p : Requesting). p.records) same);
    } in
    let few = few_slots (length c.args.memory.now) (map kind_of c.args.slots.now) giver c.args.found.now c.args.kept.now answers types v c.args.to c.args.table.now.handles c.give.new.table.handles c.give.new.numbers.items can settled gave c.args.slots.now refl in
    let many = as_many (length c.args.memory.now) (map kind_of c.args.slots.now) giver c.args.found.now c.args.kept.now answers types v c.args.to c.args.table.now.handles c.give.new.table.handles c.give.new.numbers.items can settled gave c.args.slots.now refl in
    let taken = taken_long (length c.args.slots.now) all_zeros few in
    let long : length (call_kinds (way_of c.args.found.now.passed.way) types) ≤ length (take (length c.args.slots.now) all_zeros) = omega (arith, many, taken) in
    let on = passed_on (length c.args.memory.now) (map kind_of c.args.slots.now) giver c.args.found.now c.args.kept.now answers types v c.args.to c.args.table.now.handles c.give.new.table.handles c.give.new.numbers.items can settled gave from (length (take (length c.args.slots.now) all_zeros)) from_is long in
    let is = given_is (length c.args.memory.now) (map kind_of c.args.slots.now) giver c.args.found.now c.args.kept.now answers types v c.args.to c.args.table.now.handles c.give.new.table.handles c.give.new.numbers.items can settled gave from from_is in
    let numbers : c.copy_passed.new.slots ≡ poke (call_numbers (given_by c.args.kept.now.parts answers types v c.args.to c.args.table.now.handles) (way_of c.args.found.now.passed.way) types v) (take (length c.args.slots.now) all_zeros) =
    c.copy_passed.ensures.passed types v on ∙ ap (λ g. poke (call_numbers g (way_of c.args.found.now.passed.way) types v) (take (length c.args.slots.now) all_zeros)) is in
    let bytes : c.copy_passed.new.memory ≡ poke (call_bytes (given_by c.args.kept.now.parts answers types v c.args.to c.args.table.now.handles) (way_of c.args.found.now.passed.way) types v) c.args.memory.now =
    c.copy_passed.ensures.stored types v on ∙ ap (λ g. poke (call_bytes g (way_of c.args.found.now.passed.way) types v) c.args.memory.now) is in
    let clear = settled.regions.0 (subst (λ (p : Requesting). AreDisjoint (regions_at p.records p.places)) parts_are (c.are_apart.ensures.answer.0 (holds c.are_apart.result c.if-not-are_apart.false))) in
    let stored = framed (length c.args.memory.now) (map kind_of c.args.slots.now) giver c.args.found.now c.args.kept.now answers types v c.args.to c.args.table.now.handles c.give.new.table.handles c.give.new.numbers.items can settled gave c.what_is_stored_stays.ensures c.args.memory.now c.copy_passed.new.memory refl clear bytes in
    let has : (w : View) → IsReceivingIn w c.args.kept.now.parts.target c.args.to c.copy_passed.new.memory c.give.new.table.handles
    → Receives w (way_of c.args.found.now.passed.way) types c.put_numbers.new.slots (given_by c.args.kept.now.parts answers types v c.args.to c.args.table.now.handles) v =
    λ w view.
    received (length c.args.memory.now) (map kind_of c.args.slots.now) giver c.args.found.now c.args.kept.now answers types v c.args.to c.args.table.now.handles c.give.new.table.handles c.give.new.numbers.items can settled gave c.places_are_read_alike.ensures.placed c.places_are_read_alike.ensures.apart w c.copy_passed.new.memory c.put_numbers.new.slots view stored.0
    (are_numbers (length c.args.memory.now) (map kind_of c.args.slots.now) giver c.args.found.now c.args.kept.now answers types v c.args.to c.args.table.now.handles c.give.new.table.handles c.give.new.numbers.items can settled gave c.what_is_passed_stays.ensures (take (length c.args.slots.now) all_zeros) c.copy_passed.new.slots c.put_numbers.new.slots (none_there (length c.args.slots.now)) long numbers c.put_numbers.ensures)
    (gives (length c.args.memory.now) (map kind_of c.args.slots.now) giver c.args.found.now c.args.kept.now answers types v c.args.to c.args.table.now.handles c.give.new.table.handles c.give.new.numbers.items can settled gave)
    c.copy_passed.ensures.stays clear in
    record {
      received = has;
      denoted = λ w view encoding none.
          c.what_is_received_is_denoted.ensures w (way_of c.args.found.now.passed.way) types c.put_numbers.new.slots (given_by c.args.kept.now.parts answers types v c.args.to c.args.table.now.handles) v (has w view)
          (received_serves (length c.args.memory.now) (map kind_of c.args.slots.now) giver c.args.found.now c.args.kept.now answers types v c.args.to c.args.table.now.handles c.give.new.table.handles c.give.new.numbers.items can settled gave w c.args.memory.now c.copy_passed.new.memory view encoding c.copy_passed.ensures.stays refl c.requires.few gave.sound) none;
      framed = stored.1;
      gives = subst (λ ls. Gives c.args.to c.args.table.now.handles c.give.new.table.handles ls c.give.new.numbers.items) can.found.handles gave;
      apart = clear;
    }

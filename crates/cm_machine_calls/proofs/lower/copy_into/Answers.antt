use Rattle.std.proofs.Common.{◌≡◌, ◌∙◌, ◌++◌, ap, sym, subst, refl, ℕ, List, None, length, map, take, drop, arith}
use Rattle.std.specs.List.{refill}
use Rattle.cm_types.specs.CoreValues.{kind_of}
use Rattle.cm_types.specs.declared.core_value.CoreValue.{CoreValue}
use Rattle.cm_abi_copy.specs.Copies.{FoundCanBeCopied, IsCopied}
use Rattle.cm_abi_model.specs.Answered.{all_requests}
use Rattle.cm_abi_model.specs.Answering.{first_fault}
use Rattle.cm_abi_model.specs.Copies.{IsFaultOfCopying, handles_of_values}
use Rattle.cm_abi_model.specs.Ways.{way_of}
use Rattle.cm_machine_calls.proofs.Results.{match_of, written_back}
use Rattle.cm_machine_calls.proofs.lower.copy_into.Goals as goal

pub copy_by-requires-clause-copied : goal.copy_by-requires-clause-copied
copy_by-requires-clause-copied c =
    let view = c.requires.copied.0 in
    let answers = c.requires.copied.1 in
    let types = c.requires.copied.2 in
    let v = c.requires.copied.3 in
    let can = c.requires.copied.4 in (
      view,
      answers,
      types,
      v,
      record {
        layout = can.layout;
        memory = can.memory;
        found = can.found;
        answered = can.answered;
        fine = subst (λ (n : ℕ). first_fault n (all_requests c.args.kept.now.parts) answers ≡ None) (sym (ap length c.deref_mut.ensures.value)) can.fine;
        kinds_are = ap (λ (vs : List CoreValue). map kind_of vs) c.as_mut_slice.ensures.value ∙ c.put_zeros.ensures ∙ can.kinds_are;
      },
    )

pub returns-clause-copied : goal.returns-clause-copied
returns-clause-copied c = λ view answers types v can.
    let to = c.args.to in
    let way = way_of c.args.passed.now.way in
    let parts = c.args.kept.now.parts in
    let old = c.args.table.now.handles in
    let new = c.copy_by.new.table.handles in
    let numbers = c.copy_by.new.kept.numbers in
    let zeros = c.put_zeros.new.values in
    let bytes = c.args.bytes.now in
    let found : FoundCanBeCopied (length c.deref_mut.result.now) (map kind_of c.as_mut_slice.result.now) view (record { memory = c.args.from; passed = c.args.passed.now }) c.args.kept.now answers types v =
    record {
      layout = can.layout;
      memory = can.memory;
      found = can.found;
      answered = can.answered;
      fine = subst (λ (n : ℕ). first_fault n (all_requests parts) answers ≡ None) (sym (ap length c.deref_mut.ensures.value)) can.fine;
      kinds_are = ap (λ (vs : List CoreValue). map kind_of vs) c.as_mut_slice.ensures.value ∙ c.put_zeros.ensures ∙ can.kinds_are;
    } in
    let back : take bytes.len (c.copy_by.new.memory ++ drop (length c.copy_by.new.memory) bytes.items) ≡ c.copy_by.new.memory =
    written_back bytes.len bytes.items c.copy_by.new.memory (omega arith) (omega (arith, ap length c.deref_mut.ensures.value)) in
    let passed : refill (length zeros) zeros c.copy_by.new.slots ≡ c.copy_by.new.slots = written_back (length zeros) zeros c.copy_by.new.slots refl (omega (arith, ap length c.as_mut_slice.ensures.value)) in
    match_of c.copy_by.result (IsFaultOfCopying parts answers to old (handles_of_values types v))
    (λ (base : IsCopied to way types v parts answers c.deref_mut.result.now c.copy_by.new.memory old new c.copy_by.new.slots numbers).
    subst (λ (b : List ℕ). IsCopied to way types v parts answers b (take bytes.len (c.copy_by.new.memory ++ drop (length c.copy_by.new.memory) bytes.items)) old new (refill (length zeros) zeros c.copy_by.new.slots) numbers) c.deref_mut.ensures.value
    (subst (λ (m : List ℕ). IsCopied to way types v parts answers c.deref_mut.result.now m old new (refill (length zeros) zeros c.copy_by.new.slots) numbers) (sym back)
    (subst (λ (s : List CoreValue). IsCopied to way types v parts answers c.deref_mut.result.now c.copy_by.new.memory old new s numbers) (sym passed) base)))
    (c.copy_by.ensures.copied view answers types v found)
    (c.copy_by.ensures.err view answers types v found)

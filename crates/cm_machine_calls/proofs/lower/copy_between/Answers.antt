use Rattle.std.proofs.Common.{◌≡◌, ◌∙◌, ap, sym, subst, List, ℕ, [], length, None}
use Rattle.std.specs.Prelude.{slice_set, unwrap_or}
use Rattle.cm_abi_model.specs.Answered.{all_requests}
use Rattle.cm_abi_model.specs.Answering.{first_fault}
use Rattle.cm_abi_model.specs.Copies.{IsFaultOfCopying, handles_of_values}
use Rattle.cm_abi_model.specs.Ways.{way_of}
use Rattle.cm_machine_model.specs.Memories.{memory_at}
use Rattle.cm_abi_copy.specs.Copies.{IsCopied}
use Rattle.cm_machine_calls.specs.Handing.{CanCopy, IsCopiedIn}
use Rattle.cm_machine_calls.proofs.Pairs.{set_back, at_other}
use Rattle.cm_machine_calls.proofs.Results.{match_more, err_more}
use Rattle.cm_machine_calls.proofs.lower.copy_between.Goals as goal
use Rattle.cm_lemmas.proofs.Lists.{set_again}

pub returns-clause-copied : goal.returns-clause-copied
returns-clause-copied c = λ view answers types v can.
    let receiver = c.args.to.instance in
    let way = way_of c.args.passed.now.way in
    let bytes = c.take-bytes.ensures.bytes in
    let from_is : c.in-Some.from.now ≡ memory_at c.args.memories.now c.args.giver =
    ap (λ o. unwrap_or o []) c.in-Some.ensures ∙ ap (λ (ms : List (List ℕ)). memory_at ms c.args.giver) c.take-bytes.ensures.left ∙ at_other c.args.memories.now receiver c.args.giver [] [] c.requires.apart in
    let can_copy : CanCopy view c.in-Some.from.now (length c.take-bytes.result.items) c.args.passed.now c.args.kinds.now c.args.kept.now answers types v =
    record {
      layout = can.layout;
      memory = can.memory ∙ sym from_is;
      found = can.found;
      answered = can.answered;
      fine = subst (λ (n : ℕ). first_fault n (all_requests c.args.kept.now.parts) answers ≡ None) (sym (ap length bytes)) can.fine;
      kinds_are = can.kinds_are;
    } in
    match_more c.copy_into-copied.result
    (λ _. IsCopied c.args.to way types v c.args.kept.now.parts answers c.take-bytes.result.items c.copy_into-copied.new.bytes.items c.args.table.now.handles c.copy_into-copied.new.table.handles c.copy_into-copied.new.values c.copy_into-copied.new.kept.numbers)
    (λ _. IsCopiedIn c.args.to way types v c.args.kept.now.parts answers c.args.memories.now c.put.new.self c.args.table.now.handles c.copy_into-copied.new.table.handles c.copy_into-copied.new.values c.copy_into-copied.new.kept.numbers)
    (IsFaultOfCopying c.args.kept.now.parts answers c.args.to c.args.table.now.handles (handles_of_values types v))
    (IsFaultOfCopying c.args.kept.now.parts answers c.args.to c.args.table.now.handles (handles_of_values types v))
    (λ _ copied. record {
      memory = c.copy_into-copied.new.bytes.items;
      memories = c.put.ensures ∙ ap (λ (ms : List (List ℕ)). slice_set ms receiver c.copy_into-copied.new.bytes.items) c.take-bytes.ensures.left ∙ set_again c.args.memories.now receiver [] c.copy_into-copied.new.bytes.items;
      copied = subst (λ (b : List ℕ). IsCopied c.args.to way types v c.args.kept.now.parts answers b c.copy_into-copied.new.bytes.items c.args.table.now.handles c.copy_into-copied.new.table.handles c.copy_into-copied.new.values c.copy_into-copied.new.kept.numbers) bytes copied;
    })
    (λ _ x. x)
    (c.copy_into-copied.ensures.copied view answers types v can_copy)

pub returns-clause-memories_stay : goal.returns-clause-memories_stay
returns-clause-memories_stay c =
    err_more c.copy_into-copied.result (λ is.
    c.put.ensures ∙ ap (λ (ms : List (List ℕ)). slice_set ms c.args.to.instance c.copy_into-copied.new.bytes.items) c.take-bytes.ensures.left
    ∙ set_again c.args.memories.now c.args.to.instance [] c.copy_into-copied.new.bytes.items
    ∙ ap (slice_set c.args.memories.now c.args.to.instance) (is ∙ c.take-bytes.ensures.bytes)
    ∙ set_back c.args.memories.now c.args.to.instance []) c.copy_into-copied.ensures.bytes_stay

use Rattle.std.proofs.Common.{◌≡◌, None, take}
use Rattle.cm_abi_model.specs.Answering.{first_fault}
use Rattle.cm_abi_model.specs.Answered.{IsAnswered, all_requests}
use Rattle.cm_abi_model.specs.Scanned.{OnlyAsked}
use Rattle.huxarte_c_calls.proofs.answering.answer_all.Given as goal

-- the answers so far are kept, and will do; nothing else is changed
abbrev pub invariant-loop-number : goal.invariant-loop-number
invariant-loop-number l = record {
  given : IsAnswered l.kept.parts (take l.number l.answers);
  fine : first_fault l.memory_length (all_requests l.kept.parts) (take l.number l.answers) ≡ None;
  only : OnlyAsked l.fn.kept l.kept;
}

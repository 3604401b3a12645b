use Rattle.cm_abi_requests.proofs.AnswerLaws.{parts_apart, parts_placed}
use Rattle.cm_abi_requests.proofs.laws.answers_place_parts.Goals as goal

pub returns-clause-placed : goal.returns-clause-placed
returns-clause-placed c = λ source target tags parts answers n g has counted len ok is. parts_placed c.requests_end_exact.ensures source target tags parts answers n 0 g has counted len ok is

pub returns-clause-apart : goal.returns-clause-apart
returns-clause-apart c = λ source target tags parts answers g has len is. parts_apart c.requests_end_exact.ensures source target tags parts answers g has len is

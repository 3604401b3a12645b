use Rattle.std.proofs.Common.{◌-◌, arith, take}
use Rattle.cm_binary_grammar.proofs.Tools.{IsBytes-take}
use Rattle.cm_binary_model.specs.declared.limits.TheConstants.{MAX_FILE_BYTES}
use Rattle.cm_binary.specs.Views.{progress}
use Rattle.cm_binary.proofs.PieceLaws.{within_ok, within_err, too_long_ok, too_long_err}
use Rattle.cm_binary.proofs.decoder.read_within_limit.Goals as goal

pub returns-then-bytes-limit-clause-ok : goal.returns-then-bytes-limit-clause-ok
returns-then-bytes-limit-clause-ok c = within_ok (progress c.args.front.now) (progress c.read_to_end.new.front) c.args.bytes.now c.read_to_end.result (λ i. omega (arith, c.type_inv.bytes i)) c.requires.read (omega arith) c.read_to_end.ensures.ok

pub returns-then-bytes-limit-clause-err : goal.returns-then-bytes-limit-clause-err
returns-then-bytes-limit-clause-err c = within_err (progress c.args.front.now) (progress c.read_to_end.new.front) c.args.bytes.now c.read_to_end.result (λ i. omega (arith, c.type_inv.bytes i)) c.requires.read (omega arith) c.read_to_end.ensures.err

pub returns-else-bytes-limit-clause-ok : goal.returns-else-bytes-limit-clause-ok
returns-else-bytes-limit-clause-ok c = too_long_ok (progress c.args.front.now) (progress c.read_to_end-else-bytes-limit.new.front) c.args.bytes.now (take (MAX_FILE_BYTES - c.args.front.now.offset) c.args.bytes.now) c.read_to_end-else-bytes-limit.result (IsBytes-take (MAX_FILE_BYTES - c.args.front.now.offset) c.args.bytes.now (λ i. omega (arith, c.type_inv.bytes i))) c.read_to_end-else-bytes-limit.ensures.ok

pub returns-else-bytes-limit-clause-err : goal.returns-else-bytes-limit-clause-err
returns-else-bytes-limit-clause-err c = too_long_err (progress c.args.front.now) (progress c.read_to_end-else-bytes-limit.new.front) c.args.bytes.now c.read_to_end-else-bytes-limit.result c.requires.read c.requires.few (omega arith) c.read_to_end-else-bytes-limit.ensures.err

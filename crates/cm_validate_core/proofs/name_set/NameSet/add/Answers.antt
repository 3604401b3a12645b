use Rattle.std.specs.String.{string_bytes}
use Rattle.std.proofs.lemmas.Result.{on_err_weaker, on_ok_weaker}
use Rattle.cm_names.specs.TextTables.{texts_of}
use Rattle.cm_validate_core.proofs.NameSetLaws.{none_more, one_more}
use Rattle.cm_validate_core.proofs.name_set.NameSet.add.Goals as goal

pub returns-clause-added : goal.returns-clause-added
returns-clause-added c =
    on_ok_weaker c.add.result (λ e n. one_more (string_bytes c.args.name.folded) c.args.name.name (texts_of c.args.self.now.folded) (texts_of c.add.new.self) c.args.name.is_folded e n) c.add.ensures.added

pub returns-clause-kept : goal.returns-clause-kept
returns-clause-kept c =
    on_err_weaker c.add.result (λ e n. none_more (texts_of c.args.self.now.folded) (texts_of c.add.new.self) e n) c.add.ensures.kept

use Rattle.std.proofs.Common.{ap, ◌∙◌}
use Rattle.std.specs.String.{string_bytes}
use Rattle.std.proofs.lemmas.Result.{IfOk-weaker}
use Rattle.cm_wit_package.specs.Printed.{file_text}
use Rattle.cm_wit_package.specs.PackageViews.{package_tree}
use Rattle.cm_wit_package.proofs.PrintedLaws.{printed_is}
use Rattle.cm_wit_package.proofs.printing.print.Goals as goal

pub returns-clause-package : goal.returns-clause-package
returns-clause-package c = IfOk-weaker c.print_file.result _ _ (λ text e. printed_is (package_tree c.args.wit.now) (c.printed_and_parsed.ensures.printed (package_tree c.args.wit.now)) c.args.wit.now.written (string_bytes text) (e ∙ ap file_text c.file.ensures)) c.print_file.ensures

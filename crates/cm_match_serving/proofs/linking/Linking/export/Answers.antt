use Rattle.std.proofs.Common.{Some, sym}
use Rattle.cm_match_serving.specs.Linkings.{components_in}
use Rattle.cm_match_serving.proofs.Found.{export_read}
use Rattle.cm_match_serving.proofs.linking.Linking.export.Goals as goal
use Rattle.cm_lemmas.proofs.Lists.{got}

pub returns : goal.returns
returns c =
    let cs = components_in c.args.self.now in
    export_read cs c.args.component c.in_ok-get.field-0.now (sym (got cs c.args.component (Some c.in_ok-get.field-0) c.in_ok-get.ensures.lookup)) c.args.export c.exports.result.now c.get-2.result c.exports.ensures.are c.get-2.ensures.lookup

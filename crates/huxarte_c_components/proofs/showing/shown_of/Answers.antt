use Rattle.std.specs.String.{string_bytes}
use Rattle.cm_validate_spaces.specs.Checked.{sections_in}
use Rattle.huxarte_c_components.proofs.SoundLaws.{shown_of, unshown_of}
use Rattle.huxarte_c_components.proofs.showing.shown_of.Goals as goal

pub returns-in-Ok-clause-shown : goal.returns-in-Ok-clause-shown
returns-in-Ok-clause-shown c =
    shown_of string_bytes c.args.bytes.now (sections_in c.in-Ok.component) c.shown_one.result (c.in-Ok.ensures.held c.args.bytes.now (rw c.deref.ensures.value c.in_ok-files.ensures.read)) c.shown_one.ensures.shown

pub returns-in-Ok-clause-refused : goal.returns-in-Ok-clause-refused
returns-in-Ok-clause-refused c =
    unshown_of c.args.bytes.now (sections_in c.in-Ok.component) c.shown_one.result (c.in-Ok.ensures.held c.args.bytes.now (rw c.deref.ensures.value c.in_ok-files.ensures.read)) c.shown_one.ensures.refused

pub returns-clause-refused : goal.returns-clause-refused
returns-clause-refused c = c.in-Err.ensures.refused c.args.bytes.now (rw c.deref.ensures.value c.in_ok-files.ensures.read)

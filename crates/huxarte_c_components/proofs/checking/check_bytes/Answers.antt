use Rattle.huxarte_c_components.proofs.checking.check_bytes.Goals as goal

pub returns-in-Ok-clause-sound : goal.returns-in-Ok-clause-sound
returns-in-Ok-clause-sound c =
    let stands = c.in-Ok.ensures.held c.args.bytes.now (rw c.deref.ensures.value c.in_ok-files.ensures.read) in
    (stands.0, stands.1)

pub returns-clause-refused : goal.returns-clause-refused
returns-clause-refused c = c.in-Err.ensures.refused c.args.bytes.now (rw c.deref.ensures.value c.in_ok-files.ensures.read)

use Rattle.std.proofs.Common.{rules, ◌<◌, ◌∙◌, ap, drop}
use Rattle.std.proofs.lemmas.Result.{on_ok_weaker}
use Rattle.std.specs.Str.{chars}
use Rattle.cm_abi_model.specs.Requests.{read_charset, first_tag}
use Rattle.cm_abi_requests.specs.Asking.{charset_seen}
use Rattle.cm_abi_requests.proofs.AskingLemmas.{text_asked}
use Rattle.cm_abi_requests.proofs.TextSizes.{text_fits}
use Rattle.cm_abi_requests.proofs.asking.ask_text.Goals as goal

pub overflow_cast-exact : goal.overflow_cast-exact
overflow_cast-exact c =
    let small : c.text_size-exact.result < 4294967296 = text_fits (read_charset c.args.to.now.source (first_tag (drop c.args.asked.now.next c.args.to.now.tags.now))) (charset_seen c.stored_charset-target.result) (chars c.args.text.now) c.text_size-exact.result c.requires.small c.text_size-exact.ensures in
    search (rules, small)

pub returns : goal.returns
returns c =
    on_ok_weaker c.ask_sizes.result (λ done. text_asked c.args.asked.now.requests.items c.ask_sizes.new.requests.items (drop c.args.asked.now.next c.args.to.now.tags.now) (drop c.next_tag.new.asked.next c.args.to.now.tags.now)
    c.args.to.now.source c.args.to.now.target (chars c.args.text.now) c.text_align-align.result c.text_units-units.result c.text_size-exact.result (charset_seen c.read_charset-source.result) (charset_seen c.stored_charset-target.result)
    c.text_align-align.ensures.value (c.read_charset-source.ensures ∙ ap (λ b. read_charset c.args.to.now.source b) c.next_tag.ensures.tag) c.stored_charset-target.ensures
    c.text_units-units.ensures c.text_size-exact.ensures (c.next_tag.ensures.behind (chars c.args.text.now)) (rw (← c.next_tag.ensures.requests) done)) c.ask_sizes.ensures

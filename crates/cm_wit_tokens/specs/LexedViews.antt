-- The tokens that the code holds.
use Rattle.cm_wit_tokens.specs.declared.lexed.Lexed.{Lexed}
use Rattle.cm_wit_tokens.specs.Tokens as spec

abbrev pub lexed_view : Lexed → spec.Lexed
lexed_view l = record { tokens = l.tokens.items; stop = l.stop }

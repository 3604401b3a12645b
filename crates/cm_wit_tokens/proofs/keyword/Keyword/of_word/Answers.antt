use Rattle.std.proofs.Common.{rules, tests, ◌∙◌, get_or, length}
use Rattle.std.specs.Str.{bytes_eq}
use Rattle.std.proofs.lemmas.Iterator.{YieldsList-from_slice}
use Rattle.std.proofs.lemmas.Iterator.Search.{find_from_yields_List}
use Rattle.cm_wit_tokens.specs.Keywords.{spelling, keyword_of, keywords_that_begin}
use Rattle.cm_wit_tokens.proofs.KeywordLaws.{among_begun}
use Rattle.cm_wit_tokens.proofs.keyword.Keyword.of_word.Goals as goal

pub returns : goal.returns
unfolding keyword_of
returns c = c.copied.ensures ∙ find_from_yields_List (λ k. bytes_eq (spelling k) c.args.word.now) _ _ c.find.result c.find.ensures.ran (YieldsList-from_slice (keywords_that_begin (length c.args.word.now) (get_or c.args.word.now 0 0)) (search (rules, tests))) (λ x b q k. search (rules, tests)) ∙ among_begun c.args.word.now

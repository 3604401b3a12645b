use Rattle.std.proofs.Common.{ap, rules, sym}
use Rattle.std.specs.Option.{option_map}
use Rattle.cm_types.specs.Funcs.{tree_type}
use Rattle.cm_types.specs.TypeTrees.{fields_of}
use Rattle.cm_types_arena.specs.Replaced.{replaced, replaced_fields}
use Rattle.cm_tool_show.specs.Counted.{counted}
use Rattle.cm_tool_show.specs.Lists.{with_commas}
use Rattle.cm_tool_show.specs.Shown.{answer_pieces}
use Rattle.cm_tool_show.specs.ShownTypes.{field_pieces}
use Rattle.cm_tool_show.proofs.LineLaws.{func_split}
use Rattle.cm_tool_show.proofs.ShownLaws.{answers, stops, then, told}
use Rattle.cm_tool_show.proofs.items.end_with_func.Goals as goal

pub returns-in_err-put : goal.returns-in_err-put
returns-in_err-put c =
    answers (search rules) (told (func_split (with_commas (field_pieces (replaced_fields (counted c.args.by) (fields_of c.args.func.now.params.items)))) (answer_pieces (option_map (replaced (counted c.args.by)) (option_map tree_type c.args.func.now.result)))) (stops _ c.in_err-put.ensures))

pub returns-in_err-add_fields : goal.returns-in_err-add_fields
returns-in_err-add_fields c =
    answers (search rules) (told (func_split (with_commas (field_pieces (replaced_fields (counted c.args.by) (fields_of c.args.func.now.params.items)))) (answer_pieces (option_map (replaced (counted c.args.by)) (option_map tree_type c.args.func.now.result)))) (then c.in_ok-put.ensures (stops _ (told (ap (λ xs. with_commas (field_pieces (replaced_fields (counted c.args.by) (fields_of xs)))) (sym c.deref.ensures.value)) c.in_err-add_fields.ensures))))

pub returns-in_err-put-2 : goal.returns-in_err-put-2
returns-in_err-put-2 c =
    answers (search rules) (told (func_split (with_commas (field_pieces (replaced_fields (counted c.args.by) (fields_of c.args.func.now.params.items)))) (answer_pieces (option_map (replaced (counted c.args.by)) (option_map tree_type c.args.func.now.result)))) (then c.in_ok-put.ensures (then (told (ap (λ xs. with_commas (field_pieces (replaced_fields (counted c.args.by) (fields_of xs)))) (sym c.deref.ensures.value)) c.in_ok-add_fields.ensures) (stops _ c.in_err-put-2.ensures))))

pub returns-in_err-show_answer : goal.returns-in_err-show_answer
returns-in_err-show_answer c =
    answers (search rules) (told (func_split (with_commas (field_pieces (replaced_fields (counted c.args.by) (fields_of c.args.func.now.params.items)))) (answer_pieces (option_map (replaced (counted c.args.by)) (option_map tree_type c.args.func.now.result)))) (then c.in_ok-put.ensures (then (told (ap (λ xs. with_commas (field_pieces (replaced_fields (counted c.args.by) (fields_of xs)))) (sym c.deref.ensures.value)) c.in_ok-add_fields.ensures) (then c.in_ok-put-2.ensures (stops _ c.in_err-show_answer.ensures)))))

pub returns : goal.returns
returns c =
    told (func_split (with_commas (field_pieces (replaced_fields (counted c.args.by) (fields_of c.args.func.now.params.items)))) (answer_pieces (option_map (replaced (counted c.args.by)) (option_map tree_type c.args.func.now.result)))) (then c.in_ok-put.ensures (then (told (ap (λ xs. with_commas (field_pieces (replaced_fields (counted c.args.by) (fields_of xs)))) (sym c.deref.ensures.value)) c.in_ok-add_fields.ensures) (then c.in_ok-put-2.ensures (then c.in_ok-show_answer.ensures c.put-3.ensures))))

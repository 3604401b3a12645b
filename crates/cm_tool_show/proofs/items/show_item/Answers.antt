use Rattle.std.proofs.Common.{◌≡◌, rules}
use Rattle.cm_types.specs.Funcs.{func_of}
use Rattle.cm_types.specs.TypeTrees.{type_of}
use Rattle.cm_types_arena.specs.declared.instances.ItemDesc.TheVariants as item
use Rattle.cm_tool_show.proofs.LineLaws.{func_line, line_as, type_line}
use Rattle.cm_tool_show.proofs.ShownLaws.{answers, stops, then, told}
use Rattle.cm_tool_show.proofs.items.show_item.Goals as goal

pub returns-in_err-begin_line-in-Func : goal.returns-in_err-begin_line-in-Func
returns-in_err-begin_line-in-Func c =
    let desc : c.args.item.desc ≡ item.Func c.in-Func.placed = search rules in
    answers (search rules) (told (line_as c.args.types.now c.args.brought c.args.item _ desc) (stops _ c.in_err-begin_line-in-Func.ensures))

pub returns-in_ok-begin_line-in-Func : goal.returns-in_ok-begin_line-in-Func
returns-in_ok-begin_line-in-Func c =
    let desc : c.args.item.desc ≡ item.Func c.in-Func.placed = search rules in
    told (func_line c.args.types.now c.args.brought c.args.item c.in-Func.placed c.new.result (func_of c.func.result.now) desc c.new.ensures.place c.new.ensures.brought c.func.ensures c.replacing.ensures.funcs_twice) (then c.in_ok-begin_line-in-Func.ensures c.end_with_func.ensures)

pub returns-in_err-begin_line-in-EqualType : goal.returns-in_err-begin_line-in-EqualType
returns-in_err-begin_line-in-EqualType c =
    let desc : c.args.item.desc ≡ item.EqualType c.in-EqualType.placed = search rules in
    answers (search rules) (told (line_as c.args.types.now c.args.brought c.args.item _ desc) (stops _ c.in_err-begin_line-in-EqualType.ensures))

pub returns-in_ok-begin_line-in-EqualType : goal.returns-in_ok-begin_line-in-EqualType
returns-in_ok-begin_line-in-EqualType c =
    let desc : c.args.item.desc ≡ item.EqualType c.in-EqualType.placed = search rules in
    told (type_line c.args.types.now c.args.brought c.args.item c.in-EqualType.placed c.new-in-EqualType.result (type_of c.node.result.now) desc c.new-in-EqualType.ensures.place c.new-in-EqualType.ensures.brought c.node.ensures c.replacing.ensures.twice) (then c.in_ok-begin_line-in-EqualType.ensures c.end_with_type.ensures)

pub returns-in-EqualResource : goal.returns-in-EqualResource
returns-in-EqualResource c =
    let desc : c.args.item.desc ≡ item.EqualResource c.in-EqualResource.number = search rules in
    told (line_as c.args.types.now c.args.brought c.args.item _ desc) c.show_resource.ensures

pub returns-in-FreshResource : goal.returns-in-FreshResource
returns-in-FreshResource c =
    let desc : c.args.item.desc ≡ item.FreshResource c.in-FreshResource.number = search rules in
    told (line_as c.args.types.now c.args.brought c.args.item _ desc) c.show_resource-in-FreshResource.ensures

use Rattle.std.proofs.Common.{rules, ◌≡◌, ℕ, ◌+◌, List, Option, length, get_or, arith, sym, ap, subst, refl}
use Rattle.std.proofs.lemmas.List.{length-map}
use Rattle.cm_types_arena.specs.Places.{types_of}
use Rattle.cm_types_arena.specs.declared.types.Types.{Types}
use Rattle.cm_wit_meanings.specs.declared.scope.Meaning.{Meaning}
use Rattle.cm_wit_meanings.specs.Places.{table_in}
use Rattle.cm_wit_tables.specs.DeclaredViews.{declaration_view}
use Rattle.cm_wit_tables.specs.Listings.{declared}
use Rattle.cm_wit_tables.proofs.FillLaws.{Table, Fills, fills_start, fills_slice, fills_skip, fault_in, filled_all}
use Rattle.cm_wit_tables.proofs.filling.fill.Goals as goal
use Rattle.cm_wit_tables.proofs.filling.fill.Goals.{then-place-listing+in_ok-meaning, else-place-listing}

pub loop-node-init : goal.loop-node-init
loop-node-init c = fills_start (declared c.args.listing.now) c.args.order.now c.args.types.now (length c.args.listing.now.declarations.now) c.in_ok-table.table.items c.in_ok-table.ensures (sym (length-map c.args.listing.now.declarations.now declaration_view))

pub returns-in_err-meaning-clause-fault : goal.returns-in_err-meaning-clause-fault
returns-in_err-meaning-clause-fault c =
    let ds = declared c.args.listing.now in
    let order = c.args.order.now in
    let r = c.ordered_ones_can_be_ranked.ensures ds order c.requires.order in
    let one = c.one_table.ensures ds r.0 r.1 in
    let whole = (c.each_stands_where_names_lead.ensures ds one.0 (c.ranked_ones_are_acyclic.ensures ds r.0 r.1) one.1).0 c.requires.types in
    let n = length-map c.args.listing.now.declarations.now declaration_view in
    let less = c.if-place-listing.true in
    let h = fault_in ds order c.requires.order (c.what_is_used_is_declared.ensures ds) (λ a b k. c.what_is_used_decides.ensures ds a b k) c.args.types.now c.loop-node.node-index c.loop-node.types c.loop-node.table.items c.loop-node.invariant c.deref.result.now c.deref.ensures.value (get_or order c.loop-node.node-index 0) one.0 c.in_err-meaning.field-0.0 (omega arith) refl (omega (arith, n, less)) one.1 whole c.in_err-meaning.ensures.fault in
    search (rules, h)

pub loop-node-preserved : goal.loop-node-preserved
loop-node-preserved c =
    let ds = declared c.args.listing.now in
    let order = c.args.order.now in
    let first = c.args.types.now in
    let i = c.loop-node.node-index in
    let place = get_or order i 0 in
    let now = c.loop-node.types in
    let table = c.loop-node.table.items in
    let bounded = c.what_is_used_is_declared.ensures ds in
    let decides = λ (a b : Table) (k : ℕ). c.what_is_used_decides.ensures ds a b k in
    let n = length-map c.args.listing.now.declarations.now declaration_view in
    elim c.if-place-listing.branch [
      | then-place-listing+in_ok-meaning w ↦ (
          let less = w.if-place-listing.true in
          let m = w.in_ok-meaning.ensures in
          let filled = fills_slice ds order c.requires.order bounded decides first i now table c.loop-node.invariant w.deref.result.now w.deref.ensures.value w.meaning.new.types c.if-place-listing.table.items place w.in_ok-meaning.meaning (omega arith) refl (omega (arith, n, less)) m.meaning m.placed m.within m.grown m.funcs (ap (λ v. v.items) w.table-is) in
          subst (λ (t : Types). Fills ds order first (i + 1) t c.if-place-listing.table.items) (sym w.types-is) filled)
      | else-place-listing w ↦ (
          let past = w.if-place-listing.false in
          let skipped = fills_skip ds order c.requires.order bounded decides first i now table c.loop-node.invariant place refl (omega (arith, n, past)) in
          let told : c.if-place-listing.table.items ≡ table = ap (λ v. v.items) w.table-is in
          subst (λ (t : Types). Fills ds order first (i + 1) t c.if-place-listing.table.items) (sym w.types-is) (subst (λ (t : List (Option Meaning)). Fills ds order first (i + 1) now t) (sym told) skipped))
    ]

pub returns-clause-solves : goal.returns-clause-solves
returns-clause-solves c =
    let ds = declared c.args.listing.now in
    let order = c.args.order.now in
    let r = c.ordered_ones_can_be_ranked.ensures ds order c.requires.order in
    let one = c.one_table.ensures ds r.0 r.1 in
    filled_all ds order c.requires.order (c.what_is_used_is_declared.ensures ds) (λ a b k. c.what_is_used_decides.ensures ds a b k) c.loop-node.node-index (table_in (types_of c.loop-node.types) c.loop-node.table.items) one.0 (omega arith) c.loop-node.invariant.filled one.1

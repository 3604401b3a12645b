use Rattle.std.proofs.Common.{◌≡◌, ℕ, ◌+◌, ◌<◌, ◌∷◌, List, length, drop, get_or, sym, ap, subst, ◌∙◌, add-one, arith}
use Rattle.std.proofs.Math.Seq.{drop-cons}
use Rattle.cm_handles.specs.Handles.{Handles, handle_at}
use Rattle.cm_machine_model.specs.declared.frame.Lend.{Lend}
use Rattle.cm_machine_model.specs.State.{table_at, tables_after_unlend}
use Rattle.cm_machine_parts.specs.Lends.{AreLentAtLeast, lends_at, tables_after_unlends}
use Rattle.cm_machine_parts.specs.States.{handles_in}
use Rattle.cm_machine_parts.proofs.LendLists.{first_lent, lent_inside, rest_lent, stands_lent, unlent_table}
use Rattle.cm_machine_parts.proofs.Tables.{length_handles, table_in}
use Rattle.cm_machine_parts.proofs.ends.unlend_all.Goals as goal

none : Lend
none = record { frame = 0; instance = 0; index = 0 }

-- the lends from a place on are the one there and those behind it
from_place : (lends : List Lend) (i : ℕ) → i < length lends → drop i lends ≡ get_or lends i none ∷ drop (i + 1) lends
unfolding none
from_place lends i lt = rw add-one (drop-cons lends i none lt)

pub index_mut-table-requires : goal.index_mut-table-requires
unfolding none
index_mut-table-requires c =
    let lends = c.args.lends.now in
    let i = c.loop-lend.lend-index in
    let tables : List Handles = handles_in c.loop-lend.tables.items in
    let l : Lend = get_or lends i none in
    let lent : AreLentAtLeast (l ∷ drop (i + 1) lends) tables = subst (λ (ls : List Lend). AreLentAtLeast ls tables) (from_place lends i (omega arith)) c.loop-lend.invariant.lent in
    omega (arith, lent_inside tables l.instance l.index (first_lent l (drop (i + 1) lends) tables lent), length_handles c.loop-lend.tables.items)

pub unlend-requires : goal.unlend-requires
unfolding none
unlend-requires c =
    let lends = c.args.lends.now in
    let i = c.loop-lend.lend-index in
    let items = c.loop-lend.tables.items in
    let tables : List Handles = handles_in items in
    let l : Lend = get_or lends i none in
    let lent : AreLentAtLeast (l ∷ drop (i + 1) lends) tables = subst (λ (ls : List Lend). AreLentAtLeast ls tables) (from_place lends i (omega arith)) c.loop-lend.invariant.lent in
    let first = first_lent l (drop (i + 1) lends) tables lent in
    let lt : l.instance < length items = omega (arith, lent_inside tables l.instance l.index first, length_handles items) in
    let there = table_in items l.instance c.index_mut-table.result.now lt ∙ ap (λ t. t.handles) (sym c.index_mut-table.ensures.value) in
    stands_lent (handle_at c.index_mut-table.result.now.handles l.index) (subst (λ (t : Handles). 0 < lends_at (handle_at t l.index)) there first)

pub loop-lend-preserved : goal.loop-lend-preserved
unfolding none
loop-lend-preserved c =
    let lends = c.args.lends.now in
    let i = c.loop-lend.lend-index in
    let items = c.loop-lend.tables.items in
    let tables : List Handles = handles_in items in
    let l : Lend = get_or lends i none in
    let rest : List Lend = drop (i + 1) lends in
    let place = from_place lends i (omega arith) in
    let lent : AreLentAtLeast (l ∷ rest) tables = subst (λ (ls : List Lend). AreLentAtLeast ls tables) place c.loop-lend.invariant.lent in
    let lt : l.instance < length items = omega (arith, lent_inside tables l.instance l.index (first_lent l rest tables lent), length_handles items) in
    let is = unlent_table items l c.index_mut-table.result.now c.unlend.new.self lt c.index_mut-table.ensures.value c.unlend.ensures.handles in
    record {
      lent = subst (λ (ts : List Handles). AreLentAtLeast rest ts) (sym is) (rest_lent l rest tables lent);
      ended = ap (λ (ts : List Handles). tables_after_unlends rest ts) is ∙ (ap (λ (ls : List Lend). tables_after_unlends ls tables) (sym place) ∙ c.loop-lend.invariant.ended);
    }

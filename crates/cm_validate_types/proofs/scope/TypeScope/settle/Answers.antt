use Rattle.std.proofs.Common.{◌≡◌, ◌∙◌, ap, refl, length, map, true, ℕ, List, Some, nat_lt, slice_get}
use Rattle.std.proofs.lemmas.Bool.{ltb-true, lt-ltb}
use Rattle.std.specs.Prelude.{is_none, slice_set}
use Rattle.cm_types_arena.specs.declared.placed.Placed.{Placed}
use Rattle.cm_types_arena.specs.TypeDefs.{type_at}
use Rattle.cm_validate_types.specs.declared.entries.TypeEntry.{TypeEntry}
use Rattle.cm_validate_types.specs.declared.entries.TypeEntry.TheVariants as entry
use Rattle.cm_validate_types.specs.Entries.{def_of, in_arena, is_entry_there}
use Rattle.cm_validate_types.specs.TypeScopes.{arena_types, arena_funcs}
use Rattle.cm_validate_types.specs.Uses.{is_use_unmoved}
use Rattle.cm_validate_types.proofs.MovedLaws.{set_found, set_passes, settled_here, settled_still}
use Rattle.cm_validate_types.proofs.SettledLaws.{put_same}
use Rattle.cm_validate_types.proofs.StayLaws.{stays_on, stays_set, value_unmoved}
use Rattle.cm_validate_types.proofs.scope.TypeScope.settle.Goals as goal

pub copied-requires : goal.copied-requires
copied-requires c =
    let s = c.args.self.now in
    ltb-true c.in-Some.place (length (arena_types s)) (set_found (is_entry_there (length (arena_types s)) (length (arena_funcs s))) s.own.entries.items c.in-Index.index _ c.in-Some.ensures.moved s.own_placed)

pub invariant_of-self : goal.invariant_of-self
invariant_of-self c =
    let s = c.copied.new.self in
    let there : nat_lt c.at.result.place (length (arena_types s)) ≡ true =
    ap (λ (n : ℕ). nat_lt n (length (arena_types s))) c.at.ensures.place ∙ lt-ltb c.in_ok-copy-in-Some.copy (length (arena_types s)) c.in_ok-copy-in-Some.ensures.there in
    record {
      own_placed = ap (in_arena (arena_types s) (arena_funcs s)) c.put_value.ensures
          ∙ set_passes (is_entry_there (length (arena_types s)) (length (arena_funcs s))) s.own.entries.items c.in-Index.index (entry.Value c.at.result) there s.own_placed;
      around_placed = s.around_placed;
    }

pub returns-in_ok-copy-in-Some-clause-settled : goal.returns-in_ok-copy-in-Some-clause-settled
returns-in_ok-copy-in-Some-clause-settled c =
    let es = c.copied.new.self.own.entries.items in
    ap (λ (xs : List TypeEntry). is_use_unmoved xs c.args.ty) c.put_value.ensures
    ∙ ap (is_use_unmoved (slice_set es c.in-Index.index (entry.Value c.at.result))) c.in-Index.is
    ∙ settled_here es c.in-Index.index (entry.Value c.at.result) (ap is_none c.at.ensures.by)

pub returns-in_ok-copy-in-Some-clause-others : goal.returns-in_ok-copy-in-Some-clause-others
returns-in_ok-copy-in-Some-clause-others c = λ u h.
    let es = c.copied.new.self.own.entries.items in
    ap (λ (xs : List TypeEntry). is_use_unmoved xs u) c.put_value.ensures
    ∙ settled_still es c.in-Index.index (entry.Value c.at.result) (ap is_none c.at.ensures.by) u (ap (λ (xs : List TypeEntry). is_use_unmoved xs u) c.copied.ensures.entries ∙ h)

pub returns-in_ok-copy-in-Some-clause-own : goal.returns-in_ok-copy-in-Some-clause-own
returns-in_ok-copy-in-Some-clause-own c =
    let s = c.copied.new.self in
    let from : Placed = record { place = c.in-Some.place; by = Some c.in-Some.by } in
    ap (map (def_of (arena_types s) (arena_funcs s))) c.put_value.ensures
    ∙ put_same c.unmoved.ensures.types (arena_types s) (arena_funcs s) s.own.entries.items c.in-Index.index from c.at.result
    (ap (λ (xs : List TypeEntry). slice_get xs c.in-Index.index) c.copied.ensures.entries ∙ c.in-Some.ensures.moved)
    c.at.ensures.by
    (ap (type_at (arena_types s)) c.at.ensures.place ∙ c.in_ok-copy-in-Some.ensures.ty)
    ∙ c.copied.ensures.own

pub returns-in_ok-copy-in-Some-clause-stays : goal.returns-in_ok-copy-in-Some-clause-stays
returns-in_ok-copy-in-Some-clause-stays c =
    let s = c.copied.new.self in
    stays_on c.args.self.now s _ c.copied.ensures.stays
    (stays_set s _ refl refl refl c.in-Index.index (entry.Value c.at.result) c.put_value.ensures tt (value_unmoved (arena_types s) (arena_funcs s) c.at.result c.at.ensures.by))

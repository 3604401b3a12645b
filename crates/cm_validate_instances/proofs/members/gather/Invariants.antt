use Rattle.std.proofs.Common.{◌≡◌, [], true, List, map, drop, take, length}
use Rattle.std.specs.List.{flat_map, list_all}
use Rattle.cm_types.specs.Types.{Ty, FuncTy}
use Rattle.cm_validate_model.specs.Rules.{are_distinct_texts, member_broken}
use Rattle.cm_validate_model.specs.Spaces.{Spaces}
use Rattle.cm_validate_model.specs.Spaces.{named_member as member_of_export}
use Rattle.cm_validate_entries.specs.Entries.{is_member_there, named_member}
use Rattle.cm_validate_core.specs.NameMaps.{entries_of}
use Rattle.cm_validate_instances.specs.Members.{Stand}
use Rattle.cm_validate_instances.proofs.TextLaws.{has_key}
use Rattle.cm_validate_instances.proofs.members.gather.Given as goal
use Rattle.cm_validate_model.proofs.SharedLaws.{rest_is_distinct}

-- where no export breaks anything and no two names are equal: so it is of those to come, whose names
-- are not among those of the members; and the members are what the exports before name
abbrev pub invariant-loop-export : goal.invariant-loop-export
invariant-loop-export l = record {
  fine : (s : Spaces) → flat_map (member_broken s) l.exports ≡ [] → flat_map (member_broken s) (drop l.export-index l.exports) ≡ [];
  distinct : rest_is_distinct (has_key (entries_of l.members)) (map (λ e. e.name) (drop l.export-index l.exports)) ≡ are_distinct_texts (map (λ e. e.name) l.exports);
  same : (tys : List Ty) (funcs : List FuncTy) (s : Spaces) → Stand tys funcs l.spaces l.types s → flat_map (member_broken s) l.exports ≡ []
      → map (named_member tys funcs) (entries_of l.members) ≡ flat_map (member_of_export s) (take l.export-index l.exports);
  there : (tys : List Ty) (funcs : List FuncTy) (s : Spaces) → Stand tys funcs l.spaces l.types s → flat_map (member_broken s) l.exports ≡ []
      → list_all (λ e. is_member_there (length tys) (length funcs) e.1) (entries_of l.members) ≡ true;
}

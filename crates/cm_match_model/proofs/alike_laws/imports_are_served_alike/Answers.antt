use Rattle.std.proofs.Common.{map}
use Rattle.cm_validate_model.specs.Spaces.{spaces_of}
use Rattle.cm_match_model.specs.Imports.{seen_by}
use Rattle.cm_match_model.proofs.SetLaws.{not_served_alike, served_alike}
use Rattle.cm_match_model.proofs.alike_laws.imports_are_served_alike.Goals as goal

pub returns-clause-served : goal.returns-clause-served
returns-clause-served c = λ components sees n j k d t a b e x y owns v w at_j at_k.
    served_alike (seen_by sees (map spaces_of components)) n t d e j k a b v w x y at_j at_k (c.what_serves_one_serves_both.ensures.served components sees n j k d t a b e owns v w)

pub returns-clause-not_served : goal.returns-clause-not_served
returns-clause-not_served c = λ components sees n j k d t a b e x y r owns v w at_j at_k.
    not_served_alike (seen_by sees (map spaces_of components)) n t d e j k a b v w x y at_j at_k r (c.what_serves_one_serves_both.ensures.unserved components sees n j k d t a b e r owns v w)

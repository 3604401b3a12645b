-- What the links of the code stand for.
use Rattle.std.specs.Prelude.{◌≡◌, ⊤, List, [], ◌∷◌, map, Option, Some, None}
use Rattle.cm_machine_model.specs.Plan as plan
use Rattle.cm_machine_model.specs.Plan.{Plan}
use Rattle.cm_machine_parts.specs.Links.{IsLinkOf}
use Rattle.cm_machine_links.specs.declared.core_funcs.CoreFunc.{CoreFunc}
use Rattle.cm_machine_links.specs.declared.core_funcs.CoreFunc.TheVariants as core_func
use Rattle.cm_machine_links.specs.declared.links.Links.{Links}

-- a core function of the code stands for a core function
abbrev pub IsCoreFuncOf : plan.CoreFunc → CoreFunc → Type 0
IsCoreFuncOf plan.guest core_func.Guest = ⊤
IsCoreFuncOf (plan.lowered l) (core_func.Lowered k) = IsLinkOf l k
IsCoreFuncOf (plan.makes r) (core_func.Makes q) = q ≡ r
IsCoreFuncOf (plan.drops r d) (core_func.Drops q e) = (q ≡ r) × (e ≡ d)
IsCoreFuncOf (plan.represents r) (core_func.Represents q) = q ≡ r
IsCoreFuncOf c f = ⊥

-- those of an instance, one for one
abbrev pub AreCoreFuncsOf : List plan.CoreFunc → List CoreFunc → Type 0
AreCoreFuncsOf [] [] = ⊤
AreCoreFuncsOf (c ∷ cs) (f ∷ fs) = IsCoreFuncOf c f × AreCoreFuncsOf cs fs
AreCoreFuncsOf cs fs = ⊥

-- those of each instance
abbrev pub AreRowsOf : Plan → List (List CoreFunc) → Type 0
AreRowsOf [] [] = ⊤
AreRowsOf (cs ∷ p) (fs ∷ rows) = AreCoreFuncsOf cs fs × AreRowsOf p rows
AreRowsOf p rows = ⊥

-- the core functions of each instance, in order
abbrev pub rows_in : Links → List (List CoreFunc)
rows_in links = map (λ v. v.items) links.rows.items

-- what is found stands for what a plan has there, if it has anything
abbrev pub IsFound : Option plan.CoreFunc → Option CoreFunc → Type 0
IsFound None None = ⊤
IsFound (Some c) (Some f) = IsCoreFuncOf c f
IsFound c f = ⊥

-- The links of the code stand for a plan: for each core function of each instance, in order, what
-- it stands for there.
abbrev pub ArePlanned : Plan → Links → Type 0
ArePlanned p links = AreRowsOf p (rows_in links)

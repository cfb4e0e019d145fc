-- What is known before the attributes of a candidate are computed.
use Rattle.std.specs.Prelude.{◌≡◌, ◌<◌, true, List}
use Rattle.std.specs.List.{AllByRecursion}
use Rattle.pact_record.specs.declared.records.TheConstants.{MAX_FIELDS}
use Rattle.tac_syntax.specs.declared.declarations.Decl.{Decl}
use Rattle.tac_syntax.specs.declared.declarations.Decl.TheVariants.{Op as OpDecl}
use Rattle.pact_operators.specs.declared.operators.Op.{Op}
use Rattle.program_check.specs.declared.program_rules.ProgramRule.{ProgramRule}
use Rattle.program_check.specs.declared.program_rules.ProgramRule.TheVariants.{NoAttribute, SharedAttribute}
use Rattle.program_check.specs.Candidates.{CandidateData}
use Rattle.tac_syntax.specs.Drafts.{DraftData}
use Rattle.plan_trees.specs.Plans.{PlanTree, has}
use Rattle.program_check.specs.ProgramRules.{LacksAttribute, SharesAttribute}
use Rattle.pact_operators.specs.Programs.{source_fields}
use Rattle.pact_operators.specs.Resolved.{node_names, place_among}
use Rattle.program_check.specs.WrittenOps.{small_ops}

-- The sources and operators are the candidate's, without keys that are too large. The fields of all columns are below
-- the limit.
pub record AreAttributesKnown (c : CandidateData) (ops : List Op) : Type 0 where
  pub same : ops ≡ small_ops c.draft
  pub below : AllByRecursion (λ k. k < MAX_FIELDS) (source_fields ops)

-- If the declaration is an operator, it is in the tree.
abbrev pub HasPlace : DraftData → PlanTree → Decl → Type 0
HasPlace d tree (OpDecl name kind function left right left_keys right_keys) = has (place_among name (node_names d.decls)) tree ≡ true
HasPlace d tree decl = Unit {0}

-- A declaration breaks a rule about attributes in this plan. No declaration breaks another rule here.
abbrev pub BreaksIn : ProgramRule → CandidateData → PlanTree → Decl → Type 0
BreaksIn NoAttribute c tree decl = LacksAttribute c.draft c.valids tree decl
BreaksIn SharedAttribute c tree decl = SharesAttribute c.draft c.valids tree decl
BreaksIn rule c tree decl = ⊥

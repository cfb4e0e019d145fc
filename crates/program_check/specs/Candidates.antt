-- Drafts with their valid functions, which may be programs.
use Rattle.std.specs.Prelude.{◌≡◌, ℕ, List, refl}
use Rattle.std.specs.Coded.{Coded, code_by, coded×}
use Rattle.tac_syntax.specs.Valid.{WithFields}
use Rattle.tac_syntax.specs.DraftCode.{coded_draft}
use Rattle.tac_syntax.specs.Drafts.{DraftData}
use Rattle.program_check.specs.ProgramRules.{all_columns, all_inputs}
use Rattle.pact_operators.specs.Programs.{AreValidated}
use Rattle.pact_operators.specs.Resolved.{function_names, node_names, sink_inputs}
use Rattle.tac_syntax.specs.ValidLists.{coded_valids}

pub record CandidateData : Type 0 where
  pub draft : DraftData
  pub valids : List WithFields

abbrev pub coded_candidate : Coded CandidateData
coded_candidate = code_by (DraftData × List WithFields) (coded× coded_draft coded_valids) (λ c. (c.draft, c.valids)) (λ p. record { draft = p.0; valids = p.1 }) (λ _. refl)

-- The functions are those of the draft, and the lists are what its declarations name and the fields of their columns.
pub record IsGathered (c : CandidateData) (functions nodes inputs sinks : List (List ℕ)) (columns : List ℕ) : Type 0 where
  pub validated : AreValidated c.draft c.valids
  pub of_functions : functions ≡ function_names c.draft.functions
  pub of_nodes : nodes ≡ node_names c.draft.decls
  pub of_inputs : inputs ≡ all_inputs c.draft.decls
  pub of_sinks : sinks ≡ sink_inputs c.draft.decls
  pub of_columns : columns ≡ all_columns c.draft.decls

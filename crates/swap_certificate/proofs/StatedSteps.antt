-- The steps of legal exchanges are ones that a certificate may state.
use Rattle.std.proofs.Common.{◌≡◌, ◌≤◌, ℕ, List, [], ◌∷◌, map, sym, subst}
use Rattle.std.specs.List.{AllByRecursion}
use Rattle.tac_syntax.specs.declared.declarations.OpKind.TheVariants.{Source}
use Rattle.tac_syntax.specs.EmitBounds.{many}
use Rattle.tac_syntax.specs.Versions.{field_limit}
use Rattle.emit_bounds.proofs.EmitSums.{least-capped, most-capped}
use Rattle.plan_trees.specs.Plans.{PlanTree, root_of, subtree_of}
use Rattle.plan_trees.proofs.SubtreesOfPlans.{root_of-subtree}
use Rattle.pact_operators.specs.PlanOps.{kind_at}
use Rattle.pact_operators.specs.Programs.{AreNames, IsProgram, ProgramData}
use Rattle.reorder_pair.specs.declared.finding.Found.{Found}
use Rattle.reorder_pair.specs.declared.legality.Condition.{Condition}
use Rattle.reorder_pair.specs.Places.{IsFound}
use Rattle.reorder_pair.specs.Rules.{exchange_of, exchanged_by}
use Rattle.reorder_pair.proofs.PlacesOfRules.{plays-operator}
use Rattle.reorder_pair.specs.ToldExchanges.{IsLegalIn, Lead, after}
use Rattle.swap_certificate.specs.Checks.{step_of}
use Rattle.swap_certificate.specs.Shape.{IsSet, MayBeFound, MayBeStep}
use Rattle.swap_certificate.proofs.FoundBelow.{EndsAt, found_ends}
use Rattle.swap_certificate.proofs.RisingSets.{ended-is_set}
use Rattle.swap_certificate.proofs.WritableTexts.{name_at-IsWord, word_of-IsShortText}

module _ (p : ProgramData) (program : IsProgram p) where
  -- a set of fields of the program is one that its version allows
  ended-IsSet : (set : ℕ) → EndsAt p.fields set → IsSet (field_limit p.version) set
  ended-IsSet set ends = ended-is_set (field_limit p.version) set p.fields program.few_fields ends

  found-MayBeFound : (n : ℕ) (before after : PlanTree) (f : Found) → (kind_at p.ops n ≡ Source → ⊥) → IsFound p n before after f → MayBeFound (field_limit p.version) f
  found-MayBeFound n before after f operator h =
      let ends = found_ends p n before after f program operator h in
      record {
        sets = record {
          reads = ended-IsSet f.sets.reads ends.reads;
          writes = ended-IsSet f.sets.writes ends.writes;
          control = ended-IsSet f.sets.control ends.control;
          touched = ended-IsSet f.sets.touched ends.touched;
        };
        lo = subst (λ (k : ℕ). k ≤ many) (sym h.found.least) (least-capped h.found.called.function.body);
        hi = subst (λ (k : ℕ). k ≤ many) (sym h.found.most) (most-capped h.found.called.function.body);
      }

  module _ (names : AreNames p.ops) where
    condition-MayBeStep : (t : PlanTree) (c : Condition) → IsLegalIn p t c → MayBeStep (field_limit p.version) (step_of p c)
    condition-MayBeStep t c legal =
        let tree = subtree_of c.at t in
        let turned = exchanged_by c.rule tree in
        let place = legal.found.place in
        let upper = subst (λ (n : ℕ). kind_at p.ops n ≡ Source → ⊥) (sym (root_of-subtree c.at t place.node)) (plays-operator (exchange_of c.rule).upper (kind_at p.ops c.at) place.upper) in
        let lower = plays-operator (exchange_of c.rule).lower (kind_at p.ops (root_of turned)) place.lower in
        record {
          rule = word_of-IsShortText c.rule;
          at = name_at-IsWord p.ops names c.at;
          upper = found-MayBeFound (root_of tree) tree turned c.upper upper legal.found.found.of_upper;
          lower = found-MayBeFound (root_of turned) tree turned c.lower lower legal.found.found.of_lower;
        }

    pub lead-MayBeStep : (t u : PlanTree) (by : List Condition) → Lead p t by u → AllByRecursion (MayBeStep (field_limit p.version)) (map (step_of p) by)
    lead-MayBeStep t u [] h = tt
    lead-MayBeStep t u (c ∷ by) h = (condition-MayBeStep t c h.0, lead-MayBeStep (after c t) u by h.1)

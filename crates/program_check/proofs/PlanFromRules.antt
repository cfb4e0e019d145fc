-- The plan as written, if the rules before the one about the functions' kinds are kept.
use Rattle.std.proofs.Common.{◌≡◌, ◌<◌, ℕ, List, [], ◌∷◌, get_or, length, map, ap, subst, sym, ◌∙◌, arith}
use Rattle.std.proofs.lemmas.List.{length-map}
use Rattle.program_check.specs.declared.program_rules.ProgramRule.TheVariants.{Undeclared, DeclaredTwice, NoSingleSink, TooMany, NotATree, OtherKind}
use Rattle.program_check.specs.Candidates.{CandidateData}
use Rattle.program_check.specs.Checks.{KeepsBefore}
use Rattle.program_check.specs.PlanReads.{IsPlannedFrom}
use Rattle.plan_trees.specs.Plans.{PlanTree, IsPlan, node_limit, root_of}
use Rattle.program_check.specs.ProgramRules.{order_of}
use Rattle.pact_operators.specs.Programs.{Follows, IsWrittenPlan}
use Rattle.pact_operators.specs.Resolved.{Inputs, inputs_of, node_names, place_among, sink_inputs}
use Rattle.pact_operators.proofs.OnePlan.{same_tree}
use Rattle.plan_trees.proofs.FewNodes.{few_nodes}
use Rattle.program_check.proofs.WrittenPlans.{written_plan}

there_is : (c : CandidateData) → KeepsBefore (order_of OtherKind) c → (t : PlanTree) × IsWrittenPlan c.draft t × IsPlan t
there_is c h =
    written_plan c.draft c.valids (h Undeclared (omega arith)) (h DeclaredTwice (omega arith)) (h NoSingleSink (omega arith)) (h TooMany (omega arith)) (h NotATree (omega arith))

root_is : (names sinks : List (List ℕ)) (r : ℕ) (first : List ℕ) → map (λ input. place_among input names) sinks ≡ r ∷ [] → first ≡ get_or sinks 0 first → place_among first names ≡ r
root_is names [] r first e h = let bad : [] ≡ r ∷ [] = e in absurd cc
root_is names (sink ∷ sinks) r first e h =
    let here : place_among sink names ∷ map (λ input. place_among input names) sinks ≡ r ∷ [] = e in
    let root : place_among sink names ≡ r = cc in
    ap (λ (name : List ℕ). place_among name names) h ∙ root

pub some_sink : (c : CandidateData) (sinks : List (List ℕ)) → KeepsBefore (order_of OtherKind) c → sinks ≡ sink_inputs c.draft.decls → 0 < length sinks
some_sink c sinks h e =
    let p = there_is c h in
    let names = node_names c.draft.decls in
    omega (arith, ap length e, ap length p.1.root, length-map (sink_inputs c.draft.decls) (λ input. place_among input names))

root_of_sink : (c : CandidateData) (sinks : List (List ℕ)) (t : PlanTree) (first name : List ℕ) (nodes : List (List ℕ)) (root : ℕ) → IsWrittenPlan c.draft t → sinks ≡ sink_inputs c.draft.decls
    → first ≡ get_or sinks 0 first → name ≡ first → nodes ≡ node_names c.draft.decls → root ≡ place_among name nodes → root ≡ root_of t
root_of_sink c sinks t first name nodes root h e at named f r =
    let here : first ≡ get_or (sink_inputs c.draft.decls) 0 first = at ∙ ap (λ (names : List (List ℕ)). get_or names 0 first) e in
    let told = root_is (node_names c.draft.decls) (sink_inputs c.draft.decls) (root_of t) first h.root here in
    r ∙ ap (λ (names : List (List ℕ)). place_among name names) f ∙ ap (λ (n : List ℕ). place_among n (node_names c.draft.decls)) named ∙ told

pub planned : (c : CandidateData) (inputs : List Inputs) (sinks : List (List ℕ)) (first name : List ℕ) (nodes : List (List ℕ)) (root : ℕ) → KeepsBefore (order_of OtherKind) c
    → inputs ≡ inputs_of (node_names c.draft.decls) c.draft.decls → sinks ≡ sink_inputs c.draft.decls → first ≡ get_or sinks 0 first → name ≡ first → nodes ≡ node_names c.draft.decls
    → root ≡ place_among name nodes → IsPlannedFrom inputs root node_limit
planned c inputs sinks first name nodes root h i e at named f r =
    let p = there_is c h in
    record {
      tree = p.0;
      follows = subst (λ (xs : List Inputs). Follows xs p.0) (sym i) p.1.follows;
      root = sym (root_of_sink c sinks p.0 first name nodes root p.1 e at named f r);
      plan = p.2;
      few = few_nodes p.0 p.2;
    }

pub written : (c : CandidateData) (inputs : List Inputs) (sinks : List (List ℕ)) (first name : List ℕ) (nodes : List (List ℕ)) (root : ℕ) (t : PlanTree) → KeepsBefore (order_of OtherKind) c
    → inputs ≡ inputs_of (node_names c.draft.decls) c.draft.decls → sinks ≡ sink_inputs c.draft.decls → first ≡ get_or sinks 0 first → name ≡ first → nodes ≡ node_names c.draft.decls
    → root ≡ place_among name nodes → Follows inputs t → root_of t ≡ root → IsWrittenPlan c.draft t
written c inputs sinks first name nodes root t h i e at named f r follows top =
    let p = there_is c h in
    let roots = sym (root_of_sink c sinks p.0 first name nodes root p.1 e at named f r) ∙ sym top in
    let same = same_tree (inputs_of (node_names c.draft.decls) c.draft.decls) p.0 t p.1.follows (subst (λ (xs : List Inputs). Follows xs t) i follows) roots in
    subst (IsWrittenPlan c.draft) same p.1

-- A draft that keeps the rules on names, numbers and the tree has a plan as written.
use Rattle.std.proofs.Common.{◌≡◌, ◌≤◌, ◌<◌, ◌&&◌, ◌==◌, not, nat_le, inl, inr, ℕ, zero, suc, Bool, true, false, Some, None, List, [], ◌∷◌, ◌++◌, length, map, slice_get, bytes_eq, refl, ap, sym, subst, ◌∙◌, arith}
use Rattle.std.specs.List.{AllByRecursion, list_any}
use Rattle.std.proofs.lemmas.Bool.{and_parts, both_ways, eqb-true, false_from_ne_true, leb-false, not-false, or_cases, or_parts}
use Rattle.std.proofs.lemmas.Option.{slice_get_within}
use Rattle.std.proofs.lemmas.Slice.Eq.{bytes_eq-Decides}
use Rattle.tac_syntax.specs.Valid.{WithFields}
use Rattle.tac_syntax.specs.declared.declarations.OpKind.{OpKind}
use Rattle.tac_syntax.specs.declared.declarations.OpKind.TheVariants.{Source as SourceKind, Map, Reduce, Match, Cross, CoGroup}
use Rattle.tac_syntax.specs.declared.declarations.Decl.{Decl}
use Rattle.tac_syntax.specs.declared.declarations.Decl.TheVariants.{Source, Function as FunctionDecl, Op as OpDecl, Sink}
use Rattle.program_check.specs.declared.program_rules.ProgramRule.TheVariants.{Undeclared, DeclaredTwice, NoSingleSink, TooMany, NotATree}
use Rattle.tac_syntax.specs.Drafts.{DraftData}
use Rattle.plan_trees.specs.Plans.{PlanTree, IsPlan, nodes, node_limit}
use Rattle.program_check.specs.ProgramRules.{Keeps, NoneBreaks, all_inputs, is_operator, is_out_of_tree, is_reached, is_reader, name_at, some_missing, times_so}
use Rattle.pact_operators.specs.Programs.{IsWrittenPlan}
use Rattle.pact_operators.specs.Resolved.{Inputs, two_inputs, function_names, inputs_of, inputs_read, is_among, names_read, node_names, place_among, sink_inputs, times_among}
use Rattle.plan_trees.proofs.DifferentNumbers.{IsIn}
use Rattle.program_check.proofs.FewDeclarations.{declared-operators}
use Rattle.program_check.proofs.FlowsMakeTrees.{At, IsFlow, Reads, readers_from, whole_tree}
use Rattle.program_check.proofs.NamedInputs.{AllDeclared, ReadsName, length-inputs_of, named, numbered, one_reader, only_place, placed, same_name, sink_and_reader, some_place, twice_read}

-- ---- what the rules say of each name

once_each : (d : DraftData) (v : List WithFields) (front decls : List Decl) (m : ℕ) (name : List ℕ) → NoneBreaks DeclaredTwice d v front decls → slice_get (node_names decls) m ≡ Some name
    → nat_le 2 (times_among name (node_names d.decls)) ≡ false
once_each d v front [] m name h e = let bad : None ≡ Some name = e in absurd cc
once_each d v front (Source own file columns ∷ decls) zero name h e =
    let same : own ≡ name = cc in subst (λ (x : List ℕ). nat_le 2 (times_among x (node_names d.decls)) ≡ false) same (false_from_ne_true _ h.0)
once_each d v front (Source own file columns ∷ decls) (suc m) name h e = once_each d v (front ++ Source own file columns ∷ []) decls m name h.1 e
once_each d v front (FunctionDecl number ∷ decls) m name h e = once_each d v (front ++ FunctionDecl number ∷ []) decls m name h.1 e
once_each d v front (OpDecl own kind function left right left_keys right_keys ∷ decls) zero name h e =
    let same : own ≡ name = cc in subst (λ (x : List ℕ). nat_le 2 (times_among x (node_names d.decls)) ≡ false) same (false_from_ne_true _ h.0)
once_each d v front (OpDecl own kind function left right left_keys right_keys ∷ decls) (suc m) name h e =
    once_each d v (front ++ OpDecl own kind function left right left_keys right_keys ∷ []) decls m name h.1 e
once_each d v front (Sink input fields ∷ decls) m name h e = once_each d v (front ++ Sink input fields ∷ []) decls m name h.1 e

in_tree_each : (d : DraftData) (v : List WithFields) (front decls : List Decl) (m : ℕ) (name : List ℕ) → NoneBreaks NotATree d v front decls → slice_get (node_names decls) m ≡ Some name
    → is_out_of_tree d name ≡ false
in_tree_each d v front [] m name h e = let bad : None ≡ Some name = e in absurd cc
in_tree_each d v front (Source own file columns ∷ decls) zero name h e =
    let same : own ≡ name = cc in subst (λ (x : List ℕ). is_out_of_tree d x ≡ false) same (false_from_ne_true _ h.0)
in_tree_each d v front (Source own file columns ∷ decls) (suc m) name h e = in_tree_each d v (front ++ Source own file columns ∷ []) decls m name h.1 e
in_tree_each d v front (FunctionDecl number ∷ decls) m name h e = in_tree_each d v (front ++ FunctionDecl number ∷ []) decls m name h.1 e
in_tree_each d v front (OpDecl own kind function left right left_keys right_keys ∷ decls) zero name h e =
    let same : own ≡ name = cc in subst (λ (x : List ℕ). is_out_of_tree d x ≡ false) same (false_from_ne_true _ h.0)
in_tree_each d v front (OpDecl own kind function left right left_keys right_keys ∷ decls) (suc m) name h e =
    in_tree_each d v (front ++ OpDecl own kind function left right left_keys right_keys ∷ []) decls m name h.1 e
in_tree_each d v front (Sink input fields ∷ decls) m name h e = in_tree_each d v (front ++ Sink input fields ∷ []) decls m name h.1 e

none_missing : (name : List ℕ) (names declared : List (List ℕ)) → some_missing names declared ≡ false → is_among name names ≡ true → is_among name declared ≡ true
none_missing name [] declared h i = absurd (both_ways false refl i)
none_missing name (n ∷ names) declared h i =
    let parts = or_parts (not (is_among n declared)) (some_missing names declared) h in
    elim (or_cases (bytes_eq name n) (is_among name names) i) as (λ _. is_among name declared ≡ true) [
      | inl e ↦ subst (λ (x : List ℕ). is_among x declared ≡ true) (sym ((bytes_eq-Decides name n).0 e)) (not-false (is_among n declared) parts.0)
      | inr more ↦ none_missing name names declared parts.1 more
    ]

reads_declared : (d : DraftData) (v : List WithFields) (front decls : List Decl) → NoneBreaks Undeclared d v front decls → AllDeclared (node_names d.decls) decls
reads_declared d v front [] h p name r = absurd r
reads_declared d v front (Source own file columns ∷ decls) h zero name r = absurd r
reads_declared d v front (Source own file columns ∷ decls) h (suc p) name r = reads_declared d v (front ++ Source own file columns ∷ []) decls h.1 p name r
reads_declared d v front (FunctionDecl number ∷ decls) h p name r = reads_declared d v (front ++ FunctionDecl number ∷ []) decls h.1 p name r
reads_declared d v front (OpDecl own kind function left right left_keys right_keys ∷ decls) h zero name r =
    let parts = or_parts (not (is_among function (function_names d.functions))) (some_missing (names_read kind left right) (node_names d.decls)) (false_from_ne_true _ h.0) in
    none_missing name (names_read kind left right) (node_names d.decls) parts.1 r
reads_declared d v front (OpDecl own kind function left right left_keys right_keys ∷ decls) h (suc p) name r =
    reads_declared d v (front ++ OpDecl own kind function left right left_keys right_keys ∷ []) decls h.1 p name r
reads_declared d v front (Sink input fields ∷ decls) h p name r = reads_declared d v (front ++ Sink input fields ∷ []) decls h.1 p name r

sinks_declared : (d : DraftData) (v : List WithFields) (front decls : List Decl) (name : List ℕ) → NoneBreaks Undeclared d v front decls → is_among name (sink_inputs decls) ≡ true → is_among name (node_names d.decls) ≡ true
sinks_declared d v front [] name h i = absurd (both_ways false refl i)
sinks_declared d v front (Source own file columns ∷ decls) name h i = sinks_declared d v (front ++ Source own file columns ∷ []) decls name h.1 i
sinks_declared d v front (FunctionDecl number ∷ decls) name h i = sinks_declared d v (front ++ FunctionDecl number ∷ []) decls name h.1 i
sinks_declared d v front (OpDecl own kind function left right left_keys right_keys ∷ decls) name h i =
    sinks_declared d v (front ++ OpDecl own kind function left right left_keys right_keys ∷ []) decls name h.1 i
sinks_declared d v front (Sink input fields ∷ decls) name h i = elim (or_cases (bytes_eq name input) (is_among name (sink_inputs decls)) i) as (λ _. is_among name (node_names d.decls) ≡ true) [
  | inl e ↦ subst (λ (x : List ℕ). is_among x (node_names d.decls) ≡ true) (sym ((bytes_eq-Decides name input).0 e)) (not-false (is_among input (node_names d.decls)) (false_from_ne_true _ h.0))
  | inr more ↦ sinks_declared d v (front ++ Sink input fields ∷ []) decls name h.1 more
]

-- ---- what is reached

-- an operator that reads the name and passes a test of its own name
reader_found : (d : DraftData) (test : List ℕ → Bool) (name : List ℕ) (decls : List Decl) → list_any (λ decl. is_reader name decl && test (name_at d.functions decl)) decls ≡ true
    → (p : ℕ) × (own : List ℕ) × (slice_get (node_names decls) p ≡ Some own) × ReadsName decls p name × (test own ≡ true)
reader_found d test name [] h = absurd (both_ways false refl h)
reader_found d test name (Source own file columns ∷ decls) h = let r = reader_found d test name decls h in (suc r.0, r.1, r.2, r.3, r.4)
reader_found d test name (FunctionDecl number ∷ decls) h = reader_found d test name decls h
reader_found d test name (OpDecl own kind function left right left_keys right_keys ∷ decls) h =
    elim (or_cases (is_among name (names_read kind left right) && test own) (list_any (λ decl. is_reader name decl && test (name_at d.functions decl)) decls) h) [
      | inl here ↦ let parts = and_parts (is_among name (names_read kind left right)) (test own) here in (zero, own, refl, parts.0, parts.1)
      | inr more ↦ let r = reader_found d test name decls more in (suc r.0, r.1, r.2, r.3, r.4)
    ]
reader_found d test name (Sink input fields ∷ decls) h = reader_found d test name decls h

-- If each name occurs once, only the root has the name that the sink names.
at_root : (d : DraftData) (input : List ℕ) → sink_inputs d.decls ≡ input ∷ [] → ((m : ℕ) (name : List ℕ) → slice_get (node_names d.decls) m ≡ Some name → place_among name (node_names d.decls) ≡ m)
    → (m : ℕ) (name : List ℕ) → slice_get (node_names d.decls) m ≡ Some name → is_among name (sink_inputs d.decls) ≡ true → m ≡ place_among input (node_names d.decls)
at_root d input one only m name e h =
    let named : is_among name (input ∷ []) ≡ true = subst (λ (x : List (List ℕ)). is_among name x ≡ true) one h in
    elim (or_cases (bytes_eq name input) false named) as (λ _. m ≡ place_among input (node_names d.decls)) [
      | inl same ↦ sym (only m name e) ∙ ap (λ (x : List ℕ). place_among x (node_names d.decls)) ((bytes_eq-Decides name input).0 same)
      | inr bad ↦ absurd (both_ways false refl bad)
    ]

level : (d : DraftData) (input : List ℕ) → sink_inputs d.decls ≡ input ∷ [] → ((m : ℕ) (name : List ℕ) → slice_get (node_names d.decls) m ≡ Some name → place_among name (node_names d.decls) ≡ m)
    → (k m : ℕ) (name : List ℕ) → slice_get (node_names d.decls) m ≡ Some name → is_reached k d name ≡ true
    → (j : ℕ) × (j ≤ k) × At (inputs_of (node_names d.decls) d.decls) (place_among input (node_names d.decls)) j m
level d input one only zero m name e h = (zero, omega arith, at_root d input one only m name e h)
level d input one only (suc k) m name e h =
    elim (or_cases (is_among name (sink_inputs d.decls)) (list_any (λ decl. is_reader name decl && is_reached k d (name_at d.functions decl)) d.decls) h) [
      | inl here ↦ (zero, omega arith, at_root d input one only m name e here)
      | inr more ↦
          let r = reader_found d (is_reached k d) name d.decls more in
          let up = level d input one only k r.0 r.1 r.2 r.4 in
          let reads = subst (Reads (inputs_of (node_names d.decls) d.decls) r.0) (only m name e) (numbered (node_names d.decls) d.decls r.0 name r.3) in
          (suc up.0, omega (arith, up.1), (r.0, reads, up.2))
    ]

-- ---- how many operators there are

reads_no_more : (n : ℕ) (names : List (List ℕ)) (kind : OpKind) (left right : List ℕ) (inputs : List Inputs) → length (readers_from n (inputs_read names kind left right ∷ inputs)) ≤ suc (length (readers_from (suc n) inputs))
reads_no_more n names SourceKind left right inputs = omega arith
reads_no_more n names Map left right inputs = omega arith
reads_no_more n names Reduce left right inputs = omega arith
reads_no_more n names Match left right inputs = omega arith
reads_no_more n names Cross left right inputs = omega arith
reads_no_more n names CoGroup left right inputs = omega arith

few_readers : (n : ℕ) (names : List (List ℕ)) (decls : List Decl) → length (readers_from n (inputs_of names decls)) ≤ times_so is_operator decls
few_readers n names [] = omega arith
few_readers n names (Source own file columns ∷ decls) = few_readers (suc n) names decls
few_readers n names (FunctionDecl number ∷ decls) = few_readers n names decls
few_readers n names (OpDecl own kind function left right left_keys right_keys ∷ decls) =
    omega (arith, few_readers (suc n) names decls, reads_no_more n names kind left right (inputs_of names decls))
few_readers n names (Sink input fields ∷ decls) = few_readers n names decls

-- ---- the plan

one_sink : (names : List (List ℕ)) → (length names == 1) ≡ true → (input : List ℕ) × (names ≡ input ∷ [])
one_sink [] h = absurd (both_ways false refl h)
one_sink (input ∷ []) h = (input, refl)
one_sink (input ∷ other ∷ names) h = let e = eqb-true (length (input ∷ other ∷ names)) 1 h in absurd (omega (arith, e))

all_below : (bound : ℕ) (ns : List ℕ) → ((m : ℕ) → IsIn m ns → m < bound) → AllByRecursion (λ n. n < bound) ns
all_below bound [] h = tt
all_below bound (n ∷ ns) h = (h n (inl refl), all_below bound ns (λ m i. h m (inr i)))

at_place : (names : List (List ℕ)) (m : ℕ) → m < length names → (name : List ℕ) × (slice_get names m ≡ Some name)
at_place [] m lt = absurd (omega (arith, lt))
at_place (n ∷ names) zero lt = (n, refl)
at_place (n ∷ names) (suc m) lt = at_place names m (omega (arith, lt))

pub is_flow : (d : DraftData) (v : List WithFields) (input : List ℕ) → sink_inputs d.decls ≡ input ∷ [] → Keeps Undeclared d v → Keeps DeclaredTwice d v → Keeps NotATree d v
    → IsFlow (inputs_of (node_names d.decls) d.decls) (place_among input (node_names d.decls)) (times_so is_operator d.decls)
is_flow d v input one declared once tree =
    let names = node_names d.decls in
    let inputs = inputs_of names d.decls in
    let only : (m : ℕ) (name : List ℕ) → slice_get names m ≡ Some name → place_among name names ≡ m =
    λ m name e. only_place name names m (omega (arith, leb-false 2 (times_among name names) (once_each d v [] d.decls m name once.0 e))) e in
    let reads = reads_declared d v [] d.decls declared.0 in
    let sink_named : is_among input (sink_inputs d.decls) ≡ true = rw (one, same_name input) refl in
    let sink = sinks_declared d v [] d.decls input declared.0 sink_named in
    let times : (name : List ℕ) → is_among name names ≡ true → (times_among name (all_inputs d.decls) ≡ 1) × (is_reached (times_so is_operator d.decls) d name ≡ true) =
    λ name i.
    let parts = or_parts (not (times_among name (all_inputs d.decls) == 1)) (not (is_reached (times_so is_operator d.decls) d name)) (in_tree_each d v [] d.decls (place_among name names) name tree.0 (placed name names i)) in
    (eqb-true (times_among name (all_inputs d.decls)) 1 (not-false _ parts.0), not-false _ parts.1) in
    record {
      single = λ p q m r s.
          let a = named names d.decls p m r in
          let b = named names d.decls q m s in
          let here : slice_get names m ≡ Some a.0 = subst (λ (x : ℕ). slice_get names x ≡ Some a.0) (sym a.2) (placed a.0 names (reads p a.0 a.1)) in
          let there : slice_get names m ≡ Some b.0 = subst (λ (x : ℕ). slice_get names x ≡ Some b.0) (sym b.2) (placed b.0 names (reads q b.0 b.1)) in
          let same : b.0 ≡ a.0 = cc in
          one_reader d.decls p q a.0 a.1 (subst (ReadsName d.decls q) same b.1) (omega (arith, (times a.0 (reads p a.0 a.1)).0));
      root_unread = λ p r.
          let a = named names d.decls p (place_among input names) r in
          let here : slice_get names (place_among input names) ≡ Some a.0 = subst (λ (x : ℕ). slice_get names x ≡ Some a.0) (sym a.2) (placed a.0 names (reads p a.0 a.1)) in
          let there = placed input names sink in
          let same : a.0 ≡ input = cc in
          let twice = sink_and_reader d.decls p input (subst (ReadsName d.decls p) same a.1) sink_named in
          omega (arith, twice, (times input sink).0);
      not_twice = λ p a e.
          let r = twice_read names d.decls p a (two_inputs a a) reads e (refl, refl) in
          omega (arith, r.2, (times r.0 r.1).0);
      within = λ p m r.
          let a = named names d.decls p m r in
          let lt = slice_get_within names (place_among a.0 names) a.0 (placed a.0 names (reads p a.0 a.1)) in
          omega (arith, a.2, lt, length-inputs_of names d.decls);
      root_within = omega (arith, slice_get_within names (place_among input names) input (placed input names sink), length-inputs_of names d.decls);
      reached = λ m lt.
          let name = at_place names m (omega (arith, lt, length-inputs_of names d.decls)) in
          level d input one only (times_so is_operator d.decls) m name.0 name.1 (times name.0 (some_place name.0 names m name.1)).1;
    }

pub written_plan : (d : DraftData) (v : List WithFields) → Keeps Undeclared d v → Keeps DeclaredTwice d v → Keeps NoSingleSink d v → Keeps TooMany d v → Keeps NotATree d v
    → (t : PlanTree) × IsWrittenPlan d t × IsPlan t
written_plan d v declared once single few tree =
    let names = node_names d.decls in
    let one = one_sink (sink_inputs d.decls) (not-false _ (single.1 refl)) in
    let flow = is_flow d v one.0 one.1 declared once tree in
    let whole = whole_tree (inputs_of names d.decls) (place_among one.0 names) (times_so is_operator d.decls) flow in
    let operators = declared-operators d v few.0 in
    let readers = few_readers 0 names d.decls in (
      whole.0,
      record {
        root = ap (λ (x : List (List ℕ)). map (λ input. place_among input names) x) one.1 ∙ ap (λ (x : ℕ). x ∷ []) (sym whole.1.rooted);
        follows = whole.1.follows;
        different = whole.1.different;
        all = λ n lt. whole.1.all n (omega (arith, lt, length-inputs_of names d.decls));
      },
      record {
        below = all_below node_limit (nodes whole.0) (λ m i. omega (arith, whole.1.within m i, whole.1.few, operators, readers));
        different = whole.1.different;
      },
    )

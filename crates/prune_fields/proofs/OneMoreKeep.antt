-- Inserting Maps one after another is the same as inserting them all at once.
use Rattle.std.proofs.Common.{◌≡◌, ◌≢◌, ◌<◌, ◌+◌, ◌==◌, ℕ, suc, inl, inr, List, [], ◌∷◌, ◌++◌, Option, Some, None, length, get_or, set, refl, sym, ap, ◌∙◌, arith, length-append, append_assoc, append-nil}
use Rattle.std.proofs.lemmas.Bool.{cases_Bool, eqb-true, eqb-false}
use Rattle.plan_trees.specs.Distinct.{IsAbsent}
use Rattle.plan_trees.specs.Inserted.{wrapped, inserted, inserted_above}
use Rattle.plan_trees.specs.declared.physicals.Ship.{Ship}
use Rattle.plan_trees.specs.declared.physicals.Ship.TheVariants.{Forward}
use Rattle.plan_trees.specs.Physicals.{PhysicalData}
use Rattle.plan_trees.specs.Plans.{PlanTree, leaf, over, both, root_of}
use Rattle.plan_trees.proofs.InsertedPlaces.{core, inserted-core, wrapped-not, wrapped-so}
use Rattle.tac_syntax.specs.Contexts.{FieldSet}
use Rattle.tac_syntax.specs.Valid.{WithFields}
use Rattle.pact_operators.specs.declared.operators.Op.{Op}
use Rattle.pact_operators.specs.Programs.{ProgramData}
use Rattle.prune_fields.proofs.Cuts.{IsNext, is_next}
use Rattle.prune_fields.specs.Insertions.{Cuts, capped, cuts_from, grown, keep_functions, keep_op, keep_ops, kept_into, moved_from, plan_with, with_cut_edges, with_keeps}
use Rattle.prune_fields.specs.KeepFunctions.{keep_function}

-- ---- trees

pub root-grown : (cut : Cuts) (t : PlanTree) → root_of (grown cut t) ≡ root_of t
root-grown cut (leaf n) = refl
root-grown cut (over n t) = refl
root-grown cut (both n t u) = refl

module _ (cut next : Cuts) (n new : ℕ) (h : IsNext cut next n new) where
  unwrapped : (t : PlanTree) → core n new (grown cut t) ≡ grown next t → inserted n new (grown cut t) ≡ wrapped n new (root_of t) (grown next t)
  unwrapped t e =
      inserted-core n new (grown cut t) ∙ (λ i. wrapped n new (root-grown cut t i) (e i))

  capped_next : (t : PlanTree) → core n new (grown cut t) ≡ grown next t
      → inserted n new (capped (cut (root_of t)) (grown cut t)) ≡ capped (next (root_of t)) (grown next t)
  capped_next t e = by (cut (root_of t)) refl where
    bare : (r : ℕ) → r ≡ root_of t → cut r ≡ None → inserted n new (grown cut t) ≡ capped (next r) (grown next t)
    bare r is q = elim (cases_Bool (r == n)) as (λ _. inserted n new (grown cut t) ≡ capped (next r) (grown next t)) [
      | inl b ↦
          let same = eqb-true r n b in
          unwrapped t e ∙ wrapped-so n new (root_of t) (grown next t) (sym is ∙ same)
          ∙ ap (λ (c : Option ℕ). capped c (grown next t)) (sym (ap next same ∙ h.now))
      | inr b ↦
          let ne = eqb-false r n b in
          unwrapped t e ∙ wrapped-not n new (root_of t) (grown next t) (λ s. ne (is ∙ s))
          ∙ ap (λ (c : Option ℕ). capped c (grown next t)) (sym (h.other r ne ∙ q))
    ]

    by : (c : Option ℕ) → cut (root_of t) ≡ c → inserted n new (capped c (grown cut t)) ≡ capped (next (root_of t)) (grown next t)
    by None q = bare (root_of t) refl q
    by (Some j) q =
        let ne : root_of t ≢ n = λ s. clash j (sym q ∙ ap cut s ∙ h.free) in
        let below : inserted n new (grown cut t) ≡ grown next t = unwrapped t e ∙ wrapped-not n new (root_of t) (grown next t) ne in
        wrapped-not n new j (over j (inserted n new (grown cut t))) (h.apart (root_of t) j q) ∙ ap (λ (x : PlanTree). over j x) below
        ∙ ap (λ (c : Option ℕ). capped c (grown next t)) (sym (h.other (root_of t) ne ∙ q))
      where
        clash : (j : ℕ) → Some j ≡ None → ⊥
        clash j s = cc

  core_next : (t : PlanTree) → core n new (grown cut t) ≡ grown next t
  core_next (leaf k) = refl
  core_next (over k t) = ap (λ (x : PlanTree). over k x) (capped_next t (core_next t))
  core_next (both k t u) =
      let left = capped_next t (core_next t) in
      let right = capped_next u (core_next u) in
      λ i. both k (left i) (right i)

  pub grown_next : (t : PlanTree) → root_of t ≢ n → grown next t ≡ inserted n new (grown cut t)
  grown_next t ne = sym (unwrapped t (core_next t) ∙ wrapped-not n new (root_of t) (grown next t) ne)

-- ---- lists

pub keep_ops-length : (new f : ℕ) (ns : List ℕ) → length (keep_ops new f ns) ≡ length ns
keep_ops-length new f [] = refl
keep_ops-length new f (n ∷ ns) = ap suc (keep_ops-length (new + 1) (f + 1) ns)

pub keep_functions-length : (new F : ℕ) (needs : ℕ → FieldSet) (ns : List ℕ) → length (keep_functions new F needs ns) ≡ length ns
keep_functions-length new F needs [] = refl
keep_functions-length new F needs (n ∷ ns) = ap suc (keep_functions-length (new + 1) F needs ns)

keep_ops-last : (new f m g : ℕ) (ns : List ℕ) (n : ℕ) → m ≡ new + length ns → g ≡ f + length ns
    → keep_ops new f (ns ++ n ∷ []) ≡ keep_ops new f ns ++ keep_op m g ∷ []
keep_ops-last new f m g [] n d e =
    let x : new ≡ m = omega (arith, d) in
    let y : f ≡ g = omega (arith, e) in
    λ i. keep_op (x i) (y i) ∷ []
keep_ops-last new f m g (k ∷ ks) n d e =
    ap (λ (l : List Op). keep_op new f ∷ l) (keep_ops-last (new + 1) (f + 1) m g ks n (omega (arith, d)) (omega (arith, e)))

keep_functions-last : (new F m : ℕ) (needs : ℕ → FieldSet) (ns : List ℕ) (n : ℕ) → m ≡ new + length ns
    → keep_functions new F needs (ns ++ n ∷ []) ≡ keep_functions new F needs ns ++ keep_function m F (needs n) ∷ []
keep_functions-last new F m needs [] n d = (let x : new ≡ m = omega (arith, d) in ap (λ (j : ℕ). keep_function j F (needs n) ∷ []) x)
keep_functions-last new F m needs (k ∷ ks) n d =
    ap (λ (l : List WithFields). keep_function new F (needs k) ∷ l) (keep_functions-last (new + 1) F m needs ks n (omega (arith, d)))

moved-last : (m new : ℕ) (ns : List ℕ) (n : ℕ) (ships : List Ship) → new ≡ m + length ns
    → moved_from m (ns ++ n ∷ []) ships ≡ set (set (moved_from m ns ships) new (get_or (moved_from m ns ships) n Forward)) n Forward
moved-last m new [] n ships e = (let is : m ≡ new = omega (arith, e) in ap (λ (k : ℕ). set (set ships k (get_or ships n Forward)) n Forward) is)
moved-last m new (k ∷ ks) n ships e = moved-last (m + 1) new ks n (set (set ships m (get_or ships k Forward)) k Forward) (omega (arith, e))

-- ---- one more Map

module _ (p : ProgramData) (tree : PlanTree) (needs : ℕ → FieldSet) (ns : List ℕ) where
  abbrev q : ProgramData
  q = with_keeps p tree needs ns

  abbrev now : PlanTree
  now = grown (cuts_from (length p.ops) ns) tree

  pub ops_length : length q.ops ≡ length p.ops + length ns
  ops_length =
      length-append p.ops (keep_ops (length p.ops) (length p.functions) ns)
      ∙ ap (λ (k : ℕ). length p.ops + k) (keep_ops-length (length p.ops) (length p.functions) ns)

  pub functions_length : length q.functions ≡ length p.functions + length ns
  functions_length =
      length-append p.functions (keep_functions (length p.ops) p.fields needs ns)
      ∙ ap (λ (k : ℕ). length p.functions + k) (keep_functions-length (length p.ops) p.fields needs ns)

  plan_is : (n : ℕ) → plan_with p tree (ns ++ n ∷ []) ≡ grown (cuts_from (length p.ops) (ns ++ n ∷ [])) tree
  plan_is n = by ns where
    by : (ns : List ℕ) → plan_with p tree (ns ++ n ∷ []) ≡ grown (cuts_from (length p.ops) (ns ++ n ∷ [])) tree
    by [] = refl
    by (k ∷ ks) = refl

  module _ (n : ℕ) (absent : IsAbsent n ns) (lt : n < length p.ops) (not_root : root_of tree ≢ n) where
    pub one_more_tree : grown (cuts_from (length p.ops) (ns ++ n ∷ [])) tree ≡ inserted n (length q.ops) now
    one_more_tree =
        grown_next (cuts_from (length p.ops) ns) (cuts_from (length p.ops) (ns ++ n ∷ [])) n (length q.ops)
        (is_next (length p.ops) (length q.ops) ns n absent lt ops_length) tree not_root

    pub one_more : with_keeps p tree needs (ns ++ n ∷ []) ≡ kept_into q now n (needs n)
    one_more =
        let functions =
        ap (λ (l : List WithFields). p.functions ++ l) (keep_functions-last (length p.ops) p.fields (length q.ops) needs ns n ops_length)
        ∙ sym (append_assoc p.functions (keep_functions (length p.ops) p.fields needs ns) (keep_function (length q.ops) p.fields (needs n) ∷ [])) in
        let ops =
        ap (λ (l : List Op). p.ops ++ l)
        (keep_ops-last (length p.ops) (length p.functions) (length q.ops) (length q.functions) ns n ops_length functions_length)
        ∙ sym (append_assoc p.ops (keep_ops (length p.ops) (length p.functions) ns) (keep_op (length q.ops) (length q.functions) ∷ [])) in
        let plan = plan_is n ∙ one_more_tree in
        λ i. record { version = p.version; fields = p.fields; functions = functions i; ops = ops i; plan = plan i; sink = p.sink }

    pub one_more_edge : (x : PhysicalData) → x.tree ≡ tree
        → with_cut_edges p x (ns ++ n ∷ []) ≡ inserted_above n (length q.ops) (with_cut_edges p x ns)
    one_more_edge x is =
        let trees =
        ap (grown (cuts_from (length p.ops) (ns ++ n ∷ []))) is ∙ one_more_tree
        ∙ ap (λ (t : PlanTree). inserted n (length q.ops) (grown (cuts_from (length p.ops) ns) t)) (sym is) in
        let ships = moved-last (length p.ops) (length q.ops) ns n x.ships ops_length in
        λ i. record { tree = trees i; workers = x.workers; ships = ships i }

-- ---- no Map

not_grown : (m : ℕ) (t : PlanTree) → grown (cuts_from m []) t ≡ t
not_grown m (leaf n) = refl
not_grown m (over n t) = ap (λ (x : PlanTree). over n x) (not_grown m t)
not_grown m (both n t u) = λ i. both n (not_grown m t i) (not_grown m u i)

pub none_edge : (p : ProgramData) (x : PhysicalData) → with_cut_edges p x [] ≡ x
none_edge p x = λ i. record { tree = not_grown (length p.ops) x.tree i; workers = x.workers; ships = x.ships }

pub none_more : (p : ProgramData) (tree : PlanTree) (needs : ℕ → FieldSet) → with_keeps p tree needs [] ≡ p
none_more p tree needs =
    λ i. record {
      version = p.version;
      fields = p.fields;
      functions = append-nil p.functions i;
      ops = append-nil p.ops i;
      plan = p.plan;
      sink = p.sink;
    }

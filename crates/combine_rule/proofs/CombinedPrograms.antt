-- A program with one combined Reduce, as the plan's operators see it.
use Rattle.std.proofs.Common.{◌≡◌, ◌≢◌, ◌<◌, ℕ, zero, suc, Bool, true, false, cond, inl, inr, List, [], ◌∷◌, ◌++◌, Option, Some, None, length, get_or, slice_get, set, take, refl, sym, ap, subst, ◌∙◌, arith, length-append}
use Rattle.std.proofs.lemmas.List.{get_or-set_same, get_or-set_other, length-set}
use Rattle.std.proofs.lemmas.Option.{slice_get_within}
use Rattle.pact_record.specs.declared.values.Value.{Value}
use Rattle.plan_trees.specs.declared.physicals.Ship.{Ship}
use Rattle.plan_trees.specs.declared.physicals.Ship.TheVariants.{Forward}
use Rattle.plan_trees.specs.Physicals.{PhysicalData}
use Rattle.plan_trees.specs.Inserted.{inserted_above}
use Rattle.plan_trees.specs.Plans.{PlanTree}
use Rattle.tac_syntax.specs.declared.declarations.OpKind.TheVariants.{Source, Reduce}
use Rattle.tac_syntax.specs.Code.{Code}
use Rattle.tac_syntax.specs.Call.{of_record, of_pair, of_group, of_groups, Out}
use Rattle.tac_syntax.specs.Valid.{WithFields}
use Rattle.pact_operators.specs.declared.operators.Op.{Op}
use Rattle.pact_operators.specs.PlanOps.{PlanOps, plan_ops, kind_in, kind_at, function_in, left_keys_in, right_keys_in, body_at, is_source_kind, sources_of, source_place}
use Rattle.pact_record.proofs.Lists.{AllByRecursion-slice_get}
use Rattle.pact_operators.specs.Programs.{ProgramData, IsProgram, IsOpOf, body_of}
use Rattle.pact_operators.proofs.OneMore.{slice_get-last, slice_get-other, body_of-more, body_of-last, calling-other, calling-at}
use Rattle.pact_operators.proofs.OwnFields.{body_of-some}
use Rattle.pact_operators.specs.Insertions.{calling, inserted_into, replaced_in}
use Rattle.combine_rule.specs.Splits.{IsSplitIn}
use Rattle.combine_rule.specs.Combined.{IsSameAt}

-- ---- places of sources

abbrev source-count : Bool → ℕ → ℕ
source-count true n = suc n
source-count false n = n

sources-cons : (op : Op) (ops : List Op) → length (sources_of (op ∷ ops)) ≡ source-count (is_source_kind op.kind) (length (sources_of ops))
sources-cons op ops = at (is_source_kind op.kind) where
  at : (b : Bool) → length (cond b (op ∷ sources_of ops) (sources_of ops)) ≡ source-count b (length (sources_of ops))
  at true = refl
  at false = refl

place-more : (ops : List Op) (op : Op) → is_source_kind op.kind ≡ false → (n : ℕ) → source_place (ops ++ op ∷ []) n ≡ source_place ops n
place-more ops op e zero = refl
place-more [] op e (suc n) = sources-cons op (take n []) ∙ (λ i. source-count (e i) (length (sources_of (take n [])))) ∙ none n where
  none : (n : ℕ) → source-count false (length (sources_of (take n []))) ≡ 0
  none zero = refl
  none (suc n) = refl
place-more (o ∷ ops) op e (suc n) = sources-cons o (take n (ops ++ op ∷ [])) ∙ ap (source-count (is_source_kind o.kind)) (place-more ops op e n) ∙ sym (sources-cons o (take n ops))

place-calling : (at k : ℕ) (ops : List Op) (n : ℕ) → source_place (calling at k ops) n ≡ source_place ops n
place-calling at k ops zero = refl
place-calling at k [] (suc n) = refl
place-calling zero k (o ∷ ops) (suc n) = sources-cons (record o { function = k }) (take n ops) ∙ sym (sources-cons o (take n ops))
place-calling (suc at) k (o ∷ ops) (suc n) =
    sources-cons o (take n (calling at k ops)) ∙ ap (source-count (is_source_kind o.kind)) (place-calling at k ops n) ∙ sym (sources-cons o (take n ops))

-- ---- a program with a sender and a merger

module _ (p : ProgramData) (program : IsProgram p) (inputs : List (List (List Value))) (op : Op) (at : ℕ) (own : WithFields) (tree : PlanTree) (sender merger : WithFields) (new_op : Op)
    (found : slice_get p.ops at ≡ Some op) (kind : op.kind ≡ Reduce) (function : slice_get p.functions op.function ≡ Some own)
    (new_kind : new_op.kind ≡ Reduce) (new_keys : new_op.left_keys ≡ op.left_keys) where
  abbrev new : ℕ
  new = length p.ops

  abbrev u : ProgramData
  u = replaced_in (inserted_into p new_op sender tree) at merger

  abbrev O : PlanOps
  O = plan_ops p inputs

  abbrev U : PlanOps
  U = plan_ops u inputs

  at_below : at < new
  at_below = slice_get_within p.ops at op found

  at_apart : at ≢ new
  at_apart e = omega (arith, at_below, e)

  same_op : (n : ℕ) → n ≢ at → n ≢ new → slice_get u.ops n ≡ slice_get p.ops n
  same_op n na nn = calling-other at _ (p.ops ++ record new_op { function = length p.functions } ∷ []) n na ∙ slice_get-other p.ops (record new_op { function = length p.functions }) n nn

  op_there : slice_get u.ops at ≡ Some (record op { function = length (p.functions ++ sender ∷ []) })
  op_there = calling-at at (length (p.functions ++ sender ∷ [])) (p.ops ++ record new_op { function = length p.functions } ∷ []) op (slice_get-other p.ops (record new_op { function = length p.functions }) at at_apart ∙ found)

  new_there : slice_get u.ops new ≡ Some (record new_op { function = length p.functions })
  new_there = calling-other at _ (p.ops ++ record new_op { function = length p.functions } ∷ []) new (λ e. at_apart (sym e)) ∙ slice_get-last p.ops (record new_op { function = length p.functions })

  no_source : is_source_kind new_op.kind ≡ false
  no_source = ap is_source_kind new_kind

  rows_same : (n : ℕ) → U.rows n ≡ O.rows n
  rows_same n = ap (λ (k : ℕ). get_or inputs k [])
      (place-calling at (length (p.functions ++ sender ∷ [])) (p.ops ++ record new_op { function = length p.functions } ∷ []) n ∙ place-more p.ops (record new_op { function = length p.functions }) no_source n)

  called_below : (n : ℕ) (x : Op) → slice_get p.ops n ≡ Some x → (x.kind ≡ Source → ⊥) → x.function < length p.functions
  called_below n x e o = elim (AllByRecursion-slice_get (IsOpOf p.fields p.functions) p.ops n x program.ops e) as (λ _. x.function < length p.functions) [
    | inl s ↦ absurd (o s)
    | inr h ↦ slice_get_within p.functions x.function h.called h.function
  ]

  function_below : (n : ℕ) → (kind_at p.ops n ≡ Source → ⊥) → function_in (slice_get p.ops n) < length p.functions
  function_below n ne = by (slice_get p.ops n) refl ne where
    by : (g : Option Op) → slice_get p.ops n ≡ g → (kind_in g ≡ Source → ⊥) → function_in g < length p.functions
    by None e o = absurd (o refl)
    by (Some x) e o = called_below n x e o

  body_same : (n : ℕ) → n ≢ at → n ≢ new → (kind_at p.ops n ≡ Source → ⊥) → body_at u n ≡ body_at p n
  body_same n na nn ne =
      let lt = function_below n ne in
      ap (λ (g : Option Op). body_of u.functions (function_in g)) (same_op n na nn)
      ∙ body_of-more (p.functions ++ sender ∷ []) (merger ∷ []) (function_in (slice_get p.ops n)) (omega (arith, lt, length-append p.functions (sender ∷ [])))
      ∙ body_of-more p.functions (sender ∷ []) (function_in (slice_get p.ops n)) lt

  pub same_at : (n : ℕ) → n ≢ at → n ≢ new → IsSameAt O U n
  same_at n na nn =
      let e = same_op n na nn in
      record {
        nulls = refl;
        kind = ap kind_in e;
        rows = rows_same n;
        calls = λ ne. let b = body_same n na nn ne in record {
          of_record = λ i row. Out p.fields (b i) (of_record row);
          of_pair = λ i l r. Out p.fields (b i) (of_pair l r);
          of_group = λ i k g. Out p.fields (b i) (of_group k g);
          of_groups = λ i k l r. Out p.fields (b i) (of_groups k l r);
        };
        left_keys = ap left_keys_in e;
        right_keys = ap right_keys_in e;
      }

  pub kinds : (O.kind at ≡ Reduce) × (U.kind at ≡ Reduce) × (U.kind new ≡ Reduce)
  kinds = (ap kind_in found ∙ kind, ap kind_in op_there ∙ kind, ap kind_in new_there ∙ new_kind)

  pub keys : (O.left_keys at ≡ op.left_keys) × (U.left_keys at ≡ O.left_keys at) × (U.left_keys new ≡ O.left_keys at)
  keys =
      let own_keys = ap left_keys_in found in
      (own_keys, ap left_keys_in op_there ∙ sym own_keys, ap left_keys_in new_there ∙ new_keys ∙ sym own_keys)

  -- ---- the three bodies

  own_body : body_at p at ≡ own.function.body
  own_body = ap (λ (g : Option Op). body_of p.functions (function_in g)) found ∙ body_of-some p.functions op.function own function

  merger_body : body_at u at ≡ merger.function.body
  merger_body = ap (λ (g : Option Op). body_of u.functions (function_in g)) op_there ∙ body_of-last (p.functions ++ sender ∷ []) merger

  sender_body : body_at u new ≡ sender.function.body
  sender_body =
      ap (λ (g : Option Op). body_of u.functions (function_in g)) new_there
      ∙ body_of-more (p.functions ++ sender ∷ []) (merger ∷ []) (length p.functions) (omega (arith, length-append p.functions (sender ∷ [])))
      ∙ body_of-last p.functions sender

  abbrev pub SplitBodies : List ℕ → Code → Code → Code → Type 0
  SplitBodies ks a b c = IsSplitIn ks (λ k g. Out p.fields a (of_group k g)) (λ k g. Out p.fields b (of_group k g)) (λ k g. Out p.fields c (of_group k g))

  pub splits : SplitBodies op.left_keys own.function.body sender.function.body merger.function.body
      → IsSplitIn (O.left_keys at) (O.of_group at) (U.of_group new) (U.of_group at)
  splits h =
      subst (λ (ks : List ℕ). SplitBodies ks (body_at p at) (body_at u new) (body_at u at)) (sym keys.0)
      (subst (λ (a : Code). SplitBodies op.left_keys a (body_at u new) (body_at u at)) (sym own_body)
      (subst (λ (b : Code). SplitBodies op.left_keys own.function.body b (body_at u at)) (sym sender_body)
      (subst (λ (c : Code). SplitBodies op.left_keys own.function.body sender.function.body c) (sym merger_body) h)))

-- ---- ships

module _ (q : PhysicalData) (below new : ℕ) (apart : new ≢ below) (below_in : below < length q.ships) (new_in : new < length q.ships) where
  abbrev ships : List Ship
  ships = (inserted_above below new q).ships

  pub fed_forward : get_or ships below Forward ≡ Forward
  fed_forward = get_or-set_same (set q.ships new (get_or q.ships below Forward)) below Forward Forward (omega (arith, below_in, length-set q.ships new (get_or q.ships below Forward)))

  pub ship_kept : get_or ships new Forward ≡ get_or q.ships below Forward
  ship_kept = get_or-set_other (set q.ships new (get_or q.ships below Forward)) below new Forward Forward apart ∙ get_or-set_same q.ships new (get_or q.ships below Forward) Forward new_in

  pub other_ships : (n : ℕ) → n ≢ below → n ≢ new → get_or ships n Forward ≡ get_or q.ships n Forward
  other_ships n nb nn = get_or-set_other (set q.ships new (get_or q.ships below Forward)) below n Forward Forward nb ∙ get_or-set_other q.ships new n (get_or q.ships below Forward) Forward nn

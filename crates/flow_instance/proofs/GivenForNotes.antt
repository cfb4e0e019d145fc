-- The records that an operator gives for one more note.
use Rattle.std.proofs.Common.{◌≡◌, ◌↔◌, ◌==◌, ◌||◌, not, ℕ, zero, suc, Bool, true, false, cond, List, [], ◌∷◌, ◌++◌, slice_get, refl, ap, sym, ◌∙◌, subst, append-nil}
use Rattle.std.proofs.lemmas.List.{nil_from_length}
use Rattle.std.specs.Prelude.{filter, flat_map}
use Rattle.std.specs.List.Sorted.{IsPermutation}
use Rattle.std.proofs.lemmas.List.Concat.{flat_map-append}
use Rattle.std.proofs.lemmas.List.Elements.{filter-append}
use Rattle.std.proofs.lemmas.List.Sorted.{IsPermutation-refl, length_permutation}
use Rattle.tac_syntax.specs.declared.declarations.OpKind.{OpKind}
use Rattle.tac_syntax.specs.declared.declarations.OpKind.TheVariants.{Source, Map, Reduce, Match, Cross, CoGroup}
use Rattle.pact_bag.specs.Groups.{do_match}
use Rattle.pact_operators.specs.Allowed.{Bag}
use Rattle.pact_bag.specs.Pairs.{crossed, has_null, matched}
use Rattle.pact_record.proofs.Permutations.{filter_perm, from_permutation, to_permutation}
use Rattle.pact_record.specs.Record.{key_of}
use Rattle.pact_record.specs.declared.values.Value.{Value}
use Rattle.flow_instance.specs.declared.notes.Note.{Note}
use Rattle.flow_instance.specs.declared.notes.Note.TheVariants.{Batch, End}
use Rattle.flow_instance.specs.Local.{IsGiven, MayGive, KeepsRows, may_match, is_pipelined}
use Rattle.flow_instance.specs.Spots.{Spot, Port, is_edge}
use Rattle.flow_instance.specs.Steps.{GivesAtOnce, KeepsMore, kept_with, note_rows}
use Rattle.flow_instance.proofs.Bags.{is_same, joined, turned, beside, crossed-nil, crossed-append, crossed-left}

-- the rows of each port after the note
abbrev pub Grown : (ℕ → Bag) → ℕ → Note → (ℕ → Bag) → Type 0
Grown rows port note new = (p : ℕ) → IsPermutation (kept_with rows port note p) (new p)

pub nil_only : {X : Type 0} {ys : List X} → IsPermutation [] ys → ys ≡ []
nil_only {X} {ys} p = nil_from_length ys (length_permutation [] ys p)

-- nothing is added at another port
pub unchanged : (rows new : ℕ → Bag) (port p : ℕ) (note : Note) → (p == port) ≡ false → Grown rows port note new → IsPermutation (new p) (rows p)
unchanged rows new port p note e h =
    turned (joined (is_same (sym (append-nil (rows p)) ∙ ap (λ (b : Bool). rows p ++ cond b (note_rows note) []) (sym e))) (h p))

same_either : (b : Bool) → ◌≡◌ {A = Bag} [] (cond b [] [])
same_either true = refl
same_either false = refl

unended : (rows new : ℕ → Bag) (port p : ℕ) → Grown rows port End new → IsPermutation (new p) (rows p)
unended rows new port p h = turned (joined (is_same (sym (append-nil (rows p)) ∙ ap (λ (l : Bag). rows p ++ l) (same_either (p == port)))) (h p))

-- an end mark adds nothing
ended : (s : Spot) (kind : OpKind) (ports : List Port) (worker port : ℕ) (rows new : ℕ → Bag) (given out : Bag)
    → Grown rows port End new → IsGiven s kind ports worker rows given → out ≡ [] → IsGiven s kind ports worker new (given ++ out)
ended s kind ports worker port rows new given out grown g e = record {
  left = g.left;
  right = g.right;
  out = g.out;
  of_left = joined (unended rows new port 0 grown) g.of_left;
  of_right = joined (unended rows new port 1 grown) g.of_right;
  may = g.may;
  permuted = joined g.permuted (is_same (sym (append-nil given) ∙ ap (λ (l : Bag). given ++ l) (sym e)));
}

-- a note at port 0 of an operator on pairs, before any note was taken at port 1
left_first : (s : Spot) (kind : OpKind) (f : List Value → List Value → Bag) (p q : Port) (worker : ℕ) (rows new : ℕ → Bag) (batch given out : Bag)
    → ((ls rs o : Bag) → MayGive s kind (p ∷ q ∷ []) worker ls rs o → o ≡ crossed f ls rs) → ((ls rs : Bag) → MayGive s kind (p ∷ q ∷ []) worker ls rs (crossed f ls rs))
    → Grown rows 0 (Batch batch) new → rows 1 ≡ [] → IsGiven s kind (p ∷ q ∷ []) worker rows given → out ≡ [] → IsGiven s kind (p ∷ q ∷ []) worker new (given ++ out)
left_first s kind f p q worker rows new batch given out into from grown none g e =
    let right_nil : g.right ≡ [] = nil_only (subst (λ (l : Bag). IsPermutation l g.right) none g.of_right) in
    let was_nil : g.out ≡ [] = into g.left g.right g.out g.may ∙ ap (crossed f g.left) right_nil ∙ crossed-nil f g.left in
    let given_nil : given ≡ [] = nil_only (subst (λ (l : Bag). IsPermutation l given) was_nil g.permuted) in
    record {
      left = new 0;
      right = [];
      out = crossed f (new 0) [];
      of_left = IsPermutation-refl (new 0);
      of_right = joined (unchanged rows new 0 1 (Batch batch) refl grown) (is_same none);
      may = from (new 0) [];
      permuted = is_same (crossed-nil f (new 0) ∙ (λ i. sym given_nil i ++ sym e i));
    }

-- a note at port 1 of an operator on pairs
right_next : (s : Spot) (kind : OpKind) (f : List Value → List Value → Bag) (p q : Port) (worker : ℕ) (rows new : ℕ → Bag) (kept batch given out : Bag)
    → ((ls rs o : Bag) → MayGive s kind (p ∷ q ∷ []) worker ls rs o → o ≡ crossed f ls rs) → ((ls rs : Bag) → MayGive s kind (p ∷ q ∷ []) worker ls rs (crossed f ls rs))
    → Grown rows 1 (Batch batch) new → ((ls : Bag) → IsPermutation (rows 0) ls → IsPermutation (crossed f ls batch) (crossed f kept batch)) → IsGiven s kind (p ∷ q ∷ []) worker rows given → out ≡ crossed f kept batch → IsGiven s kind (p ∷ q ∷ []) worker new (given ++ out)
right_next s kind f p q worker rows new kept batch given out into from grown keeps g e = record {
  left = g.left;
  right = g.right ++ batch;
  out = crossed f g.left (g.right ++ batch);
  of_left = joined (unchanged rows new 1 0 (Batch batch) refl grown) g.of_left;
  of_right = joined (turned (grown 1)) (beside g.of_right (IsPermutation-refl batch));
  may = from g.left (g.right ++ batch);
  permuted = joined (crossed-append f g.left g.right batch)
      (beside (joined (is_same (sym (into g.left g.right g.out g.may))) g.permuted)
      (joined (keeps g.left g.of_left) (is_same (sym e))));
}

-- ---- a left record that matches nothing

no_call : (matches : Bool) → ◌≡◌ {A = Bag} (cond matches [] []) []
no_call true = refl
no_call false = refl

none_for : (nulls : Bool) (f : List Value → List Value → Bag) (ks js : List ℕ) (l : List Value) (rs : Bag) → (nulls || not (has_null (key_of ks l))) ≡ false → flat_map (matched nulls f ks js l) rs ≡ []
none_for nulls f ks js l [] e = refl
none_for nulls f ks js l (r ∷ rs) e =
    ap (λ (b : Bool). cond (do_match ks js l r) (cond b (f l r) []) [] ++ flat_map (matched nulls f ks js l) rs) e
    ∙ ap (λ (x : Bag). x ++ flat_map (matched nulls f ks js l) rs) (no_call (do_match ks js l r)) ∙ none_for nulls f ks js l rs e

-- dropping the left records that can't match doesn't change the output
only_matching : (nulls : Bool) (f : List Value → List Value → Bag) (ks js : List ℕ) (ls rs : Bag)
    → crossed (matched nulls f ks js) ls rs ≡ crossed (matched nulls f ks js) (filter (λ l. nulls || not (has_null (key_of ks l))) ls) rs
only_matching nulls f ks js [] rs = refl
only_matching nulls f ks js (l ∷ ls) rs = by (nulls || not (has_null (key_of ks l))) refl (only_matching nulls f ks js ls rs) where
  g : List Value → List Value → Bag
  g = matched nulls f ks js

  others : Bag
  others = filter (λ x. nulls || not (has_null (key_of ks x))) ls

  by : (b : Bool) → (nulls || not (has_null (key_of ks l))) ≡ b → crossed g ls rs ≡ crossed g others rs → flat_map (g l) rs ++ crossed g ls rs ≡ crossed g (cond b (l ∷ others) others) rs
  by true e same = ap (λ (rest : Bag). flat_map (g l) rs ++ rest) same
  by false e same = ap (λ (x : Bag). x ++ crossed g ls rs) (none_for nulls f ks js l rs e) ∙ same

-- an operator that works at once gives nothing for an end mark
pub none_at_end : (s : Spot) (kind : OpKind) (port : ℕ) (kept out : Bag) → GivesAtOnce s kind port kept End out ↔ (out ≡ [])
none_at_end s Match zero kept out = ((λ e. e), (λ e. e))
none_at_end s Match (suc port) kept out = ((λ e. e), (λ e. e))
none_at_end s Cross zero kept out = ((λ e. e), (λ e. e))
none_at_end s Cross (suc port) kept out = ((λ e. e), (λ e. e))
none_at_end s kind port kept out = ((λ e. e), (λ e. e))

pub given_more : (s : Spot) (kind : OpKind) (ports : List Port) (worker port from : ℕ) (note : Note) (rows new kept : ℕ → Bag) (given out : Bag)
    → is_pipelined kind ≡ true → is_edge (slice_get ports port) from worker ≡ true → Grown rows port note new → KeepsRows s kind rows kept → (port ≡ 0 → rows 1 ≡ [])
    → IsGiven s kind ports worker rows given → GivesAtOnce s kind port (kept 0) note out → IsGiven s kind ports worker new (given ++ out)
given_more s kind ports worker port from End rows new kept given out w e grown keeps order g o = ended s kind ports worker port rows new given out grown g ((none_at_end s kind port (kept 0) out).0 o)
given_more s kind (p ∷ q ∷ r ∷ ports) worker port from (Batch batch) rows new kept given out w e grown keeps order g o = absurd g.may
given_more s Source (p ∷ []) worker port from (Batch batch) rows new kept given out w e grown keeps order g o = absurd g.may
given_more s Source (p ∷ q ∷ []) worker port from (Batch batch) rows new kept given out w e grown keeps order g o = absurd g.may
given_more s Map (p ∷ []) worker zero from (Batch batch) rows new kept given out w e grown keeps order g o = record {
  left = g.left ++ batch;
  right = g.right;
  out = flat_map (s.ops.of_record s.at) (g.left ++ batch);
  of_left = joined (turned (grown 0)) (beside g.of_left (IsPermutation-refl batch));
  of_right = joined (unchanged rows new 0 1 (Batch batch) refl grown) g.of_right;
  may = refl;
  permuted = joined (is_same (flat_map-append (s.ops.of_record s.at) g.left batch)) (beside (joined (is_same (sym g.may)) g.permuted) (is_same (sym o)));
}
given_more s Map (p ∷ q ∷ []) worker port from (Batch batch) rows new kept given out w e grown keeps order g o = absurd g.may
given_more s Match (p ∷ []) worker port from (Batch batch) rows new kept given out w e grown keeps order g o = absurd g.may
given_more s Match (p ∷ q ∷ []) worker zero from (Batch batch) rows new kept given out w e grown keeps order g o =
    left_first s Match (matched s.ops.nulls (s.ops.of_pair s.at) (s.ops.left_keys s.at) (s.ops.right_keys s.at)) p q worker rows new batch given out (λ ls rs x m. m) (λ ls rs. refl) grown (order refl) g o
given_more s Match (p ∷ q ∷ []) worker (suc zero) from (Batch batch) rows new kept given out w e grown keeps order g o =
    let f : List Value → List Value → Bag = matched s.ops.nulls (s.ops.of_pair s.at) (s.ops.left_keys s.at) (s.ops.right_keys s.at) in
    right_next s Match f p q worker rows new (kept 0) batch given out (λ ls rs x m. m) (λ ls rs. refl) grown
    (λ ls same. joined (crossed-left f ls (rows 0) batch (turned same))
    (joined (is_same (only_matching s.ops.nulls (s.ops.of_pair s.at) (s.ops.left_keys s.at) (s.ops.right_keys s.at) (rows 0) batch)) (crossed-left f (filter (may_match s) (rows 0)) (kept 0) batch keeps)))
    g o
given_more s Cross (p ∷ []) worker port from (Batch batch) rows new kept given out w e grown keeps order g o = absurd g.may
given_more s Cross (p ∷ q ∷ []) worker zero from (Batch batch) rows new kept given out w e grown keeps order g o =
    left_first s Cross (s.ops.of_pair s.at) p q worker rows new batch given out (λ ls rs x m. m) (λ ls rs. refl) grown (order refl) g o
given_more s Cross (p ∷ q ∷ []) worker (suc zero) from (Batch batch) rows new kept given out w e grown keeps order g o =
    right_next s Cross (s.ops.of_pair s.at) p q worker rows new (kept 0) batch given out (λ ls rs x m. m) (λ ls rs. refl) grown
    (λ ls same. crossed-left (s.ops.of_pair s.at) ls (kept 0) batch (joined (turned same) keeps)) g o
given_more s kind ports worker port from note rows new kept given out w e grown keeps order g o = absurd (cc)

-- the output of an operator that waits for all its input
pub given_last : (s : Spot) (kind : OpKind) (ports : List Port) (worker port from : ℕ) (note : Note) (rows new kept : ℕ → Bag) (out : Bag)
    → is_pipelined kind ≡ false → is_edge (slice_get ports port) from worker ≡ true → Grown rows port note new → KeepsRows s kind rows kept
    → IsGiven s kind ports worker (kept_with kept port note) out → IsGiven s kind ports worker new out
given_last s kind (p ∷ q ∷ r ∷ ports) worker port from note rows new kept out w e grown keeps g = absurd g.may
given_last s Reduce (p ∷ q ∷ []) worker port from note rows new kept out w e grown keeps g = absurd g.may
given_last s CoGroup (p ∷ []) worker port from note rows new kept out w e grown keeps g = absurd g.may
given_last s Reduce (p ∷ []) worker port from note rows new kept out w e grown keeps g = record {
  left = g.left;
  right = new 1;
  out = g.out;
  of_left = joined (turned (grown 0)) (joined (beside keeps (IsPermutation-refl (cond (0 == port) (note_rows note) []))) g.of_left);
  of_right = IsPermutation-refl (new 1);
  may = g.may;
  permuted = g.permuted;
}
given_last s CoGroup (p ∷ q ∷ []) worker port from note rows new kept out w e grown keeps g = record {
  left = g.left;
  right = g.right;
  out = g.out;
  of_left = joined (turned (grown 0)) (joined (beside keeps.0 (IsPermutation-refl (cond (0 == port) (note_rows note) []))) g.of_left);
  of_right = joined (turned (grown 1)) (joined (beside keeps.1 (IsPermutation-refl (cond (1 == port) (note_rows note) []))) g.of_right);
  may = g.may;
  permuted = g.permuted;
}
given_last s kind ports worker port from note rows new kept out w e grown keeps g = absurd (cc)

-- the rows kept for one port, with those of the note
kept_port : (rows new kept more : ℕ → Bag) (port p : ℕ) (note : Note) → Grown rows port note new → IsPermutation (rows p) (kept p) → IsPermutation (kept_with kept port note p) (more p)
    → IsPermutation (new p) (more p)
kept_port rows new kept more port p note grown keeps m =
    joined (turned (grown p)) (joined (beside keeps (IsPermutation-refl (cond (p == port) (note_rows note) []))) m)

pub kept_more : (s : Spot) (kind : OpKind) (rows new kept more : ℕ → Bag) (port : ℕ) (note : Note) → Grown rows port note new → KeepsRows s kind rows kept → KeepsMore s kind kept port note more
    → KeepsRows s kind new more
kept_more s Source rows new kept more port note grown keeps m = tt
kept_more s Map rows new kept more port note grown keeps m = tt
kept_more s Reduce rows new kept more port note grown keeps m = kept_port rows new kept more port 0 note grown keeps m
kept_more s Match rows new kept more port note grown keeps m =
    let came = cond (0 == port) (note_rows note) [] in
    joined (to_permutation (filter_perm (may_match s) (from_permutation (new 0) (rows 0 ++ came) (turned (grown 0)))))
    (joined (is_same (filter-append (may_match s) (rows 0) came)) (joined (beside keeps (IsPermutation-refl (filter (may_match s) came))) m))
kept_more s Cross rows new kept more port note grown keeps m = kept_port rows new kept more port 0 note grown keeps m
kept_more s CoGroup rows new kept more port note grown keeps m =
    (kept_port rows new kept more port 0 note grown keeps.0 m.0, kept_port rows new kept more port 1 note grown keeps.1 m.1)

-- Shares of rows, and rows of queued instances, item by item.
use Rattle.std.proofs.Common.{◌≡◌, ◌<◌, ◌+◌, ◌%◌, ◌==◌, inl, inr, ℕ, zero, suc, replicate, Bool, true, false, cond, List, [], ◌∷◌, ◌++◌, drop, get_or, length, set, take, refl, ap, subst, sym, ◌∙◌, append-nil, arith, length-append, length-drop}
use Rattle.std.specs.List.{AllByRecursion}
use Rattle.std.proofs.lemmas.Bool.{cases_eq, eq-eqb, ne_eqb}
use Rattle.std.proofs.lemmas.List.{drop_more, get_or_append_left, get_or_default, get_or_past, get_or-set_other, get_or-set_same, length-replicate, length-set}
use Rattle.std.proofs.lemmas.List.Elements.{recursion_from_All}
use Rattle.std.proofs.lemmas.Option.{slice_get-get_or}
use Rattle.std.proofs.Math.Seq.{get_or-append_seam}
use Rattle.pact_bag.specs.Rows.{HaveOneWidth}
use Rattle.pact_operators.specs.Allowed.{Bag}
use Rattle.pact_operators.specs.Inputs.{AreInputsOf}
use Rattle.pact_operators.specs.PlanOps.{is_source_kind, kind_at, kind_in, source_place, sources_of}
use Rattle.pact_operators.specs.Programs.{ProgramData}
use Rattle.pact_operators.specs.declared.operators.Op.{Op}
use Rattle.pact_operators.proofs.SourceKinds.{source_kind}
use Rattle.pact_operators.proofs.SourceRows.{input_widths, place_below, sources_of-next}
use Rattle.pact_record.specs.Widths.{AreWide}
use Rattle.pact_record.specs.declared.values.Value.{Value}
use Rattle.pact_record.proofs.Lists.{AllByRecursion-cond, AllByRecursion-get_or}
use Rattle.plan_trees.specs.Sending.{share_from}
use Rattle.flow_instance.proofs.CarriedBatches.{IsNext, next_width}
use Rattle.flow_core.specs.Starting.{AreDealt, AreOwn, TakesOwn}

-- ---- shares

pub share-each : (P : List Value → Type 0) (n workers worker : ℕ) (rows : Bag) → AllByRecursion P rows → AllByRecursion P (share_from n workers worker rows)
share-each P n workers worker [] h = tt
share-each P n workers worker (row ∷ rows) h =
    let rest = share-each P (suc n) workers worker rows h.1 in
    AllByRecursion-cond P (n % workers == worker) (row ∷ share_from (suc n) workers worker rows) (share_from (suc n) workers worker rows) (h.0, rest) rest

cond-append : (b : Bool) (row : List Value) (xs ys : Bag) → cond b (row ∷ (xs ++ ys)) (xs ++ ys) ≡ cond b (row ∷ xs) xs ++ ys
cond-append true row xs ys = refl
cond-append false row xs ys = refl

share_from-last : (n workers worker : ℕ) (rows : Bag) (row : List Value)
    → share_from n workers worker (rows ++ row ∷ []) ≡ share_from n workers worker rows ++ cond ((n + length rows) % workers == worker) (row ∷ []) []
share_from-last n workers worker [] row = ap (λ (m : ℕ). cond (m % workers == worker) (row ∷ []) []) (omega arith)
share_from-last n workers worker (first ∷ rows) row =
    let rest = share_from-last (suc n) workers worker rows row in
    let place : suc n + length rows ≡ n + suc (length rows) = omega arith in
    ap (λ (l : Bag). cond (n % workers == worker) (first ∷ l) l) rest
    ∙ cond-append (n % workers == worker) first (share_from (suc n) workers worker rows) (cond ((suc n + length rows) % workers == worker) (row ∷ []) [])
    ∙ ap (λ (m : ℕ). cond (n % workers == worker) (first ∷ share_from (suc n) workers worker rows) (share_from (suc n) workers worker rows) ++ cond (m % workers == worker) (row ∷ []) []) place

-- with one row more
share_from-after : (workers worker : ℕ) (done : Bag) (row : List Value) → share_from 0 workers worker (done ++ row ∷ []) ≡ share_from 0 workers worker done ++ cond (length done % workers == worker) (row ∷ []) []
share_from-after workers worker done row =
    share_from-last 0 workers worker done row ∙ ap (λ (m : ℕ). share_from 0 workers worker done ++ cond (m % workers == worker) (row ∷ []) []) (omega arith)

-- ---- shares that grow

blank : (n k : ℕ) (none : Bag) → none ≡ [] → get_or (replicate n none) k [] ≡ []
blank zero k none e = get_or_past [] k [] (omega arith)
blank (suc n) zero none e = e
blank (suc n) (suc k) none e = blank n k none e

-- before the first row
pub none_dealt : (n workers : ℕ) (shares : List Bag) → shares ≡ replicate n [] → n ≡ workers → AreDealt workers [] shares
none_dealt n workers shares is all = record {
  long = ap length is ∙ length-replicate n [] ∙ all;
  each = λ worker below. ap (λ (l : List Bag). get_or l worker []) is ∙ blank n worker [] refl;
}

-- a single worker has all rows
one_has_all : (n : ℕ) (rows : Bag) → share_from n 1 0 rows ≡ rows
one_has_all n [] = refl
one_has_all n (row ∷ rows) =
    ap (λ (b : Bool). cond b (row ∷ share_from (suc n) 1 0 rows) (share_from (suc n) 1 0 rows)) (eq-eqb (n % 1) 0 (omega arith)) ∙ ap (λ (l : Bag). row ∷ l) (one_has_all (suc n) rows)

first_of_one : (rows : Bag) (worker : ℕ) → worker < 1 → get_or (rows ∷ []) worker [] ≡ share_from 0 1 worker rows
first_of_one rows zero below = sym (one_has_all 0 rows)
first_of_one rows (suc worker) below = absurd (omega (arith, below))

pub dealt_to_one : (workers : ℕ) (rows : Bag) (shares : List Bag) → workers ≡ 1 → shares ≡ rows ∷ [] → AreDealt workers rows shares
dealt_to_one workers rows shares one is =
    subst (λ (n : ℕ). AreDealt n rows shares) (sym one) (subst (AreDealt 1 rows) (sym is) (record { long = refl; each = λ worker below. first_of_one rows worker below }))

-- a share, however it was found
pub share_is : (workers to : ℕ) (done share : Bag) (shares : List Bag) → to < workers → share ≡ get_or shares to share → AreDealt workers done shares → share ≡ share_from 0 workers to done
share_is workers to done share shares less is dealt = is ∙ get_or_default shares to share [] (omega (arith, less, dealt.long)) ∙ dealt.each to less

-- The share that is handed out next is the worker's own.
pub record IsOwnShare (workers worker : ℕ) (rows share : Bag) : Type 0 where
  pub below : worker < workers
  pub is : share ≡ share_from 0 workers worker rows

pub own_share : (workers worker : ℕ) (rows share : Bag) (shares handed : List Bag) → AreDealt workers rows shares → worker ≡ length handed → length handed < length shares → share ≡ get_or shares (length handed) share
    → IsOwnShare workers worker rows share
own_share workers worker rows share shares handed dealt here less is =
    let below : worker < workers = omega (arith, less, here, dealt.long) in
    record { below = below; is = share_is workers worker rows share shares below (subst (λ (n : ℕ). share ≡ get_or shares n share) (sym here) is) dealt }

-- Rows that an instance on a worker may start with: an operator has none.
pub record MayStart (p : ProgramData) (at workers worker : ℕ) (share : Bag) : Type 0 where
  pub below : worker < workers
  pub wide : AreWide p.fields share
  pub none : is_source_kind (kind_at p.ops at) ≡ false → share ≡ []

-- Each share has the width of the rows, and is empty if they are.
pub own_may_start : (p : ProgramData) (at workers worker : ℕ) (rows share : Bag) → IsOwnShare workers worker rows share → AreWide p.fields rows → (is_source_kind (kind_at p.ops at) ≡ false → rows ≡ [])
    → MayStart p at workers worker share
own_may_start p at workers worker rows share own wide none = record {
  below = own.below;
  wide = subst (AreWide p.fields) (sym own.is) (share-each (λ (row : List Value). length row ≡ p.fields) 0 workers worker rows wide);
  none = λ other. own.is ∙ ap (share_from 0 workers worker) (none other);
}

-- the share to which a row goes has its width
pub share_width : (workers to : ℕ) (done rows share : Bag) (row : List Value) (shares : List Bag) → HaveOneWidth rows → IsNext done rows row → share ≡ share_from 0 workers to done
    → ((fields : ℕ) → AreWide fields rows → AreWide fields done) → AllByRecursion (λ held. length held ≡ length row) share
share_width workers to done rows share row shares one next is kept =
    let wide = recursion_from_All (λ (r : List Value). length r ≡ one.width) rows one.all in
    let own = subst (λ (w : ℕ). AreWide w done) (sym (next_width one.width done rows row wide next)) (kept one.width wide) in
    subst (AreWide (length row)) (sym is) (share-each (λ (r : List Value). length r ≡ length row) 0 workers to done own)

pub dealt-more : (workers to : ℕ) (done share more : Bag) (row : List Value) (shares : List Bag) → to < workers → share ≡ share_from 0 workers to done → to ≡ length done % workers → more ≡ share ++ row ∷ []
    → AreDealt workers done shares → AreDealt workers (done ++ row ∷ []) (set shares to more)
dealt-more workers to done share more row shares less is here m dealt = record {
  long = length-set shares to more ∙ dealt.long;
  each = λ w below. elim (cases_eq w to) as (λ _. get_or (set shares to more) w [] ≡ share_from 0 workers w (done ++ row ∷ [])) [
    | inl e ↦ subst (λ (v : ℕ). get_or (set shares to more) v [] ≡ share_from 0 workers v (done ++ row ∷ [])) (sym e)
        (get_or-set_same shares to more [] (omega (arith, less, dealt.long)) ∙ m ∙ ap (λ (l : Bag). l ++ row ∷ []) is
        ∙ sym (share_from-after workers to done row ∙ ap (λ (b : Bool). share_from 0 workers to done ++ cond b (row ∷ []) []) (eq-eqb (length done % workers) to (sym here))))
    | inr other ↦ get_or-set_other shares to w more [] other ∙ dealt.each w below
        ∙ sym (share_from-after workers w done row ∙ ap (λ (b : Bool). share_from 0 workers w done ++ cond b (row ∷ []) []) (ne_eqb (length done % workers) w (λ e. other (sym (here ∙ e))))
        ∙ append-nil (share_from 0 workers w done))
  ];
}

-- ---- what a source or operator has of its own

kind_is : (ops : List Op) (n : ℕ) (op : Op) → n < length ops → op ≡ get_or ops n op → kind_at ops n ≡ op.kind
kind_is ops n op less is = ap kind_in (slice_get-get_or ops n op less) ∙ ap (λ (o : Op). o.kind) (sym is)

counted : (b : Bool) (op : Op) → length (cond b (op ∷ []) []) ≡ cond b 1 0
counted true op = refl
counted false op = refl

source_place-next : (ops : List Op) (n : ℕ) (op : Op) → n < length ops → op ≡ get_or ops n op → source_place ops (n + 1) ≡ source_place ops n + cond (is_source_kind op.kind) 1 0
source_place-next ops n op less is =
    ap length (sources_of-next ops n op less is) ∙ length-append (sources_of (take n ops)) (cond (is_source_kind op.kind) (op ∷ []) [])
    ∙ ap (λ (k : ℕ). source_place ops n + k) (counted (is_source_kind op.kind) op)

-- the operator that the program has at a place
pub record IsOpAt (p : ProgramData) (n : ℕ) (op : Op) : Type 0 where
  pub less : n < length p.ops
  pub is : op ≡ get_or p.ops n op

pub op_at : (p : ProgramData) (ops : List Op) (n : ℕ) (op : Op) → ops ≡ p.ops → n < length ops → op ≡ get_or ops n op → IsOpAt p n op
op_at p ops n op same less is = record { less = subst (λ (l : List Op). n < length l) same less; is = is ∙ ap (λ (l : List Op). get_or l n op) same }

-- if the next one is a source, there are rows left for it
pub some_left : (p : ProgramData) (inputs left : List Bag) (n : ℕ) (op : Op) → AreInputsOf p inputs → IsOpAt p n op → left ≡ drop (source_place p.ops n) inputs → is_source_kind op.kind ≡ true → 0 < length left
some_left p inputs left n op are at behind source =
    let below = place_below p.fields p.ops inputs n are at.less (kind_is p.ops n op at.less at.is ∙ source_kind op.kind source) in
    omega (arith, below, ap length behind, length-drop (source_place p.ops n) inputs)

-- what was taken is its own, and the rows of the sources after it are left
pub record HasTaken (p : ProgramData) (inputs : List Bag) (at : ℕ) (own : Bag) (left : List Bag) : Type 0 where
  pub own_are : AreOwn p inputs at own
  pub none : is_source_kind (kind_at p.ops at) ≡ false → own ≡ []
  pub wide : AreWide p.fields own
  pub behind : left ≡ drop (source_place p.ops (at + 1)) inputs

pub has_taken : (p : ProgramData) (inputs left : List Bag) (n : ℕ) (op : Op) (own : Bag) (rest : List Bag) → AreInputsOf p inputs → IsOpAt p n op → left ≡ drop (source_place p.ops n) inputs
    → TakesOwn (is_source_kind op.kind) left own rest → HasTaken p inputs n own rest
has_taken p inputs left n op own rest are at behind taken = by_kind (is_source_kind op.kind) refl taken
  where
    by_kind : (b : Bool) → is_source_kind op.kind ≡ b → TakesOwn b left own rest → HasTaken p inputs n own rest
    by_kind true source t =
        let place = source_place p.ops n in
        let kind = kind_is p.ops n op at.less at.is in
        let within = place_below p.fields p.ops inputs n are at.less (kind ∙ source_kind op.kind source) in
        let parts = sym t ∙ behind ∙ drop_more inputs place [] within in
        let first : own ≡ get_or inputs place [] = cc parts in
        let others : rest ≡ drop (place + 1) inputs = cc parts in
        record {
          own_are = λ _. first;
          none = λ other. absurd (let clash : true ≡ false = sym source ∙ ap is_source_kind (sym kind) ∙ other in cc);
          wide = subst (AreWide p.fields) (sym first) (AllByRecursion-get_or (AreWide p.fields) inputs place [] within (input_widths p.fields (sources_of p.ops) inputs are));
          behind = others ∙ ap (λ (k : ℕ). drop k inputs) (sym (source_place-next p.ops n op at.less at.is ∙ ap (λ (b : Bool). place + cond b 1 0) source));
        }
    by_kind false other t =
        let place = source_place p.ops n in
        let kind = kind_is p.ops n op at.less at.is in
        let same : place + 0 ≡ place = omega arith in
        record {
          own_are = λ source. absurd (let clash : true ≡ false = ap is_source_kind (sym source ∙ kind) ∙ other in cc);
          none = λ _. t.0;
          wide = subst (AreWide p.fields) (sym t.0) tt;
          behind = t.1 ∙ behind ∙ ap (λ (k : ℕ). drop k inputs) (sym (source_place-next p.ops n op at.less at.is ∙ ap (λ (b : Bool). place + cond b 1 0) other ∙ same));
        }

-- ---- one item more

pub each_last : {X : Type 0} (P : ℕ → X → Type 0) (xs : List X) (x d : X) (n : ℕ) → length xs ≡ n → ((k : ℕ) → k < n → P k (get_or xs k d)) → P n x
    → (k : ℕ) → k < n + 1 → P k (get_or (xs ++ x ∷ []) k d)
each_last P xs x d n long h last k below = elim (cases_eq k n) as (λ _. P k (get_or (xs ++ x ∷ []) k d)) [
  | inl e ↦
      let found : get_or (xs ++ x ∷ []) k d ≡ x = ap (λ (m : ℕ). get_or (xs ++ x ∷ []) m d) (e ∙ sym long) ∙ get_or-append_seam xs x [] d in
      subst (P k) (sym found) (subst (λ (m : ℕ). P m x) (sym e) last)
  | inr other ↦
      let less : k < n = omega (arith, below, other) in
      subst (P k) (sym (get_or_append_left xs (x ∷ []) d k (omega (arith, less, long)))) (h k less)
]

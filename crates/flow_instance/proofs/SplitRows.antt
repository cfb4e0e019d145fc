-- Rows that are divided among workers.
use Rattle.std.proofs.Common.{◌≡◌, ◌<◌, ◌==◌, inl, inr, ℕ, Bool, cond, List, [], ◌∷◌, ◌++◌, length, replicate, get_or, refl, slice_set, ap, sym, ◌∙◌, subst, arith, append_assoc, append-nil}
use Rattle.std.proofs.lemmas.Bool.{cases_eq, eq-eqb, ne_eqb}
use Rattle.std.proofs.lemmas.List.{get_or-set_other, get_or-set_same, get_or_default, length-replicate, length-set}
use Rattle.std.proofs.lemmas.List.Elements.{filter-append, recursion_from_All}
use Rattle.pact_bag.specs.Rows.{HaveOneWidth}
use Rattle.pact_operators.specs.Allowed.{Bag}
use Rattle.pact_record.proofs.Lists.{AllByRecursion-append, AllByRecursion-last}
use Rattle.pact_record.specs.Hash.{target}
use Rattle.pact_record.specs.Record.{key_of}
use Rattle.pact_record.specs.Widths.{AreWide}
use Rattle.pact_record.specs.declared.values.Value.{Value}
use Rattle.plan_trees.specs.Sending.{goes, sent}
use Rattle.plan_trees.specs.declared.physicals.Ship.TheVariants.{Partition}
use Rattle.plan_trees.proofs.Ships.{get_or_blank}
use Rattle.flow_instance.proofs.CarriedBatches.{IsNext, next_width, rows_for-append}
use Rattle.flow_instance.proofs.NotesForReceivers.{as_sent, is_longer, none_sent, others_same}
use Rattle.flow_instance.specs.Local.{rows_for}
use Rattle.flow_instance.specs.Sending.{AreCarried, AreDivided, IsSent}
use Rattle.flow_instance.specs.declared.addressed_notes.AddressedNote.{AddressedNote}

pub more_wide : (done rows : Bag) (row : List Value) → IsNext done rows row → ((fields : ℕ) → AreWide fields rows → AreWide fields done) → (fields : ℕ) → AreWide fields rows → AreWide fields (done ++ row ∷ [])
more_wide done rows row n kept fields wide = AllByRecursion-last (λ (r : List Value). length r ≡ fields) done row (kept fields wide) (next_width fields done rows row wide n)

-- ---- a worker's open batch is replaced

-- the batch that was lent
pub held_is : (held : List Bag) (to : ℕ) (part : Bag) → to < length held → part ≡ get_or held to part → part ≡ get_or held to []
held_is held to part less is = is ∙ get_or_default held to part [] less

put_wide : (fields to : ℕ) (held : List Bag) (put : Bag) → to < length held → ((t : ℕ) → AreWide fields (get_or held t [])) → AreWide fields put → (t : ℕ) → AreWide fields (get_or (slice_set held to put) t [])
put_wide fields to held put less wide ok t = elim (cases_eq t to) as (λ _. AreWide fields (get_or (slice_set held to put) t [])) [
  | inl e ↦ subst (λ (u : ℕ). AreWide fields (get_or (slice_set held to put) u [])) (sym e) (subst (AreWide fields) (sym (get_or-set_same held to put [] less)) ok)
  | inr other ↦ subst (AreWide fields) (sym (get_or-set_other held to t put [] other)) (wide t)
]

-- ---- a row is added to its worker's open batch

sent-last : (keys : List ℕ) (workers from to : ℕ) (done : Bag) (row : List Value) → sent (Partition keys) workers from to (done ++ row ∷ []) ≡ sent (Partition keys) workers from to done ++ cond (target workers (key_of keys row) == to) (row ∷ []) []
sent-last keys workers from to done row = filter-append (goes (Partition keys) workers from to) done (row ∷ [])

-- the worker to which the row goes holds it too, and the others hold what they held
held_more : (keys : List ℕ) (workers to : ℕ) (row : List Value) (held : List Bag) → to < length held → to ≡ target workers (key_of keys row)
    → (t : ℕ) → get_or (slice_set held to (get_or held to [] ++ row ∷ [])) t [] ≡ get_or held t [] ++ cond (target workers (key_of keys row) == t) (row ∷ []) []
held_more keys workers to row held less here t =
    let goes_there = target workers (key_of keys row) in
    let longer = get_or held to [] ++ row ∷ [] in
    elim (cases_eq t to) as (λ _. get_or (slice_set held to longer) t [] ≡ get_or held t [] ++ cond (goes_there == t) (row ∷ []) []) [
      | inl e ↦ subst (λ (u : ℕ). get_or (slice_set held to longer) u [] ≡ get_or held u [] ++ cond (goes_there == u) (row ∷ []) []) (sym e)
          (get_or-set_same held to longer [] less ∙ sym (ap (λ (b : Bool). get_or held to [] ++ cond b (row ∷ []) []) (eq-eqb goes_there to (sym here))))
      | inr other ↦ get_or-set_other held to t longer [] other ∙ sym (ap (λ (b : Bool). get_or held t [] ++ cond b (row ∷ []) []) (ne_eqb goes_there t (λ e. other (sym (here ∙ e)))) ∙ append-nil (get_or held t []))
    ]

pub divided_one : (fields workers from to : ℕ) (keys : List ℕ) (done part more : Bag) (row : List Value) (queue : List AddressedNote) (held : List Bag) → to < workers → to ≡ target workers (key_of keys row) → part ≡ get_or held to []
    → more ≡ part ++ row ∷ [] → length row ≡ fields → AreDivided fields workers keys from done queue held → AreDivided fields workers keys from (done ++ row ∷ []) queue (slice_set held to more)
divided_one fields workers from to keys done part more row queue held below here is m width h =
    let s = h.sent in
    let less : to < length held = omega (arith, below, h.long) in
    let put : more ≡ get_or held to [] ++ row ∷ [] = m ∙ ap (λ (l : Bag). l ++ row ∷ []) is in
    let comes : (t : ℕ) → Bag = λ t. cond (target workers (key_of keys row) == t) (row ∷ []) [] in
    record {
      long = length-set held to more ∙ h.long;
      wide = put_wide fields to held more less h.wide (subst (AreWide fields) (sym put) (AllByRecursion-append (λ (r : List Value). length r ≡ fields) (get_or held to []) (row ∷ []) (h.wide to) (width, tt)));
      sent = record {
        list = s.list;
        is = s.is;
        batches = s.batches;
        each = λ turn t early _ _. absurd (omega (arith, early));
        later = λ turn t first early tl its.
            ap (λ (l : Bag). rows_for t s.list ++ l) (ap (λ (l : Bag). get_or (slice_set held to l) t []) put ∙ held_more keys workers to row held less here t)
            ∙ sym (append_assoc (rows_for t s.list) (get_or held t []) (comes t))
            ∙ ap (λ (l : Bag). l ++ comes t) (s.later turn t first early tl its)
            ∙ sym (sent-last keys workers from t done row);
        others = s.others;
      };
    }

-- ---- a worker's open batch is queued

pub divided_full : (fields workers from to : ℕ) (keys : List ℕ) (rows part next : Bag) (old new : List AddressedNote) (held : List Bag) → to < workers → part ≡ get_or held to [] → next ≡ []
    → (AreWide fields part → AreCarried fields to part old new) → AreDivided fields workers keys from rows old held → AreDivided fields workers keys from rows new (slice_set held to next)
divided_full fields workers from to keys rows part next old new held below is none carried h =
    let s = h.sent in
    let less : to < length held = omega (arith, below, h.long) in
    let c = carried (subst (AreWide fields) (sym is) (h.wide to)) in
    let all = s.list ++ c.more in
    let left : (t : ℕ) → Bag = λ t. get_or (slice_set held to next) t [] in
    let same : (t : ℕ) → rows_for t all ++ left t ≡ rows_for t s.list ++ get_or held t [] = λ t. elim (cases_eq t to) as (λ _. rows_for t all ++ left t ≡ rows_for t s.list ++ get_or held t []) [
      | inl e ↦ subst (λ (u : ℕ). rows_for u all ++ left u ≡ rows_for u s.list ++ get_or held u []) (sym e)
          (ap (λ (l : Bag). rows_for to all ++ l) (get_or-set_same held to next [] less ∙ none) ∙ append-nil (rows_for to all) ∙ rows_for-append to s.list c.more ∙ ap (λ (l : Bag). rows_for to s.list ++ l) (c.carried ∙ is))
      | inr other ↦ ap (λ (l : Bag). l ++ left t) (others_same fields to t s.list c.more c.batches other) ∙ ap (λ (l : Bag). rows_for t s.list ++ l) (get_or-set_other held to t next [] other)
    ] in
    record {
      long = length-set held to next ∙ h.long;
      wide = put_wide fields to held next less h.wide (subst (AreWide fields) (sym none) tt);
      sent = record {
        list = all;
        is = is_longer s.list c.more old new c.behind s.is;
        batches = AllByRecursion-append (IsSent fields workers (Partition keys) from) s.list c.more s.batches (as_sent fields workers to from (Partition keys) c.more below refl c.batches);
        each = λ turn t early _ _. absurd (omega (arith, early));
        later = λ turn t first early tl its. same t ∙ s.later turn t first early tl its;
        others = λ t above. others_same fields to t s.list c.more c.batches (λ e. omega (arith, e, above, below)) ∙ s.others t above;
      };
    }

-- ---- the first row and the last

pub none_divided : (fields workers from : ℕ) (keys : List ℕ) (queue : List AddressedNote) (held : List Bag) → queue ≡ [] → held ≡ replicate workers [] → AreDivided fields workers keys from [] queue held
none_divided fields workers from keys queue held e none =
    let none_held : (to : ℕ) → get_or held to [] ≡ [] = λ to. ap (λ (l : List Bag). get_or l to []) none ∙ get_or_blank workers to [] in
    record {
      long = ap length none ∙ length-replicate workers _;
      wide = λ to. subst (AreWide fields) (sym (none_held to)) tt;
      sent = none_sent fields workers from (Partition keys) [] queue (λ to. get_or held to []) e none_held;
    }

-- in a loop over the rows, all have one width
module _ {workers from : ℕ} {keys : List ℕ} {done rows : Bag} {queue : List AddressedNote} {held : List Bag} (one : HaveOneWidth rows) (h : (fields : ℕ) → AreWide fields rows → AreDivided fields workers keys from done queue held) where
  divided : AreDivided one.width workers keys from done queue held
  divided = h one.width (recursion_from_All (λ (r : List Value). length r ≡ one.width) rows one.all)

  pub held_long : length held ≡ workers
  held_long = divided.long

  pub held_wide : (row : List Value) → IsNext done rows row → (to : ℕ) → AreWide (length row) (get_or held to [])
  held_wide row n to = subst (λ (w : ℕ). AreWide w (get_or held to [])) (sym (next_width one.width done rows row (recursion_from_All (λ (r : List Value). length r ≡ one.width) rows one.all) n)) (divided.wide to)

-- Pipes that are closed one after the other.
use Rattle.std.proofs.Common.{◌≡◌, ◌≢◌, ◌<◌, ◌⊎◌, inl, inr, ◌+◌, ◌*◌, ◌/◌, ◌%◌, ℕ, false, List, [], ◌∷◌, ◌++◌, append-nil, arith, sym, refl, ap, ◌∙◌, subst}
use Rattle.std.specs.Prelude.{Option, Some, None}
use Rattle.std.specs.List.{AllByRecursion}
use Rattle.std.proofs.lemmas.Bool.{cases_eq, cases_lt}
use Rattle.batch_channel.specs.Ends.{APipe, AnEnd}
use Rattle.flow_instance.specs.declared.notes.Note.{Note}
use Rattle.flow_instance.specs.declared.notes.PipeId.{PipeId}
use Rattle.flow_instance.specs.Events.{is_pipe}
use Rattle.flow_instance.specs.Worlds.{History}
use Rattle.flow_instance.proofs.StandsAfterEvents.{other_edge, other_from, other_to}
use Rattle.flow_core.specs.Left.{IsPipeOf, LeftOn, left_on}
use Rattle.flow_core.proofs.LeftWorlds.{left_elsewhere, left_here, left_on-append}
use Rattle.flow_run.specs.Ends.{IsEndOf, PipeTables, notes_in}
use Rattle.flow_run.specs.Tables.{IsTakenOut, cell_in}
use Rattle.flow_run.specs.WorkerData.{AreEnds, AreGathered, Goes, IsBeyond, IsClosed, IsThere, IsWithout, WorkerData, history_of, put_at, take_at}

-- ---- places

abbrev pub IsElsewhere : (a b c edge from to : ℕ) → Type 0
IsElsewhere a b c edge from to = (a ≢ edge) ⊎ ((b ≢ from) ⊎ (c ≢ to))

each_place : (P : ℕ → ℕ → ℕ → Type 0) (edge from to : ℕ) → P edge from to → ((a b c : ℕ) → IsElsewhere a b c edge from to → P a b c) → (a b c : ℕ) → P a b c
each_place P edge from to here there a b c = elim (cases_eq a edge) as (λ _. P a b c) [
  | inr e ↦ there a b c (inl e)
  | inl e ↦ elim (cases_eq b from) as (λ _. P a b c) [
    | inr f ↦ there a b c (inr (inl f))
    | inl f ↦ elim (cases_eq c to) as (λ _. P a b c) [
      | inr h ↦ there a b c (inr (inr h))
      | inl h ↦ subst (λ (x : ℕ). P x b c) (sym e) (subst (λ (x : ℕ). P edge x c) (sym f) (subst (P edge from) (sym h) here))
    ]
  ]
]

apart : (id : PipeId) (a b c : ℕ) → IsElsewhere a b c id.edge id.from id.to → is_pipe id a b c ≡ false
apart id a b c other = elim other as (λ _. is_pipe id a b c ≡ false) [
  | inl e ↦ other_edge id a b c e
  | inr more ↦ elim more as (λ _. is_pipe id a b c ≡ false) [ inl e ↦ other_from id a b c e | inr e ↦ other_to id a b c e ]
]

pub no_some : {X : Type 0} (o : Option X) (x : X) → o ≡ None → o ≡ Some x → ⊥
no_some None x e f = cc
no_some (Some y) x e f = cc

pub no_end : (o : Option APipe) (e : Option AnEnd) → o ≡ None → IsEndOf o e → e ≡ None
no_end None None h i = refl
no_end None (Some e) h i = absurd i
no_end (Some p) e h i = absurd (no_some (Some p) p h refl)

pub ends_none : (o : Option APipe) (e : Option AnEnd) → o ≡ None → e ≡ None → IsEndOf o e
ends_none o e f g = subst (λ (x : Option APipe). IsEndOf x e) (sym f) (subst (IsEndOf None) (sym g) tt)

-- ---- one step after another

pub goes_then : {pipes mid last : PipeTables} {ws ws_mid ws_last : List WorkerData} {lists lists_mid lists_last : List LeftOn} → Goes pipes ws lists mid ws_mid lists_mid → Goes mid ws_mid lists_mid last ws_last lists_last
    → Goes pipes ws lists last ws_last lists_last
goes_then {pipes} {mid} {last} {ws} {ws_mid} {ws_last} {lists} {lists_mid} {lists_last} a b = record {
  ends = b.ends;
  hold = λ h x. b.hold h (a.hold h x);
  gone = λ edge from to x. b.gone edge from to (a.gone edge from to x);
  of_plan = λ p x. b.of_plan p (a.of_plan p x);
  instances = b.instances ∙ a.instances;
}

pub goes_first : (pipes : PipeTables) (ws : List WorkerData) (lists : List LeftOn) → AreEnds pipes ws → Goes pipes ws lists pipes ws lists
goes_first pipes ws lists e = record { ends = e; hold = λ h x. x; gone = λ edge from to x. x; of_plan = λ p x. x; instances = refl }

-- ---- a pipe that doesn't exist

same_pipes : (pipes new : PipeTables) (edge from to : ℕ) → IsTakenOut pipes edge from to new → cell_in pipes edge from to ≡ None → (a b c : ℕ) → cell_in new a b c ≡ cell_in pipes a b c
same_pipes pipes new edge from to t none = each_place (λ a b c. cell_in new a b c ≡ cell_in pipes a b c) edge from to (t.here ∙ sym none) t.elsewhere

pub goes_none : (pipes new : PipeTables) (ws : List WorkerData) (lists : List LeftOn) (edge from to : ℕ) → IsTakenOut pipes edge from to new → cell_in pipes edge from to ≡ None → AreEnds pipes ws → Goes pipes ws lists new ws lists
goes_none pipes new ws lists edge from to t none e =
    let same = same_pipes pipes new edge from to t none in
    record {
      ends = record {
        puts = λ a b c. subst (λ (o : Option APipe). IsEndOf o (put_at ws a b c)) (sym (same a b c)) (e.puts a b c);
        takes = λ a b c. subst (λ (o : Option APipe). IsEndOf o (take_at ws a b c)) (sym (same a b c)) (e.takes a b c);
      };
      hold = λ h x a b c. elim (x a b c) as (λ _. IsThere ws lists a b c (h.put a b c) (h.taken a b c) ⊎ IsClosed new lists a b c (h.put a b c) (h.taken a b c)) [
        | inl there ↦ inl there
        | inr closed ↦ inr (record { gone = same a b c ∙ closed.gone; whole = closed.whole })
      ];
      gone = λ a b c x. same a b c ∙ x;
      of_plan = λ p x. record { there = λ a b c pipe is. x.there a b c pipe (sym (same a b c) ∙ is); listed = x.listed };
      instances = refl;
    }

-- ---- a pipe that is closed

all_more : {X : Type 0} (P : X → Type 0) (xs : List X) (x : X) → AllByRecursion P xs → P x → AllByRecursion P (xs ++ x ∷ [])
all_more P [] x h p = (p, tt)
all_more P (y ∷ xs) x h p = (h.0, all_more P xs x h.1 p)

module _ (pipes new : PipeTables) (ws rest : List WorkerData) (lists more : List LeftOn) (id : PipeId) (pipe : APipe) (notes : List Note) (t : IsTakenOut pipes id.edge id.from id.to new)
    (is : cell_in pipes id.edge id.from id.to ≡ Some pipe) (e : AreEnds pipes ws) (w : IsWithout ws id.edge id.from id.to rest)
    (whole : notes_in (put_at ws id.edge id.from id.to) ≡ notes_in (take_at ws id.edge id.from id.to) ++ notes) (more_is : more ≡ lists ++ record { pipe = id; notes = notes } ∷ []) where
  abbrev one : LeftOn
  one = record { pipe = id; notes = notes }

  left_more : (a b c : ℕ) → left_on more a b c ≡ left_on lists a b c ++ left_on (one ∷ []) a b c
  left_more a b c = ap (λ (l : List LeftOn). left_on l a b c) more_is ∙ left_on-append lists (one ∷ []) a b c

  left_same : (a b c : ℕ) → IsElsewhere a b c id.edge id.from id.to → left_on more a b c ≡ left_on lists a b c
  left_same a b c other = left_more a b c ∙ ap (λ (l : List Note). left_on lists a b c ++ l) (left_elsewhere one a b c (apart id a b c other)) ∙ append-nil (left_on lists a b c)

  abbrev HoldsAt : History → PipeTables → List WorkerData → List LeftOn → (a b c : ℕ) → Type 0
  HoldsAt h pipes ws lists a b c = IsThere ws lists a b c (h.put a b c) (h.taken a b c) ⊎ IsClosed pipes lists a b c (h.put a b c) (h.taken a b c)

  hold_here : (h : History) → HoldsAt h pipes ws lists id.edge id.from id.to → HoldsAt h new rest more id.edge id.from id.to
  hold_here h x = elim x as (λ _. HoldsAt h new rest more id.edge id.from id.to) [
    | inl there ↦ inr (record {
      gone = t.here;
      whole = sym there.put_is ∙ whole ∙ ap (λ (l : List Note). l ++ notes) there.taken_is
          ∙ ap (λ (l : List Note). h.taken id.edge id.from id.to ++ l)
          (sym (left_more id.edge id.from id.to ∙ ap (λ (l : List Note). l ++ left_on (one ∷ []) id.edge id.from id.to) there.none ∙ left_here one));
    })
    | inr closed ↦ absurd (no_some (cell_in pipes id.edge id.from id.to) pipe closed.gone is)
  ]

  hold_there : (h : History) (a b c : ℕ) → IsElsewhere a b c id.edge id.from id.to → HoldsAt h pipes ws lists a b c → HoldsAt h new rest more a b c
  hold_there h a b c other x = elim x as (λ _. HoldsAt h new rest more a b c) [
    | inl there ↦ inl (record {
      put_is = ap notes_in (w.puts a b c other) ∙ there.put_is;
      taken_is = ap notes_in (w.takes a b c other) ∙ there.taken_is;
      none = left_same a b c other ∙ there.none;
    })
    | inr closed ↦ inr (record {
      gone = t.elsewhere a b c other ∙ closed.gone;
      whole = closed.whole ∙ ap (λ (l : List Note). h.taken a b c ++ l) (sym (left_same a b c other));
    })
  ]

  pub goes_closed : Goes pipes ws lists new rest more
  goes_closed = record {
    ends = record {
      puts = each_place (λ a b c. IsEndOf (cell_in new a b c) (put_at rest a b c)) id.edge id.from id.to (ends_none (cell_in new id.edge id.from id.to) (put_at rest id.edge id.from id.to) t.here w.put)
          (λ a b c other. subst (λ (o : Option APipe). IsEndOf o (put_at rest a b c)) (sym (t.elsewhere a b c other)) (subst (IsEndOf (cell_in pipes a b c)) (sym (w.puts a b c other)) (e.puts a b c)));
      takes = each_place (λ a b c. IsEndOf (cell_in new a b c) (take_at rest a b c)) id.edge id.from id.to (ends_none (cell_in new id.edge id.from id.to) (take_at rest id.edge id.from id.to) t.here w.take)
          (λ a b c other. subst (λ (o : Option APipe). IsEndOf o (take_at rest a b c)) (sym (t.elsewhere a b c other)) (subst (IsEndOf (cell_in pipes a b c)) (sym (w.takes a b c other)) (e.takes a b c)));
    };
    hold = λ h x. each_place (HoldsAt h new rest more) id.edge id.from id.to (hold_here h (x id.edge id.from id.to)) (λ a b c other. hold_there h a b c other (x a b c));
    gone = each_place (λ a b c. cell_in pipes a b c ≡ None → cell_in new a b c ≡ None) id.edge id.from id.to (λ _. t.here) (λ a b c other none. t.elsewhere a b c other ∙ none);
    of_plan = λ p x. record {
      there = each_place (λ a b c. (q : APipe) → cell_in new a b c ≡ Some q → IsPipeOf p (record { edge = a; from = b; to = c })) id.edge id.from id.to
          (λ q is_there. absurd (no_some (cell_in new id.edge id.from id.to) q t.here is_there))
          (λ a b c other q is_there. x.there a b c q (sym (t.elsewhere a b c other) ∙ is_there));
      listed = subst (AllByRecursion (λ (l : LeftOn). IsPipeOf p l.pipe)) (sym more_is) (all_more (λ (l : LeftOn). IsPipeOf p l.pipe) lists one x.listed (x.there id.edge id.from id.to pipe is));
    };
    instances = w.instances;
  }

-- ---- all pipes

-- each place has a number
abbrev pub number_of : (edge from to : ℕ) → ℕ
number_of edge from to = edge * 256 + (from * 16 + to)

-- the pipes with the first `n` numbers are gone
abbrev pub AreGone : PipeTables → (count : ℕ) → Type 0
AreGone pipes count = (edge from to : ℕ) → from < 16 → to < 16 → number_of edge from to < count → cell_in pipes edge from to ≡ None

pub gone_none : (pipes : PipeTables) → AreGone pipes 0
gone_none pipes edge from to f t less = absurd (omega (arith, less))

pub gone_next : (pipes new : PipeTables) (n : ℕ) → AreGone pipes n → ((a b c : ℕ) → cell_in pipes a b c ≡ None → cell_in new a b c ≡ None) → cell_in new (n / 256) (n / 16 % 16) (n % 16) ≡ None → AreGone new (n + 1)
gone_next pipes new n gone keeps here edge from to f t less = elim (cases_eq (number_of edge from to) n) as (λ _. cell_in new edge from to ≡ None) [
  | inr other ↦ keeps edge from to (gone edge from to f t (omega (arith, less, other)))
  | inl same ↦
      let e : n / 256 ≡ edge = omega (arith, same, f, t) in
      let g : n / 16 % 16 ≡ from = omega (arith, same, f, t) in
      let h : n % 16 ≡ to = omega (arith, same, f, t) in
      (λ i. cell_in new (sym e i) (sym g i) (sym h i)) ∙ here
]

all_gone : (ops : ℕ) (pipes new : PipeTables) → ((edge from to : ℕ) → IsBeyond ops edge from to → cell_in pipes edge from to ≡ None) → ((a b c : ℕ) → cell_in pipes a b c ≡ None → cell_in new a b c ≡ None) → AreGone new (256 * ops)
    → (edge from to : ℕ) → cell_in new edge from to ≡ None
all_gone ops pipes new inside keeps gone edge from to = elim (cases_lt edge ops) as (λ _. cell_in new edge from to ≡ None) [
  | inr more ↦ keeps edge from to (inside edge from to (inl more))
  | inl few ↦ elim (cases_lt from 16) as (λ _. cell_in new edge from to ≡ None) [
    | inr more ↦ keeps edge from to (inside edge from to (inr (inl more)))
    | inl from_few ↦ elim (cases_lt to 16) as (λ _. cell_in new edge from to ≡ None) [
      | inr more ↦ keeps edge from to (inside edge from to (inr (inr more)))
      | inl to_few ↦ gone edge from to from_few to_few (omega (arith, few, from_few, to_few))
    ]
  ]
]

pub gathered : (ops : ℕ) (pipes new : PipeTables) (ws rest : List WorkerData) (lists : List LeftOn) → ((edge from to : ℕ) → IsBeyond ops edge from to → cell_in pipes edge from to ≡ None) → Goes pipes ws [] new rest lists → AreGone new (256 * ops)
    → AreGathered pipes ws lists rest
gathered ops pipes new ws rest lists inside g gone =
    let none = all_gone ops pipes new inside g.gone gone in
    let h : History = history_of ws in
    let all = g.hold h (λ a b c. inl (record { put_is = refl; taken_is = refl; none = refl })) in
    record {
      whole = λ a b c. elim (all a b c) as (λ _. notes_in (put_at ws a b c) ≡ notes_in (take_at ws a b c) ++ left_on lists a b c) [
        | inr closed ↦ closed.whole
        | inl there ↦
            let no_put : notes_in (put_at ws a b c) ≡ [] = sym there.put_is ∙ ap notes_in (no_end (cell_in new a b c) (put_at rest a b c) (none a b c) (g.ends.puts a b c)) in
            let no_take : notes_in (take_at ws a b c) ≡ [] = sym there.taken_is ∙ ap notes_in (no_end (cell_in new a b c) (take_at rest a b c) (none a b c) (g.ends.takes a b c)) in
            no_put ∙ sym (ap (λ (l : List Note). l ++ left_on lists a b c) no_take ∙ there.none)
      ];
      of_plan = λ p there. (g.of_plan p (record { there = there; listed = tt })).listed;
      instances = g.instances;
    }

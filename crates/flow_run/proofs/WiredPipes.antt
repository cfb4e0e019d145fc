-- Pipes that are made one after the other.
use Rattle.std.proofs.Common.{◌≡◌, ◌≢◌, ◌<◌, ◌≤◌, ◌+◌, ◌*◌, ◌⊎◌, inl, inr, ◌&&◌, ℕ, Bool, true, false, [], Option, Some, None, get_or, refl, ap, sym, ◌∙◌, subst, arith}
use Rattle.std.specs.Prelude.{nat_lt}
use Rattle.std.proofs.lemmas.Bool.{and_from, and_left, and_parts, and_right, cases_Bool, cases_eq, cases_lt, le-ltb, lt-ltb, ltb-true}
use Rattle.batch_channel.specs.Ends.{APipe, AnEnd}
use Rattle.plan_trees.specs.Physicals.{PhysicalData, ship_at}
use Rattle.plan_trees.specs.Sending.{has_out}
use Rattle.flow_run.specs.Ends.{ArePipes, ArePuts, AreTakes, IsEndOf, IsPipeIf, PipeTables, goes_along}
use Rattle.flow_run.specs.Tables.{IsBlank, IsShaped, cell_in}
use Rattle.flow_run.specs.Wires.{AreWired, EndTables, IsMade, IsWiredIf, new_end, number_of}

abbrev pub due : PhysicalData → (upto edge from to : ℕ) → Bool
due p upto edge from to = goes_along p edge from to && nat_lt (number_of edge from to) upto

pub workers_of : (p : PhysicalData) (edge from to : ℕ) → goes_along p edge from to ≡ true → (from < p.workers) × (to < p.workers)
workers_of p edge from to e =
    let both = and_parts (nat_lt from p.workers && nat_lt to p.workers) (has_out (ship_at p edge) from to) e in
    let each = and_parts (nat_lt from p.workers) (nat_lt to p.workers) both.0 in
    (ltb-true from p.workers each.0, ltb-true to p.workers each.1)

module _ (p : PhysicalData) (few : p.workers ≤ 16) (count depth : ℕ) where
  pub wired_first : (pipes : PipeTables) (puts takes : EndTables) → IsBlank pipes → IsBlank puts → IsBlank takes → IsShaped count p.workers p.workers pipes → IsShaped p.workers count p.workers puts → IsShaped p.workers count p.workers takes
      → AreWired p count depth 0 pipes puts takes
  wired_first pipes puts takes a b c d e f = record {
    each = λ edge from to. subst (λ (x : Bool). IsWiredIf x depth (cell_in pipes edge from to) (cell_in puts from edge to) (cell_in takes to edge from))
        (sym (and_right (goes_along p edge from to) (nat_lt (number_of edge from to) 0) (le-ltb (number_of edge from to) 0 (omega arith))))
        (a edge from to, b from edge to, c to edge from);
    pipe_places = d;
    put_places = e;
    take_places = f;
  }

  -- with one number more, only the pipe at its place is new
  due_else : (n edge from to e f t : ℕ) → number_of e f t ≡ n → f < 16 → t < 16 → (edge ≢ e) ⊎ ((from ≢ f) ⊎ (to ≢ t)) → due p n edge from to ≡ due p (n + 1) edge from to
  due_else n edge from to e f t is below_f below_t other = elim (cases_Bool (goes_along p edge from to)) as (λ _. due p n edge from to ≡ due p (n + 1) edge from to) [
    | inr stays ↦ and_left _ _ stays ∙ sym (and_left _ _ stays)
    | inl goes ↦
        let w = workers_of p edge from to goes in
        let apart : number_of edge from to ≢ n = λ same. elim other as (λ _. ⊥) [
          | inl x ↦ x (omega (arith, same, is, w.0, w.1, few, below_f, below_t))
          | inr y ↦ elim y as (λ _. ⊥) [
            | inl x ↦ x (omega (arith, same, is, w.0, w.1, few, below_f, below_t))
            | inr x ↦ x (omega (arith, same, is, w.0, w.1, few, below_f, below_t))
          ]
        ] in
        ap (λ (x : Bool). goes_along p edge from to && x) (elim (cases_lt (number_of edge from to) n) as (λ _. nat_lt (number_of edge from to) n ≡ nat_lt (number_of edge from to) (n + 1)) [
          | inl less ↦ lt-ltb _ n less ∙ sym (lt-ltb _ (n + 1) (omega (arith, less)))
          | inr more ↦ le-ltb _ n more ∙ sym (le-ltb _ (n + 1) (omega (arith, more, apart)))
        ])
  ]

  -- no pipe should exist at the place
  pub wired_skip : (n e f t : ℕ) (pipes : PipeTables) (puts takes : EndTables) → number_of e f t ≡ n → f < 16 → t < 16 → goes_along p e f t ≡ false → AreWired p count depth n pipes puts takes
      → AreWired p count depth (n + 1) pipes puts takes
  wired_skip n e f t pipes puts takes is below_f below_t none w = record {
    each = λ edge from to. subst (λ (x : Bool). IsWiredIf x depth (cell_in pipes edge from to) (cell_in puts from edge to) (cell_in takes to edge from))
        (elim (cases_eq edge e) as (λ _. due p n edge from to ≡ due p (n + 1) edge from to) [
          | inr a ↦ due_else n edge from to e f t is below_f below_t (inl a)
          | inl a ↦ elim (cases_eq from f) as (λ _. due p n edge from to ≡ due p (n + 1) edge from to) [
            | inr b ↦ due_else n edge from to e f t is below_f below_t (inr (inl b))
            | inl b ↦ elim (cases_eq to t) as (λ _. due p n edge from to ≡ due p (n + 1) edge from to) [
              | inr c ↦ due_else n edge from to e f t is below_f below_t (inr (inr c))
              | inl c ↦
                  let none_here : goes_along p edge from to ≡ false = (λ i. goes_along p (a i) (b i) (c i)) ∙ none in
                  and_left _ _ none_here ∙ sym (and_left _ _ none_here)
            ]
          ]
        ])
        (w.each edge from to);
    pipe_places = w.pipe_places;
    put_places = w.put_places;
    take_places = w.take_places;
  }

  -- a pipe should exist at the place, and it was made
  pub wired_more : (n e f t : ℕ) (pipes : PipeTables) (puts takes : EndTables) (pipes' : PipeTables) (puts' takes' : EndTables) → number_of e f t ≡ n → f < 16 → t < 16 → goes_along p e f t ≡ true
      → AreWired p count depth n pipes puts takes → IsMade depth e f t pipes puts takes pipes' puts' takes'
      → IsShaped count p.workers p.workers pipes' → IsShaped p.workers count p.workers puts' → IsShaped p.workers count p.workers takes' → AreWired p count depth (n + 1) pipes' puts' takes'
  wired_more n e f t pipes puts takes pipes' puts' takes' is below_f below_t goes w m shape_a shape_b shape_c =
      let Now : ℕ → ℕ → ℕ → Type 0 = λ edge from to. IsWiredIf (due p (n + 1) edge from to) depth (cell_in pipes' edge from to) (cell_in puts' from edge to) (cell_in takes' to edge from) in
      let here : Now e f t = subst (λ (x : Bool). IsWiredIf x depth (cell_in pipes' e f t) (cell_in puts' f e t) (cell_in takes' t e f))
      (sym (and_from (goes_along p e f t) (nat_lt (number_of e f t) (n + 1)) goes (lt-ltb _ (n + 1) (omega (arith, is)))))
      (m.pipe, m.pipe_made.here, m.deep, m.put_made.here, m.take_made.here) in
      let else_at : (edge from to : ℕ) → (edge ≢ e) ⊎ ((from ≢ f) ⊎ (to ≢ t)) → (from ≢ f) ⊎ ((edge ≢ e) ⊎ (to ≢ t)) → (to ≢ t) ⊎ ((edge ≢ e) ⊎ (from ≢ f)) → Now edge from to = λ edge from to other by_put by_take.
      subst (λ (x : Bool). IsWiredIf x depth (cell_in pipes' edge from to) (cell_in puts' from edge to) (cell_in takes' to edge from)) (due_else n edge from to e f t is below_f below_t other)
      (subst (λ (o : Option APipe). IsWiredIf (due p n edge from to) depth o (cell_in puts' from edge to) (cell_in takes' to edge from)) (sym (m.pipe_made.elsewhere edge from to other))
      (subst (λ (o : Option AnEnd). IsWiredIf (due p n edge from to) depth (cell_in pipes edge from to) o (cell_in takes' to edge from)) (sym (m.put_made.elsewhere from edge to by_put))
      (subst (λ (o : Option AnEnd). IsWiredIf (due p n edge from to) depth (cell_in pipes edge from to) (cell_in puts from edge to) o) (sym (m.take_made.elsewhere to edge from by_take))
      (w.each edge from to)))) in
      record {
        each = λ edge from to. elim (cases_eq edge e) as (λ _. Now edge from to) [
          | inr a ↦ else_at edge from to (inl a) (inr (inl a)) (inr (inl a))
          | inl a ↦ elim (cases_eq from f) as (λ _. Now edge from to) [
            | inr b ↦ else_at edge from to (inr (inl b)) (inl b) (inr (inr b))
            | inl b ↦ elim (cases_eq to t) as (λ _. Now edge from to) [
              | inr c ↦ else_at edge from to (inr (inr c)) (inr (inr c)) (inl c)
              | inl c ↦ subst (λ (x : ℕ × ℕ × ℕ). Now x.0 x.1 x.2) (λ i. (sym a i, sym b i, sym c i)) here
            ]
          ]
        ];
        pipe_places = shape_a;
        put_places = shape_b;
        take_places = shape_c;
      }

-- ---- what each worker gets

ends_by : (b : Bool) (depth : ℕ) (o : Option APipe) (x y : Option AnEnd) → IsWiredIf b depth o x y → IsEndOf o x × IsEndOf o y
ends_by false depth o x y h =
    subst (λ (a : Option APipe). IsEndOf a x × IsEndOf a y) (sym h.0) (subst (λ (u : Option AnEnd). IsEndOf None u × IsEndOf None y) (sym h.1) (subst (λ (u : Option AnEnd). IsEndOf None None × IsEndOf None u) (sym h.2) (tt, tt)))
ends_by true depth o x y h =
    subst (λ (a : Option APipe). IsEndOf a x × IsEndOf a y) (sym h.1)
    (subst (λ (u : Option AnEnd). IsEndOf (Some h.0) u × IsEndOf (Some h.0) y) (sym h.3) (subst (λ (u : Option AnEnd). IsEndOf (Some h.0) (Some (new_end h.0)) × IsEndOf (Some h.0) u) (sym h.4) (refl, refl)))

pub puts_of : (p : PhysicalData) (count depth upto worker : ℕ) (pipes : PipeTables) (puts takes : EndTables) → AreWired p count depth upto pipes puts takes → ArePuts pipes worker (get_or puts worker [])
puts_of p count depth upto worker pipes puts takes w = record { each = λ edge to. (ends_by _ depth _ _ _ (w.each edge worker to)).0 }

pub takes_of : (p : PhysicalData) (count depth upto worker : ℕ) (pipes : PipeTables) (puts takes : EndTables) → AreWired p count depth upto pipes puts takes → AreTakes pipes worker (get_or takes worker [])
takes_of p count depth upto worker pipes puts takes w = record { each = λ edge from. (ends_by _ depth _ _ _ (w.each edge from worker)).1 }

pipe_by : (b : Bool) (depth : ℕ) (o : Option APipe) (x y : Option AnEnd) → depth ≤ 64 → IsWiredIf b depth o x y → IsPipeIf b o
pipe_by false depth o x y deep h = h.0
pipe_by true depth o x y deep h = (h.0, h.1, omega (arith, h.2, deep))

-- after all numbers, every pipe of the plan exists
pub pipes_of : (p : PhysicalData) (count depth upto : ℕ) (pipes : PipeTables) (puts takes : EndTables) → depth ≤ 64 → p.workers ≤ 16 → ((edge from to : ℕ) → goes_along p edge from to ≡ true → edge < count) → upto ≡ 256 * count
    → AreWired p count depth upto pipes puts takes → ArePipes p pipes
pipes_of p count depth upto pipes puts takes deep few numbers is w = record {
  each = λ edge from to. subst (λ (x : Bool). IsPipeIf x (cell_in pipes edge from to))
      (elim (cases_Bool (goes_along p edge from to)) as (λ _. due p upto edge from to ≡ goes_along p edge from to) [
        | inr stays ↦ and_left _ _ stays ∙ sym stays
        | inl goes ↦
            let s = workers_of p edge from to goes in
            let less = numbers edge from to goes in
            and_from (goes_along p edge from to) (nat_lt (number_of edge from to) upto) goes (lt-ltb _ upto (omega (arith, is, less, s.0, s.1, few))) ∙ sym goes
      ])
      (pipe_by (due p upto edge from to) depth _ _ _ deep (w.each edge from to));
}

-- When every instance is done, every note that was put was also taken.
use Rattle.std.proofs.Common.{◌≡◌, ◌<◌, inl, inr, cond, ◌==◌, ℕ, zero, suc, Bool, true, false, Option, Some, None, List, [], ◌++◌, slice_get, refl, ap, sym, ◌∙◌, subst, append-nil}
use Rattle.std.proofs.lemmas.Bool.{and_right, cases_Bool, cases_lt, or_cases}
use Rattle.std.specs.List.Sorted.{IsPermutation}
use Rattle.pact_operators.specs.Allowed.{Bag}
use Rattle.plan_trees.specs.Distinct.{AreDifferent}
use Rattle.plan_trees.specs.Physicals.{has_edge, ship_at}
use Rattle.plan_trees.specs.Plans.{PlanTree, leaf, over, both, has, nodes, root_of, subtree_of}
use Rattle.flow_instance.specs.declared.notes.Note.{Note}
use Rattle.flow_instance.specs.Instances.{Instance, ended_at, port_ended}
use Rattle.flow_instance.specs.Local.{sender_ended}
use Rattle.flow_instance.specs.Notes.{AreNotes, has_end}
use Rattle.plan_trees.specs.Sending.{has_pipe, has_out}
use Rattle.flow_instance.specs.Spots.{Port, Setting, ports_of, spot}
use Rattle.flow_instance.specs.Spread.{Spread, given_in, placed_in}
use Rattle.flow_instance.specs.Worlds.{World, History, AreDone, Stands, first_of, lists_at, reader_of}
use Rattle.flow_instance.proofs.EndMarksAndWants.{finished_by, nothing_behind}
use Rattle.plan_trees.proofs.NumbersBelow.{all_below_at}
use Rattle.flow_instance.proofs.StandsAfterEvents.{left_nil, local_same, no_out, nothing_put}
use Rattle.flow_instance.proofs.Readers.{found, input_there, port_for}
use Rattle.plan_trees.proofs.SubtreesOfPlans.{root_of-subtree}

-- ---- each edge has a reader

abbrev IsSome : Option (ℕ × ℕ) → Type 0
IsSome o = (x : ℕ × ℕ) × (o ≡ Some x)

first_of-left : (a b : Option (ℕ × ℕ)) → IsSome a → IsSome (first_of a b)
first_of-left a b h = (h.0, ap (λ (o : Option (ℕ × ℕ)). first_of o b) h.1)

first_of-right : (a b : Option (ℕ × ℕ)) → IsSome b → IsSome (first_of a b)
first_of-right None b h = h
first_of-right (Some x) b h = (x, refl)

pub has_reader : (e : ℕ) (t : PlanTree) → has e t ≡ true → (e == root_of t) ≡ false → IsSome (reader_of e t)
has_reader e (leaf n) h other = absurd (let clash : true ≡ false = sym h ∙ other in cc)
has_reader e (over n t) h other = elim (cases_Bool (e == root_of t)) as (λ _. IsSome (reader_of e (over n t))) [
  | inl same ↦ rw same ((n, 0), refl)
  | inr below ↦ rw below (has_reader e t (simp other at h) below)
]
has_reader e (both n t u) h other = elim (cases_Bool (e == root_of t)) as (λ _. IsSome (reader_of e (both n t u))) [
  | inl same ↦ rw same ((n, 0), refl)
  | inr below ↦ elim (cases_Bool (e == root_of u)) as (λ _. IsSome (reader_of e (both n t u))) [
    | inl same ↦ rw (below, same) ((n, 1), refl)
    | inr below_too ↦ elim (or_cases (has e t) (has e u) (simp other at h)) as (λ _. IsSome (reader_of e (both n t u))) [
      | inl l ↦ rw (below, below_too) (first_of-left (reader_of e t) (reader_of e u) (has_reader e t l below))
      | inr r ↦ rw (below, below_too) (first_of-right (reader_of e t) (reader_of e u) (has_reader e u r below_too))
    ]
  ]
]

-- ---- what was put was taken

sender_has_ended : (q : Port) (from k : ℕ) (notes : List Note) → has_pipe q.ship from k ≡ true → sender_ended (Some q) from k notes ≡ true → has_end notes ≡ true
sender_has_ended q from k notes pipe e = simp pipe at e

both_nil : (put taken queue : List Note) → put ≡ taken ++ queue → put ≡ [] → put ≡ taken
both_nil put taken queue e n = n ∙ sym (left_nil taken queue (sym e ∙ n))

-- no edge leaves the root
pub no_edge : (g : Setting) (edge from to : ℕ) → (edge == root_of g.physical.tree) ≡ true → has_out (ship_at g.physical edge) from to ≡ false
no_edge g edge from to root =
    let none : has_edge edge g.physical.tree ≡ false = rw (root, and_right (has edge g.physical.tree) false refl) refl in
    ap (λ (b : Bool). has_out (cond b (Some (port_for g edge).ship) None) from to) none

each_port : (g : Setting) (t : PlanTree) (i : Instance) (port : ℕ) (q : Port) → slice_get (ports_of g.physical t) port ≡ Some q → port_ended i 0 ≡ true → port_ended i 1 ≡ true → port_ended i port ≡ true
each_port g (leaf n) i port q e a b = absurd (let none : None ≡ Some q = e in cc)
each_port g (over n t) i zero q e a b = a
each_port g (over n t) i (suc port) q e a b = absurd (let none : None ≡ Some q = e in cc)
each_port g (both n t u) i zero q e a b = a
each_port g (both n t u) i (suc zero) q e a b = b
each_port g (both n t u) i (suc (suc port)) q e a b = absurd (let none : None ≡ Some q = e in cc)

pub put_is_taken : (g : Setting) (w : World) (h : History) → AreDifferent (nodes g.physical.tree) → Stands g w h → AreDone g.physical w → (edge from to : ℕ) → has edge g.physical.tree ≡ true → h.put edge from to ≡ h.taken edge from to
put_is_taken g w h d st done edge from to there = elim (cases_lt from g.physical.workers) as (λ _. h.put edge from to ≡ h.taken edge from to) [
  | inr out ↦ both_nil (h.put edge from to) (h.taken edge from to) (w.queue edge from to) (st.pipe edge from to) (st.outside edge from to (inl out))
  | inl from_below ↦ elim (cases_lt to g.physical.workers) as (λ _. h.put edge from to ≡ h.taken edge from to) [
    | inr out ↦ both_nil (h.put edge from to) (h.taken edge from to) (w.queue edge from to) (st.pipe edge from to) (st.outside edge from to (inr out))
    | inl to_below ↦
        let sender = st.instances edge from there from_below in
        let nothing : has_out (ship_at g.physical edge) from to ≡ false → h.put edge from to ≡ h.taken edge from to = λ none.
        let root = root_of-subtree edge g.physical.tree there in
        both_nil (h.put edge from to) (h.taken edge from to) (w.queue edge from to) (st.pipe edge from to)
        (nothing_put (spot g (subtree_of edge g.physical.tree)) from (w.instance edge from) (λ q f. lists_at h.taken (slice_get (ports_of g.physical (subtree_of edge g.physical.tree)) q) f from)
        (λ t. h.put edge from t) to sender to_below (ap (λ (e : ℕ). has_out (ship_at g.physical e) from to) root ∙ none)) in
        elim (cases_Bool (edge == root_of g.physical.tree)) as (λ _. h.put edge from to ≡ h.taken edge from to) [
          | inl root ↦ nothing (no_edge g edge from to root)
          | inr other ↦
              let r = has_reader edge g.physical.tree there other in
              let f = found g edge r.0.0 r.0.1 g.physical.tree d r.1 in
              elim (cases_Bool (has_pipe (port_for g edge).ship from to)) as (λ _. h.put edge from to ≡ h.taken edge from to) [
                | inr bad ↦ nothing (no_out (has_edge edge g.physical.tree) (port_for g edge).ship from to bad)
                | inl pipe ↦
                    let i = w.instance r.0.0 to in
                    let l = st.instances r.0.0 to f.has_reader to_below in
                    let fin = finished_by i.waiting i.marks (port_ended i 0) (port_ended i 1) i.finished (done r.0.0 to f.has_reader to_below) in
                    let ended : port_ended i r.0.1 ≡ true = each_port g (subtree_of r.0.0 g.physical.tree) i r.0.1 (port_for g edge) f.port_is fin.first fin.second in
                    let flag : ended_at i r.0.1 from ≡ true = all_below_at i.part.workers from (ended_at i r.0.1) (subst (λ (n : ℕ). from < n) (sym l.part.workers) from_below) ended in
                    let told : sender_ended (Some (port_for g edge)) from to (h.taken edge from to) ≡ true =
                    sym (l.ended r.0.1 from from_below ∙ ap (λ (o : Option Port). sender_ended o from to (lists_at h.taken o from to)) f.port_is) ∙ flag in
                    let none : w.queue edge from to ≡ [] = nothing_behind g.fields (h.taken edge from to) (w.queue edge from to)
                    (subst (AreNotes g.fields) (st.pipe edge from to) (sender.put_notes to)) (sender_has_ended (port_for g edge) from to (h.taken edge from to) pipe told) in
                    st.pipe edge from to ∙ ap (λ (ns : List Note). h.taken edge from to ++ ns) none ∙ append-nil (h.taken edge from to)
              ]
        ]
  ]
]

-- ---- the spread

same_lists : (g : Setting) (w : World) (h : History) → AreDifferent (nodes g.physical.tree) → Stands g w h → AreDone g.physical w → (o : Option Port) (from k : ℕ)
    → ((q : Port) → o ≡ Some q → has q.edge g.physical.tree ≡ true) → lists_at h.put o from k ≡ lists_at h.taken o from k
same_lists g w h d st done None from k e = refl
same_lists g w h d st done (Some q) from k e = put_is_taken g w h d st done q.edge from k (e q refl)

pub spread : (g : Setting) (w : World) (h : History) (rows : Bag) (counts : List ℕ) → AreDifferent (nodes g.physical.tree) → Stands g w h → AreDone g.physical w
    → IsPermutation rows (placed_in g w) → ((at : ℕ) → has at g.physical.tree ≡ true → slice_get counts at ≡ Some (given_in g w at)) → Spread g rows counts
spread g w h rows counts d st done placed given = record {
  notes = h.put;
  world = w;
  done = done;
  each = λ at k there below.
      let t = subtree_of at g.physical.tree in
      local_same (spot g t) k (w.instance at k) (w.instance at k) (λ port from. lists_at h.taken (slice_get (ports_of g.physical t) port) from k) (λ port from. lists_at h.put (slice_get (ports_of g.physical t) port) from k)
      (λ to. h.put at k to) (λ to. h.put at k to) (st.instances at k there below) refl
      (λ port from. same_lists g w h d st done (slice_get (ports_of g.physical t) port) from k (λ q e. input_there g g.physical.tree at port q there e)) (λ to. refl);
  rows_are = placed;
  counts_are = given;
}

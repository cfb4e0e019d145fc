-- After events of the worker's own instances, each instance still follows from the lists of its ends.
use Rattle.std.proofs.Common.{◌≡◌, ◌≢◌, ◌<◌, ◌⊎◌, inl, inr, ◌||◌, ℕ, Bool, true, false, Option, Some, None, List, [], ◌∷◌, ◌++◌, slice_get, refl, ap, sym, ◌∙◌, subst}
use Rattle.std.proofs.lemmas.Bool.{cases_eq}
use Rattle.plan_trees.specs.Distinct.{AreDifferent}
use Rattle.plan_trees.specs.Plans.{has, nodes, subtree_of}
use Rattle.flow_instance.specs.declared.notes.Note.{Note}
use Rattle.flow_instance.specs.Instances.{Instance, port_ended}
use Rattle.flow_instance.specs.Local.{IsLocal, IsReceiver, IsWaiting}
use Rattle.flow_instance.specs.Notes.{IsNote, has_end}
use Rattle.flow_instance.specs.Spots.{Port, Setting, Spot, is_edge, ports_of, spot}
use Rattle.flow_instance.specs.Steps.{Added, Took, finish, offered}
use Rattle.flow_instance.specs.Worlds.{lists_at}
use Rattle.flow_instance.proofs.EndMarksAndWants.{put_to}
use Rattle.flow_instance.proofs.LocalAfterPuts.{finish_local, offered_local, returned_local}
use Rattle.flow_instance.proofs.LocalAfterTakes.{took_local}
use Rattle.flow_instance.proofs.Readers.{one_reader}
use Rattle.flow_instance.proofs.StandsAfterEvents.{local_same}
use Rattle.flow_run.specs.WorkerStates.{AllLocal, WorkerState, Ends, Happens, LocalAt, Puts, Rests, Takes, TakenStay, Works, happened, nothing, rested}

pub by_place : (P : ℕ → Type 0) (at : ℕ) → P at → ((k : ℕ) → k ≢ at → P k) → (k : ℕ) → P k
by_place P at here others k = elim (cases_eq k at) as (λ _. P k) [ inl e ↦ subst P (sym e) here | inr n ↦ others k n ]

-- the notes taken at a port that reads an edge, or that doesn't exist
abbrev pub lists_of : WorkerState → Option Port → (from worker : ℕ) → List Note
lists_of b o from worker = lists_at (λ edge from to. b.taken edge from) o from worker

lists_same : (b c : WorkerState) (o : Option Port) (from worker : ℕ) → ((x : Port) → o ≡ Some x → c.taken x.edge from ≡ b.taken x.edge from) → lists_of c o from worker ≡ lists_of b o from worker
lists_same b c None from worker h = refl
lists_same b c (Some x) from worker h = h x refl

unended_by : (x y : Bool) → (x || y) ≡ false → y ≡ false
unended_by true y e = absurd (cc)
unended_by false y e = e

module _ (g : Setting) (worker : ℕ) (different : AreDifferent (nodes g.physical.tree)) where
  -- facts of the plan for one number
  abbrev spot_at : ℕ → Spot
  spot_at k = spot g (subtree_of k g.physical.tree)

  abbrev port_at : ℕ → ℕ → Option Port
  port_at k p = slice_get (ports_of g.physical (subtree_of k g.physical.tree)) p

  -- the same instance with the same lists
  stays : (b c : WorkerState) (k : ℕ) → c.instance k ≡ b.instance k → ((p from : ℕ) → lists_of c (port_at k p) from worker ≡ lists_of b (port_at k p) from worker) → ((to : ℕ) → c.put k to ≡ b.put k to)
      → LocalAt g worker b k → LocalAt g worker c k
  stays b c k same taken put l =
      local_same (spot_at k) worker (b.instance k) (c.instance k) (λ p from. lists_of b (port_at k p) from worker) (λ p from. lists_of c (port_at k p) from worker) (λ to. b.put k to) (λ to. c.put k to) l same taken put

  taken_stay : (b c : WorkerState) → TakenStay b c → (k p from : ℕ) → lists_of c (port_at k p) from worker ≡ lists_of b (port_at k p) from worker
  taken_stay b c h k p from = lists_same b c (port_at k p) from worker (λ x _. h x.edge from)

  -- another instance at the place, with the same lists
  stays_as : (b c : WorkerState) (at : ℕ) (j : Instance) → c.instance at ≡ j → TakenStay b c → ((to : ℕ) → c.put at to ≡ b.put at to)
      → IsLocal (spot_at at) worker j (λ p from. lists_of b (port_at at p) from worker) (λ to. b.put at to) → LocalAt g worker c at
  stays_as b c at j is taken put l =
      local_same (spot_at at) worker j (c.instance at) (λ p from. lists_of b (port_at at p) from worker) (λ p from. lists_of c (port_at at p) from worker) (λ to. b.put at to) (λ to. c.put at to) l is (taken_stay b c taken at) put

  -- each of the plan's instances
  abbrev Moves : WorkerState → WorkerState → ℕ → Type 0
  Moves b c k = has k g.physical.tree ≡ true → LocalAt g worker b k → LocalAt g worker c k

  all_moved : (b c : WorkerState) (at : ℕ) → AllLocal g worker b → Moves b c at → ((k : ℕ) → k ≢ at → Moves b c k) → AllLocal g worker c
  all_moved b c at local here others k there = by_place (Moves b c) at here others k there (local k there)

  puts_kept : (b c : WorkerState) (at : ℕ) → AllLocal g worker b → Puts b at c → AllLocal g worker c
  puts_kept b c at local h = all_moved b c at local
      (λ there l.
      let i = b.instance at in
      let receiver : IsReceiver (spot_at at) worker h.to = put_to (IsReceiver (spot_at at) worker) (IsWaiting (spot_at at) worker) i.waiting i.marks (port_ended i 0) (port_ended i 1) i.finished h.to (λ x q. q.0) l.waiting_notes l.marks_wait h.wanted in
      let moved = offered_local (spot_at at) worker i (λ p from. lists_of b (port_at at p) from worker) (λ to. b.put at to) (λ to. c.put at to) h.to l h.wanted receiver.0
      (record { here = h.put.here; elsewhere = λ x other. h.put.elsewhere at x (inr other) }) in
      local_same (spot_at at) worker (offered i) (c.instance at) (λ p from. lists_of b (port_at at p) from worker) (λ p from. lists_of c (port_at at p) from worker) (λ to. c.put at to) (λ to. c.put at to) moved h.instance
      (taken_stay b c h.taken at) (λ to. refl))
      (λ k other there l. stays b c k (h.others k other) (taken_stay b c h.taken k) (λ to. h.put.elsewhere k to (inl other)) l)

  ends_kept : (b c : WorkerState) (at : ℕ) → AllLocal g worker b → Ends b at c → AllLocal g worker c
  ends_kept b c at local h = all_moved b c at local
      (λ there l. stays_as b c at (finish (b.instance at)) h.instance h.taken (h.put at) (finish_local (spot_at at) worker (b.instance at) (λ p from. lists_of b (port_at at p) from worker) (λ to. b.put at to) l h.wanted))
      (λ k other there l. stays b c k (h.others k other) (taken_stay b c h.taken k) (h.put k) l)

  rests_kept : (b c : WorkerState) (at : ℕ) → AllLocal g worker b → Rests b at c → AllLocal g worker c
  rests_kept b c at local h = all_moved b c at local
      (λ there l. stays_as b c at (record (b.instance at) { receiver = h.receiver }) h.instance h.taken (h.put at)
      (returned_local (spot_at at) worker h.receiver (b.instance at) (λ p from. lists_of b (port_at at p) from worker) (λ to. b.put at to) l))
      (λ k other there l. stays b c k (h.others k other) (taken_stay b c h.taken k) (h.put k) l)

  takes_kept : (b c : WorkerState) (at : ℕ) → has at g.physical.tree ≡ true → AllLocal g worker b → Takes worker b at c → AllLocal g worker c
  takes_kept b c at at_there local h =
      let i = b.instance at in
      let t = h.took in
      let l0 = local at at_there in
      let lists : ℕ → ℕ → List Note = λ p from. lists_of b (port_at at p) from worker in
      let put : ℕ → List Note = λ to. b.put at to in
      let port_is : port_at at h.port ≡ Some t.reads = ap (λ ports. slice_get ports h.port) (sym l0.part.ports) ∙ t.port_is in
      let edge : is_edge (port_at at h.port) t.from worker ≡ true = ap (λ o. is_edge o t.from worker) port_is ∙ t.edge in
      let below : t.from < g.physical.workers = subst (λ (n : ℕ). t.from < n) l0.part.workers t.below in
      let unended : has_end (lists h.port t.from) ≡ false = unended_by _ _ (sym (l0.ended h.port t.from below) ∙ t.sends) in
      let note : IsNote g.fields t.note = subst (λ (n : ℕ). IsNote n t.note) l0.part.fields t.is_note in
      let took : Took (spot_at at) worker i h.port t.from t.note (c.instance at) =
      subst (λ (w : ℕ). IsLocal (spot_at at) w i lists put → Took (spot_at at) w i h.port t.from t.note (c.instance at)) l0.part.worker (t.takes_it.took (spot_at at) lists put) l0 in
      let added : Added lists h.port t.from t.note (λ p from. lists_of c (port_at at p) from worker) = record {
        here = ap (λ o. lists_of c o t.from worker) port_is ∙ t.added.here ∙ ap (λ o. lists_of b o t.from worker ++ t.note ∷ []) (sym port_is);
        elsewhere = λ p from other. lists_same b c (port_at at p) from worker (λ x is. t.added.elsewhere x.edge from (elim other as (λ _. (x.edge ≢ t.reads.edge) ⊎ (from ≢ t.from)) [
          | inl a ↦ inl (λ same. a (one_reader g g.physical.tree at at p h.port x t.reads different at_there at_there is port_is same).1)
          | inr a ↦ inr a
        ]));
      } in
      all_moved b c at local
      (λ there l. local_same (spot_at at) worker (c.instance at) (c.instance at) (λ p from. lists_of c (port_at at p) from worker) (λ p from. lists_of c (port_at at p) from worker) put (λ to. c.put at to)
      (took_local (spot_at at) worker i (c.instance at) lists (λ p from. lists_of c (port_at at p) from worker) put h.port t.from t.note l0 h.wanted below edge unended note took added) refl (λ p from. refl) (h.put at))
      (λ k other there l. stays b c k (h.others k other)
      (λ p from. lists_same b c (port_at k p) from worker (λ x is. t.added.elsewhere x.edge from (inl (λ same. other (one_reader g g.physical.tree k at p h.port x t.reads different there at_there is port_is same).0))))
      (h.put k) l)

  happens_kept : (b c : WorkerState) (at : ℕ) → has at g.physical.tree ≡ true → AllLocal g worker b → Happens worker b at c → AllLocal g worker c
  happens_kept b c at there local (inl h) = puts_kept b c at local h
  happens_kept b c at there local (inr (inl h)) = takes_kept b c at there local h
  happens_kept b c at there local (inr (inr h)) = ends_kept b c at local h

  -- if each instance followed from the lists of its ends, it still does after events of the worker's own instances
  pub works_kept : (count : ℕ) → ((at : ℕ) → at < count → has at g.physical.tree ≡ true) → (b c : WorkerState) → AllLocal g worker b → Works worker count b c → AllLocal g worker c
  works_kept count only b c local nothing = local
  works_kept count only b c local (rested {d} at back less h) = rests_kept _ c at (works_kept count only b _ local back) h
  works_kept count only b c local (happened {d} at back less h) = happens_kept _ c at (only at less) (works_kept count only b _ local back) h

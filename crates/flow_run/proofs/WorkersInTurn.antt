-- Workers that work one after the other.
use Rattle.std.proofs.Common.{◌≡◌, ◌<◌, ◌≤◌, ◌+◌, inl, inr, ℕ, List, get_or, length, set, subst, sym, ◌∙◌, arith}
use Rattle.std.specs.List.{All}
use Rattle.std.proofs.lemmas.Bool.{cases_eq}
use Rattle.std.proofs.lemmas.List.{get_or-set_other, get_or-set_same, length-set}
use Rattle.flow_run.specs.Ends.{PipeTables}
use Rattle.flow_run.specs.Workers.{HasWorked, HaveAllWorked, IsWorkerReady}
use Rattle.flow_run.specs.declared.workers.Worker.{Worker}

-- the first `n` have worked, and the others are as they were
pub record HaveWorked {L W : Type 0} (fields : ℕ) (pipes : PipeTables) (n : ℕ) (first now : List (Worker L W)) : Type 0 where
  pub long : length now ≡ length first
  pub worked : (i : ℕ) (d : Worker L W) → i < n → HasWorked fields pipes (get_or first i d) (get_or now i d)
  pub still : (i : ℕ) (d : Worker L W) → n ≤ i → get_or now i d ≡ get_or first i d

module _ {L W : Type 0} (fields : ℕ) (pipes : PipeTables) (n : ℕ) (first now : List (Worker L W)) (h : HaveWorked fields pipes n first now) where
  -- the next one is still ready
  pub next_ready : (w : Worker L W) → n < length first → ((d : Worker L W) → w ≡ get_or now n d) → All (IsWorkerReady fields pipes) first → IsWorkerReady fields pipes w
  next_ready w less is ready = subst (IsWorkerReady fields pipes) (sym (is w ∙ h.still n w (omega arith))) (ready n w less)

  -- one more has worked
  pub worked_more : (w v : Worker L W) → n < length first → ((d : Worker L W) → w ≡ get_or now n d) → HasWorked fields pipes w v → HaveWorked fields pipes (n + 1) first (set now n v)
  worked_more w v less is works = record {
    long = length-set now n v ∙ h.long;
    worked = λ i d below. elim (cases_eq i n) as (λ _. HasWorked fields pipes (get_or first i d) (get_or (set now n v) i d)) [
      | inl e ↦
          subst (λ (k : ℕ). HasWorked fields pipes (get_or first k d) (get_or (set now n v) k d)) (sym e)
          (subst (λ (x : Worker L W). HasWorked fields pipes (get_or first n d) x) (sym (get_or-set_same now n v d (omega (arith, less, h.long))))
          (subst (λ (x : Worker L W). HasWorked fields pipes x v) (is d ∙ h.still n d (omega arith)) works))
      | inr other ↦ subst (λ (x : Worker L W). HasWorked fields pipes (get_or first i d) x) (sym (get_or-set_other now n i v d other)) (h.worked i d (omega (arith, below, other)))
    ];
    still = λ i d more. get_or-set_other now n i v d (λ e. omega (arith, more, e)) ∙ h.still i d (omega (arith, more));
  }

  pub all_have : length first ≤ n → HaveAllWorked fields pipes first now
  all_have all = record { long = h.long; each = λ k d less. h.worked k d (omega (arith, less, all)) }

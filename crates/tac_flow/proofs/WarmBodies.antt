-- The walk of a whole body begins with nothing stored.
use Rattle.std.proofs.Common.{◌≡◌, ◌++◌, ℕ, zero, suc, Option, None, List, [], ◌∷◌, replicate, refl, sym, subst, ◌∙◌}
use Rattle.tac_syntax.specs.Code.{Code, stop, plain, branch, again, each}
use Rattle.tac_flow.specs.declared.facts.Facts.{Facts}
use Rattle.tac_flow.specs.Known.{Side, State, dropped}
use Rattle.tac_flow.specs.Steps.{Scope, start_state}
use Rattle.tac_flow.specs.Walks.{side_of_list, walk, notes}
use Rattle.tac_flow.specs.Results.{Gathered, notes_of}
use Rattle.tac_flow.specs.Gathering.{gather, nothing}
use Rattle.tac_flow.specs.Memos.{Memos, is_large, memos_of}
use Rattle.tac_flow.specs.Warm.{IsSmallScope, IsSound, IsKept, IsClean, Fits, IsReady}
use Rattle.tac_flow.proofs.SoundStates.{start-sound}
use Rattle.tac_flow.proofs.WarmStarts.{memo-none}

none : Option Facts
none = None

pub none_kept : (n i : ℕ) → memos_of (replicate n None) i ≡ None
none_kept zero i = refl
none_kept (suc n) zero = refl
none_kept (suc n) (suc i) = none_kept n i

module _ (c : Scope) (least : ℕ) where
  fits-none : (code : Code) (sides : List Side) (n : ℕ) (ms : Memos) (k : State) → ((i : ℕ) → ms i ≡ None) → Fits c least sides code n ms k
  fits-none stop sides n ms k f = tt
  fits-none (plain a next) sides n ms k f = fits-none next sides n ms _ f
  fits-none (branch on body other next) sides n ms k f = (fits-none body sides n ms k f, fits-none other sides _ ms k f, fits-none next sides _ ms _ f)
  fits-none (again count body next) sides n ms k f = (
    (subst (λ (o : Option State). IsKept c (IsClean c sides body) (walk c sides body) o k) (sym (memo-none (is_large least body) n ms (λ _. f n))) tt, fits-none body sides _ ms _ f),
    fits-none next sides _ ms _ f,
  )
  fits-none (each name list body next) sides n ms k f =
      let inside = sides ++ side_of_list list ∷ [] in
      let turn : State → State = λ j. dropped name (walk c inside body j) in (
        (subst (λ (o : Option State). IsKept c (IsClean c inside body) turn o (dropped name k)) (sym (memo-none (is_large least body) n ms (λ _. f n))) tt, fits-none body inside _ ms _ f),
        fits-none next sides _ ms _ f,
      )

  pub ready_first : IsSmallScope c → (body : Code) (sides : List Side) (ms : Memos) (k : State) → k ≡ start_state c → ((i : ℕ) → ms i ≡ None) → IsReady c least sides body 0 ms k
  ready_first scope body sides ms k e f = record {
    scope = scope;
    sound = subst (IsSound c) (sym e) (start-sound c scope);
    fits = fits-none body sides 0 ms k f;
  }

  pub all_noted : (body : Code) (sides : List Side) (k : State) (start found : Gathered) → sides ≡ [] → k ≡ start_state c → start ≡ nothing c.fields → found ≡ gather (notes c sides body k) start → found ≡ gather (notes_of c body) (nothing c.fields)
  all_noted body sides k start found e f s n = n ∙ (λ i. gather (notes c (e i) body (f i)) (s i))

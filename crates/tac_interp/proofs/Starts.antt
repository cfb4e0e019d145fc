-- A call of a valid function begins in a state in which its body may be run.
use Rattle.std.proofs.Common.{◌≡◌, ◌∙◌, ℕ, List, [], ap, sym, subst}
use Rattle.pact_record.specs.declared.values.Value.{Value}
use Rattle.tac_syntax.specs.declared.functions.Function.{Function}
use Rattle.tac_syntax.specs.Call.{CallInput, Store, start_store}
use Rattle.tac_syntax.specs.Exec.{exec}
use Rattle.tac_syntax.specs.Places.{top_place}
use Rattle.tac_syntax.specs.Valid.{IsValid}
use Rattle.tac_syntax.specs.Ready.{Fits, IsReady}
use Rattle.tac_syntax.proofs.Ranges.{AreInRange-valid}

pub IsReady-start : (f g : Function) (fields : ℕ) (input : CallInput) (start : Store) → IsValid f fields → Fits (top_place f fields) fields input []
    → g ≡ f → start ≡ start_store fields input → IsReady g.body start
IsReady-start f g fields input start v h e s =
    let here : IsReady f.body (start_store fields input) = record { place = top_place f fields; in_range = AreInRange-valid f fields v; fits = h } in
    subst (IsReady g.body) (sym s) (subst (λ (x : Function). IsReady x.body (start_store fields input)) (sym e) here)

-- what is emitted at the end, from the steps of a call
pub emitted-exec : (f g : Function) (fields : ℕ) (input : CallInput) (start : Store) (rows : List (List Value)) → rows ≡ (exec g.body start).emitted → g ≡ f → start ≡ start_store fields input
    → rows ≡ (exec f.body (start_store fields input)).emitted
emitted-exec f g fields input start rows r e s = r ∙ ap (λ (x : Store). x.emitted) (ap (exec g.body) s ∙ ap (λ (x : Function). exec x.body (start_store fields input)) e)

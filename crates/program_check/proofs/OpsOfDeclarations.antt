-- Sources and operators, one declaration after another.
use Rattle.std.proofs.Common.{◌≡◌, ◌≤◌, ◌++◌, not, ℕ, Bool, List, [], ◌∷◌, filter, length, map, take, refl, ap, ◌∙◌, arith}
use Rattle.std.proofs.lemmas.List.{length-take-le, map-append}
use Rattle.std.proofs.lemmas.List.Filters.{length-filter_both}
use Rattle.tac_syntax.specs.declared.declarations.OpKind.TheVariants.{Source as SourceKind}
use Rattle.tac_syntax.specs.declared.declarations.Decl.{Decl}
use Rattle.tac_syntax.specs.declared.declarations.Decl.TheVariants.{Source, Function as FunctionDecl, Op as OpDecl, Sink}
use Rattle.pact_operators.specs.declared.operators.Op.{Op}
use Rattle.pact_operators.specs.Resolved.{Inputs, no_input, inputs_of, inputs_read, ops_of, place_among}
use Rattle.program_check.specs.WrittenOps.{with_small_keys}

pub ops_of-append : (functions : List (List ℕ)) (xs ys : List Decl) → ops_of functions (xs ++ ys) ≡ ops_of functions xs ++ ops_of functions ys
ops_of-append functions [] ys = refl
ops_of-append functions (Source name file columns ∷ xs) ys =
    ap (λ (ops : List Op). record { name = name; kind = SourceKind; function = 0; left_keys = []; right_keys = []; file = file; columns = columns } ∷ ops) (ops_of-append functions xs ys)
ops_of-append functions (FunctionDecl number ∷ xs) ys = ops_of-append functions xs ys
ops_of-append functions (OpDecl name kind function left right left_keys right_keys ∷ xs) ys =
    ap (λ (ops : List Op). record { name = name; kind = kind; function = place_among function functions; left_keys = left_keys; right_keys = right_keys; file = []; columns = [] } ∷ ops)
    (ops_of-append functions xs ys)
ops_of-append functions (Sink input fields ∷ xs) ys = ops_of-append functions xs ys

pub small-append : (functions : List (List ℕ)) (xs ys : List Decl)
    → map with_small_keys (ops_of functions (xs ++ ys)) ≡ map with_small_keys (ops_of functions xs) ++ map with_small_keys (ops_of functions ys)
small-append functions xs ys = ap (map with_small_keys) (ops_of-append functions xs ys) ∙ map-append with_small_keys (ops_of functions xs) (ops_of functions ys)

pub inputs_of-append : (names : List (List ℕ)) (xs ys : List Decl) → inputs_of names (xs ++ ys) ≡ inputs_of names xs ++ inputs_of names ys
inputs_of-append names [] ys = refl
inputs_of-append names (Source name file columns ∷ xs) ys = ap (λ (inputs : List Inputs). no_input ∷ inputs) (inputs_of-append names xs ys)
inputs_of-append names (FunctionDecl number ∷ xs) ys = inputs_of-append names xs ys
inputs_of-append names (OpDecl name kind function left right left_keys right_keys ∷ xs) ys =
    ap (λ (inputs : List Inputs). inputs_read names kind left right ∷ inputs) (inputs_of-append names xs ys)
inputs_of-append names (Sink input fields ∷ xs) ys = inputs_of-append names xs ys

-- ---- a filter keeps no more than there is

pub kept-taken : {X : Type 0} (test : X → Bool) (xs : List X) (n : ℕ) → n ≤ length xs → length (filter test (take n xs)) ≤ n
kept-taken test xs n le = omega (arith, length-filter_both test (λ x. not (test x)) (λ _. refl) (take n xs), length-take-le n xs le)

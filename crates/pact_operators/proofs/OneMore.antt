-- Operators and functions by number, in lists with one more at the end.
use Rattle.std.proofs.Common.{◌≡◌, ◌≢◌, ◌<◌, ℕ, zero, suc, List, [], ◌∷◌, ◌++◌, Some, length, get_or, set, slice_get, refl, sym, ap, subst, ◌∙◌, arith}
use Rattle.std.proofs.lemmas.Option.{same_Some}
use Rattle.tac_syntax.specs.Valid.{WithFields}
use Rattle.pact_operators.specs.declared.operators.Op.{Op}
use Rattle.pact_operators.specs.Insertions.{calling, replaced_in}
use Rattle.pact_operators.specs.Programs.{ProgramData, body_of}

-- ---- lists with one more item

pub slice_get-last : {A : Type 0} (xs : List A) (x : A) → slice_get (xs ++ x ∷ []) (length xs) ≡ Some x
slice_get-last [] x = refl
slice_get-last (y ∷ xs) x = slice_get-last xs x

pub slice_get-other : {A : Type 0} (xs : List A) (x : A) (n : ℕ) → n ≢ length xs → slice_get (xs ++ x ∷ []) n ≡ slice_get xs n
slice_get-other [] x zero ne = absurd (ne refl)
slice_get-other [] x (suc n) ne = refl
slice_get-other (y ∷ xs) x zero ne = refl
slice_get-other (y ∷ xs) x (suc n) ne = slice_get-other xs x n (λ e. ne (ap suc e))

-- ---- functions

pub body_of-more : (fs gs : List WithFields) (n : ℕ) → n < length fs → body_of (fs ++ gs) n ≡ body_of fs n
body_of-more [] gs n lt = absurd (omega (arith, lt))
body_of-more (f ∷ fs) gs zero lt = refl
body_of-more (f ∷ fs) gs (suc n) lt = body_of-more fs gs n (omega (arith, lt))

pub body_of-last : (fs : List WithFields) (f : WithFields) → body_of (fs ++ f ∷ []) (length fs) ≡ f.function.body
body_of-last [] f = refl
body_of-last (g ∷ fs) f = body_of-last fs f

-- ---- an operator that calls another function

pub calling-other : (at k : ℕ) (ops : List Op) (n : ℕ) → n ≢ at → slice_get (calling at k ops) n ≡ slice_get ops n
calling-other at k [] n ne = refl
calling-other zero k (op ∷ ops) zero ne = absurd (ne refl)
calling-other zero k (op ∷ ops) (suc n) ne = refl
calling-other (suc at) k (op ∷ ops) zero ne = refl
calling-other (suc at) k (op ∷ ops) (suc n) ne = calling-other at k ops n (λ e. ne (ap suc e))

pub calling-at : (at k : ℕ) (ops : List Op) (op : Op) → slice_get ops at ≡ Some op → slice_get (calling at k ops) at ≡ Some (record op { function = k })
calling-at at k [] op e = cc
calling-at zero k (o ∷ ops) op e = ap (λ (x : Op). Some (record x { function = k })) (same_Some o op e)
calling-at (suc at) k (o ∷ ops) op e = calling-at at k ops op e

-- and in the form in which the code writes it
pub set_calling : (at k : ℕ) (ops : List Op) (now : Op) → at < length ops → now ≡ get_or ops at now → set ops at (record now { function = k }) ≡ calling at k ops
set_calling at k [] now lt e = absurd (omega (arith, lt))
set_calling zero k (op ∷ ops) now lt e = ap (λ (x : Op). record x { function = k } ∷ ops) e
set_calling (suc at) k (op ∷ ops) now lt e = ap (λ (l : List Op). op ∷ l) (set_calling at k ops now (omega (arith, lt)) e)

pub with_parts : (p self : ProgramData) (at k : ℕ) (f : WithFields) (functions : List WithFields) (now : Op) → p ≡ self → at < length self.ops → functions ≡ p.functions ++ f ∷ [] → k ≡ length p.functions → now ≡ get_or p.ops at now
    → record { version = p.version; fields = p.fields; functions = functions; ops = set p.ops at (record now { function = k }); plan = p.plan; sink = p.sink } ≡ replaced_in self at f
with_parts p self at k f functions now e lt of_functions of_k of_now =
    let inside : at < length p.ops = subst (λ (q : ProgramData). at < length q.ops) (sym e) lt in
    let ops = set_calling at k p.ops now inside of_now ∙ ap (λ (j : ℕ). calling at j p.ops) of_k in
    (λ i. record { version = p.version; fields = p.fields; functions = of_functions i; ops = ops i; plan = p.plan; sink = p.sink }) ∙ ap (λ (q : ProgramData). replaced_in q at f) e

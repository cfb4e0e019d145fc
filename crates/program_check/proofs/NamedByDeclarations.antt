-- What declarations name, one declaration after another.
use Rattle.std.proofs.Common.{◌≡◌, ◌<◌, ◌+◌, ◌++◌, ℕ, List, [], ◌∷◌, length, get_or, take, refl, ap, sym, ◌∙◌, append_assoc}
use Rattle.std.proofs.lemmas.List.{take_more}
use Rattle.tac_syntax.specs.declared.declarations.Decl.{Decl}
use Rattle.tac_syntax.specs.declared.declarations.Decl.TheVariants.{Source, Function as FunctionDecl, Op as OpDecl, Sink}
use Rattle.program_check.specs.ProgramRules.{all_columns, all_inputs, column_fields}
use Rattle.pact_operators.specs.Resolved.{inputs_named, node_names, sink_inputs}

pub joined_more : {A : Type 0} (of : List Decl → List A) (decls : List Decl) (n : ℕ) (decl : Decl) (before after : List A)
    → ((xs ys : List Decl) → of (xs ++ ys) ≡ of xs ++ of ys) → n < length decls → decl ≡ get_or decls n decl → before ≡ of (take n decls) → after ≡ before ++ of (decl ∷ [])
    → after ≡ of (take (n + 1) decls)
joined_more of decls n decl before after joined lt e h k =
    let one : take (n + 1) decls ≡ take n decls ++ decl ∷ [] = take_more decls n decl lt ∙ ap (λ (x : Decl). take n decls ++ x ∷ []) (sym e) in
    rw (k, h, one, joined) refl

pub node_names-append : (xs ys : List Decl) → node_names (xs ++ ys) ≡ node_names xs ++ node_names ys
node_names-append [] ys = refl
node_names-append (Source name file columns ∷ xs) ys = ap (λ (names : List (List ℕ)). name ∷ names) (node_names-append xs ys)
node_names-append (FunctionDecl number ∷ xs) ys = node_names-append xs ys
node_names-append (OpDecl name kind function left right left_keys right_keys ∷ xs) ys = ap (λ (names : List (List ℕ)). name ∷ names) (node_names-append xs ys)
node_names-append (Sink input fields ∷ xs) ys = node_names-append xs ys

pub sink_inputs-append : (xs ys : List Decl) → sink_inputs (xs ++ ys) ≡ sink_inputs xs ++ sink_inputs ys
sink_inputs-append [] ys = refl
sink_inputs-append (Source name file columns ∷ xs) ys = sink_inputs-append xs ys
sink_inputs-append (FunctionDecl number ∷ xs) ys = sink_inputs-append xs ys
sink_inputs-append (OpDecl name kind function left right left_keys right_keys ∷ xs) ys = sink_inputs-append xs ys
sink_inputs-append (Sink input fields ∷ xs) ys = ap (λ (names : List (List ℕ)). input ∷ names) (sink_inputs-append xs ys)

pub all_inputs-append : (xs ys : List Decl) → all_inputs (xs ++ ys) ≡ all_inputs xs ++ all_inputs ys
all_inputs-append [] ys = refl
all_inputs-append (decl ∷ xs) ys =
    ap (λ (names : List (List ℕ)). inputs_named decl ++ names) (all_inputs-append xs ys) ∙ sym (append_assoc (inputs_named decl) (all_inputs xs) (all_inputs ys))

pub all_columns-append : (xs ys : List Decl) → all_columns (xs ++ ys) ≡ all_columns xs ++ all_columns ys
all_columns-append [] ys = refl
all_columns-append (Source name file columns ∷ xs) ys =
    ap (λ (fields : List ℕ). column_fields columns ++ fields) (all_columns-append xs ys) ∙ sym (append_assoc (column_fields columns) (all_columns xs) (all_columns ys))
all_columns-append (FunctionDecl number ∷ xs) ys = all_columns-append xs ys
all_columns-append (OpDecl name kind function left right left_keys right_keys ∷ xs) ys = all_columns-append xs ys
all_columns-append (Sink input fields ∷ xs) ys = all_columns-append xs ys

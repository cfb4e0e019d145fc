-- The inputs of a draft's operators by number, if each name is declared once.
use Rattle.std.proofs.Common.{◌≡◌, ◌≤◌, ◌+◌, ◌⊎◌, ◌||◌, inl, inr, ℕ, zero, suc, true, false, Some, None, List, [], ◌∷◌, ◌++◌, length, slice_get, bytes_eq, refl, ap, sym, subst, ◌∙◌, arith}
use Rattle.std.proofs.lemmas.Bool.{both_ways, cases_Bool, or_cases, or_right}
use Rattle.std.proofs.lemmas.Slice.Eq.{bytes_eq-Decides}
use Rattle.tac_syntax.specs.declared.declarations.OpKind.{OpKind}
use Rattle.tac_syntax.specs.declared.declarations.OpKind.TheVariants.{Source as SourceKind, Map, Reduce, Match, Cross, CoGroup}
use Rattle.tac_syntax.specs.declared.declarations.Decl.{Decl}
use Rattle.tac_syntax.specs.declared.declarations.Decl.TheVariants.{Source, Function as FunctionDecl, Op as OpDecl, Sink}
use Rattle.program_check.specs.ProgramRules.{all_inputs}
use Rattle.pact_operators.specs.Resolved.{Inputs, no_input, one_input, two_inputs, inputs_of, inputs_read, is_among, names_read, node_names, place_among, sink_inputs, times_among}
use Rattle.program_check.proofs.FlowsMakeTrees.{IsInput, Reads}

-- ---- names

pub same_name : (a : List ℕ) → bytes_eq a a ≡ true
same_name a = (bytes_eq-Decides a a).1 refl

-- ---- places among names

among_here : (name n : List ℕ) (names : List (List ℕ)) → bytes_eq name n ≡ true → is_among name (n ∷ names) ≡ true
among_here name n names e = rw e refl

among_later : (name n : List ℕ) (names : List (List ℕ)) → bytes_eq name n ≡ false → is_among name (n ∷ names) ≡ is_among name names
among_later name n names e = rw e refl

place_here : (name n : List ℕ) (names : List (List ℕ)) → bytes_eq name n ≡ true → place_among name (n ∷ names) ≡ 0
place_here name n names e = rw e refl

place_later : (name n : List ℕ) (names : List (List ℕ)) → bytes_eq name n ≡ false → place_among name (n ∷ names) ≡ suc (place_among name names)
place_later name n names e = rw e (omega arith)

pub times_here : (name n : List ℕ) (names : List (List ℕ)) → bytes_eq name n ≡ true → times_among name (n ∷ names) ≡ suc (times_among name names)
times_here name n names e = rw e (omega arith)

pub times_later : (name n : List ℕ) (names : List (List ℕ)) → bytes_eq name n ≡ false → times_among name (n ∷ names) ≡ times_among name names
times_later name n names e = rw e refl

-- A name that is among the names is at its place.
pub placed : (name : List ℕ) (names : List (List ℕ)) → is_among name names ≡ true → slice_get names (place_among name names) ≡ Some name
placed name [] h = absurd (both_ways false refl h)
placed name (n ∷ names) h = elim (cases_Bool (bytes_eq name n)) as (λ _. slice_get (n ∷ names) (place_among name (n ∷ names)) ≡ Some name) [
  | inl e ↦ rw (place_here name n names e) (ap (λ (x : List ℕ). Some x) (sym ((bytes_eq-Decides name n).0 e)))
  | inr e ↦ rw (place_later name n names e) (placed name names (sym (among_later name n names e) ∙ h))
]

pub some_place : (name : List ℕ) (names : List (List ℕ)) (m : ℕ) → slice_get names m ≡ Some name → is_among name names ≡ true
some_place name [] m e = let bad : None ≡ Some name = e in absurd cc
some_place name (n ∷ names) zero e = let same : n ≡ name = cc in rw (same, same_name name) refl
some_place name (n ∷ names) (suc m) e = or_right (bytes_eq name n) (is_among name names) (some_place name names m e)

among_times : (name : List ℕ) (names : List (List ℕ)) → is_among name names ≡ true → 1 ≤ times_among name names
among_times name [] h = absurd (both_ways false refl h)
among_times name (n ∷ names) h = elim (cases_Bool (bytes_eq name n)) as (λ _. 1 ≤ times_among name (n ∷ names)) [
  | inl e ↦ omega (arith, times_here name n names e)
  | inr e ↦ omega (arith, times_later name n names e, among_times name names (sym (among_later name n names e) ∙ h))
]

-- A name that occurs once is only at its place.
pub only_place : (name : List ℕ) (names : List (List ℕ)) (m : ℕ) → times_among name names ≤ 1 → slice_get names m ≡ Some name → place_among name names ≡ m
only_place name [] m once e = let bad : None ≡ Some name = e in absurd cc
only_place name (n ∷ names) zero once e = let same : n ≡ name = cc in place_here name n names (subst (λ (x : List ℕ). bytes_eq name x ≡ true) (sym same) (same_name name))
only_place name (n ∷ names) (suc m) once e = elim (cases_Bool (bytes_eq name n)) as (λ _. place_among name (n ∷ names) ≡ suc m) [
  | inl here ↦ absurd (omega (arith, once, times_here name n names here, among_times name names (some_place name names m e)))
  | inr other ↦ place_later name n names other ∙ ap suc (only_place name names m (omega (arith, once, times_later name n names other)) e)
]

pub times-append : (name : List ℕ) (a b : List (List ℕ)) → times_among name (a ++ b) ≡ times_among name a + times_among name b
times-append name [] b = omega arith
times-append name (n ∷ a) b = elim (cases_Bool (bytes_eq name n)) as (λ _. times_among name (n ∷ (a ++ b)) ≡ times_among name (n ∷ a) + times_among name b) [
  | inl e ↦ omega (arith, times_here name n (a ++ b) e, times_here name n a e, times-append name a b)
  | inr e ↦ omega (arith, times_later name n (a ++ b) e, times_later name n a e, times-append name a b)
]

-- ---- who reads a name

-- the operator of that number among the declarations reads the name
abbrev pub ReadsName : List Decl → ℕ → List ℕ → Type 0
ReadsName [] p name = ⊥
ReadsName (Source own file columns ∷ decls) zero name = ⊥
ReadsName (Source own file columns ∷ decls) (suc p) name = ReadsName decls p name
ReadsName (FunctionDecl number ∷ decls) p name = ReadsName decls p name
ReadsName (OpDecl own kind function left right left_keys right_keys ∷ decls) zero name = is_among name (names_read kind left right) ≡ true
ReadsName (OpDecl own kind function left right left_keys right_keys ∷ decls) (suc p) name = ReadsName decls p name
ReadsName (Sink input fields ∷ decls) p name = ReadsName decls p name

-- each name that an operator reads is among the names
abbrev pub AllDeclared : List (List ℕ) → List Decl → Type 0
AllDeclared names decls = (p : ℕ) (name : List ℕ) → ReadsName decls p name → is_among name names ≡ true

first_read : (kind : OpKind) (names : List (List ℕ)) (left right : List ℕ) (m : ℕ) → IsInput (Some (inputs_read names kind left right)) m
    → (name : List ℕ) × (is_among name (names_read kind left right) ≡ true) × (m ≡ place_among name names)
first_read SourceKind names left right m h = absurd h
first_read Map names left right m h = (left, among_here left left [] (same_name left), h)
first_read Reduce names left right m h = (left, among_here left left [] (same_name left), h)
first_read Match names left right m (inl h) = (left, among_here left left (right ∷ []) (same_name left), h)
first_read Match names left right m (inr h) = (right, or_right (bytes_eq right left) (is_among right (right ∷ [])) (among_here right right [] (same_name right)), h)
first_read Cross names left right m (inl h) = (left, among_here left left (right ∷ []) (same_name left), h)
first_read Cross names left right m (inr h) = (right, or_right (bytes_eq right left) (is_among right (right ∷ [])) (among_here right right [] (same_name right)), h)
first_read CoGroup names left right m (inl h) = (left, among_here left left (right ∷ []) (same_name left), h)
first_read CoGroup names left right m (inr h) = (right, or_right (bytes_eq right left) (is_among right (right ∷ [])) (among_here right right [] (same_name right)), h)

-- What is read by number is read by name.
pub named : (names : List (List ℕ)) (decls : List Decl) (p m : ℕ) → Reads (inputs_of names decls) p m → (name : List ℕ) × ReadsName decls p name × (m ≡ place_among name names)
named names [] p m h = absurd h
named names (Source own file columns ∷ decls) zero m h = absurd h
named names (Source own file columns ∷ decls) (suc p) m h = named names decls p m h
named names (FunctionDecl number ∷ decls) p m h = named names decls p m h
named names (OpDecl own kind function left right left_keys right_keys ∷ decls) zero m h = first_read kind names left right m h
named names (OpDecl own kind function left right left_keys right_keys ∷ decls) (suc p) m h = named names decls p m h
named names (Sink input fields ∷ decls) p m h = named names decls p m h

read_two : (names : List (List ℕ)) (left right name : List ℕ) → is_among name (left ∷ right ∷ []) ≡ true → (place_among name names ≡ place_among left names) ⊎ (place_among name names ≡ place_among right names)
read_two names left right name h = elim (or_cases (bytes_eq name left) (bytes_eq name right || false) h) [
  | inl e ↦ inl (ap (λ (x : List ℕ). place_among x names) ((bytes_eq-Decides name left).0 e))
  | inr other ↦ elim (or_cases (bytes_eq name right) false other) [
    | inl e ↦ inr (ap (λ (x : List ℕ). place_among x names) ((bytes_eq-Decides name right).0 e))
    | inr bad ↦ absurd (both_ways false refl bad)
  ]
]

read_one : (names : List (List ℕ)) (left name : List ℕ) → is_among name (left ∷ []) ≡ true → place_among name names ≡ place_among left names
read_one names left name h = elim (or_cases (bytes_eq name left) false h) as (λ _. place_among name names ≡ place_among left names) [
  | inl e ↦ ap (λ (x : List ℕ). place_among x names) ((bytes_eq-Decides name left).0 e)
  | inr bad ↦ absurd (both_ways false refl bad)
]

read_first : (kind : OpKind) (names : List (List ℕ)) (left right name : List ℕ) → is_among name (names_read kind left right) ≡ true → IsInput (Some (inputs_read names kind left right)) (place_among name names)
read_first SourceKind names left right name h = both_ways false refl h
read_first Map names left right name h = read_one names left name h
read_first Reduce names left right name h = read_one names left name h
read_first Match names left right name h = read_two names left right name h
read_first Cross names left right name h = read_two names left right name h
read_first CoGroup names left right name h = read_two names left right name h

-- What is read by name is read by number.
pub numbered : (names : List (List ℕ)) (decls : List Decl) (p : ℕ) (name : List ℕ) → ReadsName decls p name → Reads (inputs_of names decls) p (place_among name names)
numbered names [] p name h = h
numbered names (Source own file columns ∷ decls) zero name h = h
numbered names (Source own file columns ∷ decls) (suc p) name h = numbered names decls p name h
numbered names (FunctionDecl number ∷ decls) p name h = numbered names decls p name h
numbered names (OpDecl own kind function left right left_keys right_keys ∷ decls) zero name h = read_first kind names left right name h
numbered names (OpDecl own kind function left right left_keys right_keys ∷ decls) (suc p) name h = numbered names decls p name h
numbered names (Sink input fields ∷ decls) p name h = numbered names decls p name h

-- ---- how often a name is read

pub read_times : (decls : List Decl) (p : ℕ) (name : List ℕ) → ReadsName decls p name → 1 ≤ times_among name (all_inputs decls)
read_times [] p name h = absurd h
read_times (Source own file columns ∷ decls) zero name h = absurd h
read_times (Source own file columns ∷ decls) (suc p) name h = read_times decls p name h
read_times (FunctionDecl number ∷ decls) p name h = read_times decls p name h
read_times (OpDecl own kind function left right left_keys right_keys ∷ decls) zero name h =
    omega (arith, among_times name (names_read kind left right) h, times-append name (names_read kind left right) (all_inputs decls))
read_times (OpDecl own kind function left right left_keys right_keys ∷ decls) (suc p) name h =
    omega (arith, read_times decls p name h, times-append name (names_read kind left right) (all_inputs decls))
read_times (Sink input fields ∷ decls) p name h = omega (arith, read_times decls p name h, times-append name (input ∷ []) (all_inputs decls))

-- What is read once has one reader.
pub one_reader : (decls : List Decl) (p q : ℕ) (name : List ℕ) → ReadsName decls p name → ReadsName decls q name → times_among name (all_inputs decls) ≤ 1 → p ≡ q
one_reader [] p q name h k once = absurd h
one_reader (Source own file columns ∷ decls) zero q name h k once = absurd h
one_reader (Source own file columns ∷ decls) (suc p) zero name h k once = absurd k
one_reader (Source own file columns ∷ decls) (suc p) (suc q) name h k once = ap suc (one_reader decls p q name h k once)
one_reader (FunctionDecl number ∷ decls) p q name h k once = one_reader decls p q name h k once
one_reader (OpDecl own kind function left right left_keys right_keys ∷ decls) zero zero name h k once = refl
one_reader (OpDecl own kind function left right left_keys right_keys ∷ decls) zero (suc q) name h k once =
    absurd (omega (arith, once, among_times name (names_read kind left right) h, read_times decls q name k, times-append name (names_read kind left right) (all_inputs decls)))
one_reader (OpDecl own kind function left right left_keys right_keys ∷ decls) (suc p) zero name h k once =
    absurd (omega (arith, once, among_times name (names_read kind left right) k, read_times decls p name h, times-append name (names_read kind left right) (all_inputs decls)))
one_reader (OpDecl own kind function left right left_keys right_keys ∷ decls) (suc p) (suc q) name h k once =
    ap suc (one_reader decls p q name h k (omega (arith, once, times-append name (names_read kind left right) (all_inputs decls))))
one_reader (Sink input fields ∷ decls) p q name h k once = one_reader decls p q name h k (omega (arith, once, times-append name (input ∷ []) (all_inputs decls)))

sink_times : (decls : List Decl) (name : List ℕ) → is_among name (sink_inputs decls) ≡ true → 1 ≤ times_among name (all_inputs decls)
sink_times [] name s = absurd (both_ways false refl s)
sink_times (Source own file columns ∷ decls) name s = sink_times decls name s
sink_times (FunctionDecl number ∷ decls) name s = sink_times decls name s
sink_times (OpDecl own kind function left right left_keys right_keys ∷ decls) name s = omega (arith, sink_times decls name s, times-append name (names_read kind left right) (all_inputs decls))
sink_times (Sink input fields ∷ decls) name s = elim (or_cases (bytes_eq name input) (is_among name (sink_inputs decls)) s) as (λ _. 1 ≤ times_among name (input ∷ all_inputs decls)) [
  | inl e ↦ omega (arith, times_here name input (all_inputs decls) e)
  | inr more ↦ omega (arith, sink_times decls name more, times-append name (input ∷ []) (all_inputs decls))
]

-- What a sink names and an operator reads is read twice.
pub sink_and_reader : (decls : List Decl) (p : ℕ) (name : List ℕ) → ReadsName decls p name → is_among name (sink_inputs decls) ≡ true → 2 ≤ times_among name (all_inputs decls)
sink_and_reader [] p name h s = absurd h
sink_and_reader (Source own file columns ∷ decls) zero name h s = absurd h
sink_and_reader (Source own file columns ∷ decls) (suc p) name h s = sink_and_reader decls p name h s
sink_and_reader (FunctionDecl number ∷ decls) p name h s = sink_and_reader decls p name h s
sink_and_reader (OpDecl own kind function left right left_keys right_keys ∷ decls) zero name h s =
    omega (arith, among_times name (names_read kind left right) h, sink_times decls name s, times-append name (names_read kind left right) (all_inputs decls))
sink_and_reader (OpDecl own kind function left right left_keys right_keys ∷ decls) (suc p) name h s =
    omega (arith, sink_and_reader decls p name h s, times-append name (names_read kind left right) (all_inputs decls))
sink_and_reader (Sink input fields ∷ decls) p name h s = elim (or_cases (bytes_eq name input) (is_among name (sink_inputs decls)) s) as (λ _. 2 ≤ times_among name (input ∷ all_inputs decls)) [
  | inl e ↦ omega (arith, times_here name input (all_inputs decls) e, read_times decls p name h)
  | inr more ↦ omega (arith, sink_and_reader decls p name h more, times-append name (input ∷ []) (all_inputs decls))
]

-- ---- an operator that reads one number twice

abbrev IsTwice : Inputs → ℕ → Type 0
IsTwice no_input a = ⊥
IsTwice (one_input b) a = ⊥
IsTwice (two_inputs b c) a = (b ≡ a) × (c ≡ a)

twice_same : (names : List (List ℕ)) (left right : List ℕ) (a : ℕ) → is_among left names ≡ true → is_among right names ≡ true → place_among left names ≡ a → place_among right names ≡ a → left ≡ right
twice_same names left right a l r p q =
    let one : slice_get names a ≡ Some left = subst (λ (x : ℕ). slice_get names x ≡ Some left) p (placed left names l) in
    let two : slice_get names a ≡ Some right = subst (λ (x : ℕ). slice_get names x ≡ Some right) q (placed right names r) in
    cc

two_times : (names : List (List ℕ)) (left right : List ℕ) (a : ℕ) → is_among left names ≡ true → is_among right names ≡ true → place_among left names ≡ a → place_among right names ≡ a
    → times_among left (left ∷ right ∷ []) ≡ 2
two_times names left right a l r p q =
    let same = twice_same names left right a l r p q in
    rw (same_name left, subst (λ (x : List ℕ). bytes_eq left x ≡ true) same (same_name left)) refl

both_twice : (names : List (List ℕ)) (left right : List ℕ) (a : ℕ) → ((name : List ℕ) → is_among name (left ∷ right ∷ []) ≡ true → is_among name names ≡ true)
    → (place_among left names ≡ a) × (place_among right names ≡ a) → (is_among left names ≡ true) × (times_among left (left ∷ right ∷ []) ≡ 2)
both_twice names left right a d t =
    let l = d left (among_here left left (right ∷ []) (same_name left)) in
    let r = d right (or_right (bytes_eq right left) (is_among right (right ∷ [])) (among_here right right [] (same_name right))) in
    (l, two_times names left right a l r t.0 t.1)

first_twice : (kind : OpKind) (names : List (List ℕ)) (left right : List ℕ) (a : ℕ) → ((name : List ℕ) → is_among name (names_read kind left right) ≡ true → is_among name names ≡ true)
    → IsTwice (inputs_read names kind left right) a → (is_among left names ≡ true) × (times_among left (names_read kind left right) ≡ 2)
first_twice SourceKind names left right a d t = absurd t
first_twice Map names left right a d t = absurd t
first_twice Reduce names left right a d t = absurd t
first_twice Match names left right a d t = both_twice names left right a d t
first_twice Cross names left right a d t = both_twice names left right a d t
first_twice CoGroup names left right a d t = both_twice names left right a d t

pub twice_read : (names : List (List ℕ)) (decls : List Decl) (p a : ℕ) (x : Inputs) → AllDeclared names decls → slice_get (inputs_of names decls) p ≡ Some x → IsTwice x a
    → (name : List ℕ) × (is_among name names ≡ true) × (2 ≤ times_among name (all_inputs decls))
twice_read names [] p a x d e t = let bad : None ≡ Some x = e in absurd cc
twice_read names (Source own file columns ∷ decls) zero a x d e t = let same : no_input ≡ x = cc in absurd (subst (λ (y : Inputs). IsTwice y a) (sym same) t)
twice_read names (Source own file columns ∷ decls) (suc p) a x d e t = twice_read names decls p a x (λ q name r. d (suc q) name r) e t
twice_read names (FunctionDecl number ∷ decls) p a x d e t = twice_read names decls p a x (λ q name r. d q name r) e t
twice_read names (OpDecl own kind function left right left_keys right_keys ∷ decls) zero a x d e t =
    let same : inputs_read names kind left right ≡ x = cc in
    let r = first_twice kind names left right a (λ name h. d zero name h) (subst (λ (y : Inputs). IsTwice y a) (sym same) t) in
    (left, r.0, omega (arith, r.1, times-append left (names_read kind left right) (all_inputs decls)))
twice_read names (OpDecl own kind function left right left_keys right_keys ∷ decls) (suc p) a x d e t =
    let r = twice_read names decls p a x (λ q name r. d (suc q) name r) e t in
    (r.0, r.1, omega (arith, r.2, times-append r.0 (names_read kind left right) (all_inputs decls)))
twice_read names (Sink input fields ∷ decls) p a x d e t =
    let r = twice_read names decls p a x (λ q name r. d q name r) e t in
    (r.0, r.1, omega (arith, r.2, times-append r.0 (input ∷ []) (all_inputs decls)))

pub length-inputs_of : (names : List (List ℕ)) (decls : List Decl) → length (inputs_of names decls) ≡ length (node_names decls)
length-inputs_of names [] = refl
length-inputs_of names (Source own file columns ∷ decls) = ap suc (length-inputs_of names decls)
length-inputs_of names (FunctionDecl number ∷ decls) = length-inputs_of names decls
length-inputs_of names (OpDecl own kind function left right left_keys right_keys ∷ decls) = ap suc (length-inputs_of names decls)
length-inputs_of names (Sink input fields ∷ decls) = length-inputs_of names decls

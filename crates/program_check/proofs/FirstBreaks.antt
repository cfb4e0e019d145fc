-- The first declaration that breaks a rule, one declaration after another.
use Rattle.std.proofs.Common.{◌≡◌, ◌≤◌, ◌<◌, ◌+◌, ◌++◌, ℕ, Bool, true, false, List, [], ◌∷◌, filter, get_or, length, take, refl, ap, subst, sym, ◌∙◌, arith, append_assoc, append-nil, length-append}
use Rattle.std.proofs.lemmas.Bool.{both_ways}
use Rattle.std.proofs.lemmas.List.{take_more, take_all}
use Rattle.std.proofs.lemmas.List.Elements.{filter-append}
use Rattle.std.proofs.lemmas.Option.{get_or_from_slice_get}
use Rattle.tac_syntax.specs.Valid.{WithFields}
use Rattle.program_check.specs.declared.counts.Counts.{Counts}
use Rattle.tac_syntax.specs.declared.declarations.Decl.{Decl}
use Rattle.program_check.specs.declared.program_rules.ProgramRule.{ProgramRule}
use Rattle.program_check.specs.declared.program_rules.ProgramRule.TheVariants.{Undeclared, DeclaredTwice, NoSingleSink, TooMany, NotATree, OtherKind, OtherKeyCount, WrongField, NoAttribute, SharedAttribute}
use Rattle.program_check.specs.Candidates.{CandidateData}
use Rattle.program_check.specs.Checks.{BreaksFirstAt}
use Rattle.tac_syntax.specs.Drafts.{DraftData}
use Rattle.program_check.specs.ProgramRules.{Breaks, NoneBreaks, is_function, is_operator, is_pair, order_of, times_so}
use Rattle.program_check.specs.RuleTests.{breaks, counts_of}
use Rattle.program_check.proofs.OpsOfDeclarations.{kept-taken}

-- ---- none of them breaks it

NoneBreaks-push : (rule : ProgramRule) (d : DraftData) (v : List WithFields) (front xs : List Decl) (decl : Decl) → NoneBreaks rule d v front xs → (¬ Breaks rule d v (front ++ xs) decl)
    → NoneBreaks rule d v front (xs ++ decl ∷ [])
NoneBreaks-push rule d v front [] decl h k = (subst (λ (f : List Decl). ¬ Breaks rule d v f decl) (append-nil front) k, tt)
NoneBreaks-push rule d v front (x ∷ xs) decl h k =
    (h.0, NoneBreaks-push rule d v (front ++ x ∷ []) xs decl h.1 (subst (λ (f : List Decl). ¬ Breaks rule d v f decl) (sym (append_assoc front (x ∷ []) xs)) k))

next_front : (decls : List Decl) (n : ℕ) (decl : Decl) → n < length decls → decl ≡ get_or decls n decl → take (n + 1) decls ≡ take n decls ++ decl ∷ []
next_front decls n decl lt e = take_more decls n decl lt ∙ ap (λ (x : Decl). take n decls ++ x ∷ []) (sym e)

pub none-more : (rule : ProgramRule) (c : CandidateData) (decls : List Decl) (n : ℕ) (decl : Decl) → n < length decls → decl ≡ get_or decls n decl → NoneBreaks rule c.draft c.valids [] (take n decls)
    → (¬ Breaks rule c.draft c.valids (take n decls) decl) → NoneBreaks rule c.draft c.valids [] (take (n + 1) decls)
none-more rule c decls n decl lt e h k =
    subst (NoneBreaks rule c.draft c.valids []) (sym (next_front decls n decl lt e)) (NoneBreaks-push rule c.draft c.valids [] (take n decls) decl h k)

pub none-all : (rule : ProgramRule) (c : CandidateData) (decls : List Decl) (n : ℕ) → length decls ≤ n → decls ≡ c.draft.decls → NoneBreaks rule c.draft c.valids [] (take n decls)
    → NoneBreaks rule c.draft c.valids [] c.draft.decls
none-all rule c decls n le e h = subst (NoneBreaks rule c.draft c.valids []) (take_all n decls le ∙ e) h

-- ---- one breaks it

pub first_at : (rule : ProgramRule) (c : CandidateData) (decls : List Decl) (n : ℕ) (decl : Decl) → n < length decls → decl ≡ get_or decls n decl → decls ≡ c.draft.decls
    → NoneBreaks rule c.draft c.valids [] (take n decls) → Breaks rule c.draft c.valids (take n decls) decl → BreaksFirstAt rule c n
first_at rule c decls n decl lt e same none broken =
    record {
      within = omega (arith, ap length same);
      earlier = subst (λ (ds : List Decl). NoneBreaks rule c.draft c.valids [] (take n ds)) same none;
      breaks = λ other there.
          let here : decl ≡ other = e ∙ ap (λ (ds : List Decl). get_or ds n decl) same ∙ get_or_from_slice_get c.draft.decls n other decl there in
          subst (λ (x : Decl). Breaks rule c.draft c.valids (take n c.draft.decls) x) here (subst (λ (ds : List Decl). Breaks rule c.draft c.valids (take n ds) decl) same broken);
    }

-- ---- rules that need only the declarations

pub broken-so : (rule : ProgramRule) (d : DraftData) (v : List WithFields) (front : List Decl) (decl : Decl) → order_of rule < order_of NoAttribute → breaks rule d (counts_of front) decl ≡ true
    → Breaks rule d v front decl
broken-so Undeclared d v front decl early h = h
broken-so DeclaredTwice d v front decl early h = h
broken-so NoSingleSink d v front decl early h = both_ways false refl h
broken-so TooMany d v front decl early h = h
broken-so NotATree d v front decl early h = h
broken-so OtherKind d v front decl early h = h
broken-so OtherKeyCount d v front decl early h = h
broken-so WrongField d v front decl early h = h
broken-so NoAttribute d v front decl early h = absurd (omega (arith, early))
broken-so SharedAttribute d v front decl early h = absurd (omega (arith, early))

pub kept-so : (rule : ProgramRule) (d : DraftData) (v : List WithFields) (front : List Decl) (decl : Decl) → order_of rule < order_of NoAttribute → breaks rule d (counts_of front) decl ≡ false
    → ¬ Breaks rule d v front decl
kept-so Undeclared d v front decl early h b = both_ways _ h b
kept-so DeclaredTwice d v front decl early h b = both_ways _ h b
kept-so NoSingleSink d v front decl early h b = b
kept-so TooMany d v front decl early h b = both_ways _ h b
kept-so NotATree d v front decl early h b = both_ways _ h b
kept-so OtherKind d v front decl early h b = both_ways _ h b
kept-so OtherKeyCount d v front decl early h b = both_ways _ h b
kept-so WrongField d v front decl early h b = both_ways _ h b
kept-so NoAttribute d v front decl early h b = omega (arith, early)
kept-so SharedAttribute d v front decl early h b = omega (arith, early)

-- ---- how many declarations there are of each sort

pub times-push : (test : Decl → Bool) (front : List Decl) (decl : Decl) → times_so test (front ++ decl ∷ []) ≡ times_so test front + times_so test (decl ∷ [])
times-push test front decl = ap length (filter-append test front (decl ∷ [])) ∙ length-append (filter test front) (filter test (decl ∷ []))

pub counts-more : (decls : List Decl) (n : ℕ) (decl : Decl) (counts next : Counts) → n < length decls → decl ≡ get_or decls n decl → counts ≡ counts_of (take n decls)
    → next.functions ≡ counts.functions + times_so is_function (decl ∷ []) → next.operators ≡ counts.operators + times_so is_operator (decl ∷ [])
    → next.pairs ≡ counts.pairs + times_so is_pair (decl ∷ []) → next ≡ counts_of (take (n + 1) decls)
counts-more decls n decl counts next lt e h functions operators pairs =
    let front = take n decls in
    let f : next.functions ≡ times_so is_function (front ++ decl ∷ []) = omega (arith, functions, ap (λ (k : Counts). k.functions) h, times-push is_function front decl) in
    let o : next.operators ≡ times_so is_operator (front ++ decl ∷ []) = omega (arith, operators, ap (λ (k : Counts). k.operators) h, times-push is_operator front decl) in
    let p : next.pairs ≡ times_so is_pair (front ++ decl ∷ []) = omega (arith, pairs, ap (λ (k : Counts). k.pairs) h, times-push is_pair front decl) in
    let all : next ≡ counts_of (front ++ decl ∷ []) = λ i. record { functions = f i; operators = o i; pairs = p i } in
    all ∙ ap counts_of (sym (next_front decls n decl lt e))

-- No count exceeds the number of declarations.
pub record AreAtMost (counts : Counts) (n : ℕ) : Type 0 where
  pub few_functions : counts.functions ≤ n
  pub few_operators : counts.operators ≤ n
  pub few_pairs : counts.pairs ≤ n

pub counts-le : (decls : List Decl) (n : ℕ) (counts : Counts) → n ≤ length decls → counts ≡ counts_of (take n decls) → AreAtMost counts n
counts-le decls n counts le h = record {
  few_functions = omega (arith, ap (λ (k : Counts). k.functions) h, kept-taken is_function decls n le);
  few_operators = omega (arith, ap (λ (k : Counts). k.operators) h, kept-taken is_operator decls n le);
  few_pairs = omega (arith, ap (λ (k : Counts). k.pairs) h, kept-taken is_pair decls n le);
}

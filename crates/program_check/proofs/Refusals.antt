-- The refusal of a candidate that breaks a rule, and one more rule that a candidate keeps.
use Rattle.std.proofs.Common.{◌≡◌, ◌≢◌, ◌+◌, ◌++◌, ◌==◌, inl, inr, not, ℕ, true, false, Some, List, [], ◌∷◌, drop, get_or, length, slice_get, take, refl, ap, subst, sym, ◌∙◌, arith}
use Rattle.std.proofs.lemmas.Bool.{cases_eq, eq-eqb, ne_eqb}
use Rattle.std.proofs.lemmas.List.{drop_more, take-append-drop}
use Rattle.std.proofs.lemmas.Option.{slice_get_read}
use Rattle.tac_syntax.specs.Valid.{WithFields}
use Rattle.tac_syntax.specs.declared.declarations.Decl.{Decl}
use Rattle.program_check.specs.declared.program_rules.ProgramRule.{ProgramRule}
use Rattle.program_check.specs.declared.program_rules.ProgramRule.TheVariants.{Undeclared, DeclaredTwice, NoSingleSink, TooMany, NotATree, OtherKind, OtherKeyCount, WrongField, NoAttribute, SharedAttribute}
use Rattle.program_check.specs.Candidates.{CandidateData}
use Rattle.program_check.specs.Checks.{BreaksFirstAt, KeepsBefore}
use Rattle.tac_syntax.specs.Drafts.{DraftData}
use Rattle.program_check.specs.ProgramRules.{FirstBreak, IsRefused, Keeps, NoneBreaks, code_of_rule, has_no_single_sink, name_at, order_of}
use Rattle.pact_operators.specs.Resolved.{sink_inputs}

-- ---- a refusal

first_break : (rule : ProgramRule) (c : CandidateData) (decls : List Decl) (n : ℕ) (decl : Decl) (name : List ℕ) → BreaksFirstAt rule c n → decls ≡ c.draft.decls → decl ≡ get_or decls n decl
    → name ≡ name_at c.draft.functions decl → FirstBreak rule c.draft c.valids name
first_break rule c decls n decl name h same e named =
    let here : decl ≡ get_or c.draft.decls n decl = e ∙ ap (λ (ds : List Decl). get_or ds n decl) same in
    let there : slice_get c.draft.decls n ≡ Some decl = slice_get_read c.draft.decls (length c.draft.decls) n decl refl h.within here in
    record {
      front = take n c.draft.decls;
      decl = decl;
      later = drop (n + 1) c.draft.decls;
      decls =
          sym (take-append-drop n c.draft.decls)
          ∙ ap (λ (rest : List Decl). take n c.draft.decls ++ rest) (drop_more c.draft.decls n decl h.within ∙ ap (λ (x : Decl). x ∷ drop (n + 1) c.draft.decls) (sym here));
      earlier = h.earlier;
      breaks = h.breaks decl there;
      named = named;
    }

pub refused : (rule : ProgramRule) (c : CandidateData) (decls : List Decl) (n code : ℕ) (decl : Decl) (name : List ℕ) → BreaksFirstAt rule c n → KeepsBefore (order_of rule) c → decls ≡ c.draft.decls
    → decl ≡ get_or decls n decl → name ≡ name_at c.draft.functions decl → code ≡ code_of_rule rule → IsRefused c.draft c.valids code name
refused rule c decls n code decl name h earlier same e named coded =
    record { rule = rule; coded = coded; earlier = earlier; broken = inl (first_break rule c decls n decl name h same e named) }

pub no_single : (d : DraftData) (sinks : List (List ℕ)) → sinks ≡ sink_inputs d.decls → length sinks ≢ 1 → has_no_single_sink d ≡ true
no_single d sinks e h =
    let other : (length (sink_inputs d.decls) == 1) ≡ false = ne_eqb (length (sink_inputs d.decls)) 1 (λ (one : length (sink_inputs d.decls) ≡ 1). h (ap length e ∙ one)) in
    ap not other

pub one_single : (d : DraftData) (sinks : List (List ℕ)) → sinks ≡ sink_inputs d.decls → length sinks ≡ 1 → has_no_single_sink d ≡ false
one_single d sinks e h =
    let one : (length (sink_inputs d.decls) == 1) ≡ true = eq-eqb (length (sink_inputs d.decls)) 1 (sym (ap length e) ∙ h) in
    ap not one

pub sinks_refused : (c : CandidateData) (code : ℕ) (name : List ℕ) → KeepsBefore (order_of NoSingleSink) c → has_no_single_sink c.draft ≡ true → code ≡ code_of_rule NoSingleSink → name ≡ []
    → IsRefused c.draft c.valids code name
sinks_refused c code name earlier broken coded unnamed =
    record { rule = NoSingleSink; coded = coded; earlier = earlier; broken = inr (refl, broken, unnamed) }

-- ---- one more rule

-- the rules in their order
abbrev rule_at : ℕ → ProgramRule
rule_at n = get_or (Undeclared ∷ DeclaredTwice ∷ NoSingleSink ∷ TooMany ∷ NotATree ∷ OtherKind ∷ OtherKeyCount ∷ WrongField ∷ NoAttribute ∷ []) n SharedAttribute

rule_at-order : (rule : ProgramRule) → rule_at (order_of rule) ≡ rule
rule_at-order Undeclared = refl
rule_at-order DeclaredTwice = refl
rule_at-order NoSingleSink = refl
rule_at-order TooMany = refl
rule_at-order NotATree = refl
rule_at-order OtherKind = refl
rule_at-order OtherKeyCount = refl
rule_at-order WrongField = refl
rule_at-order NoAttribute = refl
rule_at-order SharedAttribute = refl

pub keeps-one : (rule : ProgramRule) (c : CandidateData) → KeepsBefore (order_of rule) c → Keeps rule c.draft c.valids → KeepsBefore (order_of rule + 1) c
keeps-one rule c before h other lt = elim (cases_eq (order_of other) (order_of rule)) as (λ _. Keeps other c.draft c.valids) [
  | inl e ↦ subst (λ (r : ProgramRule). Keeps r c.draft c.valids) (sym (rule_at-order rule) ∙ ap rule_at (sym e) ∙ rule_at-order other) h
  | inr e ↦ before other (omega (arith, lt, e))
]

none_at_sinks : (d : DraftData) (v : List WithFields) (front decls : List Decl) → NoneBreaks NoSingleSink d v front decls
none_at_sinks d v front [] = tt
none_at_sinks d v front (decl ∷ decls) = (λ b. b, none_at_sinks d v (front ++ decl ∷ []) decls)

pub keeps-sinks : (c : CandidateData) → KeepsBefore (order_of NoSingleSink) c → has_no_single_sink c.draft ≡ false → KeepsBefore (order_of TooMany) c
keeps-sinks c before h = keeps-one NoSingleSink c before (none_at_sinks c.draft c.valids [] c.draft.decls, λ _. h)

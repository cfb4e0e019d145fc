use Rattle.std.proofs.Common.{List, ap, ◌≡◌, ◌∙◌, sym, refl, true, false, subst, inl, inr, []}
use Rattle.std.proofs.lemmas.Bool.{false≢true}
use Rattle.clap.specs.Words.{App, HasKind, IsAmong, Kinds, Text, app_of, fault_of, is_simple, is_simple_and_free, kind_of, matches_of}
use Rattle.clap.specs.declared.error.kind.ErrorKind.TheVariants.{OutOfMemory}
use Rattle.clap.proofs.OnLiterals.{clap_on_literals}
use Rattle.pact_words.specs.declared.commands.Kind.{Kind}
use Rattle.pact_words.specs.declared.commands.Kind.TheVariants.{Run, Plan, Cert, Check, Sets, Gen, Drill, Iterate}
use Rattle.pact_words.specs.Definitions.{app_for}
use Rattle.pact_words.specs.Words.{texts_of}
use Rattle.pact_words.proofs.parsing.parse.Goals as goal

free : (k : Kind) → is_simple_and_free (app_for k) ≡ true
unfolding clap_on_literals
free Run = refl
free Plan = refl
free Cert = refl
free Check = refl
free Sets = refl
free Gen = refl
free Drill = refl
free Iterate = refl

simple : (k : Kind) → is_simple (app_for k) ≡ true
unfolding clap_on_literals
simple Run = refl
simple Plan = refl
simple Cert = refl
simple Check = refl
simple Sets = refl
simple Gen = refl
simple Drill = refl
simple Iterate = refl

pub returns-in-Ok-try_get_matches_from-clause-taken : goal.returns-in-Ok-try_get_matches_from-clause-taken
returns-in-Ok-try_get_matches_from-clause-taken c =
    let made = c.in-Ok.ensures in
    ap (λ (a : App). fault_of a (texts_of c.args.words.now)) (sym made) ∙ c.in-Ok-try_get_matches_from.ensures.kinds (ap is_simple_and_free made ∙ free c.args.kind)

pub returns-in-Ok-try_get_matches_from-clause-found : goal.returns-in-Ok-try_get_matches_from-clause-found
returns-in-Ok-try_get_matches_from-clause-found c =
    let made = c.in-Ok.ensures in
    (c.in-Ok-try_get_matches_from.ensures.matches (ap is_simple made ∙ simple c.args.kind)).0 ∙ ap (λ (a : App). matches_of a (texts_of c.args.words.now)) made

pub returns-clause-refused : goal.returns-clause-refused
returns-clause-refused c = λ _ none.
    let made = c.in-Ok.ensures in
    let words : List Text = texts_of c.args.words.now in
    let all : fault_of (app_of c.in-Ok.command) words ≡ [] = ap (λ (a : App). fault_of a words) made ∙ none in
    let has : HasKind (fault_of (app_of c.in-Ok.command) words) c.in-Err.error = c.in-Err.ensures.kinds (ap is_simple_and_free made ∙ free c.args.kind) in
    elim has [
      | inl h ↦
          let wanting : c.kind.result ≡ OutOfMemory = c.kind.ensures ∙ h in
          let bad : false ≡ true = rw wanting at c.if-eq.ensures in
          absurd (false≢true bad)
      | inr h ↦ subst (λ (ks : Kinds). IsAmong (kind_of c.in-Err.error) ks) all h
    ]

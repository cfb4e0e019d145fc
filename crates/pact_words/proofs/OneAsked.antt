-- Words ask for at most one command, and for none if they are refused.
use Rattle.std.proofs.Common.{◌≡◌, ◌∙◌, refl, ap, subst, inl, inr, ℕ, List, Option, Some, None, codes}
use Rattle.clap.specs.Words.{Row, first_of, matches_of}
use Rattle.pact_words.specs.declared.commands.Kind.{Kind}
use Rattle.pact_words.specs.declared.commands.Kind.TheVariants.{Run, Plan, Cert, Check, Sets, Gen, Drill, Iterate}
use Rattle.pact_words.specs.declared.commands.Options.{Options}
use Rattle.pact_words.specs.Definitions.{app_for}
use Rattle.pact_words.specs.FoundValues.{all_five, all_four, flag_of, local_of, number_of}
use Rattle.pact_words.specs.Words.{AreRefused, AreRefusedBy, Asked, IsAsked, NamesNoStrategy, asked_of, options_from, options_of, rewrites_of, to_drill, to_iterate, to_run}

pub one_of : {A : Type 0} (o : Option A) (a b : A) → o ≡ Some a → o ≡ Some b → a ≡ b
one_of o a b h g = cc

pub not_both : {A : Type 0} (o : Option A) (a : A) → o ≡ Some a → o ≡ None → ⊥
not_both o a h g = cc

pub one_asked : (words : List (List ℕ)) (a b : Asked) → IsAsked words a → IsAsked words b → a ≡ b
one_asked words a b h g =
    let kinds : h.kind ≡ g.kind = one_of _ h.kind g.kind h.named g.named in
    one_of (asked_of g.kind (matches_of (app_for g.kind) words)) a b
    (subst (λ (kind : Kind). asked_of kind (matches_of (app_for kind) words) ≡ Some a) kinds h.values) g.values

second_without : {A B C D E : Type 0} (f : A → B → C → D → E) (a : Option A) (c : Option C) (d : Option D) → all_four f a None c d ≡ None
second_without f None c d = refl
second_without f (Some x) c d = refl

third_without : {A B C D E : Type 0} (f : A → B → C → D → E) (a : Option A) (b : Option B) (d : Option D) → all_four f a b None d ≡ None
third_without f None b d = refl
third_without f (Some x) None d = refl
third_without f (Some x) (Some y) d = refl

fourth_without : {A B C D E F : Type 0} (f : A → B → C → D → E → F) (a : Option A) (b : Option B) (c : Option C) (e : Option E)
    → all_five f a b c None e ≡ None
fourth_without f None b c e = refl
fourth_without f (Some x) None c e = refl
fourth_without f (Some x) (Some y) None e = refl
fourth_without f (Some x) (Some y) (Some z) e = refl

fifth_without : {A B C D E F : Type 0} (f : A → B → C → D → E → F) (a : Option A) (b : Option B) (c : Option C) (d : Option D)
    → all_five f a b c d None ≡ None
fifth_without f None b c d = refl
fifth_without f (Some w) None c d = refl
fifth_without f (Some w) (Some x) None d = refl
fifth_without f (Some w) (Some x) (Some y) None = refl
fifth_without f (Some w) (Some x) (Some y) (Some z) = refl

no_options : (rows : List Row) → local_of (codes "local") rows ≡ None → options_of rows ≡ None
no_options rows h =
    let workers = number_of (codes "workers") rows in
    let plans = number_of (codes "plans") rows in
    let batch = number_of (codes "batch") rows in
    let depth = number_of (codes "depth") rows in
    ap (all_five options_from workers plans batch depth) h ∙ fifth_without options_from workers plans batch depth

-- if `--local` names no strategy, the values give no command
pub none_asked : (k : Kind) (rows : List Row) → NamesNoStrategy k rows → asked_of k rows ≡ None
none_asked Run rows h =
    let program = first_of (codes "program") rows in
    let counts = flag_of (codes "counts") rows in
    ap (λ (o : Option Options). all_four to_run program o (rewrites_of rows) counts) (no_options rows h)
    ∙ second_without to_run program (rewrites_of rows) counts
none_asked Plan rows h = absurd h
none_asked Cert rows h = absurd h
none_asked Check rows h = absurd h
none_asked Sets rows h = absurd h
none_asked Gen rows h = absurd h
none_asked Drill rows h =
    let seed = number_of (codes "seed") rows in
    let row_count = number_of (codes "rows") rows in
    ap (λ (o : Option Options). all_four to_drill seed row_count o (rewrites_of rows)) (no_options rows h)
    ∙ third_without to_drill seed row_count (rewrites_of rows)
none_asked Iterate rows h =
    let program = first_of (codes "program") rows in
    let source = first_of (codes "source") rows in
    let rounds = number_of (codes "rounds") rows in
    let stable = flag_of (codes "stable") rows in
    ap (λ (o : Option Options). all_five to_iterate program source rounds o stable) (no_options rows h)
    ∙ fourth_without to_iterate program source rounds stable

pub never_both : (words : List (List ℕ)) (a : Asked) → IsAsked words a → AreRefused words → ⊥
never_both words a h refused =
    let by_kind : AreRefusedBy (Some h.kind) words = subst (λ (kind : Option Kind). AreRefusedBy kind words) h.named refused in
    elim by_kind [
      | inl fault ↦ fault h.taken
      | inr other ↦ not_both _ a h.values (none_asked h.kind (matches_of (app_for h.kind) words) other)
    ]

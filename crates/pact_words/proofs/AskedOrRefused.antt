-- Words ask for a command, or they are refused.
use Rattle.std.proofs.Common.{◌≡◌, ◌⊎◌, ◌∙◌, inl, inr, refl, sym, ap, subst, ℕ, List, [], ◌∷◌, Option, Some, None, option_and_then, slice_get}
use Rattle.std.specs.Borrow.{Bor}
use Rattle.clap.specs.Kinds.{Kinds}
use Rattle.clap.specs.Words.{fault_of, matches_of}
use Rattle.pact_words.specs.declared.commands.Kind.{Kind}
use Rattle.pact_words.specs.Definitions.{app_for}
use Rattle.pact_words.specs.Words.{AreRefused, AreRefusedBy, Asked, IsAsked, asked_of, kind_in, kind_named, texts_of}
use Rattle.pact_words.proofs.TakenWords.{asks, taken_names_none}

refused_by : (k : Kind) (words : List (List ℕ)) → kind_in words ≡ Some k → AreRefusedBy (Some k) words → AreRefused words
refused_by k words named = subst (λ (kind : Option Kind). AreRefusedBy kind words) (sym named)

-- the command that the first word names
pub kind_of_first : (words : List (Bor (List ℕ))) (first : Bor (List ℕ)) (k : Kind) → slice_get words 0 ≡ Some first → kind_named first.now ≡ Some k → kind_in (texts_of words) ≡ Some k
kind_of_first [] first k there named = ap (option_and_then (λ (word : Bor (List ℕ)). kind_named word.now)) there ∙ named
kind_of_first (word ∷ words) first k there named = ap (option_and_then (λ (word : Bor (List ℕ)). kind_named word.now)) there ∙ named

-- clap takes the words, but the values that it finds give no command
pub none_found : (k : Kind) (words : List (List ℕ)) → kind_in words ≡ Some k → fault_of (app_for k) words ≡ []
    → asked_of k (matches_of (app_for k) words) ≡ None → AreRefused words
none_found k words named taken none = refused_by k words named (inr (taken_names_none k words taken none))

abbrev Either : List (List ℕ) → Type 0
Either words = ((a : Asked) × IsAsked words a) ⊎ AreRefused words

of_kind : (k : Kind) (words : List (List ℕ)) → kind_in words ≡ Some k → (kinds : Kinds) → fault_of (app_for k) words ≡ kinds → Either words
of_kind k words named [] taken = elim (asks k words taken) [
  | inl h ↦ inl (h.command, record { kind = k; named = named; taken = taken; values = h.values })
  | inr other ↦ inr (refused_by k words named (inr other))
]
of_kind k words named (x ∷ xs) fault =
    inr (refused_by k words named (inl (λ none. let bad : x ∷ xs ≡ [] = sym fault ∙ none in cc)))

pub either : (words : List (List ℕ)) → ((a : Asked) × IsAsked words a) ⊎ AreRefused words
either words = go (kind_in words) refl
  where
    go : (kind : Option Kind) → kind_in words ≡ kind → Either words
    go None e = inr (subst (λ (kind : Option Kind). AreRefusedBy kind words) (sym e) tt)
    go (Some k) e = of_kind k words e (fault_of (app_for k) words) refl

-- Each step keeps the rule of a pipe.
use Rattle.std.proofs.Common.{◌≡◌, ◌≢◌, ℕ, zero, suc, true, false, true≢false, List, [], ◌∷◌, ◌++◌, length, set, sym, refl, ap, ◌∙◌, subst, ⊎_elim, append_assoc}
use mathlib.Core.Option.{some, some-ne-none}
use lib.ListN.{get_elem?}
use Rattle.crossbeam_queue.specs.Fifo.{Pushes, Pops, Forks, Merges, Learns}
use Rattle.crossbeam_queue.proofs.Lists.{at_set, at_snoc}
use Rattle.flow_instance.specs.Notes.{IsNote}
use Rattle.batch_channel.specs.Rule.{HoldsNotes, view_of, IsView, IsPiped, IsBehind}
use Rattle.flow_instance.specs.declared.notes.Note.{Note}
use Rattle.batch_channel.specs.declared.rules.View.{View}

holds_more : (fields : ℕ) (items : List Note) (note : Note) → HoldsNotes fields items → IsNote fields note → HoldsNotes fields (items ++ note ∷ [])
holds_more fields [] note h n = (n, tt)
holds_more fields (x ∷ items) note h n = (h.0, holds_more fields items note h.1 n)

at_end : (l : List View) (a b : View) (j : ℕ) → get_elem? l j ≢ some b → get_elem? (l ++ a ∷ []) j ≡ some b → j ≡ length l
at_end [] a b zero n e = refl
at_end [] a b (suc j) n e = absurd (some-ne-none b (sym e))
at_end (x ∷ xs) a b zero n e = absurd (n e)
at_end (x ∷ xs) a b (suc j) n e = ap suc (at_end xs a b j n e)

-- what is known of each view, by its pass
abbrev Knows : (ℕ → View → Type 0) → List View → Type 0
Knows F views = (pass : ℕ) (v : View) → get_elem? views pass ≡ some v → F pass v

set_one : (F : ℕ → View → Type 0) (views : List View) (pass : ℕ) (w : View) → F pass w → ((j : ℕ) (u : View) → j ≢ pass → get_elem? views j ≡ some u → F j u) → Knows F (set views pass w)
set_one F views pass w mine others j u e =
    ⊎_elim (λ (x : (j ≡ pass) × (w ≡ u)). subst (λ (y : ℕ × View). F y.0 y.1) (λ i. (sym x.0 i, x.1 i)) mine)
    (λ (x : (j ≢ pass) × (get_elem? views j ≡ some u)). others j u x.0 x.1) (at_set views pass j w u e)

pub begins : (fields : ℕ) → IsPiped fields [] (view_of true true [] [] ∷ [])
begins fields = record {
  writer = 0;
  reader = 0;
  put = [];
  taken = [];
  whole = refl;
  notes = tt;
  knows = set_one (IsView 0 0 [] []) (view_of true true [] [] ∷ []) 0 (view_of true true [] []) (record { puts = λ _. (refl, refl); takes = λ _. (refl, refl) })
      (λ j u other e. absurd (other (at_end [] _ u j (λ x. some-ne-none u (sym x)) e)));
}

pub puts : (fields n pass : ℕ) (v : View) (x : Note) → v.puts ≡ true → IsNote fields x → Pushes (IsPiped fields) n pass v x (λ w. w ≡ view_of v.puts v.takes (v.put ++ x ∷ []) v.taken)
puts fields n pass v x may wide items views _ h at =
    let w : View = view_of v.puts v.takes (v.put ++ x ∷ []) v.taken in
    let mine = h.knows pass v at in
    let put = h.put ++ x ∷ [] in (
      w,
      record {
        writer = h.writer;
        reader = h.reader;
        put = put;
        taken = h.taken;
        whole = ap (λ l. l ++ x ∷ []) h.whole ∙ append_assoc h.taken items (x ∷ []);
        notes = holds_more fields items x h.notes wide;
        knows = set_one (IsView h.writer h.reader put h.taken) views pass w (record { puts = λ _. ((mine.puts may).0, ap (λ l. l ++ x ∷ []) (mine.puts may).1); takes = mine.takes })
            (λ j u other e. record { puts = λ p. absurd (other (((h.knows j u e).puts p).0 ∙ sym (mine.puts may).0)); takes = (h.knows j u e).takes });
      },
      refl,
    )

-- the rule still holds after the oldest note is taken
takes_front : (fields pass : ℕ) (v : View) (x : Note) (items : List Note) (views : List View) → v.takes ≡ true → IsPiped fields (x ∷ items) views → get_elem? views pass ≡ some v
    → IsPiped fields items (set views pass (view_of v.puts v.takes v.put (v.taken ++ x ∷ [])))
takes_front fields pass v x items views may h at =
    let w : View = view_of v.puts v.takes v.put (v.taken ++ x ∷ []) in
    let mine = h.knows pass v at in
    let taken = h.taken ++ x ∷ [] in record {
      writer = h.writer;
      reader = h.reader;
      put = h.put;
      taken = taken;
      whole = h.whole ∙ sym (append_assoc h.taken (x ∷ []) items);
      notes = h.notes.1;
      knows = set_one (IsView h.writer h.reader h.put taken) views pass w (record { puts = mine.puts; takes = λ _. ((mine.takes may).0, ap (λ l. l ++ x ∷ []) (mine.takes may).1) })
          (λ j u other e. record { puts = (h.knows j u e).puts; takes = λ p. absurd (other (((h.knows j u e).takes p).0 ∙ sym (mine.takes may).0)) });
    }

pub takes : (fields pass : ℕ) (v : View) → v.takes ≡ true → Pops (IsPiped fields) pass v (λ x w. IsNote fields x × (w ≡ view_of v.puts v.takes v.put (v.taken ++ x ∷ [])))
takes fields pass v may x items views h at = (view_of v.puts v.takes v.put (v.taken ++ x ∷ []), takes_front fields pass v x items views may h at, (h.notes.0, refl))

-- what is known once both ends are joined
pub totals : (fields pass : ℕ) (v : View) → v.puts ≡ true → v.takes ≡ true → Learns (IsPiped fields) pass v (λ items. v.put ≡ v.taken ++ items)
totals fields pass v a b items views h at = let mine = h.knows pass v at in (mine.puts a).1 ∙ h.whole ∙ ap (λ l. l ++ items) (sym (mine.takes b).1)

pub leaves : (fields pass : ℕ) (v : View) → v.puts ≡ true → v.takes ≡ true
    → Pops (IsPiped fields) pass v (λ x w. IsNote fields x × ((rest : List Note) × (v.put ≡ v.taken ++ x ∷ rest)) × (w ≡ view_of v.puts v.takes v.put (v.taken ++ x ∷ [])))
leaves fields pass v a b x items views h at =
    (view_of v.puts v.takes v.put (v.taken ++ x ∷ []), takes_front fields pass v x items views b h at, (h.notes.0, (items, totals fields pass v a b (x ∷ items) views h at), refl))

pub behind : (fields pass : ℕ) (v : View) → v.puts ≡ true → Learns (IsPiped fields) pass v (IsBehind v)
behind fields pass v may items views h at = (h.taken, (((h.knows pass v at).puts may).1 ∙ h.whole))

pub forks : (fields pass : ℕ) (v : View) → v.puts ≡ true → v.takes ≡ true → Forks (IsPiped fields) pass v (view_of true false v.put []) (view_of false true [] v.taken)
forks fields pass v a b items views h at =
    let l : View = view_of true false v.put [] in
    let r : View = view_of false true [] v.taken in
    let mine = h.knows pass v at in
    let vs : List View = set views pass l in
    let Old : ℕ → View → Type 0 = λ j u. (u.puts ≡ true → (j ≡ h.writer) × (u.put ≡ h.put)) × (u.takes ≢ true) in
    let old : Knows Old vs = set_one Old views pass l ((λ _. mine.puts a), λ p. true≢false (sym p)) (λ j u other e. ((h.knows j u e).puts, λ p. other (((h.knows j u e).takes p).0 ∙ sym (mine.takes b).0))) in record {
      writer = h.writer;
      reader = length vs;
      put = h.put;
      taken = h.taken;
      whole = h.whole;
      notes = h.notes;
      knows = λ j u e. ⊎_elim (λ x. record { puts = (old j u x).0; takes = λ p. absurd ((old j u x).1 p) })
          (λ (is : r ≡ u). record {
            puts = λ p. absurd (true≢false (sym (ap (λ (y : View). y.puts) is ∙ p)));
            takes = λ p. (at_end vs r u j (λ x. (old j u x).1 p) e, ap (λ (y : View). y.taken) (sym is) ∙ (mine.takes b).1);
          }) (at_snoc vs r u j e);
    }

pub merges : (fields pass : ℕ) (v : View) (other : ℕ) (u : View) → v.puts ≡ true → u.takes ≡ true → Merges (IsPiped fields) pass v other u (view_of true true v.put u.taken) (view_of false false [] [])
merges fields pass v other u a b items views h at two at' =
    let both : View = view_of true true v.put u.taken in
    let mine = h.knows pass v at in
    let vs : List View = set views pass both in
    let was : get_elem? views other ≡ some u = ⊎_elim (λ x. absurd (two x.0)) (λ x. x.1) (at_set views pass other both u at') in
    let theirs = (h.knows other u was).takes b in
    let Now : ℕ → View → Type 0 = λ j y. j ≢ other → IsView h.writer pass h.put h.taken j y in
    let now : Knows Now vs = set_one Now views pass both (λ _. record { puts = λ _. mine.puts a; takes = λ _. (refl, theirs.1) })
    (λ j y _ e apart. record { puts = (h.knows j y e).puts; takes = λ p. absurd (apart (((h.knows j y e).takes p).0 ∙ sym theirs.0)) }) in record {
      writer = h.writer;
      reader = pass;
      put = h.put;
      taken = h.taken;
      whole = h.whole;
      notes = h.notes;
      knows = set_one (IsView h.writer pass h.put h.taken) vs other (view_of false false [] []) (record { puts = λ p. absurd (true≢false (sym p)); takes = λ p. absurd (true≢false (sym p)) }) (λ j y apart e. now j y e apart);
    }

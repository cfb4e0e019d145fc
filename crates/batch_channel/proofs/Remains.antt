-- What is left after the ends are joined.
use Rattle.std.proofs.Common.{◌≡◌, ℕ, true, List, [], ◌∷◌, ◌++◌, length, drop, sym, ap, ◌∙◌, subst, append_assoc, MatchOption}
use Rattle.std.specs.Prelude.{Option, Some, None}
use native.Mathlib.Omega.{arith}
use Rattle.std.proofs.Math.Seq.{drop-append_seam}
use Rattle.crossbeam_queue.specs.Fifo.{Held}
use Rattle.flow_instance.specs.Notes.{IsNote}
use Rattle.batch_channel.specs.Rule.{view_of}
use Rattle.flow_instance.specs.declared.notes.Note.{Note}
use Rattle.batch_channel.specs.declared.rules.View.{View}

-- a view of both ends, by which it is known what is left
abbrev pub IsJoined : View → Type 0
IsJoined v = (v.puts ≡ true) × (v.takes ≡ true) × (v.put ≡ v.taken ++ drop (length v.taken) v.put)

-- what is known after a pop from the joined ends
abbrev pub Popped : ℕ → Option Note → View → View → Type 0
Popped fields r v w =
    MatchOption r ((w ≡ v) × Held 0 (λ items. v.put ≡ v.taken ++ items))
    (λ x. IsNote fields x × ((rest : List Note) × (v.put ≡ v.taken ++ x ∷ rest)) × (w ≡ view_of v.puts v.takes (v.put) (v.taken ++ x ∷ [])))

seam : (put taken rest : List Note) → put ≡ taken ++ rest → drop (length taken) put ≡ rest
seam put taken rest e = ap (drop (length taken)) e ∙ drop-append_seam taken rest

pub whole : (put taken rest : List Note) → put ≡ taken ++ rest → put ≡ taken ++ drop (length taken) put
whole put taken rest e = e ∙ ap (λ l. taken ++ l) (sym (seam put taken rest e))

pub stays_joined : (fields : ℕ) (r : Option Note) (v w : View) → IsJoined v → Popped fields r v w → IsJoined w
stays_joined fields None v w j p = subst IsJoined (sym p.0) j
stays_joined fields (Some x) v w j p = subst IsJoined (sym p.2) (j.0, j.1, whole v.put (v.taken ++ x ∷ []) p.1.0 (p.1.1 ∙ sym (append_assoc v.taken (x ∷ []) p.1.0)))

-- the notes that a joined view has left
abbrev pub remain : View → List Note
remain v = drop (length v.taken) v.put

nothing_left : (v : View) (items : List Note) → length items ≡ 0 → v.put ≡ v.taken ++ items → remain v ≡ []
nothing_left v [] e whole = seam v.put v.taken [] whole
nothing_left v (x ∷ items) e whole = absurd (omega (arith, e))

pub tells_next : (fields : ℕ) (r : Option Note) (v w : View) → Popped fields r v w → MatchOption r (remain v ≡ []) (λ note. remain v ≡ note ∷ remain w)
tells_next fields None v w p = nothing_left v p.1.0 p.1.1 p.1.2
tells_next fields (Some x) v w p =
    let rest = p.1.0 in
    seam v.put v.taken (x ∷ rest) p.1.1
    ∙ ap (λ l. x ∷ l) (sym (ap remain p.2 ∙ seam v.put (v.taken ++ x ∷ []) rest (p.1.1 ∙ sym (append_assoc v.taken (x ∷ []) rest))))

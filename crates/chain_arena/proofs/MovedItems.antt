-- Items that are moved one by one.
use Rattle.std.proofs.Common.{◌≡◌, ◌<◌, ◌+◌, ℕ, List, [], ◌∷◌, ◌++◌, length, get_or, ap, sym, ◌∙◌, arith, append_assoc}
use Rattle.std.specs.Prelude.{slice_set}
use Rattle.std.proofs.lemmas.List.{get_or-set_same, length-append}
use Rattle.chain_arena.proofs.Lists.{set_twice}
use Rattle.chain_arena.specs.Arenas.{ArenaData, IsPushed, IsTaken}

-- Some items were moved. Those moved and those left are the original items.
pub record IsMoving {T : Type 0} (into chain : ℕ) (self from now left : ArenaData T) : Type 0 where
  pub moved : List T
  pub all : get_or from.lists chain [] ≡ moved ++ get_or left.lists chain []
  pub lists : now.lists ≡ slice_set self.lists into (get_or self.lists into [] ++ moved)
  pub others : left.lists ≡ slice_set from.lists chain (get_or left.lists chain [])
  pub spare : now.spare + length moved ≡ self.spare
  pub freed : left.spare ≡ from.spare + length moved

pub one_moved : {T : Type 0} (into chain : ℕ) (self from now left next rest : ArenaData T) (item : T) → into < length self.lists → IsMoving into chain self from now left → IsTaken chain item left rest → IsPushed into item now next → IsMoving into chain self from next rest
one_moved into chain self from now left next rest item lt m t p = record {
  moved = m.moved ++ item ∷ [];
  all = m.all ∙ ap (λ l. m.moved ++ l) t.listed ∙ sym (append_assoc m.moved (item ∷ []) (get_or rest.lists chain []));
  lists = p.lists ∙ (λ i. slice_set (m.lists i) into ((ap (λ l. get_or l into []) m.lists ∙ get_or-set_same self.lists into (get_or self.lists into [] ++ m.moved) [] lt) i ++ item ∷ []))
      ∙ set_twice self.lists into (get_or self.lists into [] ++ m.moved) ((get_or self.lists into [] ++ m.moved) ++ item ∷ [])
      ∙ ap (slice_set self.lists into) (append_assoc (get_or self.lists into []) m.moved (item ∷ []));
  others = t.lists ∙ ap (λ l. slice_set l chain (get_or rest.lists chain [])) m.others ∙ set_twice from.lists chain (get_or left.lists chain []) (get_or rest.lists chain []);
  spare = let s = m.spare in let q = p.spare in let n = length-append m.moved (item ∷ []) in omega (arith, s, q, n);
  freed = let s = m.freed in let q = t.spare in let n = length-append m.moved (item ∷ []) in omega (arith, s, q, n);
}

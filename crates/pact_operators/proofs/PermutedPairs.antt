-- What a function emits for each pair of two lists is the same, up to order, if the lists are reordered.
use Rattle.std.proofs.Common.{List, [], ◌∷◌}
use Rattle.std.specs.Prelude.{flat_map}
use Rattle.pact_record.proofs.Permutations.{Perm, both_parts, chains, flat_map_perm, nothing}

pub pairs_perm : {A B C : Type 0} (f : A → B → List C) {ls now : List A} {rs rest : List B} → Perm ls now → Perm rs rest → Perm (flat_map (λ l. flat_map (f l) rs) ls) (flat_map (λ l. flat_map (f l) rest) now)
pairs_perm {A} {B} {C} f {ls} {now} {rs} {rest} p q = chains (flat_map_perm (λ l. flat_map (f l) rs) p) (onto now)
  where
    onto : (xs : List A) → Perm (flat_map (λ l. flat_map (f l) rs) xs) (flat_map (λ l. flat_map (f l) rest) xs)
    onto [] = nothing
    onto (x ∷ xs) = both_parts (flat_map_perm (f x) q) (onto xs)

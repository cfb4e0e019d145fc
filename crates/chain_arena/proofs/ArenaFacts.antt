-- The items at nodes, and the effect of an arena's calls on them.
use Rattle.std.proofs.Common.{◌≡◌, ◌≢◌, ◌<◌, ◌+◌, ◌==◌, ℕ, zero, suc, true, false, List, [], ◌∷◌, ◌++◌, length, map, get_or, refl, ap, sym, ◌∙◌, subst, arith, append_assoc, Option, Some, None}
use Rattle.std.specs.Prelude.{is_some, option_to_list, slice_set}
use Rattle.std.proofs.lemmas.Bool.{or_parts}
use Rattle.std.proofs.lemmas.Bool.Decides.{nat_tests}
use Rattle.std.proofs.lemmas.List.{get_or-set_same, get_or-set_other, get_or_default, length-append, length-set, map-set}
use Rattle.chain_arena.proofs.Lists.{all-get, all-last, all-set, get_or-last}
use Rattle.chain_arena.specs.Arenas.{ArenaData, AreOccupied, HaveItems, IsPushed, IsTaken, concatenated, items_of}
use Rattle.chain_arena.specs.Linked.{FreesFirst, IsInNone, LinkData, TakesFree, is_in}
use Rattle.chain_arena.specs.Linked as links

other_node : (m n : ℕ) → (m == n) ≡ false → m ≢ n
other_node m n h = grind (arith, nat_tests)

items-elsewhere : {T : Type 0} (items : List (Option T)) (n : ℕ) (x : Option T) (nodes : List ℕ) → is_in nodes n ≡ false → items_of (slice_set items n x) nodes ≡ items_of items nodes
items-elsewhere items n x [] o = refl
items-elsewhere items n x (m ∷ nodes) o =
    let parts = or_parts (m == n) (is_in nodes n) o in
    λ i. option_to_list (get_or-set_other items n m x None (other_node m n parts.0) i) ++ items-elsewhere items n x nodes parts.1 i

lists-elsewhere : {T : Type 0} (items : List (Option T)) (n : ℕ) (x : Option T) (lists : List (List ℕ)) → IsInNone n lists → map (items_of (slice_set items n x)) lists ≡ map (items_of items) lists
lists-elsewhere items n x [] o = refl
lists-elsewhere items n x (nodes ∷ lists) o = λ i. items-elsewhere items n x nodes o.0 i ∷ lists-elsewhere items n x lists o.1 i

all-elsewhere : {T : Type 0} (items : List (Option T)) (n : ℕ) (x : Option T) (nodes : List ℕ) → is_in nodes n ≡ false → HaveItems items nodes → HaveItems (slice_set items n x) nodes
all-elsewhere items n x [] o h = tt
all-elsewhere items n x (m ∷ nodes) o h =
    let parts = or_parts (m == n) (is_in nodes n) o in
    (ap is_some (get_or-set_other items n m x None (other_node m n parts.0)) ∙ h.0, all-elsewhere items n x nodes parts.1 h.1)

occupied-elsewhere : {T : Type 0} (items : List (Option T)) (n : ℕ) (x : Option T) (lists : List (List ℕ)) → IsInNone n lists → AreOccupied items lists → AreOccupied (slice_set items n x) lists
occupied-elsewhere items n x [] o h = tt
occupied-elsewhere items n x (nodes ∷ lists) o h = (all-elsewhere items n x nodes o.0 h.0, occupied-elsewhere items n x lists o.1 h.1)

items-append : {T : Type 0} (items : List (Option T)) (ns ms : List ℕ) → items_of items (ns ++ ms) ≡ items_of items ns ++ items_of items ms
items-append items [] ms = refl
items-append items (n ∷ ns) ms = ap (λ l. option_to_list (get_or items n None) ++ l) (items-append items ns ms) ∙ sym (append_assoc (option_to_list (get_or items n None)) (items_of items ns) (items_of items ms))

-- an item is a list of length 1
one-item : {T : Type 0} (o : Option T) → is_some o ≡ true → length (option_to_list o) ≡ 1
one-item None h = cc
one-item (Some x) h = refl

pub length-items : {T : Type 0} (items : List (Option T)) (nodes : List ℕ) → HaveItems items nodes → length (items_of items nodes) ≡ length nodes
length-items items [] h = refl
length-items items (n ∷ nodes) h =
    let one = one-item (get_or items n None) h.0 in
    let rest = length-items items nodes h.1 in
    length-append (option_to_list (get_or items n None)) (items_of items nodes) ∙ (omega (arith, one, rest))

abbrev pub shown : {T : Type 0} → List (Option T) → LinkData → ArenaData T
shown items l = record { lists = map (items_of items) l.lists; spare = length l.free }

pub list_of : {T : Type 0} (items : List (Option T)) (lists : List (List ℕ)) (n : ℕ) → get_or (map (items_of items) lists) n [] ≡ items_of items (get_or lists n [])
list_of items [] zero = refl
list_of items [] (suc n) = refl
list_of items (l ∷ lists) zero = refl
list_of items (l ∷ lists) (suc n) = list_of items lists n

-- there is an item at each node of one list
pub have_items : {T : Type 0} (items : List (Option T)) (lists : List (List ℕ)) (n : ℕ) → AreOccupied items lists → HaveItems items (get_or lists n [])
have_items items lists n occ = all-get (λ nodes. HaveItems items nodes) lists n tt occ

-- the items of one list
pub list_in : {T : Type 0} (items : List (Option T)) (l : LinkData) (v : ArenaData T) (n : ℕ) → shown items l ≡ v → items_of items (get_or l.lists n []) ≡ get_or v.lists n []
list_in {T = T} items l v n e = sym (list_of items l.lists n) ∙ ap (λ (v : ArenaData T). get_or v.lists n []) e

-- ---- push_back

pub record Pushes {T : Type 0} (list : ℕ) (item : T) (old : ArenaData T) (items : List (Option T)) (l : LinkData) : Type 0 where
  pub long : length items ≡ l.nodes
  pub occupied : AreOccupied items l.lists
  pub pushed : IsPushed list item old (shown items l)

pub pushes : {T : Type 0} (v : ArenaData T) (items : List (Option T)) (old new : LinkData) (list node : ℕ) (item : T) (more : List (Option T)) → shown items old ≡ v → length items ≡ old.nodes → AreOccupied items old.lists → list < length v.lists
    → TakesFree list old new node → more ≡ slice_set items node (Some item) → Pushes list item v more new
pushes {T = T} v items old new list node item more e long occ lt t m = subst (λ (v : ArenaData T). Pushes list item v more new) e (subst (λ more. Pushes list item (shown items old) more new) (sym m) (record {
  long = length-set items node (Some item) ∙ long ∙ sym t.nodes;
  occupied = subst (AreOccupied set) (sym t.lists) (all-set (λ nodes. HaveItems set nodes) old.lists list (was ++ node ∷ []) (occupied-elsewhere items node (Some item) old.lists t.elsewhere occ)
      (all-last (λ m. is_some (get_or set m None) ≡ true) was node (have_items set old.lists list (occupied-elsewhere items node (Some item) old.lists t.elsewhere occ)) (ap is_some at_node)));
  pushed = record {
    lists = ap (map (items_of set)) t.lists ∙ map-set (items_of set) old.lists list (was ++ node ∷ [])
        ∙ (λ i. slice_set (lists-elsewhere items node (Some item) old.lists t.elsewhere i) list (grown i));
    spare = let f = ap length t.free in omega (arith, f);
  };
})) where
  set : List (Option T)
  set = slice_set items node (Some item)

  was : List ℕ
  was = get_or old.lists list []

  at_node : get_or set node None ≡ Some item
  at_node = get_or-set_same items node (Some item) None (let w = t.within in omega (arith, w, long))

  absent : is_in was node ≡ false
  absent = all-get (λ nodes. is_in nodes node ≡ false) old.lists list refl t.elsewhere

  grown : items_of set (was ++ node ∷ []) ≡ get_or (map (items_of items) old.lists) list [] ++ item ∷ []
  grown = items-append set was (node ∷ []) ∙ (λ i. (items-elsewhere items node (Some item) was absent ∙ sym (list_of items old.lists list)) i ++ (ap (λ o. option_to_list o ++ []) at_node) i)

-- ---- take_first

pub record Taken {T : Type 0} (list : ℕ) (old : ArenaData T) (node : ℕ) (was items : List (Option T)) (l : LinkData) : Type 0 where
  pub long : length items ≡ l.nodes
  pub occupied : AreOccupied items l.lists
  pub taken : (item : T) → get_or was node None ≡ Some item → IsTaken list item old (shown items l)

pub takes_out : {T : Type 0} (v : ArenaData T) (items : List (Option T)) (old new : LinkData) (list node : ℕ) (less : List (Option T)) → shown items old ≡ v → length items ≡ old.nodes → AreOccupied items old.lists
    → FreesFirst list old new node → less ≡ slice_set items node None → Taken list v node items less new
takes_out {T = T} v items old new list node less e long occ g m = subst (λ (v : ArenaData T). Taken list v node items less new) e (subst (λ less. Taken list (shown items old) node items less new) (sym m) (record {
  long = length-set items node None ∙ long ∙ sym g.nodes;
  occupied = occupied-elsewhere items node None new.lists g.elsewhere left;
  taken = λ item is. record {
    listed = list_of items old.lists list ∙ ap (items_of items) g.listed ∙ (λ i. option_to_list (is i) ++ (sym (items-elsewhere items node None now absent) ∙ sym (list_of set new.lists list)) i);
    lists = lists-elsewhere items node None new.lists g.elsewhere ∙ ap (map (items_of items)) g.lists ∙ map-set (items_of items) old.lists list now
        ∙ ap (slice_set (map (items_of items) old.lists) list) (sym (items-elsewhere items node None now absent) ∙ sym (list_of set new.lists list));
    spare = ap length g.free ∙ length-append old.free (node ∷ []);
  };
})) where
  set : List (Option T)
  set = slice_set items node None

  now : List ℕ
  now = get_or new.lists list []

  absent : is_in now node ≡ false
  absent = all-get (λ nodes. is_in nodes node ≡ false) new.lists list refl g.elsewhere

  whole : HaveItems items (node ∷ now)
  whole = subst (HaveItems items) g.listed (have_items items old.lists list occ)

  left : AreOccupied items new.lists
  left = subst (AreOccupied items) (sym g.lists) (all-set (λ nodes. HaveItems items nodes) old.lists list now occ whole.1)

-- ---- concat

pub concat_shown : {T : Type 0} (items : List (Option T)) (old : LinkData) (v : ArenaData T) (a b : ℕ) → shown items old ≡ v → shown items (links.concatenated a b old) ≡ concatenated a b v
concat_shown items old v a b e =
    (λ i. record {
      lists = (map-set (items_of items) (slice_set old.lists a (get_or old.lists a [] ++ get_or old.lists b [])) b []
          ∙ ap (λ l. slice_set l b []) (map-set (items_of items) old.lists a (get_or old.lists a [] ++ get_or old.lists b [])
          ∙ ap (slice_set (map (items_of items) old.lists) a) (items-append items (get_or old.lists a []) (get_or old.lists b []) ∙ (λ j. sym (list_of items old.lists a) j ++ sym (list_of items old.lists b) j)))) i;
      spare = length old.free;
    }) ∙ ap (concatenated a b) e

-- ---- grow

longer-items : {T : Type 0} (items : List (Option T)) (nodes : List ℕ) → items_of (items ++ None ∷ []) nodes ≡ items_of items nodes
longer-items items [] = refl
longer-items items (n ∷ nodes) = λ i. option_to_list (get_or-last items None n i) ++ longer-items items nodes i

longer-lists : {T : Type 0} (items : List (Option T)) (lists : List (List ℕ)) → map (items_of (items ++ None ∷ [])) lists ≡ map (items_of items) lists
longer-lists items [] = refl
longer-lists items (l ∷ lists) = λ i. longer-items items l i ∷ longer-lists items lists i

longer-all : {T : Type 0} (items : List (Option T)) (nodes : List ℕ) → HaveItems items nodes → HaveItems (items ++ None ∷ []) nodes
longer-all items [] h = tt
longer-all items (n ∷ nodes) h = (ap is_some (get_or-last items None n) ∙ h.0, longer-all items nodes h.1)

longer-occupied : {T : Type 0} (items : List (Option T)) (lists : List (List ℕ)) → AreOccupied items lists → AreOccupied (items ++ None ∷ []) lists
longer-occupied items [] h = tt
longer-occupied items (l ∷ lists) h = (longer-all items l h.0, longer-occupied items lists h.1)

pub record HasRoom {T : Type 0} (old : ArenaData T) (items : List (Option T)) (l : LinkData) : Type 0 where
  pub long : length items ≡ l.nodes
  pub occupied : AreOccupied items l.lists
  pub view : shown items l ≡ record old { spare = old.spare + 1 }

pub has_room : {T : Type 0} (v : ArenaData T) (items more : List (Option T)) (old new : LinkData) → shown items old ≡ v → length items ≡ old.nodes → AreOccupied items old.lists → more ≡ items ++ None ∷ []
    → new ≡ record old { free = old.free ++ old.nodes ∷ []; nodes = old.nodes + 1 } → HasRoom v more new
has_room {T = T} v items more old new e long occ m n = subst (λ (v : ArenaData T). HasRoom v more new) e (subst (λ more. HasRoom (shown items old) more new) (sym m) (subst (HasRoom (shown items old) (items ++ None ∷ [])) (sym n) (record {
  long = let l = length-append items (None ∷ []) in omega (arith, l, long);
  occupied = longer-occupied items old.lists occ;
  view = λ i. record { lists = longer-lists items old.lists i; spare = length-append old.free (old.nodes ∷ []) i };
})))

pub items_in : {T : Type 0} (items : List (Option T)) (l : LinkData) (v : ArenaData T) (n : ℕ) → shown items l ≡ v → AreOccupied items l.lists → length (get_or l.lists n []) ≡ length (get_or v.lists n [])
items_in items l v n e occ = sym (length-items items (get_or l.lists n []) (have_items items l.lists n occ)) ∙ ap length (list_in items l v n e)

pub item_at : {T : Type 0} (items : List (Option T)) (n : ℕ) (x : Option T) (y : T) → n < length items → x ≡ get_or items n x → x ≡ Some y → get_or items n None ≡ Some y
item_at items n x y lt e s = get_or_default items n None x lt ∙ sym e ∙ s

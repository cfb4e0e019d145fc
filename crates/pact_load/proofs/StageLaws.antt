-- A fact that holds for a stage and for the next one holds for both together, and for one stage for each of some items.
use Rattle.std.proofs.Common.{◌≡◌, ◌++◌, ℕ, List, [], ◌∷◌, refl, ap, subst, sym, ◌∙◌, append_assoc, append-nil}
use Rattle.pact_load.specs.Stages.{End, gives, stops, misses, fails, CanEnd, Follows, Reading, Stage, and_then, plain, give, each}

-- ---- no two ends of unlike kind

-- Two ends that one stage may have. A file that can't be read may come beside any other end.
abbrev pub AreAlike : {A B : Type 0} → End A → End B → Type 0
AreAlike (fails n) y = Unit {0}
AreAlike (gives a) (fails n) = Unit {0}
AreAlike (gives a) (gives b) = Unit {0}
AreAlike (gives a) (stops t m) = ⊥
AreAlike (gives a) (misses n) = ⊥
AreAlike (stops s l) (fails n) = Unit {0}
AreAlike (stops s l) (gives b) = ⊥
AreAlike (stops s l) (stops t m) = s ≡ t
AreAlike (stops s l) (misses n) = ⊥
AreAlike (misses n) (fails m) = Unit {0}
AreAlike (misses n) (gives b) = ⊥
AreAlike (misses n) (stops t m) = ⊥
AreAlike (misses n) (misses m) = n ≡ m

pub record Agree {A B : Type 0} (s : Stage A) (t : Stage B) : Type 0 where
  pub alike : (x : End A) (y : End B) (p q : List Reading) → s.Ends p x → t.Ends q y → AreAlike x y

abbrev pub IsDecided : {A : Type 0} → Stage A → Type 0
IsDecided s = Agree s s

pub record GivesOne {A : Type 0} (s : Stage A) : Type 0 where
  pub one : (a b : A) (p q : List Reading) → s.Ends p (gives a) → s.Ends q (gives b) → a ≡ b

beside_fails : {A : Type 0} (B : Type 0) (x : End A) (n : List ℕ) → AreAlike {A = A} {B = B} x (fails n)
beside_fails B (gives a) n = tt
beside_fails B (stops s l) n = tt
beside_fails B (misses m) n = tt
beside_fails B (fails m) n = tt

then_alike : {A B C D : Type 0} {s : Stage A} {t : Stage B} (k : A → Stage C) (j : B → Stage D) → Agree s t
    → ((a : A) (b : B) → CanEnd s (gives a) → CanEnd t (gives b) → Agree (k a) (j b))
    → (x : End A) (y : End B) (u : End C) (v : End D) (p q p2 q2 : List Reading) → s.Ends p x → t.Ends q y → Follows k x p2 u → Follows j y q2 v → AreAlike u v
then_alike k j d e (gives a) (gives b) u v p q p2 q2 hx hy f g = (e a b (record { readings = p; ends = hx }) (record { readings = q; ends = hy })).alike u v p2 q2 f g
then_alike k j d e (gives a) (stops t m) u v p q p2 q2 hx hy f g = absurd (d.alike (gives a) (stops t m) p q hx hy)
then_alike k j d e (gives a) (misses m) u v p q p2 q2 hx hy f g = absurd (d.alike (gives a) (misses m) p q hx hy)
then_alike k j d e (stops s l) (gives b) u v p q p2 q2 hx hy f g = absurd (d.alike (stops s l) (gives b) p q hx hy)
then_alike k j d e (stops s l) (stops t m) u v p q p2 q2 hx hy f g = rw (f.1, g.1) (d.alike (stops s l) (stops t m) p q hx hy)
then_alike k j d e (stops s l) (misses m) u v p q p2 q2 hx hy f g = absurd (d.alike (stops s l) (misses m) p q hx hy)
then_alike k j d e (misses n) (gives b) u v p q p2 q2 hx hy f g = absurd (d.alike (misses n) (gives b) p q hx hy)
then_alike k j d e (misses n) (stops t m) u v p q p2 q2 hx hy f g = absurd (d.alike (misses n) (stops t m) p q hx hy)
then_alike k j d e (misses n) (misses m) u v p q p2 q2 hx hy f g = rw (f.1, g.1) (d.alike (misses n) (misses m) p q hx hy)
then_alike k j d e (fails n) y u v p q p2 q2 hx hy f g = rw f.1 tt
then_alike k j d e (gives a) (fails m) u v p q p2 q2 hx hy f g = rw g.1 (beside_fails _ u m)
then_alike k j d e (stops s l) (fails m) u v p q p2 q2 hx hy f g = rw g.1 (beside_fails _ u m)
then_alike k j d e (misses n) (fails m) u v p q p2 q2 hx hy f g = rw g.1 (beside_fails _ u m)

pub agree_then : {A B C D : Type 0} {s : Stage A} {t : Stage B} (k : A → Stage C) (j : B → Stage D) → Agree s t
    → ((a : A) (b : B) → CanEnd s (gives a) → CanEnd t (gives b) → Agree (k a) (j b)) → Agree (and_then s k) (and_then t j)
agree_then k j d e = record { alike = λ u v p q h g. then_alike k j d e h.0 g.0 u v h.1 g.1 h.2 g.2 h.4 g.4 h.5 g.5 }

-- the law of composition
pub decided_then : {A B : Type 0} {s : Stage A} (k : A → Stage B) → GivesOne s → IsDecided s → ((a : A) → CanEnd s (gives a) → IsDecided (k a)) → IsDecided (and_then s k)
decided_then k o d e = agree_then k k d (λ a b ha hb. subst (λ x. Agree (k a) (k x)) (o.one a b ha.readings hb.readings ha.ends hb.ends) (e a ha))

then_one : {A B : Type 0} {s : Stage A} (k : A → Stage B) → GivesOne s → ((a : A) → CanEnd s (gives a) → GivesOne (k a))
    → (x y : End A) (u v : B) (p q p2 q2 : List Reading) → s.Ends p x → s.Ends q y → Follows k x p2 (gives u) → Follows k y q2 (gives v) → u ≡ v
then_one k o e (gives a) (gives b) u v p q p2 q2 hx hy f g = (e b (record { readings = q; ends = hy })).one u v p2 q2 (subst (λ c. (k c).Ends p2 (gives u)) (o.one a b p q hx hy) f) g
then_one k o e x y u v p q p2 q2 hx hy f g = absurd cc

pub one_then : {A B : Type 0} {s : Stage A} (k : A → Stage B) → GivesOne s → ((a : A) → CanEnd s (gives a) → GivesOne (k a)) → GivesOne (and_then s k)
one_then k o e = record { one = λ u v p q h g. then_one k o e h.0 g.0 u v h.1 g.1 h.2 g.2 h.4 g.4 h.5 g.5 }

pub plain_decided : {A : Type 0} (G : A → Type 0) (S : ℕ → List ℕ → Type 0) → ((a : A) (s : ℕ) (l : List ℕ) → G a → S s l → ⊥) → ((s t : ℕ) (l m : List ℕ) → S s l → S t m → s ≡ t) → IsDecided (plain G S)
plain_decided G S never same = record { alike = λ x y p q h g. alike G S never same x y p q h g }
  where
    alike : {A : Type 0} (G : A → Type 0) (S : ℕ → List ℕ → Type 0) → ((a : A) (s : ℕ) (l : List ℕ) → G a → S s l → ⊥) → ((s t : ℕ) (l m : List ℕ) → S s l → S t m → s ≡ t)
        → (x y : End A) (p q : List Reading) → (plain G S).Ends p x → (plain G S).Ends q y → AreAlike x y
    alike G S never same (gives a) (gives b) p q h g = tt
    alike G S never same (gives a) (stops t m) p q h g = absurd (never a t m h.1 g.1)
    alike G S never same (gives a) (misses m) p q h g = absurd g.1
    alike G S never same (gives a) (fails m) p q h g = tt
    alike G S never same (stops s l) (gives b) p q h g = absurd (never b s l g.1 h.1)
    alike G S never same (stops s l) (stops t m) p q h g = same s t l m h.1 g.1
    alike G S never same (stops s l) (misses m) p q h g = absurd g.1
    alike G S never same (stops s l) (fails m) p q h g = tt
    alike G S never same (misses n) y p q h g = absurd h.1
    alike G S never same (fails n) y p q h g = tt

pub give_agrees : {A B : Type 0} (G : A → Type 0) (H : B → Type 0) → Agree (give G) (give H)
give_agrees G H = record { alike = λ x y p q h g. alike G H x y p q h g }
  where
    alike : {A B : Type 0} (G : A → Type 0) (H : B → Type 0) → (x : End A) (y : End B) (p q : List Reading) → (give G).Ends p x → (give H).Ends q y → AreAlike x y
    alike G H (gives a) (gives b) p q h g = tt
    alike G H (gives a) (stops t m) p q h g = absurd g.1
    alike G H (gives a) (misses m) p q h g = absurd g.1
    alike G H (gives a) (fails m) p q h g = tt
    alike G H (stops s l) y p q h g = absurd h.1
    alike G H (misses n) y p q h g = absurd h.1
    alike G H (fails n) y p q h g = tt

pub each_decided : {A B : Type 0} (k : A → Stage B) → ((a : A) → IsDecided (k a)) → (items : List A) → IsDecided (each k items)
each_decided k d [] = give_agrees _ _
each_decided k d (a ∷ items) = agree_then _ _ (d a) (λ b c _ _. agree_then _ _ (each_decided k d items) (λ bs cs _ _. give_agrees _ _))

pub each_one : {A B : Type 0} (k : A → Stage B) → ((a : A) → GivesOne (k a)) → (items : List A) → GivesOne (each k items)
each_one k d [] = record { one = λ a b p q h g. h.1 ∙ sym g.1 }
each_one k d (a ∷ items) = one_then _ (d a) (λ b _. one_then _ (each_one k d items) (λ bs _. record { one = λ u v p q h g. h.1 ∙ sym g.1 }))

same_kind : {A B C : Type 0} (a : A) (b : B) (y : End C) → AreAlike (gives a) y → AreAlike (gives b) y
same_kind a b (gives c) h = tt
same_kind a b (stops t m) h = absurd h
same_kind a b (misses n) h = absurd h
same_kind a b (fails n) h = tt

-- a stage without stops changes the kind of no end
pub give_alike : {A B : Type 0} (s : Stage A) (G : A → B → Type 0) → IsDecided s → Agree (and_then s (λ a. give (G a))) s
give_alike {A} {B} s G d = record { alike = λ u y p q h g. alike s G d h.0 y u h.1 q h.2 h.4 g h.5 }
  where
    alike : {A B : Type 0} (s : Stage A) (G : A → B → Type 0) → IsDecided s → (x y : End A) (u : End B) (p q later : List Reading) → s.Ends p x → s.Ends q y → Follows (λ a. give (G a)) x later u → AreAlike u y
    alike s G d (gives a) y (gives b) p q later h g e = same_kind a b y (d.alike (gives a) y p q h g)
    alike s G d (gives a) y (stops t m) p q later h g e = absurd e.1
    alike s G d (gives a) y (misses n) p q later h g e = absurd e.1
    alike s G d (gives a) y (fails n) p q later h g e = tt
    alike s G d (stops t m) y u p q later h g e = rw e.1 (d.alike (stops t m) y p q h g)
    alike s G d (misses n) y u p q later h g e = rw e.1 (d.alike (misses n) y p q h g)
    alike s G d (fails n) y u p q later h g e = rw e.1 tt

-- ---- ends of both stages

-- the same end, which isn't a value
abbrev pub IsStop : {A B : Type 0} → End A → End B → Type 0
IsStop (gives value) y = ⊥
IsStop (stops status line) y = y ≡ stops status line
IsStop (misses name) y = y ≡ misses name
IsStop (fails name) y = y ≡ fails name

carried : {A B : Type 0} (k : A → Stage B) (x : End A) (y : End B) → IsStop x y → Follows k x [] y
carried k (gives value) y stop = absurd stop
carried k (stops status line) y stop = (refl, stop)
carried k (misses name) y stop = (refl, stop)
carried k (fails name) y stop = (refl, stop)

pub ends_at_first : {A B : Type 0} (s : Stage A) (k : A → Stage B) (x : End A) (y : End B) (p : List Reading) → IsStop x y → s.Ends p x → (and_then s k).Ends p y
ends_at_first s k x y p stop h = (x, p, [], sym (append-nil p), h, carried k x y stop)

pub ends_behind : {A B : Type 0} (s : Stage A) (k : A → Stage B) (a : A) (y : End B) (p q : List Reading) → s.Ends p (gives a) → (k a).Ends q y → (and_then s k).Ends (p ++ q) y
ends_behind s k a y p q h g = (gives a, p, q, refl, h, g)

-- ---- what one stage after another gave

-- the value of the first stage, and how the next one got from it to the value of both
pub record GaveThen {A B : Type 0} (stage : Stage A) (k : A → Stage B) (p : List Reading) (b : B) : Type 0 where
  pub value : A
  pub front : List Reading
  pub later : List Reading
  pub read : p ≡ front ++ later
  pub first : stage.Ends front (gives value)
  pub next : (k value).Ends later (gives b)

pub gave_then : {A B : Type 0} (stage : Stage A) (k : A → Stage B) (p : List Reading) (b : B) → (and_then stage k).Ends p (gives b) → GaveThen stage k p b
gave_then stage k p b (gives a, front, later, e, h, g) = record { value = a; front = front; later = later; read = e; first = h; next = g }
gave_then stage k p b (stops s l, front, later, e, h, g) = absurd cc
gave_then stage k p b (misses n, front, later, e, h, g) = absurd cc
gave_then stage k p b (fails n, front, later, e, h, g) = absurd cc

-- ---- one item more

-- what the first item and the others give
pub record GaveCons {A B : Type 0} (k : A → Stage B) (item : A) (items : List A) (p : List Reading) (all : List B) : Type 0 where
  pub value : B
  pub values : List B
  pub front : List Reading
  pub later : List Reading
  pub read : p ≡ front ++ later
  pub first : (k item).Ends front (gives value)
  pub others : (each k items).Ends later (gives values)
  pub together : all ≡ value ∷ values

pub gave_cons : {A B : Type 0} (k : A → Stage B) (item : A) (items : List A) (p : List Reading) (all : List B) → (each k (item ∷ items)).Ends p (gives all) → GaveCons k item items p all
gave_cons k item items p all h =
    let one = gave_then (k item) (λ value. and_then (each k items) (λ values. give (λ together. together ≡ value ∷ values))) p all h in
    let rest = gave_then (each k items) (λ values. give (λ together. together ≡ one.value ∷ values)) one.later all one.next in
    record {
      value = one.value;
      values = rest.value;
      front = one.front;
      later = rest.front;
      read = one.read ∙ ap (λ x. one.front ++ x) (rest.read ∙ ap (λ x. rest.front ++ x) rest.next.0 ∙ append-nil rest.front);
      first = one.first;
      others = rest.first;
      together = rest.next.1;
    }

give_cons : {A B : Type 0} (k : A → Stage B) (item : A) (items : List A) (p q : List Reading) (b : B) (bs all : List B) → all ≡ b ∷ bs → (k item).Ends p (gives b) → (each k items).Ends q (gives bs) → (each k (item ∷ items)).Ends (p ++ q) (gives all)
give_cons k item items p q b bs all e h g = (gives b, p, q, refl, h, (gives bs, q, [], sym (append-nil q), g, (refl, e)))

pub each_more : {A B : Type 0} (k : A → Stage B) (items : List A) (a : A) (p q : List Reading) (bs : List B) (b : B) → (each k items).Ends p (gives bs) → (k a).Ends q (gives b)
    → (each k (items ++ a ∷ [])).Ends (p ++ q) (gives (bs ++ b ∷ []))
each_more k [] a p q bs b h g =
    subst (λ r. (each k (a ∷ [])).Ends r (gives (bs ++ b ∷ []))) (append-nil q ∙ ap (λ r. r ++ q) (sym h.0)) (give_cons k a [] q [] b [] (bs ++ b ∷ []) (ap (λ l. l ++ b ∷ []) h.1) g (refl, refl))
each_more k (c ∷ items) a p q bs b h g =
    let first = gave_cons k c items p bs h in
    subst (λ r. (each k (c ∷ (items ++ a ∷ []))).Ends r (gives (bs ++ b ∷ []))) (sym (append_assoc first.front first.later q) ∙ ap (λ r. r ++ q) (sym first.read))
    (give_cons k c (items ++ a ∷ []) first.front (first.later ++ q) first.value (first.values ++ b ∷ []) (bs ++ b ∷ []) (ap (λ l. l ++ b ∷ []) first.together) first.first
    (each_more k items a first.later q first.values b first.others g))

-- a stop at an item is a stop of all items
pub each_stops : {A B : Type 0} (k : A → Stage B) (items : List A) (a : A) (later : List A) (p q : List Reading) (bs : List B) (x : End B) (y : End (List B)) → IsStop x y → IsStop y y
    → (each k items).Ends p (gives bs) → (k a).Ends q x → (each k (items ++ a ∷ later)).Ends (p ++ q) y
each_stops k [] a later p q bs x y stop same h g =
    subst (λ r. (each k (a ∷ later)).Ends r y) (ap (λ r. r ++ q) (sym h.0)) (ends_at_first (k a) _ x y q stop g)
each_stops k (c ∷ items) a later p q bs x y stop same h g =
    let first = gave_cons k c items p bs h in
    subst (λ r. (each k (c ∷ (items ++ a ∷ later))).Ends r y) (sym (append_assoc first.front first.later q) ∙ ap (λ r. r ++ q) (sym first.read))
    (ends_behind (k c) _ first.value y first.front (first.later ++ q) first.first
    (ends_at_first (each k (items ++ a ∷ later)) _ y y (first.later ++ q) same (each_stops k items a later first.later q first.values x y stop same first.others g)))

-- ---- facts about each stop

-- a fact of every stop
pub record StopsSo {A : Type 0} (P : ℕ → List ℕ → Type 0) (s : Stage A) : Type 0 where
  pub so : (status : ℕ) (line : List ℕ) (p : List Reading) → s.Ends p (stops status line) → P status line

then_so : {A B : Type 0} (P : ℕ → List ℕ → Type 0) {s : Stage A} (k : A → Stage B) → StopsSo P s → ((a : A) → StopsSo P (k a))
    → (x : End A) (status : ℕ) (line : List ℕ) (p q : List Reading) → s.Ends p x → Follows k x q (stops status line) → P status line
then_so P k h g (gives a) status line p q e f = (g a).so status line q f
then_so P k h g (stops t m) status line p q e f =
    let same_status : status ≡ t = cc in
    let same_line : line ≡ m = cc in
    rw (same_status, same_line) (h.so t m p e)
then_so P k h g (misses n) status line p q e f = absurd cc
then_so P k h g (fails n) status line p q e f = absurd cc

pub stops_then : {A B : Type 0} (P : ℕ → List ℕ → Type 0) {s : Stage A} (k : A → Stage B) → StopsSo P s → ((a : A) → StopsSo P (k a)) → StopsSo P (and_then s k)
stops_then P k h g = record { so = λ status line p e. then_so P k h g e.0 status line e.1 e.2 e.4 e.5 }

pub stops_give : {A : Type 0} (P : ℕ → List ℕ → Type 0) (G : A → Type 0) → StopsSo P (give G)
stops_give P G = record { so = λ status line p e. absurd e.1 }

pub stops_each : {A B : Type 0} (P : ℕ → List ℕ → Type 0) (k : A → Stage B) → ((a : A) → StopsSo P (k a)) → (items : List A) → StopsSo P (each k items)
stops_each P k h [] = stops_give P _
stops_each P k h (a ∷ items) = stops_then P _ (h a) (λ b. stops_then P _ (stops_each P k h items) (λ bs. stops_give P _))

-- a fact about the name of every file that can't be read
pub record FailsSo {A : Type 0} (P : List ℕ → Type 0) (s : Stage A) : Type 0 where
  pub so : (name : List ℕ) (p : List Reading) → s.Ends p (fails name) → P name

then_fails : {A B : Type 0} (P : List ℕ → Type 0) {s : Stage A} (k : A → Stage B) → FailsSo P s → ((a : A) → CanEnd s (gives a) → FailsSo P (k a))
    → (x : End A) (name : List ℕ) (p q : List Reading) → s.Ends p x → Follows k x q (fails name) → P name
then_fails P k h g (gives a) name p q e f = (g a (record { readings = p; ends = e })).so name q f
then_fails P k h g (stops t m) name p q e f = absurd cc
then_fails P k h g (misses n) name p q e f = absurd cc
then_fails P k h g (fails n) name p q e f = let same : name ≡ n = cc in rw same (h.so n p e)

pub fails_then : {A B : Type 0} (P : List ℕ → Type 0) {s : Stage A} (k : A → Stage B) → FailsSo P s → ((a : A) → CanEnd s (gives a) → FailsSo P (k a)) → FailsSo P (and_then s k)
fails_then P k h g = record { so = λ name p e. then_fails P k h g e.0 name e.1 e.2 e.4 e.5 }

pub fails_plain : {A : Type 0} (P : List ℕ → Type 0) (G : A → Type 0) (S : ℕ → List ℕ → Type 0) → FailsSo P (plain G S)
fails_plain P G S = record { so = λ name p e. absurd e.1 }

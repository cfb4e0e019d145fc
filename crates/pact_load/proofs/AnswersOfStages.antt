-- What a call's answer says about a stage, through `?`, and from one item to the next.
use Rattle.std.proofs.Common.{◌≡◌, ◌≤◌, ◌++◌, inl, inr, ℕ, List, [], ◌∷◌, Option, Result, Ok, Err, refl, ap, subst, sym, ◌∙◌, arith}
use Rattle.std.specs.Option.{option_and_then}
use Rattle.pact_outside.specs.declared.files.NamedFile.{NamedFile}
use Rattle.pact_outside.specs.Outside.{Feeding, Rose, file_named, with_name}
use Rattle.pact_load.specs.declared.refusals.Refusal.{Refusal}
use Rattle.pact_load.specs.declared.refusals.Refusal.TheVariants.{OutOfMemory, Usage, CannotRead, CannotWrite, Decided}
use Rattle.pact_load.specs.Readings.{HasOpened, HasRead, left_behind, opened_all, opened_last}
use Rattle.pact_load.specs.Answers.{Answers, Comes, ComesTo, Decides}
use Rattle.pact_load.specs.RefusalLines.{usage_line}
use Rattle.pact_load.specs.Stages.{End, gives, stops, fails, Reading, Stage, and_then, each}
use Rattle.pact_load.specs.Pieces.{behind}
use Rattle.pact_load.proofs.StageLaws.{IsStop, each_more, each_stops, ends_at_first, ends_behind}

-- ---- readings one after the other

opened_last-append : (name : List ℕ) (p q : List Reading) → opened_last name (p ++ q) ≡ opened_last (opened_last name p) q
opened_last-append name [] q = refl
opened_last-append name (r ∷ p) q = opened_last-append r.name p q

opened_all-append : (history : Option (List (List ℕ))) (p q : List Reading) → opened_all history (p ++ q) ≡ opened_all (opened_all history p) q
opened_all-append history [] q = refl
opened_all-append history (r ∷ p) q = opened_all-append (with_name r.name history) p q

left_behind-append : (files : Option (List NamedFile)) (left : Option (List ℕ)) (p q : List Reading) → left_behind files left (p ++ q) ≡ left_behind files (left_behind files left p) q
left_behind-append files left [] q = refl
left_behind-append files left (r ∷ p) q = left_behind-append files (option_and_then (λ held. behind r.limit (file_named held r.name)) files) p q

opened_on : {before mid now : Feeding} (p q : List Reading) → HasOpened before mid p → HasOpened mid now q → HasOpened before now (p ++ q)
opened_on {before} {mid} {now} p q h g = record {
  last = g.last ∙ ap (λ name. opened_last name q) h.last ∙ sym (opened_last-append before.opened p q);
  all = g.all ∙ ap (λ history. opened_all history q) h.all ∙ sym (opened_all-append before.history p q);
}

read_on : {before mid now : Feeding} (p q : List Reading) → mid.files ≡ before.files → HasRead before mid p → HasRead mid now q → HasRead before now (p ++ q)
read_on {before} {mid} {now} p q same h g = record {
  opened = opened_on p q h.opened g.opened;
  left = g.left ∙ ap (λ files. left_behind files mid.left q) same ∙ ap (λ left. left_behind before.files left q) h.left ∙ sym (left_behind-append before.files before.left p q);
}

none_read : (feed : Feeding) → HasRead feed feed []
none_read feed = record { opened = record { last = refl; all = refl }; left = refl }

-- ---- a call that reads no file

pub decides_err : {A B : Type 0} (s : Stage A) (k : A → Stage B) (r : Refusal) → Decides s (Err r) → Decides (and_then s k) (Err r)
decides_err s k OutOfMemory h = tt
decides_err s k Usage h = absurd h
decides_err s k (CannotRead name) h = absurd h
decides_err s k CannotWrite h = absurd h
decides_err s k (Decided status line) h = ends_at_first s k (stops status line) (stops status line) [] refl h

pub decides_then : {A B : Type 0} (s : Stage A) (k : A → Stage B) (a : A) (r : Result B Refusal) → s.Ends [] (gives a) → Decides (k a) r → Decides (and_then s k) r
decides_then s k a (Ok b) h g = ends_behind s k a (gives b) [] [] h g
decides_then s k a (Err OutOfMemory) h g = tt
decides_then s k a (Err Usage) h g = absurd g
decides_then s k a (Err (CannotRead name)) h g = absurd g
decides_then s k a (Err CannotWrite) h g = absurd g
decides_then s k a (Err (Decided status line)) h g = ends_behind s k a (stops status line) [] [] h g

pub decides_stop : {A B : Type 0} (k : A → Stage B) (items : List A) (a : A) (later : List A) (bs : List B) (r : Refusal) → (each k items).Ends [] (gives bs) → Decides (k a) (Err r) → Decides (each k (items ++ a ∷ later)) (Err r)
decides_stop k items a later bs OutOfMemory h g = tt
decides_stop k items a later bs Usage h g = absurd g
decides_stop k items a later bs (CannotRead name) h g = absurd g
decides_stop k items a later bs CannotWrite h g = absurd g
decides_stop k items a later bs (Decided status line) h g = each_stops k items a later [] [] bs (stops status line) (stops status line) refl refl h g

-- ---- a call that reads files

pub rose_later : (first before now : ℕ) → first ≤ before → Rose before now → Rose first now
rose_later first before now l (inl r) = inl (omega (arith, l, r))
rose_later first before now l (inr r) = inr r

to_first : {A B : Type 0} (s : Stage A) (k : A → Stage B) {before now : Feeding} (x : End A) (y : End B) → IsStop x y → ComesTo s before now x → ComesTo (and_then s k) before now y
to_first s k x y stop h = record { readings = h.readings; read = h.read; ends = ends_at_first s k x y h.readings stop h.ends }

err_on : {A B : Type 0} (s : Stage A) (k : A → Stage B) (before now : Feeding) (r : Refusal) → Answers s before now (Err r) → Answers (and_then s k) before now (Err r)
err_on s k before now OutOfMemory h = tt
err_on s k before now Usage h = to_first s k (stops 2 usage_line) (stops 2 usage_line) refl h
err_on s k before now (CannotRead name) h = record { rose = h.rose; shut = h.shut; named = h.named; readings = h.readings; opened = h.opened; ends = ends_at_first s k (fails name) (fails name) h.readings refl h.ends }
err_on s k before now CannotWrite h = absurd h
err_on s k before now (Decided status line) h = to_first s k (stops status line) (stops status line) refl h

pub comes_err : {A B : Type 0} {s : Option (List NamedFile) → Stage A} (k : Option (List NamedFile) → A → Stage B) {before now : Feeding} (r : Refusal)
    → Comes s before now (Err r) → Comes (λ f. and_then (s f) (k f)) before now (Err r)
comes_err {A} {B} {s} k {before} {now} r h = record { files = h.files; later = h.later; told = err_on (s before.files) (k before.files) before now r h.told }

to_on : {A B : Type 0} (s : Stage A) (k : A → Stage B) {before mid now : Feeding} (a : A) (y : End B) → mid.files ≡ before.files → ComesTo s before mid (gives a) → ComesTo (k a) mid now y → ComesTo (and_then s k) before now y
to_on s k a y same h g = record { readings = h.readings ++ g.readings; read = read_on h.readings g.readings same h.read g.read; ends = ends_behind s k a y h.readings g.readings h.ends g.ends }

on : {A B : Type 0} (s : Stage A) (k : A → Stage B) (before mid now : Feeding) (a : A) (r : Result B Refusal) → mid.files ≡ before.files → before.faults ≤ mid.faults → ComesTo s before mid (gives a) → Answers (k a) mid now r
    → Answers (and_then s k) before now r
on s k before mid now a (Ok b) same l h g = to_on s k a (gives b) same h g
on s k before mid now a (Err OutOfMemory) same l h g = tt
on s k before mid now a (Err Usage) same l h g = to_on s k a (stops 2 usage_line) same h g
on s k before mid now a (Err (CannotRead name)) same l h g =
    record {
      rose = rose_later before.faults mid.faults now.faults l g.rose;
      shut = g.shut;
      named = g.named;
      readings = h.readings ++ g.readings;
      opened = opened_on h.readings g.readings h.read.opened g.opened;
      ends = ends_behind s k a (fails name) h.readings g.readings h.ends g.ends;
    }
on s k before mid now a (Err CannotWrite) same l h g = absurd g
on s k before mid now a (Err (Decided status line)) same l h g = to_on s k a (stops status line) same h g

pub comes_then : {A B : Type 0} {s : Option (List NamedFile) → Stage A} (k : Option (List NamedFile) → A → Stage B) {before mid now : Feeding} (a : A) (r : Result B Refusal)
    → Comes s before mid (Ok a) → Comes (λ f. k f a) mid now r → Comes (λ f. and_then (s f) (k f)) before now r
comes_then {A} {B} {s} k {before} {mid} {now} a r h g =
    let l = h.later in let m = g.later in
    record {
      files = g.files ∙ h.files;
      later = omega (arith, l, m);
      told = on (s before.files) (k before.files) before mid now a r h.files l h.told (subst (λ f. Answers (k f a) mid now r) h.files g.told);
    }

-- a call that reads files, after a stage that reads no file
pub comes_in : {A B : Type 0} (s : Stage A) (k : Option (List NamedFile) → A → Stage B) {before now : Feeding} (a : A) (r : Result B Refusal)
    → s.Ends [] (gives a) → Comes (λ f. k f a) before now r → Comes (λ f. and_then s (k f)) before now r
comes_in s k {before} {now} a r h g =
    record { files = g.files; later = g.later; told = on s (k before.files) before before now a r refl (omega arith) (record { readings = []; read = none_read before; ends = h }) g.told }

-- a first stage that refuses the words
pub comes_in_err : {A B : Type 0} (s : Stage A) (k : Option (List NamedFile) → A → Stage B) (feed : Feeding) → s.Ends [] (stops 2 usage_line) → Comes (λ f. and_then s (k f)) feed feed (Err Usage)
comes_in_err s k feed h =
    record { files = refl; later = omega arith; told = record { readings = []; read = none_read feed; ends = ends_at_first s (k feed.files) (stops 2 usage_line) (stops 2 usage_line) [] refl h } }

-- the answer of a call that reads no file
answers_of : {A : Type 0} (s : Stage A) (feed : Feeding) (r : Result A Refusal) → Decides s r → Answers s feed feed r
answers_of s feed (Ok a) h = record { readings = []; read = none_read feed; ends = h }
answers_of s feed (Err OutOfMemory) h = tt
answers_of s feed (Err Usage) h = absurd h
answers_of s feed (Err (CannotRead name)) h = absurd h
answers_of s feed (Err CannotWrite) h = absurd h
answers_of s feed (Err (Decided status line)) h = record { readings = []; read = none_read feed; ends = h }

pub comes_alone : {A : Type 0} (s : Stage A) (feed : Feeding) (r : Result A Refusal) → Decides s r → Comes (λ f. s) feed feed r
comes_alone s feed r h = record { files = refl; later = omega arith; told = answers_of s feed r h }

pub comes_decided : {A B : Type 0} {s : Option (List NamedFile) → Stage A} (k : A → Stage B) {before now : Feeding} (a : A) (r : Result B Refusal)
    → Comes s before now (Ok a) → Decides (k a) r → Comes (λ f. and_then (s f) k) before now r
comes_decided {A} {B} {s} k {before} {now} a r h g = record { files = h.files; later = h.later; told = on (s before.files) k before now now a r h.files h.later h.told (answers_of (k a) now r g) }

-- ---- one item after the other

pub comes_more : {A B : Type 0} (k : Option (List NamedFile) → A → Stage B) {before mid now : Feeding} (items : List A) (a : A) (bs : List B) (b : B)
    → Comes (λ f. each (k f) items) before mid (Ok bs) → Comes (λ f. k f a) mid now (Ok b) → Comes (λ f. each (k f) (items ++ a ∷ [])) before now (Ok (bs ++ b ∷ []))
comes_more k {before} {mid} {now} items a bs b h g =
    let l = h.later in let m = g.later in
    let item = subst (λ f. ComesTo (k f a) mid now (gives b)) h.files g.told in
    record {
      files = g.files ∙ h.files;
      later = omega (arith, l, m);
      told = record {
        readings = h.told.readings ++ item.readings;
        read = read_on h.told.readings item.readings h.files h.told.read item.read;
        ends = each_more (k before.files) items a h.told.readings item.readings bs b h.told.ends item.ends;
      };
    }

stop_to : {A B : Type 0} (k : A → Stage B) (items : List A) (a : A) (later : List A) (bs : List B) {before mid now : Feeding} (status : ℕ) (line : List ℕ) → mid.files ≡ before.files
    → ComesTo (each k items) before mid (gives bs) → ComesTo (k a) mid now (stops status line) → ComesTo (each k (items ++ a ∷ later)) before now (stops status line)
stop_to k items a later bs status line same h g = record {
  readings = h.readings ++ g.readings;
  read = read_on h.readings g.readings same h.read g.read;
  ends = each_stops k items a later h.readings g.readings bs (stops status line) (stops status line) refl refl h.ends g.ends;
}

stop_on : {A B : Type 0} (k : A → Stage B) (items : List A) (a : A) (later : List A) (bs : List B) (before mid now : Feeding) (r : Refusal) → mid.files ≡ before.files → before.faults ≤ mid.faults
    → ComesTo (each k items) before mid (gives bs) → Answers (k a) mid now (Err r) → Answers (each k (items ++ a ∷ later)) before now (Err r)
stop_on k items a later bs before mid now OutOfMemory same l h g = tt
stop_on k items a later bs before mid now Usage same l h g = stop_to k items a later bs 2 usage_line same h g
stop_on k items a later bs before mid now (CannotRead name) same l h g =
    record {
      rose = rose_later before.faults mid.faults now.faults l g.rose;
      shut = g.shut;
      named = g.named;
      readings = h.readings ++ g.readings;
      opened = opened_on h.readings g.readings h.read.opened g.opened;
      ends = each_stops k items a later h.readings g.readings bs (fails name) (fails name) refl refl h.ends g.ends;
    }
stop_on k items a later bs before mid now CannotWrite same l h g = absurd g
stop_on k items a later bs before mid now (Decided status line) same l h g = stop_to k items a later bs status line same h g

pub comes_stop : {A B : Type 0} (k : Option (List NamedFile) → A → Stage B) {before mid now : Feeding} (items : List A) (a : A) (later : List A) (bs : List B) (r : Refusal)
    → Comes (λ f. each (k f) items) before mid (Ok bs) → Comes (λ f. k f a) mid now (Err r) → Comes (λ f. each (k f) (items ++ a ∷ later)) before now (Err r)
comes_stop k {before} {mid} {now} items a later bs r h g =
    let l = h.later in let m = g.later in
    record {
      files = g.files ∙ h.files;
      later = omega (arith, l, m);
      told = stop_on (k before.files) items a later bs before mid now r h.files l h.told (subst (λ f. Answers (k f a) mid now (Err r)) h.files g.told);
    }

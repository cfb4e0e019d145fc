-- One more piece of a file read.
use Rattle.std.proofs.Common.{◌≡◌, ◌≤◌, ◌<◌, ◌+◌, ◌-◌, ℕ, Bool, false, List, [], ◌++◌, length, take, drop, Option, Some, None, Ok, Err, IfSome, refl, sym, ap, subst, ◌∙◌, append-nil, arith, length-append, length-drop}
use Rattle.std.proofs.Math.Seq.{take-add}
use Rattle.std.proofs.lemmas.List.{drop_all, drop-drop, take-append-drop}
use Rattle.pact_outside.specs.Outside.{Feeding}
use Rattle.pact_load.specs.declared.files.Stop.{Stop}
use Rattle.pact_load.specs.declared.files.Stop.TheVariants.{Memory, Fault, Long}
use Rattle.pact_load.specs.Pieces.{AddsPiece, ReadsOn, ReadsPiece, ReadsRest, behind}
use Rattle.pact_load.proofs.AnswersOfStages.{rose_later}
use Rattle.pact_load.proofs.PartsRead.{HasReadSo, IsReading}

pub reads_more : (first mid new : Option (List ℕ)) (read after : List ℕ) (room : ℕ) (more : Bool)
    → HasReadSo first mid read → AddsPiece room mid new read after more → HasReadSo first new after
reads_more None mid new read after room more h p = record { told = tt; untold = λ _. p.untold (h.untold refl) }
reads_more (Some all) mid new read after room more h p =
    let step = subst (λ (m : Option (List ℕ)). IfSome m (λ x. (p.piece ≡ take (length p.piece) x) × (new ≡ Some (drop (length p.piece) x)) × (length p.piece ≤ length x) × (more ≡ false → x ≡ []))) h.told.0 p.told in
    let n = length p.piece in
    let rest : n ≤ length all - length read = subst (λ (k : ℕ). n ≤ k) (length-drop (length read) all) step.2 in
    let len : length after ≡ length read + n = ap length p.added ∙ length-append read p.piece in
    record {
      told = (
        rw (len, ← drop-drop n (length read) all) step.1,
        rw len (p.added ∙ ap (λ (l : List ℕ). l ++ p.piece) h.told.1 ∙ ap (λ (l : List ℕ). take (length read) all ++ l) step.0 ∙ sym (take-add (length read) n all)),
        omega (arith, len, rest, h.told.2),
      );
      untold = λ none. absurd cc;
    }

pub read_whole : (first mid new : Option (List ℕ)) (read after : List ℕ) (room : ℕ)
    → HasReadSo first mid read → AddsPiece room mid new read after false → IfSome first (λ all. after ≡ all)
read_whole None mid new read after room h p = tt
read_whole (Some all) mid new read after room h p =
    let step = subst (λ (m : Option (List ℕ)). IfSome m (λ x. (p.piece ≡ take (length p.piece) x) × (new ≡ Some (drop (length p.piece) x)) × (length p.piece ≤ length x) × (false ≡ false → x ≡ []))) h.told.0 p.told in
    let end = step.3 refl in
    p.added ∙ ap (λ (l : List ℕ). read ++ l) (p.none refl) ∙ append-nil read ∙ h.told.1
    ∙ (sym (append-nil (take (length read) all)) ∙ ap (λ (l : List ℕ). take (length read) all ++ l) (sym end) ∙ take-append-drop (length read) all)

-- if more bytes than the limit were read, the file is longer than the limit
pub longer : (first now : Option (List ℕ)) (read : List ℕ) (limit : ℕ) → HasReadSo first now read → limit < length read → IfSome first (λ all. limit < length all)
longer None now read limit h l = tt
longer (Some all) now read limit h l = omega (arith, h.told.2)

-- ---- what is left

-- of a file that is longer than its limit
pub left_of_long : (first now : Option (List ℕ)) (read : List ℕ) (limit : ℕ) → HasReadSo first now read → length read ≡ limit + 1 → now ≡ behind limit first
left_of_long None now read limit h l = h.untold refl
left_of_long (Some all) now read limit h l = h.told.0 ∙ ap (λ n. Some (drop n all)) l

-- of a file that was read whole
pub left_of_whole : (first now : Option (List ℕ)) (read : List ℕ) (limit : ℕ) → HasReadSo first now read → IfSome first (λ all. read ≡ all) → length read ≤ limit → now ≡ behind limit first
left_of_whole None now read limit h w l = h.untold refl
left_of_whole (Some all) now read limit h w l =
    let whole = ap length w in
    h.told.0 ∙ ap Some (drop_all (length read) all (omega (arith, whole)) ∙ sym (drop_all (limit + 1) all (omega (arith, whole, l))))

-- ---- the rest of the open file

reads_on : {first mid now : Feeding} → ReadsOn first mid → ReadsOn mid now → ReadsOn first now
reads_on {first} {mid} {now} h g =
    let l = h.later in let m = g.later in
    record { later = omega (arith, l, m); files = g.files ∙ h.files; named = g.named ∙ h.named; noted = g.noted ∙ h.noted }

-- one more piece was read, and more may come
pub reading_on : (first mid now : Feeding) (read grown : List ℕ) (limit room : ℕ) (more : Bool) → length read ≤ limit → room + length read ≤ limit + 1 → IsReading first mid read limit → ReadsPiece room mid now read grown (Ok more)
    → IsReading first now grown limit
reading_on first mid now read grown limit room more within fits h g =
    let piece = g.ends.0 in
    let short = piece.fits in
    record {
      read_so_far = reads_more first.left mid.left now.left read grown room more h.read_so_far piece;
      within = omega (arith, fits, short, ap length piece.added, length-append read piece.piece);
      opened = g.ends.1;
      on = reads_on h.on g.on;
    }

-- the file ended within the limit
pub rest_read : (first mid now : Feeding) (read grown : List ℕ) (limit room : ℕ) (more : Bool) → length read ≤ limit → more ≡ false → IsReading first mid read limit → ReadsPiece room mid now read grown (Ok more)
    → ReadsRest limit first now (Ok grown)
rest_read first mid now read grown limit room more within end h g =
    let piece = subst (AddsPiece room mid.left now.left read grown) end g.ends.0 in
    let whole = read_whole first.left mid.left now.left read grown room h.read_so_far piece in
    let short : length grown ≤ limit = omega (arith, within, ap length piece.added, length-append read piece.piece, ap length (piece.none refl)) in
    record {
      on = reads_on h.on g.on;
      ends = record { bytes = whole; short = short; left = left_of_whole first.left now.left grown limit (reads_more first.left mid.left now.left read grown room false h.read_so_far piece) whole short };
    }

-- no piece was read
pub rest_stopped : (first mid now : Feeding) (read grown : List ℕ) (limit room : ℕ) (stop : Stop) → IsReading first mid read limit → ReadsPiece room mid now read grown (Err stop) → ReadsRest limit first now (Err stop)
rest_stopped first mid now read grown limit room Memory h g = record { on = reads_on h.on g.on; ends = tt }
rest_stopped first mid now read grown limit room Fault h g = record { on = reads_on h.on g.on; ends = (rose_later first.faults mid.faults now.faults h.on.later g.ends.0, g.ends.1) }
rest_stopped first mid now read grown limit room Long h g = absurd g.ends

-- more bytes than the limit were read
pub rest_long : (first now : Feeding) (read : List ℕ) (limit : ℕ) → limit < length read → IsReading first now read limit → ReadsRest limit first now (Err Long)
rest_long first now read limit past h =
    let all : length read ≡ limit + 1 = let within = h.within in omega (arith, within, past) in
    record { on = h.on; ends = record { long = longer first.left now.left read limit h.read_so_far past; left = left_of_long first.left now.left read limit h.read_so_far all } }

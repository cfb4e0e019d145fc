-- A body without an `emit` emits nothing.
use Rattle.std.proofs.Common.{◌≡◌, ℕ, zero, suc, Bool, true, false, ◌||◌, if◌then◌else◌, List, [], ◌∷◌, refl, ◌∙◌}
use Rattle.std.proofs.lemmas.Bool.{or_parts}
use Rattle.pact_record.specs.declared.values.Value.{Value}
use Rattle.pact_record.specs.Value.{is_true}
use Rattle.tac_syntax.specs.Code.{Simple, load_int, load_text, load_null, move_value, get_field, get_at, get_key, apply_one, apply_two, new_record, copy_record, set_field, set_at, emit_record, Code, stop, plain, branch, again, each}
use Rattle.tac_syntax.specs.Call.{Store, value_in, bind, after, rows_of}
use Rattle.tac_syntax.specs.Exec.{times, for_each, exec}
use Rattle.combine_rule.specs.Pieces.{emits, has_emit}

after-silent : (a : Simple) → emits a ≡ false → (s : Store) → (after a s).emitted ≡ s.emitted
after-silent (load_int to v) h s = refl
after-silent (load_text to bytes) h s = refl
after-silent (load_null to) h s = refl
after-silent (move_value to from) h s = refl
after-silent (get_field to from field) h s = refl
after-silent (get_at to from at) h s = refl
after-silent (get_key to at) h s = refl
after-silent (apply_one to op a) h s = refl
after-silent (apply_two to op a b) h s = refl
after-silent (new_record to) h s = refl
after-silent (copy_record to from) h s = refl
after-silent (set_field to field v) h s = refl
after-silent (set_at to at v) h s = refl
after-silent (emit_record from) h s = cc

abbrev Silent : (Store → Store) → Type 0
Silent f = (s : Store) → (f s).emitted ≡ s.emitted

times-silent : (k : ℕ) (f : Store → Store) → Silent f → Silent (times k f)
times-silent zero f h s = refl
times-silent (suc k) f h s = times-silent k f h (f s) ∙ h s

pub turns-silent : (name : ℕ) (rows : List (List Value)) (f : Store → Store) → ((s : Store) → (f s).emitted ≡ s.emitted) → (s : Store) → (for_each name rows f s).emitted ≡ s.emitted
turns-silent name [] f h s = refl
turns-silent name (row ∷ rows) f h s = turns-silent name rows f h (f (bind s name row)) ∙ h (bind s name row)

either-silent : (b : Bool) (s t u : Store) → t.emitted ≡ s.emitted → u.emitted ≡ s.emitted → (if b then t else u).emitted ≡ s.emitted
either-silent true s t u p q = p
either-silent false s t u p q = q

pub exec-silent : (c : Code) → has_emit c ≡ false → (s : Store) → (exec c s).emitted ≡ s.emitted
exec-silent stop h s = refl
exec-silent (plain a next) h s =
    let g = or_parts (emits a) (has_emit next) h in
    exec-silent next g.1 (after a s) ∙ after-silent a g.0 s
exec-silent (branch on body other next) h s =
    let g = or_parts (has_emit body) (has_emit other || has_emit next) h in
    let g2 = or_parts (has_emit other) (has_emit next) g.1 in
    exec-silent next g2.1 (if is_true (value_in s on) then exec body s else exec other s)
    ∙ either-silent (is_true (value_in s on)) s (exec body s) (exec other s) (exec-silent body g.0 s) (exec-silent other g2.0 s)
exec-silent (again count body next) h s =
    let g = or_parts (has_emit body) (has_emit next) h in
    exec-silent next g.1 (times count (exec body) s) ∙ times-silent count (exec body) (exec-silent body g.0) s
exec-silent (each name list body next) h s =
    let g = or_parts (has_emit body) (has_emit next) h in
    exec-silent next g.1 (for_each name (rows_of s.input list) (exec body) s) ∙ turns-silent name (rows_of s.input list) (exec body) (exec-silent body g.0) s
